-- Checks 2 to 6 are the beginning of a set's chain: a refusal of theirs is the chain's, and the numbers after them are none of theirs.
use Rattle.laws.proofs.Prelude.{ℕ, ◌≡◌, refl, sym, ap, ◌∙◌, Bool, true, false, not, List, ⊎_elim, length, leb, lit<, also, either, check, cond, eq_or_ne, not_both, Passes, ends_here, check_passes, check_yes}
use Rattle.view.specs.Limits.{extent_allowed, displacement_allowed}
use Rattle.view.specs.Modes.{allows_writing}
use Rattle.view.specs.Types.{PaperView, entries}
use Rattle.view.specs.Rules.{is_native, paired, entries_allowed, type_ordered, whole_groups, view_holes_fit}
use Rattle.view.specs.Parts.{group_matches, origin_allowed, deciding_group, clear, named_by, fault_by}
use Rattle.view.specs.Acceptance.{view_refusal, set_refusal}
use Rattle.rule_limits.specs.Parts.{lengths_allowed}
use Rattle.rule_lists.specs.Parts.{limits_refusal, limits_fault}

-- the beginning of the chain, and its end
unfoldable pub up_to6 : List ℕ → PaperView → ℕ → ℕ
up_to6 r v later =
    check (is_native r) 2
    (check (displacement_allowed v.displacement) 3
    (check (lengths_allowed (length v.etype.widths) (length v.etype.displacements) (length v.filetype.widths) (length v.filetype.displacements)) 4
    (check (also (extent_allowed v.etype.extent) (extent_allowed v.filetype.extent)) 5
    (check (also (entries_allowed v.etype) (entries_allowed v.filetype)) 6
    later))))

unfoldable pub from7 : ℕ → PaperView → ℕ
from7 mode v =
    check (also (type_ordered v.etype) (type_ordered v.filetype)) 7
    (check (whole_groups v) 17
    (check (group_matches v (deciding_group v)) 18
    (check (origin_allowed v (deciding_group v)) 19
    (check (view_holes_fit v) 9
    (check (either (not (allows_writing mode)) (clear v)) 10
    0)))))

pub chain_is : (mode : ℕ) (r : List ℕ) (v : PaperView) → set_refusal mode r v ≡ up_to6 r v (from7 mode v)
unfolding set_refusal view_refusal up_to6 from7 lengths_allowed paired entries
chain_is mode r v = refl

pub limits_pass : (r : List ℕ) (v : PaperView) → Passes (up_to6 r v)
unfolding up_to6
limits_pass r v =
    check_passes _ 2 _ (lit< tt) (check_passes _ 3 _ (lit< tt) (check_passes _ 4 _ (lit< tt) (check_passes _ 5 _ (lit< tt) (check_passes _ 6 _ (lit< tt) ends_here))))

-- ---- numbers up to 6, and above it

check_low : (b : Bool) (k later : ℕ) → leb k 6 ≡ true → leb later 6 ≡ true → leb (check b k later) 6 ≡ true
unfolding check
check_low true k later l m = m
check_low false k later l m = l

low : (r : List ℕ) (v : PaperView) → leb (up_to6 r v 0) 6 ≡ true
unfolding up_to6
low r v = check_low _ 2 _ refl (check_low _ 3 _ refl (check_low _ 4 _ refl (check_low _ 5 _ refl (check_low _ 6 0 refl refl))))

check_high : (b : Bool) (k later : ℕ) → leb k 6 ≡ false → (leb later 6 ≡ true → later ≡ 0) → leb (check b k later) 6 ≡ true → check b k later ≡ 0
unfolding check
check_high true k later h m l = m l
check_high false k later h m l = not_both l h

high : (mode : ℕ) (v : PaperView) → leb (from7 mode v) 6 ≡ true → from7 mode v ≡ 0
unfolding from7
high mode v = check_high _ 7 _ refl (check_high _ 17 _ refl (check_high _ 18 _ refl (check_high _ 19 _ refl (check_high _ 9 _ refl (check_high _ 10 0 refl (λ l. refl))))))

-- ---- the refusal number where it is one of checks 2 to 6

cut : (n k : ℕ) → n ≡ k → (leb k 6 ≡ true → k ≡ 0) → 0 ≡ cond (leb n 6) n 0
cut n k e h = rw e (by (leb k 6) refl)
  where
    by : (b : Bool) → leb k 6 ≡ b → 0 ≡ cond b k 0
    by true q = sym (h q)
    by false q = refl

pub chain_begins : (r : List ℕ) (v : PaperView) → up_to6 r v 0 ≡ limits_refusal r v
unfolding limits_refusal
chain_begins r v =
    ⊎_elim (λ z. z ∙ cut (set_refusal 1 r v) (from7 1 v) (chain_is 1 r v ∙ (limits_pass r v).on (from7 1 v) z) (high 1 v))
    (λ z. let e : set_refusal 1 r v ≡ up_to6 r v 0 = chain_is 1 r v ∙ (limits_pass r v).stops (from7 1 v) z in rw (e, low r v)) (eq_or_ne (up_to6 r v 0) 0)

-- checks 2 to 5 passed, it is that of check 6
pub from_entries : (r : List ℕ) (v : PaperView) (k : ℕ) → is_native r ≡ true → displacement_allowed v.displacement ≡ true → lengths_allowed (length v.etype.widths) (length v.etype.displacements) (length v.filetype.widths) (length v.filetype.displacements) ≡ true → also (extent_allowed v.etype.extent) (extent_allowed v.filetype.extent) ≡ true → k ≡ check (also (entries_allowed v.etype) (entries_allowed v.filetype)) 6 0 → k ≡ limits_refusal r v
unfolding up_to6
from_entries r v k a b c d e = check_yes _ 2 _ _ a (check_yes _ 3 _ _ b (check_yes _ 4 _ _ c (check_yes _ 5 _ _ d e))) ∙ chain_begins r v

pub limits_are : (r : List ℕ) (v : PaperView) → limits_fault r v ≡ fault_by (named_by v) (up_to6 r v 0)
unfolding limits_fault
limits_are r v = ap (fault_by (named_by v)) (sym (chain_begins r v))
