-- A view is accepted exactly if it keeps the limits and rules as the papers word them: the chain of checks says neither more nor less.
-- Rests on the rules one by one, and on the theorems about the groups and about overlap (Accepted.antt, Clashing.antt).
use Rattle.laws.proofs.Prelude.{ℕ, ◌<◌, ◌≡◌, refl, Bool, true, false, not, arith, eq-eqb, either, check_zero, also_true, also_inv, within_inv}
use Rattle.view.specs.Limits.{etype_entries_allowed, filetype_entries_allowed}
use Rattle.view.specs.Types.{PaperView, entries}
use Rattle.view.specs.Rules.{counts_allowed}
use Rattle.view.specs.Parts.{clear}
use Rattle.view.specs.Acceptance.{IsAccepted, view_refusal, accepted}
use Rattle.view.specs.Modes.{allows_writing}
use Rattle.view.proofs.Accepted.{rules, writing_clear, spaced}
use Rattle.view.proofs.Clashing.{clear_is, clear_only}
use Rattle.view.proofs.Groups.{built_is, built_only, built_parts}

pub accepted_is : (mode : ℕ) (v : PaperView) → accepted mode v ≡ true → IsAccepted mode v
accepted_is mode v h =
    let r = rules mode v h in
    record {
      displacement = r.displacement;
      counts = also_true r.etype_paired (also_true r.filetype_paired (also_true r.etype_entries r.filetype_entries));
      extents = also_true r.etype_extent r.filetype_extent;
      entries = also_true r.etype_allowed r.filetype_allowed;
      ordered = also_true r.etype_ordered r.filetype_ordered;
      groups = built_is v r.is_built;
      holes = r.holes;
      overlap = λ w. clear_is v (writing_clear mode v h w);
    }

-- overlap is asked where the mode allows writing, and there it holds
overlap_tested : (writes free : Bool) → (writes ≡ true → free ≡ true) → either (not writes) free ≡ true
unfolding either
overlap_tested true free h = h refl
overlap_tested false free h = refl

-- types whose counts are allowed have entries
pub counts_some : (v : PaperView) → counts_allowed v ≡ true → (0 < entries v.etype) × (0 < entries v.filetype)
unfolding etype_entries_allowed filetype_entries_allowed
counts_some v h =
    let c = also_inv _ _ (also_inv _ _ (also_inv _ _ h).1).1 in
    (omega (arith, (within_inv 1 8 (entries v.etype) c.0).0), omega (arith, (within_inv 1 256 (entries v.filetype) (also_inv _ _ c.1).0).0))

pub accepted_only : (mode : ℕ) (v : PaperView) → IsAccepted mode v → accepted mode v ≡ true
unfolding accepted view_refusal
accepted_only mode v a =
    let c = counts_some v a.counts in
    let b = built_parts v (built_only v c.0 a.groups c.1) in
    let s = spaced v (also_inv _ _ a.extents).1 (also_inv _ _ a.entries).1 in
    eq-eqb _ 0
    (check_zero 3 a.displacement (check_zero 4 a.counts (check_zero 5 a.extents (check_zero 6 a.entries (check_zero 7 a.ordered
    (check_zero 17 b.0 (check_zero 18 b.1 (check_zero 19 b.2 (check_zero 9 a.holes (check_zero 10 (overlap_tested (allows_writing mode) (clear v) (λ w. clear_only v s (a.overlap w))) refl))))))))))
