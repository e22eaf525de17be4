-- A set: it is granted exactly if the handle, the representation and the lent view keep their rules, and then its handle has that view and passes check 1.
-- Rests on `accepted_is` and `accepted_only`, and on `record_same`: the record in which a view is held stands for it.
use Rattle.laws.proofs.Prelude.{ℕ, ◌≡◌, refl, sym, ap, ◌∙◌, true, false, ⊎_elim, List, arith, eqb, check_past, ℤ, w64, SFits, to_z, of_z, to_z-of_z, le-leb, eqb-true, eq-eqb, also_true, also_inv, check_zero, check_inv, granted_yes, granted_no}
use Rattle.view.specs.Limits.{pointer_allowed}
use Rattle.view.specs.Types.{PaperView, paper, view_of_lists}
use Rattle.view.specs.Rules.{is_native}
use Rattle.view.specs.Acceptance.{IsAccepted, view_refusal, set_refusal, accepted}
use Rattle.view.specs.Named.{named_numbers, Names}
use Rattle.view.specs.Parts.{named_by, record_of}
use Rattle.view.proofs.Exactly.{accepted_is, accepted_only}
use Rattle.view.proofs.Injective.{refused_shares}
use Rattle.view.proofs.Telling.{named_is, fails_17, built_9, built_10, never_8}
use Rattle.view.proofs.Holding.{record_same}
use Rattle.handle.specs.Handles.{handle_valid}
use Rattle.call_checks.specs.Refusals.{set_view_refusal}
use Rattle.file.specs.declared.Handle.{Handle}
use Rattle.file.specs.declared.SetViewAnswer.{SetViewAnswer}
use Rattle.file.specs.Handles.{on_paper, view_of}
use Rattle.file.specs.Parts.{with_view, set_view_answer}
use Rattle.claim_calls.specs.Calls.{ViewSet}

module _ (h : Handle) (representation : List ℕ) (v : PaperView) (s : SetViewAnswer) (e : s ≡ set_view_answer h representation v) where
  number : s.refusal ≡ set_view_refusal (on_paper h) representation v
  unfolding set_view_answer
  number = ap (λ x. x.refusal) e

  -- ---- a granted one

  module _ (z : s.refusal ≡ 0) where
    granted_set : set_view_refusal (on_paper h) representation v ≡ 0
    granted_set = sym number ∙ z

    set_valid : (handle_valid (on_paper h) ≡ true) × (set_refusal h.mode representation v ≡ 0)
    unfolding set_view_refusal
    set_valid = check_inv _ 1 _ (omega arith) granted_set

    set_named : (is_native representation ≡ true) × (view_refusal h.mode v ≡ 0)
    unfolding set_refusal
    set_named = check_inv _ 2 _ (omega arith) set_valid.1

    pub set_accepted : accepted h.mode v ≡ true
    unfolding accepted
    set_accepted = eq-eqb _ 0 set_named.1

    handle_is : s.handle ≡ with_view h (record_of v)
    unfolding set_view_answer
    handle_is = ap (λ x. x.handle) e ∙ granted_yes _ _ _ granted_set

    pub view_is : view_of s.handle ≡ v
    unfolding with_view
    view_is = ap (λ x. paper x.view) handle_is ∙ record_same h.mode v set_accepted

    -- the handle that the set gave back passes check 1
    fresh_valid : handle_valid (on_paper (with_view h (record_of v))) ≡ true
    unfolding handle_valid pointer_allowed with_view
    fresh_valid = also_true (also_inv _ _ set_valid.0).0 (also_true (le-leb 0 4294967296 (omega arith)) (ap (accepted h.mode) (record_same h.mode v set_accepted) ∙ set_accepted))

    pub changed_valid : handle_valid (on_paper s.handle) ≡ true
    changed_valid = ap (λ x. handle_valid (on_paper x)) handle_is ∙ fresh_valid

    pointer_zero : s.handle.pointer ≡ 0
    unfolding with_view
    pointer_zero = ap (λ x. x.pointer) handle_is

    granted_mode : s.handle.mode ≡ h.mode
    unfolding with_view
    granted_mode = ap (λ x. x.mode) handle_is

  -- ---- granted or not

  refused_handle : (s.refusal ≡ 0 → ⊥) → s.handle ≡ h
  unfolding set_view_answer
  refused_handle n = ap (λ x. x.handle) e ∙ granted_no _ _ h (λ z. n (number ∙ z))

  named_is_told : s.named ≡ named_by v s.refusal
  unfolding set_view_answer
  named_is_told = ap (λ x. x.named) e ∙ ap (named_by v) (sym number)

  none_counted : s.count ≡ 0
  unfolding set_view_answer
  none_counted = ap (λ x. x.count) e

  only_granted : handle_valid (on_paper h) ≡ true → is_native representation ≡ true → IsAccepted h.mode v → s.refusal ≡ 0
  unfolding set_view_refusal set_refusal accepted
  only_granted k n a = number ∙ check_zero 1 k (check_zero 2 n (eqb-true (view_refusal h.mode v) 0 (accepted_only h.mode v a)))

  -- ---- what a refusal names

  -- a number but 1 and 2 is the view's
  of_view : (j : ℕ) → eqb 1 j ≡ false → eqb 2 j ≡ false → s.refusal ≡ j → view_refusal h.mode v ≡ j
  unfolding set_view_refusal set_refusal
  of_view j a b q = (check_past _ 2 _ j b (check_past _ 1 _ j a (sym number ∙ q)).1).1

  names_are : Names v s.refusal (named_numbers s.named)
  names_are = rw named_is_told (named_is h.mode v s.refusal of_view)

  never : s.refusal ≡ 8 → ⊥
  never q = never_8 h.mode v (of_view 8 refl refl q)

  -- the claim, of any answer that the call gives
  pub view_set : ViewSet h representation v s
  view_set = record {
    number = number;
    count = none_counted;
    refused = refused_handle;
    rules = λ z. ((set_valid z).0, ((set_named z).0, accepted_is h.mode v (set_accepted z)));
    only = only_granted;
    names = names_are;
    multiple = λ q. fails_17 h.mode v (of_view 17 refl refl q);
    groups = ⊎_elim (λ q. built_9 h.mode v (of_view 9 refl refl q)) (λ q. built_10 h.mode v (of_view 10 refl refl q));
    shared = λ q. refused_shares h.mode v (of_view 10 refl refl q);
    never_8 = never;
    view = view_is;
    pointer = pointer_zero;
    mode = granted_mode;
  }

-- the same, with the signed numbers as the machine reads them
pub lent_set : (h : Handle) (representation : List ℕ) (d : ℤ) (ew : List ℕ) (ed : List ℤ) (ex : ℤ) (fw : List ℕ) (fd : List ℤ) (fx : ℤ) → SFits w64 d → SFits w64 ex → SFits w64 fx → (s : SetViewAnswer) → s ≡ set_view_answer h representation (view_of_lists (to_z w64 (of_z w64 d)) ew ed (to_z w64 (of_z w64 ex)) fw fd (to_z w64 (of_z w64 fx))) → ViewSet h representation (view_of_lists d ew ed ex fw fd fx) s
lent_set h representation d ew ed ex fw fd fx sd sx sf s e = view_set h representation _ s (rw (to_z-of_z sd, to_z-of_z sx, to_z-of_z sf) at e)
