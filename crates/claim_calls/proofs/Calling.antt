-- An access from the contract of its call, and its answer from that of the explicit one, whichever way it begins: the same for reads and writes. Rests on the definitions alone.
use Rattle.laws.proofs.Prelude.{ℕ, ◌+◌, ◌≡◌, refl, sym, ap, ◌∙◌, true, List, ⊎_elim, arith, ℤ, pos, le-leb, granted, eq_or_ne, also_true, also_inv, granted_yes, granted_no}
use Rattle.view.specs.declared.Offset.{Offset}
use Rattle.view.specs.Limits.{pointer_allowed}
use Rattle.view.specs.Types.{whole}
use Rattle.handle.specs.Ranges.{access_allowed}
use Rattle.handle.specs.Handles.{handle_valid}
use Rattle.handle.proofs.Ranging.{access_sum}
use Rattle.file.specs.declared.Handle.{Handle}
use Rattle.file.specs.declared.AccessAnswer.{AccessAnswer}
use Rattle.file.specs.Handles.{on_paper, view_of, with_pointer}
use Rattle.file.specs.Parts.{at_pointer}
use Rattle.claim_calls.specs.declared.Begin.{Begin}
use Rattle.claim_calls.specs.declared.Begin.TheVariants.{Pointer, Explicit}
use Rattle.claim_calls.specs.declared.DataAccess.{DataAccess}
use Rattle.claim_calls.specs.Offsets.{begins_at, offset_of, handle_after}
use Rattle.claim_calls.specs.Parts.{answer_as, Called}
use Rattle.claim_calls.specs.Accesses.{IsRefused}

-- ---- from the contract of each call

module _ (a : DataAccess) (answer : ℤ → AccessAnswer) (left : ℤ → List ℕ) (after : List ℕ) (r : AccessAnswer) where
  called_as : (b : Begin) → a.begin ≡ b → r ≡ answer_as a.handle b (answer (begins_at a.handle b)) → after ≡ left (begins_at a.handle b) → Called a answer left after r
  unfolding offset_of
  called_as b e x y = record {
    answers = x ∙ ap (λ z. answer_as a.handle z (answer (begins_at a.handle z))) (sym e);
    leaves = y ∙ ap (λ z. left (begins_at a.handle z)) (sym e);
  }

  pub called_next : a.begin ≡ Pointer → r ≡ at_pointer a.handle (answer (pos a.handle.pointer)) → after ≡ left (pos a.handle.pointer) → Called a answer left after r
  unfolding answer_as begins_at
  called_next e x y = called_as Pointer e x y

  pub called_at : (o : Offset) → a.begin ≡ Explicit o → r ≡ answer o.0 → after ≡ left o.0 → Called a answer left after r
  unfolding answer_as begins_at
  called_at o e x y = called_as (Explicit o) e x y

-- ---- the answer, from the explicit one's, x

pub record Taken (h : Handle) (b : Begin) (x r : AccessAnswer) : Type 0 where
  pub refusal : r.refusal ≡ x.refusal
  pub count : r.count ≡ x.count
  pub file : r.file ≡ x.file
  pub handle : r.handle ≡ granted r.refusal (handle_after h b r.count) h

-- what stays is the same granted or refused
granted_same : {A : Type 0} (n : ℕ) (x : A) → x ≡ granted n x x
granted_same n x = ⊎_elim (λ z. sym (granted_yes n x x z)) (λ z. sym (granted_no n x x z)) (eq_or_ne n 0)

pub taken : (h : Handle) (b : Begin) (x : AccessAnswer) → x.handle ≡ h → Taken h b x (answer_as h b x)
unfolding answer_as at_pointer handle_after
taken h Pointer x e = record { refusal = refl; count = refl; file = refl; handle = refl }
taken h (Explicit o) x e = record { refusal = refl; count = refl; file = refl; handle = e ∙ granted_same x.refusal h }

-- a refused one
pub refused_as : (a : DataAccess) (x r : AccessAnswer) → Taken a.handle a.begin x r → (r.refusal ≡ 0 → ⊥) → x.count ≡ 0 → x.file ≡ a.file → IsRefused a r
refused_as a x r t z c f = λ i. record { refusal = r.refusal; count = (t.count ∙ c) i; handle = (t.handle ∙ granted_no _ _ _ z) i; file = (t.file ∙ f) i }

-- ---- the handle after it

module _ (h : Handle) where
  pub after_mode : (b : Begin) (m : ℕ) → (handle_after h b m).mode ≡ h.mode
  unfolding handle_after with_pointer
  after_mode Pointer m = refl
  after_mode (Explicit o) m = refl

  pub after_view : (b : Begin) (m : ℕ) → view_of (handle_after h b m) ≡ view_of h
  unfolding handle_after with_pointer
  after_view Pointer m = refl
  after_view (Explicit o) m = refl

  -- it passes check 1 if the one before did, and the access check 12
  pub after_valid : (b : Begin) (m : ℕ) → handle_valid (on_paper h) ≡ true → access_allowed (begins_at h b) m ≡ true → handle_valid (on_paper (handle_after h b m)) ≡ true
  unfolding handle_valid pointer_allowed handle_after begins_at with_pointer whole
  after_valid Pointer m k l =
      let p = also_inv _ _ k in
      also_true p.0 (also_true (le-leb (h.pointer + m) 4294967296 (omega (arith, access_sum (pos h.pointer) m l))) (also_inv _ _ p.1).1)
  after_valid (Explicit o) m k l = k
