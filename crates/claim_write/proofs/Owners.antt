-- A handle that passes check 1 and allows writing: each file byte belongs to at most one pair of its view, and a granted reverse lookup answers that pair, or none if there is none.
-- Rests on the laws of the reverse lookup, of a view that is accepted for writing.
use Rattle.laws.proofs.Prelude.{ℕ, ◌≡◌, sym, ap, ◌∙◌, true, arith, check_inv, granted_yes, granted_no}
use Rattle.view.specs.declared.Pair.{Pair}
use Rattle.std.proofs.Common.{Option}
use Rattle.view.specs.Acceptance.{accepted}
use Rattle.view.specs.Modes.{allows_writing}
use Rattle.view.specs.Owners.{OneOwner, Answers}
use Rattle.view.specs.Parts.{owner_of}
use Rattle.view.proofs.Owning.{one_owner, owner_is, owner_only}
use Rattle.file.specs.declared.Handle.{Handle}
use Rattle.file.specs.declared.ReverseAnswer.{ReverseAnswer}
use Rattle.handle.specs.Handles.{handle_valid}
use Rattle.file.specs.Handles.{on_paper, view_of}
use Rattle.call_checks.specs.Refusals.{reverse_refusal}
use Rattle.file.specs.Parts.{reverse_answer}
use Rattle.call_checks.proofs.Handles.{held_accepts}
use Rattle.claim_write.specs.Owners.{LookedUp}

module _ (h : Handle) (k : handle_valid (on_paper h) ≡ true) where
  pub handle_accepts : accepted h.mode (view_of h) ≡ true
  handle_accepts = held_accepts (on_paper h) k

  handle_owner : allows_writing h.mode ≡ true → OneOwner (view_of h)
  handle_owner w = one_owner h.mode (view_of h) handle_accepts w

-- ---- a granted reverse lookup

module _ (h : Handle) (z : reverse_refusal (on_paper h) ≡ 0) where
  passed : (handle_valid (on_paper h) ≡ true) × (allows_writing h.mode ≡ true)
  unfolding reverse_refusal
  passed = let c = check_inv _ 1 _ (omega arith) z in (c.0, (check_inv _ 11 _ (omega arith) c.1).0)

  view_accepted_law : accepted h.mode (view_of h) ≡ true
  view_accepted_law = handle_accepts h passed.0

  module _ (b : ℕ) where
    owner_found : (reverse_answer h b).owner ≡ owner_of (view_of h) b
    unfolding reverse_answer
    owner_found = granted_yes _ _ _ z

    reverse_is : Answers (view_of h) b (reverse_answer h b).owner
    reverse_is = rw owner_found (owner_is h.mode (view_of h) view_accepted_law passed.1 b)

    reverse_only : (o : Option Pair) → Answers (view_of h) b o → o ≡ (reverse_answer h b).owner
    reverse_only o a = owner_only h.mode (view_of h) view_accepted_law passed.1 b o a ∙ sym owner_found

-- the claim, of any answer that the call gives
module _ (h : Handle) (b : ℕ) (r : ReverseAnswer) (e : r ≡ reverse_answer h b) where
  number : r.refusal ≡ reverse_refusal (on_paper h)
  unfolding reverse_answer
  number = ap (λ x. x.refusal) e

  is_granted : r.refusal ≡ 0 → reverse_refusal (on_paper h) ≡ 0
  is_granted z = sym number ∙ z

  pub looked_up : LookedUp h b r
  unfolding reverse_answer
  looked_up = record {
    number = number;
    rest = λ i. record { refusal = r.refusal; count = (e i).count; handle = (e i).handle; owner = r.owner };
    refused = λ n. ap (λ x. x.owner) e ∙ granted_no _ _ _ (λ z. n (number ∙ z));
    exact = λ z. rw e (reverse_is h (is_granted z) b);
    only = λ z o a. reverse_only h (is_granted z) b o a ∙ sym (ap (λ x. x.owner) e);
    one = λ z. handle_owner h (passed h (is_granted z)).0 (passed h (is_granted z)).1;
  }
