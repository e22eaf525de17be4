-- Must be believed. Document 01, "The words of demand 3": what is claimed of a reverse lookup.
use Rattle.std.specs.Prelude.{ℕ, Option, None, ◌≢◌, ◌≡◌}
use Rattle.view.specs.declared.Pair.{Pair}
use Rattle.view.specs.Owners.{OneOwner, Answers}
use Rattle.call_checks.specs.Refusals.{reverse_refusal}
use Rattle.file.specs.declared.Handle.{Handle}
use Rattle.file.specs.declared.ReverseAnswer.{ReverseAnswer}
use Rattle.file.specs.Handles.{on_paper, view_of}

-- the lookup of byte b: a granted one names the pair that b belongs to, or says none exactly when there is none.
-- No other answer does so, and in its view each byte belongs to at most one pair
pub record LookedUp (h : Handle) (b : ℕ) (r : ReverseAnswer) : Type 0 where
  pub number : r.refusal ≡ reverse_refusal (on_paper h)
  pub rest : r ≡ record { refusal = r.refusal; count = 0; handle = h; owner = r.owner }
  pub refused : r.refusal ≢ 0 → r.owner ≡ None
  pub exact : r.refusal ≡ 0 → Answers (view_of h) b r.owner
  pub only : r.refusal ≡ 0 → (o : Option Pair) → Answers (view_of h) b o → o ≡ r.owner
  pub one : r.refusal ≡ 0 → OneOwner (view_of h)
