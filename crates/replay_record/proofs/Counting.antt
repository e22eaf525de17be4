-- A good step counts one record.
use Rattle.laws.proofs.Prelude.{◌+◌, ◌≡◌, sym, ap}
use Rattle.std.proofs.Common.{Option, Some, None}
use Rattle.replay_record.specs.declared.Answer.{Answer}
use Rattle.replay_record.specs.declared.Replay.{Replay}
use Rattle.replay_record.specs.declared.Step.{Step}
use Rattle.replay_record.specs.Steps.{line_of, next_of, stepped}

pub step_counts : (s : Replay) (a : Option Answer) (t : Step) → stepped s a ≡ Some t → t.next.number ≡ s.number + 1
unfolding stepped next_of
step_counts s (Some x) t h = let e : record { line = line_of s x; next = next_of s x } ≡ t = cc in ap (λ (y : Step). y.next.number) (sym e)
step_counts s None t h = cc
