-- Need not be believed. The call that a record asks for was made: `Replayed` has the step.
use Rattle.std.specs.Prelude.{ℕ, List, ◌≡◌, Option}
use Rattle.replay_record.specs.declared.Answer.{Answer}
use Rattle.replay_record.specs.declared.Replay.{Replay}
use Rattle.replay_record.specs.Records.{Recorded}
use Rattle.replay_record.specs.Steps.{called, bytes_after}

pub record CallMade (s : Replay) (before after : List ℕ) (r : Recorded) (a : Option Answer) : Type 0 where
  pub answer : a ≡ called s before r
  pub bytes : after ≡ bytes_after s before r
