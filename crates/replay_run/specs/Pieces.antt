-- Must be believed. A trace that is replayed in pieces, as a program that reads it does: window after window, and list after list for the lines.
-- `RunMade` is the contract of `run`, which need not be believed: `Replays` is what comes of it.
use Rattle.std.specs.Prelude.{ℕ, ◌+◌, ◌*◌, ◌/◌, ◌≤◌, ◌<◌, Bool, true, false, List, ◌++◌, ◌≢◌, ◌⊎◌, ◌≡◌, length, take, drop}
use Rattle.tagged_fields.specs.declared.Field.TheVariants.{Whole}
use Rattle.tagged_fields.specs.Fields.{field_at}
use Rattle.replay_record.specs.declared.Replay.{Replay}
use Rattle.replay_record.specs.Steps.{at_first, bytes_at_first}
use Rattle.replay_run.specs.declared.Ending.TheVariants.{Later, Complete, Stopped}
use Rattle.replay_run.specs.declared.RunAnswer.{RunAnswer}
use Rattle.replay_run.specs.Traces.{Stop, Nowhere, At, Replays}
use Rattle.replay_run.specs.Parts.{position, RunMade}

-- no whole record stands at a place of a window
abbrev pub NoRecordAt : List ℕ → ℕ → Type 0
NoRecordAt window at = (tag start n : ℕ) → field_at window at ≡ Whole tag start n → ⊥

-- one piece: a run over a window of the trace from a place on, of at most so many bytes: fewer where the trace ends, which is told that the window ends the trace only if it does
pub record Piece (trace : List ℕ) (s : Replay) (bytes : List ℕ) (at : ℕ) (after list : List ℕ) (r : RunAnswer) : Type 0 where
  pub last : Bool
  pub most : ℕ
  pub lent : List ℕ
  pub ends : last ≡ true → length trace ≤ at + most
  pub made : RunMade last (take most (drop at trace)) (position s bytes 0) after lent list r

-- the pieces of a trace from a place on: a run that says later is followed by another, from where it went to; what all of them wrote, one after the other, and how the last one ended
pub data InPieces (trace : List ℕ) : Replay → List ℕ → ℕ → List ℕ → Stop → Type 0 where
  later : {s : Replay} {bytes after list numbers : List ℕ} {at : ℕ} {r : RunAnswer} {e : Stop} → Piece trace s bytes at after list r → r.ending ≡ Later → InPieces trace r.state after (at + r.at) numbers e → InPieces trace s bytes at (take (5 * r.lines) list ++ numbers) e
  complete : {s : Replay} {bytes after list : List ℕ} {at : ℕ} {r : RunAnswer} → Piece trace s bytes at after list r → r.ending ≡ Complete → InPieces trace s bytes at (take (5 * r.lines) list) Nowhere
  stopped : {s : Replay} {bytes after list : List ℕ} {at : ℕ} {r : RunAnswer} → Piece trace s bytes at after list r → r.ending ≡ Stopped → InPieces trace s bytes at (take (5 * r.lines) list) (At (at + r.at))

-- "What it says equals what the calls in that order give": a trace has one replay from any state and place on, and no other. What follows a piece's own numbers is the replay from where it went to.
-- A piece says later only where the list is full, the numbers are used up, or the window has no whole record left and does not end the trace; so one long run over the whole trace says how it ends.
-- All the pieces together, from the first state on, whatever the cuts, say the trace's replay
pub record SaysWhatCallsGive (trace : List ℕ) : Type 0 where
  pub one : (s : Replay) (bytes : List ℕ) (at : ℕ) → (numbers : List ℕ) × ((e : Stop) × Replays trace s bytes at numbers e)
  pub only : {s : Replay} {bytes : List ℕ} {at : ℕ} {numbers other : List ℕ} {e f : Stop} → Replays trace s bytes at numbers e → Replays trace s bytes at other f → (numbers ≡ other) × (e ≡ f)
  pub prefix : {s : Replay} {bytes after list numbers : List ℕ} {at : ℕ} {r : RunAnswer} {e : Stop} → Piece trace s bytes at after list r → Replays trace r.state after (at + r.at) numbers e → Replays trace s bytes at (take (5 * r.lines) list ++ numbers) e
  pub why : {s : Replay} {bytes after list : List ℕ} {at : ℕ} {r : RunAnswer} (c : Piece trace s bytes at after list r) → r.ending ≡ Later → (r.lines ≡ length c.lent / 5) ⊎ ((r.state.number ≡ 18446744073709551615) ⊎ ((c.last ≡ false) × NoRecordAt (take c.most (drop at trace)) r.at))
  pub long : {s : Replay} {bytes after list : List ℕ} {at : ℕ} {r : RunAnswer} (c : Piece trace s bytes at after list r) → c.last ≡ true → length trace < length c.lent / 5 → s.number + length trace < 18446744073709551615 → r.ending ≢ Later
  pub pieces : {numbers : List ℕ} {e : Stop} → InPieces trace at_first bytes_at_first 0 numbers e → Replays trace at_first bytes_at_first 0 numbers e
