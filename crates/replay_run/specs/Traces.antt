-- Must be believed. Document 02, order 2: a whole trace, record after record: the numbers of its lines and its stop.
use Rattle.std.specs.Prelude.{ℕ, ◌+◌, List, [], ◌∷◌, ◌++◌, ◌≡◌, Option, Some, None, take, drop}
use Rattle.tagged_fields.specs.declared.Field.{Field}
use Rattle.tagged_fields.specs.declared.Field.TheVariants.{Whole, Cut, End}
use Rattle.tagged_fields.specs.Fields.{field_at}
use Rattle.replay_record.specs.declared.Line.{Line}
use Rattle.replay_record.specs.declared.Replay.{Replay}
use Rattle.replay_record.specs.declared.Step.{Step}
use Rattle.replay_record.specs.Records.{Recorded, record_in}
use Rattle.replay_record.specs.Steps.{called, bytes_after, stepped}

-- "its number from 1, the answer (0 if granted), count, pointer and size"
abbrev pub numbers_of : Line → List ℕ
numbers_of l = l.number ∷ l.answer ∷ l.count ∷ l.pointer ∷ l.size ∷ []

-- how a replay ends: with no line of its own where the trace ends after a whole record, or with a line of `stop` and a byte place
pub data Stop : Type 0 where
  Nowhere : Stop
  At : ℕ → Stop

-- what comes next in a trace: the replay is over; or a good record, with its line, the state and the file's bytes after it, and the place of the next one
pub data Next : Type 0 where
  Over : Stop → Next
  Goes : Line → Replay → List ℕ → ℕ → Next

-- a whole record at a place, with the place after it, by its step and the file's bytes after it
unfoldable pub step_next : List ℕ → ℕ → ℕ → Option Step → Next
step_next after at end (Some t) = Goes t.line t.next after end
step_next after at end None = Over (At at)

unfoldable pub record_next : Replay → List ℕ → ℕ → ℕ → Recorded → Next
record_next s bytes at end r = step_next (bytes_after s bytes r) at end (stepped s (called s bytes r))

-- "A record cut short, of unknown tag or with a bad body ends it with a line of `stop` and the record's byte place"
unfoldable pub field_next : List ℕ → Replay → List ℕ → ℕ → Field → Next
field_next trace s bytes at End = Over Nowhere
field_next trace s bytes at Cut = Over (At at)
field_next trace s bytes at (Whole tag start n) = record_next s bytes at (start + n) (record_in tag (take n (drop start trace)))

unfoldable pub next_at : List ℕ → Replay → List ℕ → ℕ → Next
next_at trace s bytes at = field_next trace s bytes at (field_at trace at)

-- a trace, replayed from a place on: the numbers of its lines, line after line, and how it ends
pub data Replays (trace : List ℕ) : Replay → List ℕ → ℕ → List ℕ → Stop → Type 0 where
  over : {s : Replay} {bytes : List ℕ} {at : ℕ} {e : Stop} → next_at trace s bytes at ≡ Over e → Replays trace s bytes at [] e
  goes : {s s' : Replay} {bytes bytes' : List ℕ} {at at' : ℕ} {l : Line} {numbers : List ℕ} {e : Stop} → next_at trace s bytes at ≡ Goes l s' bytes' at' → Replays trace s' bytes' at' numbers e → Replays trace s bytes at (numbers_of l ++ numbers) e
