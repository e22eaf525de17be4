-- Need not be believed. What a run over a window answers and leaves: `Replays` and `InPieces` have what it means.
use Rattle.std.specs.Prelude.{ℕ, zero, suc, ◌+◌, ◌*◌, ◌/◌, ◌%◌, ◌≤◌, Bool, cond, List, [], ◌≡◌, eqb, length, take, drop, Option, Some, None, Result, Ok, Err, is_ok}
use Rattle.laws.specs.Lists.{nth}
use Rattle.laws.specs.Parts.{front}
use Rattle.laws.specs.Search.{least_false}
use Rattle.tagged_fields.specs.declared.Field.{Field}
use Rattle.tagged_fields.specs.declared.Field.TheVariants.{Whole, Cut, End}
use Rattle.tagged_fields.specs.Fields.{field_at}
use Rattle.replay_record.specs.declared.Replay.{Replay}
use Rattle.replay_record.specs.declared.Step.{Step}
use Rattle.replay_record.specs.Records.{record_in}
use Rattle.replay_record.specs.Steps.{called, bytes_after, stepped}
use Rattle.replay_run.specs.declared.Ending.{Ending}
use Rattle.replay_run.specs.declared.Ending.TheVariants.{Later, Complete, Stopped}
use Rattle.replay_run.specs.declared.RunAnswer.{RunAnswer}
use Rattle.replay_run.specs.declared.Turn.{Turn}
use Rattle.replay_run.specs.Traces.{numbers_of}

-- ---- one turn

-- a step of a whole record, with the place after it
unfoldable pub step_turn : ℕ → Option Step → Result Turn Ending
step_turn end (Some t) = Ok (record { line = t.line; next = t.next; at = end })
step_turn end None = Err Stopped

-- by what stands at a place of the window. A window that does not end the trace is no end and cuts nothing short
unfoldable pub field_turn : Bool → List ℕ → Replay → List ℕ → Field → Result Turn Ending
field_turn last window s bytes End = Err (cond last Complete Later)
field_turn last window s bytes Cut = Err (cond last Stopped Later)
field_turn last window s bytes (Whole tag start n) = step_turn (start + n) (stepped s (called s bytes (record_in tag (take n (drop start window)))))

unfoldable pub field_bytes : List ℕ → Replay → List ℕ → Field → List ℕ
field_bytes window s bytes End = bytes
field_bytes window s bytes Cut = bytes
field_bytes window s bytes (Whole tag start n) = bytes_after s bytes (record_in tag (take n (drop start window)))

-- no record is replayed after number 2^64 - 1
unfoldable pub turn_of : Bool → List ℕ → Replay → List ℕ → ℕ → Result Turn Ending
turn_of last window s bytes at = cond (eqb s.number 18446744073709551615) (Err Later) (field_turn last window s bytes (field_at window at))

unfoldable pub turn_bytes : List ℕ → Replay → List ℕ → ℕ → List ℕ
turn_bytes window s bytes at = cond (eqb s.number 18446744073709551615) bytes (field_bytes window s bytes (field_at window at))

pub record TurnMade (last : Bool) (window : List ℕ) (s : Replay) (before after : List ℕ) (at : ℕ) (t : Result Turn Ending) : Type 0 where
  pub turn : t ≡ turn_of last window s before at
  pub bytes : after ≡ turn_bytes window s before at

-- ---- turn after turn

-- the state, the file's bytes and the place in the window
pub record Position : Type 0 where
  pub state : Replay
  pub bytes : List ℕ
  pub at : ℕ

abbrev pub position : Replay → List ℕ → ℕ → Position
position s bytes at = record { state = s; bytes = bytes; at = at }

unfoldable pub turn_from : Bool → List ℕ → Position → Result Turn Ending
turn_from last window p = turn_of last window p.state p.bytes p.at

-- where a turn leads, with the file's bytes after it; one that ends the run leads nowhere
unfoldable pub led : Position → List ℕ → Result Turn Ending → Position
led p after (Ok t) = position t.next after t.at
led p after (Err e) = p

unfoldable pub after_turn : Bool → List ℕ → Position → Position
after_turn last window p = led p (turn_bytes window p.state p.bytes p.at) (turn_from last window p)

-- where i turns lead
unfoldable pub reached : Bool → List ℕ → Position → ℕ → Position
reached last window p zero = p
reached last window p (suc i) = after_turn last window (reached last window p i)

-- turn i replays a record
unfoldable pub turn_goes : Bool → List ℕ → Position → ℕ → Bool
turn_goes last window p i = is_ok (turn_from last window (reached last window p i))

-- how many turns do, at most as many as there is room for
unfoldable pub turns_made : Bool → List ℕ → Position → ℕ → ℕ
turns_made last window p room = least_false (turn_goes last window p) room

-- the numbers of its line
unfoldable pub turn_numbers : Result Turn Ending → List ℕ
turn_numbers (Ok t) = numbers_of t.line
turn_numbers (Err e) = []

unfoldable pub line_at : Bool → List ℕ → Position → ℕ → List ℕ
line_at last window p i = turn_numbers (turn_from last window (reached last window p i))

-- number k of all the lines, five to a line
unfoldable pub number_in : Bool → List ℕ → Position → ℕ → ℕ
number_in last window p k = nth (line_at last window p (k / 5)) (k % 5)

-- how the run ends: as the turn says that replays no record, or later where there is no room for a line
unfoldable pub turn_ending : Result Turn Ending → Ending
turn_ending (Ok t) = Later
turn_ending (Err e) = e

unfoldable pub ending_after : Bool → List ℕ → Position → ℕ → ℕ → Ending
ending_after last window p room n = cond (eqb n room) Later (turn_ending (turn_from last window (reached last window p n)))

unfoldable pub run_of : Bool → List ℕ → Position → ℕ → RunAnswer
run_of last window p room =
    let n = turns_made last window p room in
    let q = reached last window p n in
    record { ending = ending_after last window p room n; at = q.at; lines = n; state = q.state }

-- a run over a window, from a position on: the answer, the file's bytes after it, and the lent list, which begins with the numbers of the lines; the rest of it stays. They fit into it, and the place is one of the window
pub record RunMade (last : Bool) (window : List ℕ) (p : Position) (after lent left : List ℕ) (r : RunAnswer) : Type 0 where
  pub run : r ≡ run_of last window p (length lent / 5)
  pub bytes : after ≡ (reached last window p r.lines).bytes
  pub list : left ≡ front (number_in last window p) (5 * r.lines) lent
  pub fits : 5 * r.lines ≤ length lent
  pub within : r.at ≤ length window
