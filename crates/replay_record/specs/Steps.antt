-- Must be believed. Document 02, order 2: what one record gives: which call is made, on the handle and the file that are held, with which arguments; the line; the state after it.
-- What a call answers and leaves is what its contract says (file/specs/Parts.antt), of which `claim_calls` claims the properties.
use Rattle.std.specs.Prelude.{ℕ, ◌+◌, Bool, cond, List, ◌≡◌, eqb, leb, length, replicate, Option, Some, None}
use Rattle.laws.specs.Checks.{also}
use Rattle.laws.specs.Lists.{nth}
use Rattle.laws.specs.Search.{all}
use Rattle.handle.specs.declared.FileRecord.{FileRecord}
use Rattle.file.specs.declared.Handle.{Handle}
use Rattle.file.specs.Parts.{open_answer, set_view_answer, seek_answer, read_at_answer, write_at_answer, written_file}
use Rattle.claim_calls.specs.Offsets.{begins_at}
use Rattle.claim_calls.specs.Parts.{answer_as}
use Rattle.replay_record.specs.declared.Answer.{Answer}
use Rattle.replay_record.specs.declared.Line.{Line}
use Rattle.replay_record.specs.declared.Replay.{Replay}
use Rattle.replay_record.specs.declared.Step.{Step}
use Rattle.replay_record.specs.Records.{Recorded, Opens, Sets, Seeks, Reads, Writes, Checks, Bad}

-- ---- at first

-- "The replayed file has 32,768 bytes, all 0, and size 0; a read lends 32,768 bytes"
abbrev pub file_length : ℕ
file_length = 32768

unfoldable pub bytes_at_first : List ℕ
bytes_at_first = replicate file_length 0

-- "One handle, at first a refused open's": an open with mode 4 is refused. No record is replayed yet
unfoldable pub at_first : Replay
at_first = record { handle = (open_answer 4).handle; file = record { size = 0 }; number = 0 }

-- ---- one record

-- byte i of a range is the file's byte there; these bytes stand in the file from this place on
unfoldable pub byte_stands : List ℕ → ℕ → List ℕ → ℕ → Bool
byte_stands bytes place range i = eqb (nth bytes (place + i)) (nth range i)

unfoldable pub stands_at : List ℕ → ℕ → List ℕ → Bool
stands_at bytes place range = also (leb (place + length range) (length bytes)) (all (byte_stands bytes place range) (length range))

-- a good record's answer, 0 if granted, its count, and the handle and the file record after it
abbrev pub answered : ℕ → ℕ → Handle → FileRecord → Answer
answered answer count h f = record { answer = answer; count = count; handle = h; file = f }

-- "One handle .. is replaced at each open"; "A check answers 0 if its bytes stand there in the file, else 25". What is no record makes no call
unfoldable pub called : Replay → List ℕ → Recorded → Option Answer
called s bytes (Opens mode) =
    let opened = open_answer mode in
    Some (answered opened.refusal opened.count opened.handle s.file)
called s bytes (Sets v representation) =
    let a = set_view_answer s.handle representation v in
    Some (answered a.refusal a.count a.handle s.file)
called s bytes (Seeks o whence) =
    let a = seek_answer s.handle (length bytes) s.file o whence in
    Some (answered a.refusal a.count a.handle a.file)
called s bytes (Reads begin c) =
    let a = answer_as s.handle begin (read_at_answer s.handle (length bytes) s.file (begins_at s.handle begin) c file_length) in
    Some (answered a.refusal a.count a.handle a.file)
called s bytes (Writes begin c buffer) =
    let a = answer_as s.handle begin (write_at_answer s.handle (length bytes) s.file (begins_at s.handle begin) c (length buffer)) in
    Some (answered a.refusal a.count a.handle a.file)
called s bytes (Checks place range) = Some (answered (cond (stands_at bytes place range) 0 25) 0 s.handle s.file)
called s bytes Bad = None

-- the file's bytes after it: a write's alone can differ
unfoldable pub bytes_after : Replay → List ℕ → Recorded → List ℕ
bytes_after s bytes (Opens mode) = bytes
bytes_after s bytes (Sets v representation) = bytes
bytes_after s bytes (Seeks o whence) = bytes
bytes_after s bytes (Reads begin c) = bytes
bytes_after s bytes (Writes begin c buffer) = written_file s.handle bytes s.file (begins_at s.handle begin) c buffer
bytes_after s bytes (Checks place range) = bytes
bytes_after s bytes Bad = bytes

-- "One printed line per record: its number from 1, the answer (0 if granted), count, pointer and size"; pointer and size are those after the call, for refusals too
unfoldable pub line_of : Replay → Answer → Line
line_of s a = record { number = s.number + 1; answer = a.answer; count = a.count; pointer = a.handle.pointer; size = a.file.size }

-- the state after a good record
unfoldable pub next_of : Replay → Answer → Replay
next_of s a = record { handle = a.handle; file = a.file; number = s.number + 1 }

-- one record: its line, and the state after it, if it is good; one that is not has neither
unfoldable pub stepped : Replay → Option Answer → Option Step
stepped s (Some a) = Some (record { line = line_of s a; next = next_of s a })
stepped s None = None

-- a record was replayed: what the step is, and the file's bytes after it
pub record Replayed (s : Replay) (before after : List ℕ) (r : Recorded) (t : Option Step) : Type 0 where
  pub step : t ≡ stepped s (called s before r)
  pub bytes : after ≡ bytes_after s before r
