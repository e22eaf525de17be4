-- Need not be believed: no claim cites it. What the benchmark's functions answer and leave.
use Rattle.std.specs.Prelude.{ℕ, zero, suc, List, ◌≡◌, ℤ, length}
use Rattle.laws.specs.Checks.{granted}
use Rattle.handle.specs.declared.FileRecord.{FileRecord}
use Rattle.file.specs.declared.AccessAnswer.{AccessAnswer}
use Rattle.file.specs.Parts.{open_answer, set_view_answer, read_at_answer, read_buffer, write_at_answer, written_file}
use Rattle.file.specs.declared.Handle.{Handle}
use Rattle.file.specs.declared.SetViewAnswer.{SetViewAnswer}
use Rattle.set_record.specs.Sets.{view_in, representation_in}

-- ---- before the first round

-- an open with mode 3, and a set of the view that the body describes
unfoldable pub body_set : List ℕ → SetViewAnswer
body_set body = set_view_answer (open_answer 3).handle (representation_in body) (view_in body)

-- what this set leaves to the first round, with a file of this size, as a round's answer
unfoldable pub after_set : List ℕ → ℕ → AccessAnswer
after_set body size =
    let a = body_set body in
    record { refusal = a.refusal; count = a.count; handle = a.handle; file = record { size = size } }

-- ---- rounds

-- what a round leaves: the refusal number, the handle and the file record of its answer, and the bytes that the rounds change, those of the buffer or of the file
pub record Round : Type 0 where
  pub refusal : ℕ
  pub handle : Handle
  pub file : FileRecord
  pub bytes : List ℕ

-- before the first round
abbrev pub begun : List ℕ → ℕ → List ℕ → Round
begun body size bytes =
    let l = after_set body size in
    record { refusal = l.refusal; handle = l.handle; file = l.file; bytes = bytes }

-- the last of n rounds, the first of which follows s; none is made after a refusal
unfoldable pub last_of : (Round → Round) → ℕ → Round → Round
last_of access zero s = s
last_of access (suc n) s =
    let last = last_of access n s in
    granted last.refusal (access last) last

-- a read of c etypes at o, after a round
unfoldable pub read_after : List ℕ → ℕ → ℤ → Round → Round
read_after file c o s =
    let a = read_at_answer s.handle (length file) s.file o c (length s.bytes) in
    record { refusal = a.refusal; handle = a.handle; file = a.file; bytes = read_buffer s.handle file s.file o c s.bytes }

-- a write of c etypes of the buffer at o, after a round
unfoldable pub write_after : List ℕ → ℕ → ℤ → Round → Round
write_after buffer c o s =
    let a = write_at_answer s.handle (length s.bytes) s.file o c (length buffer) in
    record { refusal = a.refusal; handle = a.handle; file = a.file; bytes = written_file s.handle s.bytes s.file o c buffer }

-- n reads into the buffer, and n writes of it
abbrev pub read_rounds : List ℕ → List ℕ → ℕ → ℤ → ℕ → ℕ → List ℕ → Round
read_rounds view file size o c n buffer = last_of (read_after file c o) n (begun view size buffer)

abbrev pub write_rounds : List ℕ → List ℕ → ℕ → ℤ → ℕ → ℕ → List ℕ → Round
write_rounds view file size o c n buffer = last_of (write_after buffer c o) n (begun view size file)

-- rounds answer the last one's refusal number r, and leave its bytes
pub record Left (last : Round) (r : ℕ) (after : List ℕ) : Type 0 where
  pub refusal : r ≡ last.refusal
  pub bytes : after ≡ last.bytes
