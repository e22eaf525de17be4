-- Need not be believed. What the functions of this crate answer and leave: the answers of the calls, file/specs/Parts.antt, are shown to be made up of these.
use Rattle.std.specs.Prelude.{ℕ, Result, IfOk, List, ◌≡◌, ℤ, length}
use Rattle.laws.specs.Checks.{granted}
use Rattle.view.specs.declared.BytePos.{BytePos}
use Rattle.view.specs.declared.refusals.Refusal.{Refusal}
use Rattle.view.specs.Parts.{refusal_in}
use Rattle.view.specs.Types.{whole}
use Rattle.handle.specs.declared.FileRecord.{FileRecord}
use Rattle.handle.specs.Handles.{PaperHandle, with_size}
use Rattle.move_read.specs.Parts.{moved, read_into, write_end, new_size, written}
use Rattle.call_checks.specs.Refusals.{read_refusal, write_refusal}
use Rattle.call_access.specs.declared.WriteOutcome.{WriteOutcome}

-- a read of c at o: how many etypes it moved, and the buffer after it
pub record ReadMade (h : PaperHandle) (file : List ℕ) (r : FileRecord) (o : ℤ) (c : ℕ) (before after : List ℕ) (a : Result ℕ Refusal) : Type 0 where
  pub refusal : refusal_in a ≡ read_refusal h (length file) r o c (length before)
  pub count : IfOk a (λ m. m ≡ moved h.view r.size (whole o) c)
  pub buffer : after ≡ granted (refusal_in a) (read_into h.view file (whole o) (moved h.view r.size (whole o) c) before) before

-- the checks of a write, and the end of one that they grant
pub record WriteChecked (h : PaperHandle) (len : ℕ) (r : FileRecord) (o : ℤ) (c buffer : ℕ) (j : Result BytePos Refusal) : Type 0 where
  pub refusal : refusal_in j ≡ write_refusal h len r o c buffer
  pub end : IfOk j (λ e. e.0 ≡ write_end h.view (whole o) c)

-- a write of c at o: how many etypes it moved, and the file's record and its bytes after it
pub record WriteMade (h : PaperHandle) (before after : List ℕ) (r : FileRecord) (o : ℤ) (c : ℕ) (buffer : List ℕ) (a : Result WriteOutcome Refusal) : Type 0 where
  pub refusal : refusal_in a ≡ write_refusal h (length before) r o c (length buffer)
  pub count : IfOk a (λ w. w.count ≡ c)
  pub file : IfOk a (λ w. w.file ≡ with_size r (new_size h.view r.size (whole o) c))
  pub bytes : after ≡ granted (refusal_in a) (written h.view r.size (whole o) c buffer before) before
