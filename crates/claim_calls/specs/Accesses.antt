-- Must be believed. Document 01, "Moving data": what is claimed of one write and of one read, each at an explicit offset or at the pointer.
-- `made` is the contract of the call itself, which need not be believed.
use Rattle.std.specs.Prelude.{ℕ, List, ◌≢◌, ◌≡◌, length}
use Rattle.view.specs.Types.{whole}
use Rattle.handle.specs.Handles.{with_size}
use Rattle.move_read.specs.Moves.{IsMoved, IsRead, IsWriteEnd, IsNewSize, IsWritten}
use Rattle.move_read.specs.Parts.{write_end}
use Rattle.call_checks.specs.Refusals.{read_refusal, write_refusal}
use Rattle.file.specs.declared.AccessAnswer.{AccessAnswer}
use Rattle.file.specs.Handles.{on_paper, view_of}
use Rattle.claim_calls.specs.declared.DataAccess.{DataAccess}
use Rattle.claim_calls.specs.Offsets.{offset_of, handle_after}
use Rattle.claim_calls.specs.Parts.{WriteCalled, ReadCalled}

-- a refused access: its number, count 0, handle and file record as they came
abbrev pub IsRefused : DataAccess → AccessAnswer → Type 0
IsRefused a r = r ≡ record { refusal = r.refusal; count = 0; handle = a.handle; file = a.file }

-- a write: the end by which check 14 goes is that of the highest byte; a granted one moves all c, changes the record's size alone, to the new size, and sets exactly the mapped bytes, with zeros between old and new size
pub record Written (a : DataAccess) (before after buffer : List ℕ) (r : AccessAnswer) : Type 0 where
  pub made : WriteCalled a before after buffer r
  pub number : r.refusal ≡ write_refusal (on_paper a.handle) (length before) a.file (offset_of a) a.count (length buffer)
  pub highest : IsWriteEnd (view_of a.handle) (whole (offset_of a)) a.count (write_end (view_of a.handle) (whole (offset_of a)) a.count)
  pub refused : r.refusal ≢ 0 → IsRefused a r × (after ≡ before)
  pub count : r.refusal ≡ 0 → r.count ≡ a.count
  pub handle : r.refusal ≡ 0 → r.handle ≡ handle_after a.handle a.begin r.count
  pub file : r.refusal ≡ 0 → r.file ≡ with_size a.file r.file.size
  pub size : r.refusal ≡ 0 → IsNewSize (view_of a.handle) a.file.size (whole (offset_of a)) a.count r.file.size
  pub bytes : r.refusal ≡ 0 → IsWritten (view_of a.handle) a.file.size r.file.size (whole (offset_of a)) a.count buffer before after

-- a read: a granted one's count is the number moved; the buffer begins with the data, and the rest of it stays
pub record HasRead (a : DataAccess) (bytes before after : List ℕ) (r : AccessAnswer) : Type 0 where
  pub made : ReadCalled a bytes before after r
  pub number : r.refusal ≡ read_refusal (on_paper a.handle) (length bytes) a.file (offset_of a) a.count (length before)
  pub refused : r.refusal ≢ 0 → IsRefused a r × (after ≡ before)
  pub count : r.refusal ≡ 0 → IsMoved (view_of a.handle) a.file.size (whole (offset_of a)) a.count r.count
  pub handle : r.refusal ≡ 0 → r.handle ≡ handle_after a.handle a.begin r.count
  pub file : r.file ≡ a.file
  pub buffer : r.refusal ≡ 0 → IsRead (view_of a.handle) bytes (whole (offset_of a)) r.count before after
