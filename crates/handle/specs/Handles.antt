-- Must be believed. Document 01: a handle on paper, check 1, and a file record after a write.
use Rattle.std.specs.Prelude.{ℕ, Bool}
use Rattle.laws.specs.Checks.{also}
use Rattle.view.specs.Limits.{pointer_allowed, file_allowed}
use Rattle.view.specs.Modes.{mode_allowed}
use Rattle.view.specs.Types.{PaperView}
use Rattle.view.specs.Acceptance.{accepted}
use Rattle.handle.specs.declared.FileRecord.{FileRecord}

-- a handle on paper: the mode of the open, the individual file pointer and the view
pub record PaperHandle : Type 0 where
  pub mode : ℕ
  pub pointer : ℕ
  pub view : PaperView

-- check 1 where the file is not looked at: the mode is 1 to 3, and pointer and view break no rule
unfoldable pub handle_valid : PaperHandle → Bool
handle_valid h = also (mode_allowed h.mode) (also (pointer_allowed h.pointer) (accepted h.mode h.view))

-- check 1 where it is: nor does the file, of this length, break its limits
unfoldable pub file_valid : PaperHandle → ℕ → FileRecord → Bool
file_valid h len r = also (handle_valid h) (file_allowed len r.size)

-- the file record with another size
unfoldable pub with_size : FileRecord → ℕ → FileRecord
with_size r size = record { size = size }
