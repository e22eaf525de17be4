-- Need not be believed. What the contracts of inner functions cite: the calls cite call_checks/specs/Refusals.antt, and the proofs show that these make them up.
use Rattle.std.specs.Prelude.{ℕ, ◌*◌, Bool, cond, Option, Some, None, leb, ℤ}
use Rattle.laws.specs.Checks.{also}
use Rattle.view.specs.declared.View.{View}
use Rattle.view.specs.Types.{paper, whole}
use Rattle.handle.specs.declared.HandleRef.{HandleRef}
use Rattle.handle.specs.Handles.{PaperHandle}
use Rattle.handle.specs.Ranges.{target_allowed}

-- the handle of a mode, a pointer and a view's record
abbrev pub paper_handle : ℕ → ℕ → View → PaperHandle
paper_handle mode pointer v = record { mode = mode; pointer = pointer; view = paper v }

-- the handle on paper of one whose view is lent
abbrev pub lent_handle : HandleRef → PaperHandle
lent_handle h = paper_handle h.mode h.pointer h.view.now

-- check 13 of giving back, for n entries in the etype and k times as many in the filetype
unfoldable pub lists_long : ℕ → ℕ → ℕ → ℕ → ℕ → ℕ → Bool
lists_long n k ew ed fw fd = also (leb n ew) (also (leb n ed) (also (leb (k * n) fw) (leb (k * n) fd)))

-- where a seek of target t puts the pointer; none if it may not stand there
unfoldable pub target_at : ℤ → Option ℕ
target_at t = cond (target_allowed t) (Some (whole t)) None
