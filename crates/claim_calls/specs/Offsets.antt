-- Must be believed. Document 01, "Moving data": where an access begins, and the handle after it.
use Rattle.std.specs.Prelude.{ℕ, ◌+◌, ℤ, pos}
use Rattle.file.specs.declared.Handle.{Handle}
use Rattle.file.specs.Handles.{with_pointer}
use Rattle.claim_calls.specs.declared.Begin.{Begin}
use Rattle.claim_calls.specs.declared.Begin.TheVariants.{Pointer, Explicit}
use Rattle.claim_calls.specs.declared.DataAccess.{DataAccess}

-- the offset of an access: its explicit one, or the pointer as the access found it
unfoldable pub begins_at : Handle → Begin → ℤ
begins_at h Pointer = pos h.pointer
begins_at h (Explicit o) = o.0

unfoldable pub offset_of : DataAccess → ℤ
offset_of a = begins_at a.handle a.begin

-- the handle after m etypes were moved: a call at the pointer raises it by m, one at an explicit offset does not touch it
unfoldable pub handle_after : Handle → Begin → ℕ → Handle
handle_after h Pointer m = with_pointer h (h.pointer + m)
handle_after h (Explicit o) m = h
