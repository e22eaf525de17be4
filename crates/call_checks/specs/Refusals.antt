-- Must be believed. Document 01, "Refusal numbers", and document 02, order 1: for each call its checks in its order. A list, a buffer and a file come as their lengths.
use Rattle.std.specs.Prelude.{ℕ, ◌*◌, Bool, cond, List, leb, eqb, ℤ, pos, ◌+ℤ◌}
use Rattle.laws.specs.Checks.{also, check}
use Rattle.view.specs.Limits.{offset_allowed}
use Rattle.view.specs.Modes.{allows_reading, allows_writing}
use Rattle.view.specs.Types.{PaperView, entries, whole}
use Rattle.view.specs.Acceptance.{set_refusal}
use Rattle.view.specs.Places.{data_size}
use Rattle.view.specs.Parts.{end_of_file}
use Rattle.handle.specs.declared.FileRecord.{FileRecord}
use Rattle.handle.specs.Ranges.{target_allowed, access_allowed}
use Rattle.handle.specs.Handles.{PaperHandle, handle_valid, file_valid}
use Rattle.move_read.specs.Parts.{write_end}

-- open: 16 only
unfoldable pub open_refusal : ℕ → ℕ
open_refusal mode = check (leb mode 3) 16 0

-- set: 1 to 10, with 17 to 19 in the place of 8 (document 02, order 1), the file not being looked at
unfoldable pub set_view_refusal : PaperHandle → List ℕ → PaperView → ℕ
set_view_refusal h representation v = check (handle_valid h) 1 (set_refusal h.mode representation v)

-- giving back: 1, 13; each list against its own entry count
unfoldable pub get_view_refusal : PaperHandle → ℕ → ℕ → ℕ → ℕ → ℕ
get_view_refusal h etype_widths etype_displacements filetype_widths filetype_displacements =
    let n = entries h.view.etype in
    let m = entries h.view.filetype in
    check (handle_valid h) 1
    (check (also (leb n etype_widths) (also (leb n etype_displacements) (also (leb m filetype_widths) (leb m filetype_displacements)))) 13
    0)

-- place: 1, 12
unfoldable pub byte_offset_refusal : PaperHandle → ℤ → ℕ
byte_offset_refusal h o = check (handle_valid h) 1 (check (offset_allowed o) 12 0)

-- reverse: 1, 11
unfoldable pub reverse_refusal : PaperHandle → ℕ
reverse_refusal h = check (handle_valid h) 1 (check (allows_writing h.mode) 11 0)

-- end: 1
unfoldable pub end_refusal : PaperHandle → ℕ → FileRecord → ℕ
end_refusal h len r = check (file_valid h len r) 1 0

-- seek's target: whence 0 sets, 1 adds to the pointer, 2 adds to the end of file
unfoldable pub seek_target : PaperHandle → FileRecord → ℤ → ℕ → ℤ
seek_target h r o whence =
    cond (eqb whence 0) o
    (cond (eqb whence 1) (pos h.pointer +ℤ o)
    (pos (end_of_file h.view r.size) +ℤ o))

-- seek: 1, 15, 12; the file is looked at for every whence
unfoldable pub seek_refusal : PaperHandle → ℕ → FileRecord → ℤ → ℕ → ℕ
seek_refusal h len r o whence =
    check (file_valid h len r) 1
    (check (leb whence 2) 15
    (check (target_allowed (seek_target h r o whence)) 12
    0))

-- an access that the mode allows or not: 1, 11, 12, 13, and then the later checks
unfoldable pub access_refusal : Bool → PaperHandle → ℕ → FileRecord → ℤ → ℕ → ℕ → ℕ → ℕ
access_refusal allowed h len r o c buffer later =
    check (file_valid h len r) 1
    (check allowed 11
    (check (access_allowed o c) 12
    (check (leb (c * data_size h.view) buffer) 13
    later)))

-- read: 1, 11, 12, 13
unfoldable pub read_refusal : PaperHandle → ℕ → FileRecord → ℤ → ℕ → ℕ → ℕ
read_refusal h len r o c buffer = access_refusal (allows_reading h.mode) h len r o c buffer 0

-- write: 1, 11, 12, 13, 14; the highest byte lies below the file length
unfoldable pub write_refusal : PaperHandle → ℕ → FileRecord → ℤ → ℕ → ℕ → ℕ
write_refusal h len r o c buffer =
    access_refusal (allows_writing h.mode) h len r o c buffer
    (check (leb (write_end h.view (whole o) c) len) 14
    0)
