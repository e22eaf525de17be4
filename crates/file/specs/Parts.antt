-- Need not be believed. The whole answer of each call, and what it leaves in everything lent, as the contracts of the calls have them: the claims of `claim_calls` and `claim_write` have the properties.
-- A refusal carries its number, count 0, any other number 0, and the handle and file record as they came; nothing lent changes.
use Rattle.std.specs.Prelude.{ℕ, ◌+◌, cond, None, List, ◌≡◌, ℤ, pos, length}
use Rattle.laws.specs.Checks.{granted}
use Rattle.view.specs.declared.Named.{Named}
use Rattle.view.specs.declared.View.{View}
use Rattle.view.specs.Limits.{pointer_allowed}
use Rattle.view.specs.Parts.{named_by, record_of, owner_of, end_of_file, default_view}
use Rattle.view.specs.Places.{place}
use Rattle.view.specs.Types.{PaperType, PaperView, entries, extent_of, whole, Typemaps}
use Rattle.view_typemap.specs.Parts.{widths_filled, displacements_filled}
use Rattle.handle.specs.Handles.{with_size}
use Rattle.handle.specs.declared.FileRecord.{FileRecord}
use Rattle.move_read.specs.Parts.{moved, read_into, new_size, written}
use Rattle.call_checks.specs.Refusals.{open_refusal, set_view_refusal, get_view_refusal, byte_offset_refusal, reverse_refusal, end_refusal, seek_target, seek_refusal, read_refusal, write_refusal}
use Rattle.file.specs.declared.AccessAnswer.{AccessAnswer}
use Rattle.file.specs.declared.ByteOffsetAnswer.{ByteOffsetAnswer}
use Rattle.file.specs.declared.EndAnswer.{EndAnswer}
use Rattle.file.specs.declared.GetViewAnswer.{GetViewAnswer}
use Rattle.file.specs.declared.Handle.{Handle}
use Rattle.file.specs.declared.OpenAnswer.{OpenAnswer}
use Rattle.file.specs.declared.ReverseAnswer.{ReverseAnswer}
use Rattle.file.specs.declared.SeekAnswer.{SeekAnswer}
use Rattle.file.specs.declared.SetViewAnswer.{SetViewAnswer}
use Rattle.file.specs.declared.TypeShape.{TypeShape}
use Rattle.file.specs.Handles.{on_paper, view_of, mode_got, with_pointer}

-- ---- handles

-- a handle with the default view and pointer 0
unfoldable pub fresh_handle : ℕ → Handle
fresh_handle mode = record { mode = mode; pointer = 0; view = default_view }

-- the handle after a successful set: the new view, pointer 0
unfoldable pub with_view : Handle → View → Handle
with_view h v = record { mode = h.mode; pointer = 0; view = v }

-- ---- open: the default view, pointer 0 and the mode got; a refused one has mode 0

unfoldable pub open_answer : ℕ → OpenAnswer
open_answer mode =
    let n = open_refusal mode in
    record { refusal = n; count = 0; handle = fresh_handle (granted n (mode_got mode) 0) }

-- ---- set: the view, and pointer 0; a refusal may name an entry

unfoldable pub set_view_answer : Handle → List ℕ → PaperView → SetViewAnswer
set_view_answer h representation v =
    let n = set_view_refusal (on_paper h) representation v in
    record { refusal = n; count = 0; handle = granted n (with_view h (record_of v)) h; named = named_by v n }

-- ---- giving back: four lists, both entry counts, both extents, the displacement

-- entry count and extent of a type, 0 if refused
unfoldable pub shape_got : ℕ → PaperType → TypeShape
shape_got n t = record { entries = granted n (entries t) 0; extent = granted n (extent_of t) 0 }

-- the answer with refusal number n
unfoldable pub get_view_as : ℕ → Handle → GetViewAnswer
get_view_as n h = record {
  refusal = n;
  count = 0;
  handle = h;
  displacement = granted n (whole (view_of h).displacement) 0;
  etype = shape_got n (view_of h).etype;
  filetype = shape_got n (view_of h).filetype;
}

-- by the lengths of the four lent lists
unfoldable pub get_view_answer : Handle → ℕ → ℕ → ℕ → ℕ → GetViewAnswer
get_view_answer h ew ed fw fd = get_view_as (get_view_refusal (on_paper h) ew ed fw fd) h

-- the whole of a giving back: the answer, and the four lists after it
pub record GetViewDone (h : Handle) (before after : Typemaps) (r : GetViewAnswer) : Type 0 where
  pub answer : r ≡ get_view_answer h (length before.etype_widths) (length before.etype_displacements) (length before.filetype_widths) (length before.filetype_displacements)
  pub etype_widths : after.etype_widths ≡ widths_filled r.refusal (view_of h).etype before.etype_widths
  pub etype_displacements : after.etype_displacements ≡ displacements_filled r.refusal (view_of h).etype before.etype_displacements
  pub filetype_widths : after.filetype_widths ≡ widths_filled r.refusal (view_of h).filetype before.filetype_widths
  pub filetype_displacements : after.filetype_displacements ≡ displacements_filled r.refusal (view_of h).filetype before.filetype_displacements

-- ---- place, reverse, end

unfoldable pub byte_offset_answer : Handle → ℤ → ByteOffsetAnswer
byte_offset_answer h o =
    let n = byte_offset_refusal (on_paper h) o in
    record { refusal = n; count = 0; handle = h; place = record { 0 = granted n (place (view_of h) (whole o)) 0 } }

unfoldable pub reverse_answer : Handle → ℕ → ReverseAnswer
reverse_answer h b =
    let n = reverse_refusal (on_paper h) in
    record { refusal = n; count = 0; handle = h; owner = granted n (owner_of (view_of h) b) None }

unfoldable pub end_answer : Handle → ℕ → FileRecord → EndAnswer
end_answer h len r =
    let n = end_refusal (on_paper h) len r in
    record { refusal = n; count = 0; handle = h; file = r; end = record { 0 = pos (granted n (end_of_file (view_of h) r.size) 0) } }

-- ---- seek: the pointer becomes the target

unfoldable pub seek_answer : Handle → ℕ → FileRecord → ℤ → ℕ → SeekAnswer
seek_answer h len r o whence =
    let n = seek_refusal (on_paper h) len r o whence in
    record { refusal = n; count = 0; handle = granted n (with_pointer h (whole (seek_target (on_paper h) r o whence))) h; file = r }

-- ---- accesses

-- one at the pointer answers as the explicit one there does, and raises the pointer by the number moved
unfoldable pub at_pointer : Handle → AccessAnswer → AccessAnswer
at_pointer h a = record { refusal = a.refusal; count = a.count; handle = granted a.refusal (with_pointer h (h.pointer + a.count)) h; file = a.file }

-- a read of c at o, and the buffer after it
unfoldable pub read_count : Handle → ℕ → FileRecord → ℤ → ℕ → ℕ → ℕ
read_count h len r o c buffer = granted (read_refusal (on_paper h) len r o c buffer) (moved (view_of h) r.size (whole o) c) 0

unfoldable pub read_at_answer : Handle → ℕ → FileRecord → ℤ → ℕ → ℕ → AccessAnswer
read_at_answer h len r o c buffer = record { refusal = read_refusal (on_paper h) len r o c buffer; count = read_count h len r o c buffer; handle = h; file = r }

unfoldable pub read_buffer : Handle → List ℕ → FileRecord → ℤ → ℕ → List ℕ → List ℕ
read_buffer h file r o c buffer =
    let a = read_at_answer h (length file) r o c (length buffer) in
    granted a.refusal (read_into (view_of h) file (whole o) a.count buffer) buffer

pub record ReadAt (h : Handle) (file : List ℕ) (r : FileRecord) (o : ℤ) (c : ℕ) (before after : List ℕ) (a : AccessAnswer) : Type 0 where
  pub answer : a ≡ read_at_answer h (length file) r o c (length before)
  pub buffer : after ≡ read_buffer h file r o c before

-- a write of c at o, and the file's bytes after it
unfoldable pub write_at_answer : Handle → ℕ → FileRecord → ℤ → ℕ → ℕ → AccessAnswer
write_at_answer h len r o c buffer =
    let n = write_refusal (on_paper h) len r o c buffer in
    record { refusal = n; count = granted n c 0; handle = h; file = granted n (with_size r (new_size (view_of h) r.size (whole o) c)) r }

unfoldable pub written_file : Handle → List ℕ → FileRecord → ℤ → ℕ → List ℕ → List ℕ
written_file h file r o c buffer =
    let a = write_at_answer h (length file) r o c (length buffer) in
    granted a.refusal (written (view_of h) r.size (whole o) c buffer file) file

pub record WriteAt (h : Handle) (before after : List ℕ) (r : FileRecord) (o : ℤ) (c : ℕ) (buffer : List ℕ) (a : AccessAnswer) : Type 0 where
  pub answer : a ≡ write_at_answer h (length before) r o c (length buffer)
  pub bytes : after ≡ written_file h before r o c buffer

-- the same at the pointer
pub record ReadNext (h : Handle) (file : List ℕ) (r : FileRecord) (c : ℕ) (before after : List ℕ) (a : AccessAnswer) : Type 0 where
  pub answer : a ≡ at_pointer h (read_at_answer h (length file) r (pos h.pointer) c (length before))
  pub buffer : after ≡ read_buffer h file r (pos h.pointer) c before

pub record WriteNext (h : Handle) (before after : List ℕ) (r : FileRecord) (c : ℕ) (buffer : List ℕ) (a : AccessAnswer) : Type 0 where
  pub answer : a ≡ at_pointer h (write_at_answer h (length before) r (pos h.pointer) c (length buffer))
  pub bytes : after ≡ written_file h before r (pos h.pointer) c buffer

-- ---- what inner functions answer

-- the answers of an open and of a set
abbrev pub open_as : ℕ → Handle → OpenAnswer
open_as n h = record { refusal = n; count = 0; handle = h }

abbrev pub set_view_as : ℕ → Handle → Named → SetViewAnswer
set_view_as n h named = record { refusal = n; count = 0; handle = h; named = named }

-- a refused seek, and a refused access
abbrev pub seek_refused : ℕ → Handle → FileRecord → SeekAnswer
seek_refused n h r = record { refusal = n; count = 0; handle = h; file = r }

abbrev pub access_refused : ℕ → Handle → FileRecord → AccessAnswer
access_refused n h r = record { refusal = n; count = 0; handle = h; file = r }

-- the offset at which a pointer access begins; 0 for a pointer that check 1 refuses
unfoldable pub pointer_offset : Handle → ℤ
pointer_offset h = cond (pointer_allowed h.pointer) (pos h.pointer) (pos 0)
