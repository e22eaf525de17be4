-- Must be believed. Document 01: what is claimed of open, set, giving back, place, end and seek, each by itself.
-- A refusal carries its number, count 0, any other number 0, and the handle and file record as they came; no lent list changes.
use Rattle.std.specs.Prelude.{ℕ, ◌+◌, ◌*◌, ◌/◌, ◌%◌, true, false, List, [], ◌∷◌, ◌≢◌, ◌⊎◌, ◌≡◌, ℤ, pos, length, take, drop}
use Rattle.laws.specs.Checks.{granted}
use Rattle.view.specs.Types.{PaperView, view_of_lists, Typemaps, extent_of, whole}
use Rattle.view.specs.Rules.{is_native, whole_groups, instances, origin, IsBuilt}
use Rattle.view.specs.Named.{named_numbers, Names}
use Rattle.view.specs.Acceptance.{IsAccepted}
use Rattle.view.specs.Parts.{end_of_file}
use Rattle.view.specs.End.{IsEnd}
use Rattle.view.specs.Overlap.{Shared}
use Rattle.handle.specs.declared.FileRecord.{FileRecord}
use Rattle.handle.specs.Handles.{handle_valid, file_valid}
use Rattle.call_checks.specs.Refusals.{open_refusal, set_view_refusal, get_view_refusal, byte_offset_refusal, reverse_refusal, end_refusal, seek_target, seek_refusal, read_refusal, write_refusal}
use Rattle.file.specs.declared.Handle.{Handle}
use Rattle.file.specs.declared.OpenAnswer.{OpenAnswer}
use Rattle.file.specs.declared.SetViewAnswer.{SetViewAnswer}
use Rattle.file.specs.declared.GetViewAnswer.{GetViewAnswer}
use Rattle.file.specs.declared.ByteOffsetAnswer.{ByteOffsetAnswer}
use Rattle.file.specs.declared.EndAnswer.{EndAnswer}
use Rattle.file.specs.declared.SeekAnswer.{SeekAnswer}
use Rattle.file.specs.Handles.{on_paper, view_of, mode_got, with_pointer}

-- ---- open

-- the linear byte stream: displacement 0, both types one entry of width 1 at 0 with extent 1
unfoldable pub byte_stream : PaperView
byte_stream = view_of_lists (pos 0) (1 ∷ []) (pos 0 ∷ []) (pos 1) (1 ∷ []) (pos 0 ∷ []) (pos 1)

-- every call refuses the handle with 1
pub record RefusedByAll (h : Handle) : Type 0 where
  pub set : (representation : List ℕ) (v : PaperView) → set_view_refusal (on_paper h) representation v ≡ 1
  pub get : (ew ed fw fd : ℕ) → get_view_refusal (on_paper h) ew ed fw fd ≡ 1
  pub place : (o : ℤ) → byte_offset_refusal (on_paper h) o ≡ 1
  pub reverse : reverse_refusal (on_paper h) ≡ 1
  pub end : (len : ℕ) (f : FileRecord) → end_refusal (on_paper h) len f ≡ 1
  pub seek : (len : ℕ) (f : FileRecord) (o : ℤ) (whence : ℕ) → seek_refusal (on_paper h) len f o whence ≡ 1
  pub read : (len : ℕ) (f : FileRecord) (o : ℤ) (c buffer : ℕ) → read_refusal (on_paper h) len f o c buffer ≡ 1
  pub write : (len : ℕ) (f : FileRecord) (o : ℤ) (c buffer : ℕ) → write_refusal (on_paper h) len f o c buffer ≡ 1

-- the default view is the linear byte stream, and the pointer is 0; a granted open has the mode got, a refused one mode 0
pub record Opened (asked : ℕ) (r : OpenAnswer) : Type 0 where
  pub number : r.refusal ≡ open_refusal asked
  pub count : r.count ≡ 0
  pub mode : r.handle.mode ≡ granted r.refusal (mode_got asked) 0
  pub pointer : r.handle.pointer ≡ 0
  pub view : view_of r.handle ≡ byte_stream
  pub refused : r.refusal ≢ 0 → RefusedByAll r.handle

-- ---- set

-- granted exactly if the handle passes check 1, the representation is `native`, and the view keeps the limits and rules for the handle's mode; the handle then has the lent view and pointer 0, and its mode stays.
-- A refusal names what order 1 says. 17 is given only where the entry count is no multiple of the etype's, and what is refused with 9 or 10 is built of the etype. Where 10 is given, some file byte belongs to two pairs (order 3). 8 is given no more
pub record ViewSet (h : Handle) (representation : List ℕ) (v : PaperView) (r : SetViewAnswer) : Type 0 where
  pub number : r.refusal ≡ set_view_refusal (on_paper h) representation v
  pub count : r.count ≡ 0
  pub refused : r.refusal ≢ 0 → r.handle ≡ h
  pub rules : r.refusal ≡ 0 → (handle_valid (on_paper h) ≡ true) × ((is_native representation ≡ true) × IsAccepted h.mode v)
  pub only : handle_valid (on_paper h) ≡ true → is_native representation ≡ true → IsAccepted h.mode v → r.refusal ≡ 0
  pub names : Names v r.refusal (named_numbers r.named)
  pub multiple : r.refusal ≡ 17 → whole_groups v ≡ false
  pub groups : (r.refusal ≡ 9) ⊎ (r.refusal ≡ 10) → IsBuilt v
  pub shared : r.refusal ≡ 10 → Shared v
  pub never_8 : r.refusal ≢ 8
  pub view : r.refusal ≡ 0 → view_of r.handle ≡ v
  pub pointer : r.refusal ≡ 0 → r.handle.pointer ≡ 0
  pub mode : r.refusal ≡ 0 → r.handle.mode ≡ h.mode

-- ---- giving back

-- a lent list begins with exactly this list, and what lies after the used places stays
pub record IsFilled {A : Type 0} (list before after : List A) : Type 0 where
  pub got : take (length list) after ≡ list
  pub rest : drop (length list) after ≡ drop (length list) before

-- a view was given back: its displacement, both entry counts and extents, and the four lists
pub record IsGot (v : PaperView) (before after : Typemaps) (r : GetViewAnswer) : Type 0 where
  pub displacement : pos r.displacement ≡ v.displacement
  pub counts : (r.etype.entries ≡ length v.etype.widths) × (r.filetype.entries ≡ length v.filetype.widths)
  pub extents : (pos r.etype.extent ≡ v.etype.extent) × (pos r.filetype.extent ≡ v.filetype.extent)
  pub etype_widths : IsFilled v.etype.widths before.etype_widths after.etype_widths
  pub etype_displacements : IsFilled v.etype.displacements before.etype_displacements after.etype_displacements
  pub filetype_widths : IsFilled v.filetype.widths before.filetype_widths after.filetype_widths
  pub filetype_displacements : IsFilled v.filetype.displacements before.filetype_displacements after.filetype_displacements

-- a granted one gives the handle's view back; a refused one tells nothing and leaves the lists
pub record ViewGot (h : Handle) (before after : Typemaps) (r : GetViewAnswer) : Type 0 where
  pub number : r.refusal ≡ get_view_refusal (on_paper h) (length before.etype_widths) (length before.etype_displacements) (length before.filetype_widths) (length before.filetype_displacements)
  pub count : r.count ≡ 0
  pub handle : r.handle ≡ h
  pub got : r.refusal ≡ 0 → IsGot (view_of h) before after r
  pub numbers : r.refusal ≢ 0 → r ≡ record { refusal = r.refusal; count = 0; handle = h; displacement = 0; etype = record { entries = 0; extent = 0 }; filetype = record { entries = 0; extent = 0 } }
  pub lists : r.refusal ≢ 0 → after ≡ before

-- ---- place, end, seek

-- the etype at offset o begins at D + (o div K)·F + p(o mod K)
pub record PlaceAnswered (h : Handle) (o : ℤ) (r : ByteOffsetAnswer) : Type 0 where
  pub number : r.refusal ≡ byte_offset_refusal (on_paper h) o
  pub count : r.count ≡ 0
  pub handle : r.handle ≡ h
  pub place : r.place.0 ≡ granted r.refusal (whole (view_of h).displacement + whole o / instances (view_of h) * extent_of (view_of h).filetype + origin (view_of h) (whole o % instances (view_of h))) 0

-- the smallest offset such that no etype at it or later begins below the size
pub record EndAnswered (h : Handle) (len : ℕ) (f : FileRecord) (r : EndAnswer) : Type 0 where
  pub number : r.refusal ≡ end_refusal (on_paper h) len f
  pub end : r.refusal ≡ 0 → (k : ℕ) × ((r.end.0 ≡ pos k) × IsEnd (view_of h) f.size k)
  pub rest : r ≡ record { refusal = r.refusal; count = 0; handle = h; file = f; end = r.end }
  pub refused : r.refusal ≢ 0 → r.end.0 ≡ pos 0

-- the pointer becomes the target; what whence 2 adds to is the end of file
pub record SeekAnswered (h : Handle) (len : ℕ) (f : FileRecord) (o : ℤ) (whence : ℕ) (r : SeekAnswer) : Type 0 where
  pub number : r.refusal ≡ seek_refusal (on_paper h) len f o whence
  pub end : file_valid (on_paper h) len f ≡ true → IsEnd (view_of h) f.size (end_of_file (view_of h) f.size)
  pub pointer : r.refusal ≡ 0 → pos r.handle.pointer ≡ seek_target (on_paper h) f o whence
  pub rest : r ≡ record { refusal = r.refusal; count = 0; handle = with_pointer h r.handle.pointer; file = f }
  pub refused : r.refusal ≢ 0 → r.handle ≡ h
