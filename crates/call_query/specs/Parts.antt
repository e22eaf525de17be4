-- Need not be believed. What the functions of this crate answer: the answers of the calls, file/specs/Parts.antt, are shown to be made up of these.
use Rattle.std.specs.Prelude.{ℕ, Option, Result, IfOk, cond, List, ◌≡◌, eqb, ℤ, pos, length}
use Rattle.view.specs.declared.View.{View}
use Rattle.view.specs.declared.BytePos.{BytePos}
use Rattle.view.specs.declared.Offset.{Offset}
use Rattle.view.specs.declared.Pair.{Pair}
use Rattle.view.specs.declared.refusals.Refusal.{Refusal}
use Rattle.view.specs.Parts.{refusal_in, owner_of, end_of_file}
use Rattle.view.specs.Types.{whole}
use Rattle.view.specs.Places.{place}
use Rattle.view_place.specs.Parts.{end_on}
use Rattle.view_typemap.specs.Parts.{widths_filled, displacements_filled}
use Rattle.handle.specs.declared.FileRecord.{FileRecord}
use Rattle.handle.specs.Handles.{PaperHandle}
use Rattle.call_checks.specs.Refusals.{get_view_refusal, byte_offset_refusal, reverse_refusal, end_refusal, seek_target, seek_refusal}

pub record PlaceFound (h : PaperHandle) (o : ℤ) (r : Result BytePos Refusal) : Type 0 where
  pub refusal : refusal_in r ≡ byte_offset_refusal h o
  pub place : IfOk r (λ p. p.0 ≡ place h.view (whole o))

pub record OwnerFound (h : PaperHandle) (b : ℕ) (r : Result (Option Pair) Refusal) : Type 0 where
  pub refusal : refusal_in r ≡ reverse_refusal h
  pub owner : IfOk r (λ o. o ≡ owner_of h.view b)

pub record EndFound (h : PaperHandle) (len : ℕ) (f : FileRecord) (r : Result Offset Refusal) : Type 0 where
  pub refusal : refusal_in r ≡ end_refusal h len f
  pub end : IfOk r (λ e. e.0 ≡ pos (end_of_file h.view f.size))

-- what a seek adds its offset to: nothing, the pointer or the end of file
unfoldable pub base_on : ℕ → View → FileRecord → ℕ → ℕ
base_on pointer v r whence = cond (eqb whence 0) 0 (cond (eqb whence 1) pointer (end_on v.numbers v.origins r.size))

-- a seek, and where it puts the pointer
pub record Sought (h : PaperHandle) (len : ℕ) (f : FileRecord) (by : ℤ) (whence : ℕ) (r : Result ℕ Refusal) : Type 0 where
  pub refusal : refusal_in r ≡ seek_refusal h len f by whence
  pub pointer : IfOk r (λ p. p ≡ whole (seek_target h f by whence))

-- a giving back with refusal number n, and the four lists after it
pub record ListsGot (h : PaperHandle) (ew ew' : List ℕ) (ed ed' : List ℤ) (fw fw' : List ℕ) (fd fd' : List ℤ) (n : ℕ) : Type 0 where
  pub refusal : n ≡ get_view_refusal h (length ew) (length ed) (length fw) (length fd)
  pub etype_widths : ew' ≡ widths_filled n h.view.etype ew
  pub etype_displacements : ed' ≡ displacements_filled n h.view.etype ed
  pub filetype_widths : fw' ≡ widths_filled n h.view.filetype fw
  pub filetype_displacements : fd' ≡ displacements_filled n h.view.filetype fd
