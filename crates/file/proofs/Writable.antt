-- A write: its answers at an offset and at the pointer, from what the access on its numbers answers.
use Rattle.laws.proofs.Prelude.{ℕ, ◌+◌, ◌<◌, ◌≡◌, refl, sym, ap, ◌∙◌, List, arith, length, ℤ, pos, w64, Fits, granted, check_no, granted_yes, granted_no}
use Rattle.std.proofs.Common.{Ok, Err}
use Rattle.view.specs.declared.Offset.{Offset}
use Rattle.view.specs.declared.View.{View}
use Rattle.view.specs.declared.refusals.Refusal.{Refusal}
use Rattle.view.specs.Parts.{refusal_in, refusal_number}
use Rattle.view.proofs.Numbered.{refused_some}
use Rattle.view.specs.Types.{whole}
use Rattle.handle.specs.declared.FileRecord.{FileRecord}
use Rattle.handle.specs.Parts.{paper_handle}
use Rattle.handle.specs.Handles.{PaperHandle, with_size}
use Rattle.handle.proofs.Ranging.{access_sum}
use Rattle.move_read.specs.Parts.{new_size, written}
use Rattle.call_checks.specs.Refusals.{access_refusal, write_refusal}
use Rattle.call_checks.proofs.Handles.{past_file, file_pointer}
use Rattle.call_access.specs.declared.WriteOutcome.{WriteOutcome}
use Rattle.call_access.specs.Parts.{WriteMade}
use Rattle.call_access.proofs.Writing.{checked}
use Rattle.file.specs.declared.Handle.{Handle}
use Rattle.file.specs.declared.AccessAnswer.{AccessAnswer}
use Rattle.file.specs.Handles.{on_paper, view_of}
use Rattle.file.specs.Parts.{pointer_offset, access_refused, at_pointer, write_at_answer, written_file, WriteAt, WriteNext}
use Rattle.file.proofs.Checking.{start_same, pointer_stays, pointer_raised}

-- ---- a write by its refusal number, how many etypes it moved, and the file's record after it

pub record WriteTold (h : PaperHandle) (before after : List ℕ) (r : FileRecord) (o : ℤ) (c : ℕ) (buffer : List ℕ) (n k : ℕ) (f : FileRecord) : Type 0 where
  pub refusal : n ≡ write_refusal h (length before) r o c (length buffer)
  pub count : k ≡ granted n c 0
  pub file : f ≡ granted n (with_size r (new_size h.view r.size (whole o) c)) r
  pub bytes : after ≡ granted n (written h.view r.size (whole o) c buffer before) before

module _ (h : PaperHandle) (before after : List ℕ) (r : FileRecord) (o : ℤ) (c : ℕ) (buffer : List ℕ) where
  told_ok : (w : WriteOutcome) → WriteMade h before after r o c buffer (Ok w) → WriteTold h before after r o c buffer 0 w.count w.file
  unfolding refusal_in granted
  told_ok w d = record { refusal = d.refusal; count = d.count; file = d.file; bytes = d.bytes }

  told_err : (e : Refusal) → WriteMade h before after r o c buffer (Err e) → WriteTold h before after r o c buffer (refusal_number e) 0 r
  unfolding refusal_in
  told_err e d = record {
    refusal = d.refusal;
    count = sym (granted_no _ c 0 (refused_some ℕ e));
    file = sym (granted_no _ _ r (refused_some ℕ e));
    bytes = d.bytes;
  }

-- ---- at an offset

module _ (h : Handle) (file after : List ℕ) (r : FileRecord) (o : ℤ) (c : ℕ) (buf : List ℕ) (n k : ℕ) (f : FileRecord) (write : WriteTold (on_paper h) file after r o c buf n k f) where
  pub at_answered : WriteAt h file after r o c buf (record { refusal = n; count = k; handle = h; file = f })
  unfolding write_at_answer written_file
  at_answered = record {
    answer = λ i. record {
      refusal = write.refusal i;
      count = (write.count ∙ ap (λ (x : ℕ). granted x c 0) write.refusal) i;
      handle = h;
      file = (write.file ∙ ap (λ (x : ℕ). granted x (with_size r (new_size (view_of h) r.size (whole o) c)) r) write.refusal) i;
    };
    bytes = write.bytes ∙ ap (λ (x : ℕ). granted x (written (view_of h) r.size (whole o) c buf file) file) write.refusal;
  }

  pub at_none : (n ≡ 0 → ⊥) → k ≡ 0
  at_none z = write.count ∙ granted_no n c 0 z

-- ---- at the pointer

-- check 1 bounds the pointer, check 12 the count
pub pointer_fits : (h : Handle) (g : PaperHandle) (l : g ≡ on_paper h) (file after : List ℕ) (r : FileRecord) (o : ℤ) (c : ℕ) (buf : List ℕ) (w : WriteOutcome) → WriteMade g file after r o c buf (Ok w) → Fits w64 (h.pointer + w.count)
unfolding refusal_in
pointer_fits h g l file after r o c buf w k =
    let made : WriteMade (on_paper h) file after r o c buf (Ok w) = rw l at k in
    let y = sym made.refusal in
    let j = checked (on_paper h) (length file) r o c (length buf) y in
    let count : w.count ≡ c = made.count in
    record { fits = omega (arith, file_pointer (on_paper h) (length file) r j.valid, access_sum o c j.range, count) }

module _ (h : Handle) (file : List ℕ) (r : FileRecord) (c : ℕ) (buf : List ℕ) where
  -- check 1 refuses a pointer that is no offset, whatever the offset
  past_refused : 4294967296 < h.pointer → (o : ℤ) → write_refusal (on_paper h) (length file) r o c (length buf) ≡ 1
  unfolding write_refusal access_refusal
  past_refused l o = sym (check_no _ 1 _ 1 (past_file (on_paper h) (length file) r l) refl)

  start_answer : write_at_answer h (length file) r (pointer_offset h) c (length buf) ≡ write_at_answer h (length file) r (pos h.pointer) c (length buf)
  unfolding write_at_answer granted
  start_answer = start_same h (λ (z : ℤ). write_at_answer h (length file) r z c (length buf)) (λ l a b. rw (past_refused l a, past_refused l b))

  start_bytes : written_file h file r (pointer_offset h) c buf ≡ written_file h file r (pos h.pointer) c buf
  unfolding written_file write_at_answer granted
  start_bytes = start_same h (λ (z : ℤ). written_file h file r z c buf) (λ l a b. rw (past_refused l a, past_refused l b))

  module _ (after : List ℕ) (n k : ℕ) (f : FileRecord) (b : Offset) (e : b.0 ≡ pointer_offset h) (made : WriteTold (on_paper h) file after r b.0 c buf n k f) where
    at : WriteAt h file after r b.0 c buf (record { refusal = n; count = k; handle = h; file = f })
    at = at_answered h file after r b.0 c buf n k f made

    answer_is : record { refusal = n; count = k; handle = h; file = f } ≡ write_at_answer h (length file) r (pos h.pointer) c (length buf)
    answer_is = at.answer ∙ ap (λ (z : ℤ). write_at_answer h (length file) r z c (length buf)) e ∙ start_answer

    bytes_are : after ≡ written_file h file r (pos h.pointer) c buf
    bytes_are = at.bytes ∙ ap (λ (z : ℤ). written_file h file r z c buf) e ∙ start_bytes

    told_refused : (n ≡ 0 → ⊥) → (m : AccessAnswer) → m ≡ access_refused n h f → WriteNext h file after r c buf m
    told_refused z m q = record { answer = q ∙ pointer_stays h n k f z (at_none h file after r b.0 c buf n k f made z) ∙ ap (at_pointer h) answer_is; bytes = bytes_are }

    module _ (z : n ≡ 0) where
      count_is : k ≡ c
      count_is = made.count ∙ granted_yes n c 0 z

      told_done : WriteNext h file after r c buf (record { refusal = 0; count = c; handle = record { mode = h.mode; pointer = h.pointer + c; view = h.view }; file = f })
      told_done = record { answer = pointer_raised h n c f z ∙ ap (λ (x : ℕ). at_pointer h (record { refusal = n; count = x; handle = h; file = f })) (sym count_is) ∙ ap (at_pointer h) answer_is; bytes = bytes_are }

-- ---- by what the access answers

module _ (h : Handle) (g : PaperHandle) (l : g ≡ on_paper h) (file after : List ℕ) (r : FileRecord) (c : ℕ) (buf : List ℕ) where
  module _ (o : ℤ) where
    pub at_written : (w : WriteOutcome) → WriteMade g file after r o c buf (Ok w) → WriteAt h file after r o c buf (record { refusal = 0; count = w.count; handle = h; file = w.file })
    at_written w d = at_answered h file after r o c buf 0 w.count w.file (told_ok _ file after r o c buf w (rw l at d))

    pub at_refused : (e : Refusal) → WriteMade g file after r o c buf (Err e) → (a : AccessAnswer) → a ≡ access_refused (refusal_number e) h r → WriteAt h file after r o c buf a
    at_refused e d a q = rw q (at_answered h file after r o c buf (refusal_number e) 0 r (told_err _ file after r o c buf e (rw l at d)))

  module _ (b : Offset) (s : b.0 ≡ pointer_offset h) where
    pub next_written : (w : WriteOutcome) → WriteMade g file after r b.0 c buf (Ok w) → WriteNext h file after r c buf (record { refusal = 0; count = w.count; handle = record { mode = h.mode; pointer = h.pointer + w.count; view = h.view }; file = w.file })
    next_written w d =
        let count : w.count ≡ c = d.count in
        rw count (told_done h file r c buf after 0 w.count w.file b s (told_ok _ file after r b.0 c buf w (rw l at d)) refl)

    pub next_refused : (e : Refusal) → WriteMade g file after r b.0 c buf (Err e) → (a : AccessAnswer) → a ≡ access_refused (refusal_number e) h r → WriteNext h file after r c buf a
    unfolding refusal_in
    next_refused e d a q = told_refused h file r c buf after (refusal_number e) 0 r b s (told_err _ file after r b.0 c buf e (rw l at d)) (refused_some ℕ e) a q
