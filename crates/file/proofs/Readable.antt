-- A read: its answers at an offset and at the pointer, from what the access on its numbers answers.
use Rattle.laws.proofs.Prelude.{ℕ, ◌+◌, ◌<◌, ◌≡◌, refl, sym, ap, ◌∙◌, List, arith, length, ℤ, pos, w64, Fits, granted, check_no, granted_yes, granted_no}
use Rattle.std.proofs.Common.{Ok, Err}
use Rattle.view.specs.declared.Offset.{Offset}
use Rattle.view.specs.declared.View.{View}
use Rattle.view.specs.declared.refusals.Refusal.{Refusal}
use Rattle.view.specs.Parts.{refusal_in, refusal_number}
use Rattle.view.proofs.Numbered.{refused_some}
use Rattle.view.specs.Types.{paper, whole}
use Rattle.view.specs.Modes.{allows_reading}
use Rattle.handle.specs.declared.FileRecord.{FileRecord}
use Rattle.handle.specs.Handles.{PaperHandle}
use Rattle.handle.specs.Parts.{paper_handle}
use Rattle.move_read.specs.Parts.{moved, read_into}
use Rattle.move_read.proofs.Reading.{moved_is}
use Rattle.call_checks.specs.Refusals.{access_refusal, read_refusal}
use Rattle.call_checks.proofs.Handles.{past_file, file_pointer}
use Rattle.call_checks.proofs.Accesses.{access_file, access_sums}
use Rattle.call_access.specs.Parts.{ReadMade}
use Rattle.file.specs.declared.Handle.{Handle}
use Rattle.file.specs.declared.AccessAnswer.{AccessAnswer}
use Rattle.file.specs.Handles.{on_paper, view_of}
use Rattle.file.specs.Parts.{pointer_offset, access_refused, at_pointer, read_count, read_at_answer, read_buffer, ReadAt, ReadNext}
use Rattle.file.proofs.Checking.{start_same, pointer_stays, pointer_raised}

-- ---- a read by its refusal number and how many etypes it moved, 0 if it is refused

pub record ReadTold (h : PaperHandle) (file : List ℕ) (r : FileRecord) (o : ℤ) (c : ℕ) (before after : List ℕ) (n k : ℕ) : Type 0 where
  pub refusal : n ≡ read_refusal h (length file) r o c (length before)
  pub count : k ≡ granted n (moved h.view r.size (whole o) c) 0
  pub buffer : after ≡ granted n (read_into h.view file (whole o) k before) before

module _ (h : PaperHandle) (file : List ℕ) (r : FileRecord) (o : ℤ) (c : ℕ) (before after : List ℕ) where
  told_ok : (m : ℕ) → ReadMade h file r o c before after (Ok m) → ReadTold h file r o c before after 0 m
  unfolding refusal_in granted
  told_ok m d = record { refusal = d.refusal; count = d.count; buffer = d.buffer ∙ ap (λ (x : ℕ). read_into h.view file (whole o) x before) (sym d.count) }

  told_err : (e : Refusal) → ReadMade h file r o c before after (Err e) → ReadTold h file r o c before after (refusal_number e) 0
  unfolding refusal_in
  told_err e d = record {
    refusal = d.refusal;
    count = sym (granted_no _ _ 0 (refused_some ℕ e));
    buffer = d.buffer ∙ granted_no _ _ before (refused_some ℕ e) ∙ sym (granted_no _ _ before (refused_some ℕ e));
  }

-- ---- at an offset

module _ (h : Handle) (file : List ℕ) (r : FileRecord) (o : ℤ) (c : ℕ) (before after : List ℕ) (n k : ℕ) (read : ReadTold (on_paper h) file r o c before after n k) where
  counted : k ≡ read_count h (length file) r o c (length before)
  unfolding read_count
  counted = read.count ∙ ap (λ (x : ℕ). granted x (moved (view_of h) r.size (whole o) c) 0) read.refusal

  pub at_answered : ReadAt h file r o c before after (record { refusal = n; count = k; handle = h; file = r })
  unfolding read_at_answer read_buffer
  at_answered = record {
    answer = λ i. record { refusal = read.refusal i; count = counted i; handle = h; file = r };
    buffer = read.buffer ∙ (λ i. granted (read.refusal i) (read_into (view_of h) file (whole o) (counted i) before) before);
  }

  pub at_none : (n ≡ 0 → ⊥) → k ≡ 0
  at_none z = read.count ∙ granted_no n _ 0 z

-- ---- at the pointer

-- check 1 bounds the pointer, check 12 the count
pub pointer_fits : (h : Handle) (g : PaperHandle) (l : g ≡ on_paper h) (file : List ℕ) (r : FileRecord) (o : ℤ) (c : ℕ) (before after : List ℕ) (m : ℕ) → ReadMade g file r o c before after (Ok m) → Fits w64 (h.pointer + m)
unfolding read_refusal refusal_in
pointer_fits h g l file r o c before after m k =
    let made : ReadMade (on_paper h) file r o c before after (Ok m) = rw l at k in
    let y = sym made.refusal in
    let j = access_file (allows_reading h.mode) (on_paper h) (length file) r o c (length before) 0 y in
    let b = (moved_is (view_of h) r.size (whole o) c).most in
    record { fits = omega (arith, file_pointer (on_paper h) (length file) r j, access_sums (allows_reading h.mode) (on_paper h) (length file) r o c (length before) 0 y, made.count) }

module _ (h : Handle) (file : List ℕ) (r : FileRecord) (c : ℕ) (before : List ℕ) where
  -- check 1 refuses a pointer that is no offset, whatever the offset
  past_refused : 4294967296 < h.pointer → (o : ℤ) → read_refusal (on_paper h) (length file) r o c (length before) ≡ 1
  unfolding read_refusal access_refusal
  past_refused l o = sym (check_no _ 1 _ 1 (past_file (on_paper h) (length file) r l) refl)

  start_answer : read_at_answer h (length file) r (pointer_offset h) c (length before) ≡ read_at_answer h (length file) r (pos h.pointer) c (length before)
  unfolding read_at_answer read_count granted
  start_answer = start_same h (λ (z : ℤ). read_at_answer h (length file) r z c (length before)) (λ l a b. rw (past_refused l a, past_refused l b))

  start_buffer : read_buffer h file r (pointer_offset h) c before ≡ read_buffer h file r (pos h.pointer) c before
  unfolding read_buffer read_at_answer read_count granted
  start_buffer = start_same h (λ (z : ℤ). read_buffer h file r z c before) (λ l a b. rw (past_refused l a, past_refused l b))

  -- a read where the pointer access begins is one at the pointer
  pub start_read : (after : List ℕ) (done : AccessAnswer) (z : ℤ) → z ≡ pointer_offset h → ReadAt h file r z c before after done → ReadAt h file r (pos h.pointer) c before after done
  start_read after done z e d = record {
    answer = d.answer ∙ ap (λ (x : ℤ). read_at_answer h (length file) r x c (length before)) e ∙ start_answer;
    buffer = d.buffer ∙ ap (λ (x : ℤ). read_buffer h file r x c before) e ∙ start_buffer;
  }

  module _ (after : List ℕ) (n k : ℕ) (b : Offset) (e : b.0 ≡ pointer_offset h) (made : ReadTold (on_paper h) file r b.0 c before after n k) where
    at_pointer_law : ReadAt h file r (pos h.pointer) c before after (record { refusal = n; count = k; handle = h; file = r })
    at_pointer_law = start_read after _ b.0 e (at_answered h file r b.0 c before after n k made)

    told_refused : (n ≡ 0 → ⊥) → (m : AccessAnswer) → m ≡ access_refused n h r → ReadNext h file r c before after m
    told_refused z m q = record { answer = q ∙ pointer_stays h n k r z (at_none h file r b.0 c before after n k made z) ∙ ap (at_pointer h) at_pointer_law.answer; buffer = at_pointer_law.buffer }

    told_done : n ≡ 0 → ReadNext h file r c before after (record { refusal = 0; count = k; handle = record { mode = h.mode; pointer = h.pointer + k; view = h.view }; file = r })
    told_done z = record { answer = pointer_raised h n k r z ∙ ap (at_pointer h) at_pointer_law.answer; buffer = at_pointer_law.buffer }

-- ---- by what the access answers

module _ (h : Handle) (g : PaperHandle) (l : g ≡ on_paper h) (file : List ℕ) (r : FileRecord) (c : ℕ) (before after : List ℕ) where
  module _ (o : ℤ) where
    pub at_moved : (m : ℕ) → ReadMade g file r o c before after (Ok m) → ReadAt h file r o c before after (record { refusal = 0; count = m; handle = h; file = r })
    at_moved m d = at_answered h file r o c before after 0 m (told_ok _ file r o c before after m (rw l at d))

    pub at_refused : (e : Refusal) → ReadMade g file r o c before after (Err e) → (a : AccessAnswer) → a ≡ access_refused (refusal_number e) h r → ReadAt h file r o c before after a
    at_refused e d a q = rw q (at_answered h file r o c before after (refusal_number e) 0 (told_err _ file r o c before after e (rw l at d)))

  module _ (b : Offset) (s : b.0 ≡ pointer_offset h) where
    pub next_moved : (m : ℕ) → ReadMade g file r b.0 c before after (Ok m) → ReadNext h file r c before after (record { refusal = 0; count = m; handle = record { mode = h.mode; pointer = h.pointer + m; view = h.view }; file = r })
    next_moved m d = told_done h file r c before after 0 m b s (told_ok _ file r b.0 c before after m (rw l at d)) refl

    pub next_refused : (e : Refusal) → ReadMade g file r b.0 c before after (Err e) → (a : AccessAnswer) → a ≡ access_refused (refusal_number e) h r → ReadNext h file r c before after a
    unfolding refusal_in
    next_refused e d a q = told_refused h file r c before after (refusal_number e) 0 b s (told_err _ file r b.0 c before after e (rw l at d)) (refused_some ℕ e) a q
