-- Place, end and seek: the place answered is the paper's sum, the end is the smallest offset that document 01 asks for, and a seek's pointer is its target.
-- Rests on the definition of `place`, on `end_is`, and on check 12 of seek, which lets no negative target pass.
use Rattle.laws.proofs.Prelude.{ℕ, ◌≡◌, refl, sym, ap, ◌∙◌, true, ⊎_elim, arith, ℤ, pos, negsuc, w64, SFits, to_z, of_z, to_z-of_z, not_both, eq_or_ne, check_inv, granted, granted_yes, granted_no}
use Rattle.view.specs.Types.{whole}
use Rattle.view.specs.Places.{place}
use Rattle.view.specs.End.{IsEnd}
use Rattle.view.specs.Parts.{end_of_file}
use Rattle.view.proofs.Ends.{end_is}
use Rattle.handle.specs.declared.FileRecord.{FileRecord}
use Rattle.handle.specs.Ranges.{target_allowed}
use Rattle.handle.specs.Handles.{file_valid}
use Rattle.call_checks.specs.Refusals.{byte_offset_refusal, end_refusal, seek_target, seek_refusal}
use Rattle.call_checks.proofs.Handles.{file_view}
use Rattle.file.specs.declared.Handle.{Handle}
use Rattle.file.specs.declared.ByteOffsetAnswer.{ByteOffsetAnswer}
use Rattle.file.specs.declared.EndAnswer.{EndAnswer}
use Rattle.file.specs.declared.SeekAnswer.{SeekAnswer}
use Rattle.file.specs.Handles.{on_paper, view_of, with_pointer}
use Rattle.file.specs.Parts.{byte_offset_answer, end_answer, seek_answer}
use Rattle.claim_calls.specs.Calls.{PlaceAnswered, EndAnswered, SeekAnswered}

-- ---- place

module _ (h : Handle) (o : ℤ) (r : ByteOffsetAnswer) (e : r ≡ byte_offset_answer h o) where
  place_number : r.refusal ≡ byte_offset_refusal (on_paper h) o
  unfolding byte_offset_answer
  place_number = ap (λ x. x.refusal) e

  pub place_answered : PlaceAnswered h o r
  unfolding byte_offset_answer place
  place_answered = record {
    number = place_number;
    count = ap (λ x. x.count) e;
    handle = ap (λ x. x.handle) e;
    place = ap (λ x. x.place.0) e ∙ ap (λ (n : ℕ). granted n (place (view_of h) (whole o)) 0) (sym place_number);
  }

-- ---- end

-- a handle and a file that pass check 1 have an end
handle_end : (h : Handle) (len : ℕ) (f : FileRecord) → file_valid (on_paper h) len f ≡ true → IsEnd (view_of h) f.size (end_of_file (view_of h) f.size)
handle_end h len f k = end_is (view_of h) f.size (file_view (on_paper h) len f k)

module _ (h : Handle) (len : ℕ) (f : FileRecord) (r : EndAnswer) (e : r ≡ end_answer h len f) where
  end_number : r.refusal ≡ end_refusal (on_paper h) len f
  unfolding end_answer
  end_number = ap (λ x. x.refusal) e

  module _ (z : r.refusal ≡ 0) where
    end_valid : file_valid (on_paper h) len f ≡ true
    unfolding end_refusal
    end_valid = (check_inv _ 1 _ (omega arith) (sym end_number ∙ z)).0

    end_reported : r.end.0 ≡ pos (end_of_file (view_of h) f.size)
    unfolding end_answer
    end_reported = ap (λ x. x.end.0) e ∙ ap pos (granted_yes _ _ 0 (sym end_number ∙ z))

  pub end_answered : EndAnswered h len f r
  unfolding end_answer
  end_answered = record {
    number = end_number;
    end = λ z. (end_of_file (view_of h) f.size, (end_reported z, handle_end h len f (end_valid z)));
    rest = λ i. record { refusal = r.refusal; count = (e i).count; handle = (e i).handle; file = (e i).file; end = r.end };
    refused = λ n. ap (λ x. x.end.0) e ∙ ap pos (granted_no _ _ 0 (λ z. n (end_number ∙ z)));
  }

-- ---- seek

-- an allowed target is not negative
target_whole : (t : ℤ) → target_allowed t ≡ true → pos (whole t) ≡ t
unfolding target_allowed whole
target_whole (pos p) h = refl
target_whole (negsuc p) h = not_both h refl

module _ (h : Handle) (len : ℕ) (f : FileRecord) (o : ℤ) (whence : ℕ) (r : SeekAnswer) (e : r ≡ seek_answer h len f o whence) where
  seek_number : r.refusal ≡ seek_refusal (on_paper h) len f o whence
  unfolding seek_answer
  seek_number = ap (λ x. x.refusal) e

  handle_is : r.handle ≡ granted (seek_refusal (on_paper h) len f o whence) (with_pointer h (whole (seek_target (on_paper h) f o whence))) h
  unfolding seek_answer
  handle_is = ap (λ x. x.handle) e

  seek_refused_law : (r.refusal ≡ 0 → ⊥) → r.handle ≡ h
  seek_refused_law n = handle_is ∙ granted_no _ _ h (λ z. n (seek_number ∙ z))

  module _ (z : r.refusal ≡ 0) where
    target_allowed_law : target_allowed (seek_target (on_paper h) f o whence) ≡ true
    unfolding seek_refusal
    target_allowed_law = (check_inv _ 12 _ (omega arith) (check_inv _ 15 _ (omega arith) (check_inv _ 1 _ (omega arith) (sym seek_number ∙ z)).1).1).0

    handle_sought : r.handle ≡ with_pointer h (whole (seek_target (on_paper h) f o whence))
    handle_sought = handle_is ∙ granted_yes _ _ _ (sym seek_number ∙ z)

    pointer_sought : pos r.handle.pointer ≡ seek_target (on_paper h) f o whence
    unfolding with_pointer
    pointer_sought = ap (λ x. pos x.pointer) handle_sought ∙ target_whole _ target_allowed_law

  -- the handle differs in the pointer at most
  pointer_alone : r.handle ≡ with_pointer h r.handle.pointer
  unfolding with_pointer
  pointer_alone = ⊎_elim
      (λ z. handle_sought z ∙ ap (λ (x : ℕ). with_pointer h x) (sym (ap (λ x. x.pointer) (handle_sought z))))
      (λ n. seek_refused_law n ∙ ap (λ (x : ℕ). with_pointer h x) (sym (ap (λ x. x.pointer) (seek_refused_law n))))
      (eq_or_ne r.refusal 0)

  sought : SeekAnswered h len f o whence r
  unfolding seek_answer
  sought = record {
    number = seek_number;
    end = handle_end h len f;
    pointer = pointer_sought;
    rest = λ i. record { refusal = r.refusal; count = (e i).count; handle = pointer_alone i; file = (e i).file };
    refused = seek_refused_law;
  }

-- its signed number as the machine reads it
pub seek_answered : (h : Handle) (len : ℕ) (f : FileRecord) (o : ℤ) (whence : ℕ) → SFits w64 o → (r : SeekAnswer) → r ≡ seek_answer h len f (to_z w64 (of_z w64 o)) whence → SeekAnswered h len f o whence r
seek_answered h len f o whence s r q =
    let e : r ≡ seek_answer h len f o whence = rw (to_z-of_z s) at q in
    sought h len f o whence r e
