-- Open: its handle has the linear byte stream for a view and pointer 0, and every call refuses the handle of a refused open.
-- Rests on the definitions of the default view and of check 1, with which every call begins.
use Rattle.laws.proofs.Prelude.{ℕ, ◌≡◌, refl, sym, ap, ◌∙◌, false, tabulate, also, within, check_no, also_first, granted, granted_no}
use Rattle.view.specs.Types.{paper}
use Rattle.view.specs.Parts.{default_view}
use Rattle.view.specs.Modes.{mode_allowed}
use Rattle.handle.specs.declared.FileRecord.{FileRecord}
use Rattle.handle.specs.Handles.{handle_valid, file_valid}
use Rattle.call_checks.specs.Refusals.{open_refusal, set_view_refusal, get_view_refusal, byte_offset_refusal, reverse_refusal, end_refusal, seek_refusal, access_refusal, read_refusal, write_refusal}
use Rattle.file.specs.declared.Handle.{Handle}
use Rattle.file.specs.declared.OpenAnswer.{OpenAnswer}
use Rattle.file.specs.Handles.{on_paper, mode_got}
use Rattle.file.specs.Parts.{fresh_handle, open_answer}
use Rattle.claim_calls.specs.Calls.{byte_stream, RefusedByAll, Opened}

stream_is : paper default_view ≡ byte_stream
unfolding paper default_view byte_stream tabulate
stream_is = refl

-- ---- a handle of mode 0

module _ (h : Handle) (e : h.mode ≡ 0) where
  no_mode : mode_allowed h.mode ≡ false
  unfolding mode_allowed within also
  no_mode = ap mode_allowed e

  no_handle : handle_valid (on_paper h) ≡ false
  unfolding handle_valid
  no_handle = also_first _ _ no_mode

  no_file : (len : ℕ) (f : FileRecord) → file_valid (on_paper h) len f ≡ false
  unfolding file_valid
  no_file len f = also_first _ _ no_handle

  refused_by_all : RefusedByAll h
  unfolding set_view_refusal get_view_refusal byte_offset_refusal reverse_refusal end_refusal seek_refusal access_refusal read_refusal write_refusal
  refused_by_all = record {
    set = λ representation v. sym (check_no _ 1 _ 1 no_handle refl);
    get = λ ew ed fw fd. sym (check_no _ 1 _ 1 no_handle refl);
    place = λ o. sym (check_no _ 1 _ 1 no_handle refl);
    reverse = sym (check_no _ 1 _ 1 no_handle refl);
    end = λ len f. sym (check_no _ 1 _ 1 (no_file len f) refl);
    seek = λ len f o whence. sym (check_no _ 1 _ 1 (no_file len f) refl);
    read = λ len f o c buffer. sym (check_no _ 1 _ 1 (no_file len f) refl);
    write = λ len f o c buffer. sym (check_no _ 1 _ 1 (no_file len f) refl);
  }

-- ---- the claim, of any answer that the call gives

module _ (asked : ℕ) (r : OpenAnswer) (e : r ≡ open_answer asked) where
  number : r.refusal ≡ open_refusal asked
  unfolding open_answer
  number = ap (λ x. x.refusal) e

  handle_is : r.handle ≡ fresh_handle (granted (open_refusal asked) (mode_got asked) 0)
  unfolding open_answer
  handle_is = ap (λ x. x.handle) e

  mode_is : r.handle.mode ≡ granted (open_refusal asked) (mode_got asked) 0
  unfolding fresh_handle
  mode_is = ap (λ x. x.mode) handle_is

  none_counted : r.count ≡ 0
  unfolding open_answer
  none_counted = ap (λ x. x.count) e

  refused_mode : (r.refusal ≡ 0 → ⊥) → r.handle.mode ≡ 0
  refused_mode n = mode_is ∙ granted_no _ _ 0 (λ z. n (number ∙ z))

  pub opened : Opened asked r
  unfolding fresh_handle
  opened = record {
    number = number;
    count = none_counted;
    mode = mode_is ∙ ap (λ (n : ℕ). granted n (mode_got asked) 0) (sym number);
    pointer = ap (λ x. x.pointer) handle_is;
    view = ap (λ x. paper x.view) handle_is ∙ stream_is;
    refused = λ n. refused_by_all r.handle (refused_mode n);
  }
