-- What a granted write means, explicit or at the pointer: it passed every check, left the file that document 01 describes, and gave back a handle that passes check 1.
-- Rests on the checks of the refusal chain, on `new_size_is` and `written_is`, and on `distinct`, the one law that uses the overlap rule.
use Rattle.laws.proofs.Prelude.{ℕ, ◌<◌, ◌≡◌, refl, sym, ap, ◌∙◌, true, List, arith, length, granted_yes, granted_no}
use Rattle.view.specs.declared.Offset.{Offset}
use Rattle.view.specs.Types.{PaperView, paper, whole}
use Rattle.view.specs.Acceptance.{accepted}
use Rattle.view.specs.Places.{data_size}
use Rattle.view.proofs.Accepted.{facts, accepted_valid}
use Rattle.view.proofs.Packing.{packed_part}
use Rattle.view.proofs.Injective.{distinct}
use Rattle.move_read.specs.Moves.{IsNewSize, IsWritten}
use Rattle.move_read.specs.Parts.{new_size, written}
use Rattle.move_read.proofs.Writing.{write_end_is, new_size_is, written_is}
use Rattle.file.specs.declared.AccessAnswer.{AccessAnswer}
use Rattle.handle.specs.Handles.{handle_valid, with_size}
use Rattle.file.specs.Handles.{on_paper, view_of}
use Rattle.call_checks.specs.Refusals.{write_refusal}
use Rattle.file.specs.Parts.{write_at_answer, written_file, WriteAt, WriteNext}
use Rattle.call_access.proofs.Writing.{Checked, checked}
use Rattle.call_checks.proofs.Handles.{held_accepts, file_handle, file_short}
use Rattle.claim_calls.specs.declared.Begin.TheVariants.{Pointer, Explicit}
use Rattle.claim_calls.specs.declared.DataAccess.{DataAccess}
use Rattle.claim_calls.specs.Offsets.{offset_of, handle_after}
use Rattle.claim_calls.specs.Parts.{WriteCalled}
use Rattle.claim_calls.specs.Accesses.{IsRefused, Written}
use Rattle.claim_calls.proofs.Calling.{called_next, called_at, Taken, taken, refused_as, after_mode, after_view, after_valid}

-- a view that is accepted has data: its first entry's width is at least 1
data_some : (mode : ℕ) (v : PaperView) → accepted mode v ≡ true → 0 < data_size v
unfolding data_size
data_some mode v h =
    let f = facts v (accepted_valid mode v h) in
    omega (arith, (f.width 0 f.some).0, packed_part v.etype 0 _ f.some)

-- ---- a write that was made

-- what a granted one means
pub record GrantedWrite (w : DataAccess) (before after buffer : List ℕ) (a : AccessAnswer) : Type 0 where
  pub checks : Checked (on_paper w.handle) (length before) w.file (offset_of w) w.count (length buffer)
  pub view : accepted w.handle.mode (view_of w.handle) ≡ true
  pub some : 0 < data_size (view_of w.handle)
  pub bytes : IsWritten (view_of w.handle) w.file.size (new_size (view_of w.handle) w.file.size (whole (offset_of w)) w.count) (whole (offset_of w)) w.count buffer before after
  pub count : a.count ≡ w.count
  pub file : a.file ≡ with_size w.file (new_size (view_of w.handle) w.file.size (whole (offset_of w)) w.count)
  -- the handle given back
  pub same_mode : a.handle.mode ≡ w.handle.mode
  pub same_view : view_of a.handle ≡ view_of w.handle
  pub passes : handle_valid (on_paper a.handle) ≡ true

module _ (w : DataAccess) (before after buffer : List ℕ) (a : AccessAnswer) (m : WriteCalled w before after buffer a) where
  answer_is : Taken w.handle w.begin (write_at_answer w.handle (length before) w.file (offset_of w) w.count (length buffer)) a
  unfolding write_at_answer
  answer_is = rw m.answers (taken w.handle w.begin _ refl)

  number_is : a.refusal ≡ write_refusal (on_paper w.handle) (length before) w.file (offset_of w) w.count (length buffer)
  unfolding write_at_answer
  number_is = answer_is.refusal

  -- a refused write gives the handle back as it came, and leaves all else
  pub refused_handle : (a.refusal ≡ 0 → ⊥) → a.handle ≡ w.handle
  refused_handle z = answer_is.handle ∙ granted_no _ _ _ z

  module _ (z : a.refusal ≡ 0 → ⊥) where
    not_granted : write_refusal (on_paper w.handle) (length before) w.file (offset_of w) w.count (length buffer) ≡ 0 → ⊥
    not_granted y = z (number_is ∙ y)

    refused_answer : IsRefused w a
    unfolding write_at_answer
    refused_answer = refused_as w _ a answer_is z (granted_no _ _ 0 not_granted) (granted_no _ _ _ not_granted)

    refused_bytes : after ≡ before
    unfolding written_file write_at_answer
    refused_bytes = m.leaves ∙ granted_no _ _ before not_granted

  module _ (z : a.refusal ≡ 0) where
    number : write_refusal (on_paper w.handle) (length before) w.file (offset_of w) w.count (length buffer) ≡ 0
    number = sym number_is ∙ z

    passed : Checked (on_paper w.handle) (length before) w.file (offset_of w) w.count (length buffer)
    passed = checked (on_paper w.handle) (length before) w.file (offset_of w) w.count (length buffer) number

    valid : handle_valid (on_paper w.handle) ≡ true
    valid = file_handle _ _ _ passed.valid

    accepts : accepted w.handle.mode (view_of w.handle) ≡ true
    accepts = held_accepts (on_paper w.handle) valid

    some_data : 0 < data_size (view_of w.handle)
    some_data = data_some w.handle.mode (view_of w.handle) accepts

    after_is : after ≡ written (view_of w.handle) w.file.size (whole (offset_of w)) w.count buffer before
    unfolding written_file write_at_answer
    after_is = m.leaves ∙ granted_yes _ _ before number

    -- the file left is the one that document 01 describes, since different pairs lie at different bytes
    after_written : IsWritten (view_of w.handle) w.file.size (new_size (view_of w.handle) w.file.size (whole (offset_of w)) w.count) (whole (offset_of w)) w.count buffer before after
    after_written = rw after_is (written_is (view_of w.handle) _ _ _ buffer before (distinct w.handle.mode _ accepts passed.writes) some_data (file_short _ _ _ passed.valid) passed.ends)

    count_is : a.count ≡ w.count
    unfolding write_at_answer
    count_is = answer_is.count ∙ granted_yes _ _ 0 number

    file_is : a.file ≡ with_size w.file (new_size (view_of w.handle) w.file.size (whole (offset_of w)) w.count)
    unfolding write_at_answer
    file_is = answer_is.file ∙ granted_yes _ _ _ number

    handle_is : a.handle ≡ handle_after w.handle w.begin a.count
    handle_is = answer_is.handle ∙ granted_yes _ _ _ z

    -- the handle given back differs in the pointer at most, which is allowed
    handle_passes : handle_valid (on_paper (handle_after w.handle w.begin a.count)) ≡ true
    unfolding offset_of
    handle_passes = rw count_is (after_valid w.handle w.begin w.count valid passed.range)

    pub granted_write : GrantedWrite w before after buffer a
    granted_write = record {
      checks = passed;
      view = accepts;
      some = some_data;
      bytes = after_written;
      count = count_is;
      file = file_is;
      same_mode = ap (λ x. x.mode) handle_is ∙ after_mode w.handle w.begin a.count;
      same_view = ap (λ x. paper x.view) handle_is ∙ after_view w.handle w.begin a.count;
      passes = ap (λ x. handle_valid (on_paper x)) handle_is ∙ handle_passes;
    }

    pub new_size_law : a.file.size ≡ new_size (view_of w.handle) w.file.size (whole (offset_of w)) w.count
    unfolding with_size
    new_size_law = ap (λ x. x.size) granted_write.file

    size_grown : IsNewSize (view_of w.handle) w.file.size (whole (offset_of w)) w.count a.file.size
    size_grown = rw new_size_law (new_size_is (view_of w.handle) w.file.size (whole (offset_of w)) w.count)

    bytes_set : IsWritten (view_of w.handle) w.file.size a.file.size (whole (offset_of w)) w.count buffer before after
    bytes_set = rw new_size_law after_written

  -- the claim, of any write that was made
  pub is_written : Written w before after buffer a
  is_written = record {
    made = m;
    number = number_is;
    highest = write_end_is (view_of w.handle) (whole (offset_of w)) w.count;
    refused = λ z. (refused_answer z, refused_bytes z);
    count = λ z. (granted_write z).count;
    handle = handle_is;
    file = λ z. (granted_write z).file ∙ ap (λ (s : ℕ). with_size w.file s) (sym (new_size_law z));
    size = size_grown;
    bytes = bytes_set;
  }

-- the same, from the contract of each call
module _ (w : DataAccess) (before after buffer : List ℕ) (a : AccessAnswer) where
  pub written_next : w.begin ≡ Pointer → WriteNext w.handle before after w.file w.count buffer a → Written w before after buffer a
  written_next e d = is_written w before after buffer a (called_next w _ _ after a e d.answer d.bytes)

  pub written_at : (o : Offset) → w.begin ≡ Explicit o → WriteAt w.handle before after w.file o.0 w.count buffer a → Written w before after buffer a
  written_at o e d = is_written w before after buffer a (called_at w _ _ after a o e d.answer d.bytes)
