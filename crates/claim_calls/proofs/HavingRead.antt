-- What a granted read means, explicit or at the pointer: it passed every check, moved the number of etypes that document 01 names, and left the buffer that it describes.
-- Rests on the checks of the refusal chain, on `moved_is` and on `read_is`.
use Rattle.laws.proofs.Prelude.{ℕ, ◌*◌, ◌≤◌, ◌≡◌, refl, sym, ap, ◌∙◌, List, arith, mul-le-mul_right, length, granted_yes, granted_no}
use Rattle.view.specs.declared.Offset.{Offset}
use Rattle.view.specs.Types.{PaperView, whole}
use Rattle.view.specs.Places.{data_size}
use Rattle.move_read.specs.Moves.{IsMoved, IsRead}
use Rattle.move_read.specs.Parts.{moved, read_into}
use Rattle.move_read.proofs.Reading.{moved_is, read_is}
use Rattle.call_checks.specs.Refusals.{read_refusal}
use Rattle.call_checks.proofs.Accesses.{access_room}
use Rattle.file.specs.declared.AccessAnswer.{AccessAnswer}
use Rattle.file.specs.Handles.{on_paper, view_of}
use Rattle.file.specs.Parts.{read_count, read_at_answer, read_buffer, ReadAt, ReadNext}
use Rattle.claim_calls.specs.declared.Begin.TheVariants.{Pointer, Explicit}
use Rattle.claim_calls.specs.declared.DataAccess.{DataAccess}
use Rattle.claim_calls.specs.Offsets.{offset_of}
use Rattle.claim_calls.specs.Parts.{ReadCalled}
use Rattle.claim_calls.specs.Accesses.{IsRefused, HasRead}
use Rattle.claim_calls.proofs.Calling.{called_next, called_at, Taken, taken, refused_as}

module _ (a : DataAccess) (file before after : List ℕ) (r : AccessAnswer) (m : ReadCalled a file before after r) where
  v : PaperView
  v = view_of a.handle

  o : ℕ
  o = whole (offset_of a)

  answer_is : Taken a.handle a.begin (read_at_answer a.handle (length file) a.file (offset_of a) a.count (length before)) r
  unfolding read_at_answer
  answer_is = rw m.answers (taken a.handle a.begin _ refl)

  number_is : r.refusal ≡ read_refusal (on_paper a.handle) (length file) a.file (offset_of a) a.count (length before)
  unfolding read_at_answer
  number_is = answer_is.refusal

  file_is : r.file ≡ a.file
  unfolding read_at_answer
  file_is = answer_is.file

  -- a refused one gives handle and record back as they came, and leaves the buffer
  module _ (z : r.refusal ≡ 0 → ⊥) where
    not_granted : read_refusal (on_paper a.handle) (length file) a.file (offset_of a) a.count (length before) ≡ 0 → ⊥
    not_granted y = z (number_is ∙ y)

    refused_answer : IsRefused a r
    unfolding read_at_answer read_count
    refused_answer = refused_as a _ r answer_is z (granted_no _ _ 0 not_granted) refl

    refused_buffer : after ≡ before
    unfolding read_buffer read_at_answer
    refused_buffer = m.leaves ∙ granted_no _ _ before not_granted

  module _ (z : r.refusal ≡ 0) where
    number : read_refusal (on_paper a.handle) (length file) a.file (offset_of a) a.count (length before) ≡ 0
    number = sym number_is ∙ z

    count_is : r.count ≡ read_count a.handle (length file) a.file (offset_of a) a.count (length before)
    unfolding read_at_answer
    count_is = answer_is.count

    moved_count : r.count ≡ moved v a.file.size o a.count
    unfolding read_count v o
    moved_count = count_is ∙ granted_yes _ _ 0 number

    most : r.count ≤ a.count
    most = omega (arith, moved_count, (moved_is v a.file.size o a.count).most)

    -- the data moved fit into the buffer, as all that were asked for do
    room : r.count * data_size v ≤ length before
    unfolding read_refusal v
    room = omega (arith, mul-le-mul_right (data_size v) most, access_room _ (on_paper a.handle) (length file) a.file (offset_of a) a.count (length before) 0 number)

    after_is : after ≡ read_into v file o r.count before
    unfolding read_buffer read_at_answer v o
    after_is = m.leaves ∙ granted_yes _ _ before number ∙ ap (λ (k : ℕ). read_into v file o k before) (sym count_is)

    count_moved : IsMoved (view_of a.handle) a.file.size (whole (offset_of a)) a.count r.count
    unfolding v o
    count_moved = rw moved_count (moved_is v a.file.size o a.count)

    buffer_got : IsRead (view_of a.handle) file (whole (offset_of a)) r.count before after
    unfolding v o
    buffer_got = rw after_is (read_is v file o r.count before room)

  -- the claim, of any read that was made
  has_read : HasRead a file before after r
  has_read = record {
    made = m;
    number = number_is;
    refused = λ z. (refused_answer z, refused_buffer z);
    count = count_moved;
    handle = λ z. answer_is.handle ∙ granted_yes _ _ _ z;
    file = file_is;
    buffer = buffer_got;
  }

-- the same, from the contract of each call
module _ (a : DataAccess) (file before after : List ℕ) (r : AccessAnswer) where
  pub read_next : a.begin ≡ Pointer → ReadNext a.handle file a.file a.count before after r → HasRead a file before after r
  read_next e d = has_read a file before after r (called_next a _ _ after r e d.answer d.buffer)

  pub read_explicit : (o : Offset) → a.begin ≡ Explicit o → ReadAt a.handle file a.file o.0 a.count before after r → HasRead a file before after r
  read_explicit o e d = has_read a file before after r (called_at a _ _ after r o e d.answer d.buffer)
