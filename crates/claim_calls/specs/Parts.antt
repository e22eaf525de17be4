-- Need not be believed. An access as the contracts of its calls have it: the claims say what it answers and leaves.
use Rattle.std.specs.Prelude.{ℕ, List, ◌≡◌, ℤ, length}
use Rattle.file.specs.declared.Handle.{Handle}
use Rattle.file.specs.declared.AccessAnswer.{AccessAnswer}
use Rattle.file.specs.Parts.{pointer_offset, at_pointer, read_at_answer, read_buffer, write_at_answer, written_file}
use Rattle.claim_calls.specs.declared.Begin.{Begin}
use Rattle.claim_calls.specs.declared.Begin.TheVariants.{Pointer, Explicit}
use Rattle.claim_calls.specs.declared.DataAccess.{DataAccess}
use Rattle.claim_calls.specs.Offsets.{offset_of}

-- where an access begins, as an offset that a signed number holds: 0 for a pointer that check 1 refuses, at which no access is granted
unfoldable pub starts_at : Handle → Begin → ℤ
starts_at h Pointer = pointer_offset h
starts_at h (Explicit o) = o.0

-- what the explicit access answers, as the answer of the access
unfoldable pub answer_as : Handle → Begin → AccessAnswer → AccessAnswer
answer_as h Pointer r = at_pointer h r
answer_as h (Explicit o) r = r

-- an access was made: the explicit call at o answers `answer o` and leaves `left o`, in the file's bytes or in the buffer
pub record Called (a : DataAccess) (answer : ℤ → AccessAnswer) (left : ℤ → List ℕ) (after : List ℕ) (r : AccessAnswer) : Type 0 where
  pub answers : r ≡ answer_as a.handle a.begin (answer (offset_of a))
  pub leaves : after ≡ left (offset_of a)

-- a write, by the file's bytes before and after it, and a read, by the buffer
abbrev pub WriteCalled : DataAccess → List ℕ → List ℕ → List ℕ → AccessAnswer → Type 0
WriteCalled a before after buffer r = Called a (λ o. write_at_answer a.handle (length before) a.file o a.count (length buffer)) (λ o. written_file a.handle before a.file o a.count buffer) after r

abbrev pub ReadCalled : DataAccess → List ℕ → List ℕ → List ℕ → AccessAnswer → Type 0
ReadCalled a bytes before after r = Called a (λ o. read_at_answer a.handle (length bytes) a.file o a.count (length before)) (λ o. read_buffer a.handle bytes a.file o a.count before) after r
