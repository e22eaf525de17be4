-- Must be believed. docs/trace.md: the records of a trace, and what a tag and a body say.
use Rattle.std.specs.Prelude.{ℕ, ◌+◌, Bool, cond, List, eqb, ℤ, length, drop}
use Rattle.laws.specs.Checks.{also}
use Rattle.view.specs.Types.{PaperView}
use Rattle.tagged_fields.specs.Numbers.{number_at, signed_at}
use Rattle.set_record.specs.Sets.{view_in, lists_end, representation_in}
use Rattle.claim_calls.specs.declared.Begin.{Begin}
use Rattle.claim_calls.specs.declared.Begin.TheVariants.{Pointer, Explicit}

-- an open with a mode; a set of a view with a representation; a seek by an offset, with a whence; a read and a write of so many etypes, at the pointer or at an explicit offset, a write with its buffer;
-- a check of the bytes from a place on; or no record of these: the tag is unknown or the body bad
pub data Recorded : Type 0 where
  Opens : ℕ → Recorded
  Sets : PaperView → List ℕ → Recorded
  Seeks : ℤ → ℕ → Recorded
  Reads : Begin → ℕ → Recorded
  Writes : Begin → ℕ → List ℕ → Recorded
  Checks : ℕ → List ℕ → Recorded
  Bad : Recorded

-- what a body says, if it is good
unfoldable pub if_good : Bool → Recorded → Recorded
if_good good r = cond good r Bad

-- where an access begins: number 0 is 0 for the pointer, and then number 1 is 0 too, or 1 for the explicit offset that is number 1
unfoldable pub begin_good : List ℕ → Bool
begin_good body = cond (eqb (number_at body 0) 0) (eqb (number_at body 1) 0) (eqb (number_at body 0) 1)

unfoldable pub begin_in : List ℕ → Begin
begin_in body = cond (eqb (number_at body 0) 0) Pointer (Explicit (record { 0 = signed_at body 1 }))

-- tags 1 to 6: a good body has exactly the length that its numbers say
unfoldable pub open_in : List ℕ → Recorded
open_in body = if_good (eqb (length body) 8) (Opens (number_at body 0))

unfoldable pub set_in : List ℕ → Recorded
set_in body = if_good (eqb (length body) (lists_end body + number_at body 0)) (Sets (view_in body) (representation_in body))

unfoldable pub seek_in : List ℕ → Recorded
seek_in body = if_good (eqb (length body) 16) (Seeks (signed_at body 0) (number_at body 1))

unfoldable pub read_in : List ℕ → Recorded
read_in body = if_good (also (eqb (length body) 24) (begin_good body)) (Reads (begin_in body) (number_at body 2))

unfoldable pub write_in : List ℕ → Recorded
write_in body = if_good (also (eqb (length body) (32 + number_at body 3)) (begin_good body)) (Writes (begin_in body) (number_at body 2) (drop 32 body))

unfoldable pub check_in : List ℕ → Recorded
check_in body = if_good (eqb (length body) (16 + number_at body 1)) (Checks (number_at body 0) (drop 16 body))

-- "1 open, 2 set view, 3 seek, 4 read, 5 write, 6 check of a byte range"
unfoldable pub record_in : ℕ → List ℕ → Recorded
record_in tag body =
    cond (eqb tag 1) (open_in body)
    (cond (eqb tag 2) (set_in body)
    (cond (eqb tag 3) (seek_in body)
    (cond (eqb tag 4) (read_in body)
    (cond (eqb tag 5) (write_in body)
    (cond (eqb tag 6) (check_in body) Bad)))))
