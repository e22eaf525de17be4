-- Need not be believed. What computes where a claim has the property, what the movers ask of their callers, and what they leave.
use Rattle.std.specs.Prelude.{ℕ, ◌+◌, ◌*◌, ◌≤◌, ◌<◌, ◌-◌, max, true, Bool, List, ◌≡◌, ltb, ℤ}
use Rattle.laws.specs.Lists.{nth}
use Rattle.laws.specs.Parts.{store, front, greatest}
use Rattle.laws.specs.Search.{least_false, all}
use Rattle.view.specs.Limits.{offset_count, max_file_length, offset_allowed}
use Rattle.view.specs.Places.{data_size, byte_of}
use Rattle.view.specs.Acceptance.{Valid}
use Rattle.view.specs.Types.{paper, whole, PaperView}
use Rattle.view.specs.declared.View.{View}
use Rattle.move_read.specs.Moves.{file_byte}

-- ---- a read: the properties are `IsMoved` and `IsRead`

-- every data byte of the etype at x lies below the size
unfoldable pub in_file : PaperView → ℕ → ℕ → Bool
in_file v size x = all (λ j. ltb (byte_of v x j) size) (data_size v)

unfoldable pub moved : PaperView → ℕ → ℕ → ℕ → ℕ
moved v size o c = least_false (λ t. in_file v size (o + t)) c

unfoldable pub read_into : PaperView → List ℕ → ℕ → ℕ → List ℕ → List ℕ
read_into v file o m buffer = front (λ i. nth file (file_byte v o i)) (m * data_size v) buffer

-- ---- a write: the properties are `IsWriteEnd`, `IsNewSize` and `IsWritten`

unfoldable pub write_end : PaperView → ℕ → ℕ → ℕ
write_end v o c = greatest (λ i. file_byte v o i + 1) (c * data_size v)

-- the new size: the larger of the old size and that end
unfoldable pub new_size : PaperView → ℕ → ℕ → ℕ → ℕ
new_size v size o c = max size (write_end v o c)

-- the gap is filled first, whole, then the data are stored at their places
unfoldable pub written : PaperView → ℕ → ℕ → ℕ → List ℕ → List ℕ → List ℕ
written v size o c buffer file =
    store (file_byte v o) (nth buffer) (c * data_size v)
    (store (λ i. size + i) (λ i. 0) (new_size v size o c - size) file)

-- ---- what is asked and left

-- c etypes at o have places: what checks 1 and 12 leave
pub record Ranged (v : View) (o : ℤ) (c : ℕ) : Type 0 where
  pub valid : Valid (paper v)
  pub offset : 0 < c → offset_allowed o ≡ true
  pub last : whole o + c ≤ offset_count

-- they may be moved between a buffer of `buffer` bytes and a file of `len` bytes: what checks 1, 12 and 13 leave
pub record Movable (v : View) (len size : ℕ) (o : ℤ) (c buffer : ℕ) : Type 0 where
  pub ranged : Ranged v o c
  pub short : size ≤ len
  pub limit : len ≤ max_file_length
  pub room : c * data_size (paper v) ≤ buffer

-- what a read of c etypes at o moves, and what it leaves in the buffer
pub record ReadDone (v : View) (file : List ℕ) (size : ℕ) (o : ℤ) (c : ℕ) (before : List ℕ) (m : ℕ) (after : List ℕ) : Type 0 where
  pub count : m ≡ moved (paper v) size (whole o) c
  pub buffer : after ≡ read_into (paper v) file (whole o) m before
