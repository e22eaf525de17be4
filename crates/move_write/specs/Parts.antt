-- Need not be believed. What the writing mover asks of its callers, and what it leaves: the contracts of calls cite `written` and `new_size`, which these make up, and the claim `Written` has the property.
use Rattle.std.specs.Prelude.{ℕ, ◌+◌, ◌-◌, ◌*◌, ◌≤◌, max, List, ◌≡◌, ℤ}
use Rattle.laws.specs.Parts.{store}
use Rattle.view.specs.declared.View.{View}
use Rattle.view.specs.Types.{paper, whole}
use Rattle.view.specs.Places.{data_size}
use Rattle.handle.specs.declared.FileRecord.{FileRecord}
use Rattle.handle.specs.Handles.{with_size}
use Rattle.move_read.specs.Parts.{write_end, Ranged}

-- c etypes at o of a buffer of `buffer` bytes may be stored in a file of `len` bytes: what checks 1, 12, 13 and 14 leave
pub record Storable (v : View) (len : ℕ) (o : ℤ) (c buffer : ℕ) : Type 0 where
  pub ranged : Ranged v o c
  pub room : c * data_size (paper v) ≤ buffer
  pub ends : write_end (paper v) (whole o) c ≤ len

-- a write into a file of `len` bytes with this record ends at `end`
pub record Growable (len : ℕ) (r : FileRecord) (end : ℕ) : Type 0 where
  pub short : r.size ≤ len
  pub ends : end ≤ len

-- the record with the new size, and the file's bytes with the gap filled
pub record Grown (r : FileRecord) (end : ℕ) (before after : List ℕ) (grown : FileRecord) : Type 0 where
  pub is : grown ≡ with_size r (max r.size end)
  pub bytes : after ≡ store (λ i. r.size + i) (λ i. 0) (max r.size end - r.size) before
