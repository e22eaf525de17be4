-- Must be believed. Document 01, "Moving data": what a read moves and leaves, and what a write sets, fills and grows.
use Rattle.std.specs.Prelude.{ℕ, ◌+◌, ◌*◌, ◌/◌, ◌%◌, ◌≤◌, ◌<◌, max, List, ◌⊎◌, ◌≡◌, length}
use Rattle.laws.specs.Lists.{nth}
use Rattle.view.specs.Types.{PaperView}
use Rattle.view.specs.Places.{byte_of, data_size}

-- the file byte of byte i of the data of an access at o, packed in offset order
unfoldable pub file_byte : PaperView → ℕ → ℕ → ℕ
file_byte v o i = byte_of v (o + i / data_size v) (i % data_size v)

-- ---- a read of c etypes at o

-- every data byte of the etypes o to o + m - 1 lies below the size
abbrev pub AllBelow : PaperView → ℕ → ℕ → ℕ → Type 0
AllBelow v size o m = (x j : ℕ) → o ≤ x → x < o + m → j < data_size v → byte_of v x j < size

-- it moves m: the greatest m, at most c, such that this holds
pub record IsMoved (v : PaperView) (size o c m : ℕ) : Type 0 where
  pub most : m ≤ c
  pub below : AllBelow v size o m
  pub greatest : (k : ℕ) → k ≤ c → AllBelow v size o k → k ≤ m

-- the first m·S bytes of the buffer get the data in offset order; the rest stays
pub record IsRead (v : PaperView) (file : List ℕ) (o m : ℕ) (buffer after : List ℕ) : Type 0 where
  pub long : length after ≡ length buffer
  pub got : (i : ℕ) → i < m * data_size v → nth after i ≡ nth file (file_byte v o i)
  pub rest : (i : ℕ) → m * data_size v ≤ i → nth after i ≡ nth buffer i

-- ---- a write of c etypes at o

-- e is the end of the highest byte written: each lies below e, and below nothing smaller; 0 for c = 0
pub record IsWriteEnd (v : PaperView) (o c e : ℕ) : Type 0 where
  pub above : (i : ℕ) → i < c * data_size v → file_byte v o i < e
  pub smallest : (b : ℕ) → ((i : ℕ) → i < c * data_size v → file_byte v o i < b) → e ≤ b

-- the new size: the larger of the old size and the end of the highest byte written
pub record IsNewSize (v : PaperView) (size o c new : ℕ) : Type 0 where
  pub end : ℕ
  pub highest : IsWriteEnd v o c end
  pub larger : new ≡ max size end

-- the write does not map byte b
abbrev pub Unmapped : PaperView → ℕ → ℕ → ℕ → Type 0
Unmapped v o c b = (i : ℕ) → i < c * data_size v → b ≡ file_byte v o i → ⊥

-- exactly the mapped bytes are set; bytes between old and new size that it doesn't map become 0; all else in the file stays, beyond the new size too
pub record IsWritten (v : PaperView) (size new o c : ℕ) (buffer file after : List ℕ) : Type 0 where
  pub long : length after ≡ length file
  pub mapped : (i : ℕ) → i < c * data_size v → nth after (file_byte v o i) ≡ nth buffer i
  pub gap : (b : ℕ) → size ≤ b → b < new → Unmapped v o c b → nth after b ≡ 0
  pub rest : (b : ℕ) → (b < size) ⊎ (new ≤ b) → Unmapped v o c b → nth after b ≡ nth file b
