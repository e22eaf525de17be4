-- Must be believed. Document 01, "The words of demand 3": belonging, and the reverse lookup.
use Rattle.std.specs.Prelude.{ℕ, ◌<◌, true, false, Option, Some, None, ◌≡◌, pos}
use Rattle.view.specs.declared.Pair.{Pair}
use Rattle.view.specs.declared.OwnerNumbers.{OwnerNumbers}
use Rattle.view.specs.Limits.{offset_count}
use Rattle.view.specs.Types.{PaperView}
use Rattle.view.specs.Places.{byte_of, data_size}

-- file byte b belongs to the pair of offset x, from 0 to 2^32 - 1, and index j, from 0 to S - 1
pub record Belongs (v : PaperView) (b x j : ℕ) : Type 0 where
  pub offset : x < offset_count
  pub index : j < data_size v
  pub lies : byte_of v x j ≡ b

-- each file byte belongs to at most one pair, whatever the byte
pub record OneOwner (v : PaperView) : Type 0 where
  pub one : (b x y j k : ℕ) → Belongs v b x j → Belongs v b y k → (x ≡ y) × (j ≡ k)

-- the paper's numbers of each answer: whether a pair is named, its offset and its index; both are 0 where none is
unfoldable pub owner_numbers : Option Pair → OwnerNumbers
owner_numbers (Some p) = record { named = true; offset = p.offset; index = p.index }
owner_numbers None = record { named = false; offset = record { 0 = pos 0 }; index = 0 }

-- what the reverse lookup is to answer for byte b: it names the pair that b belongs to, or says none, and then there is no such pair
pub record Answers (v : PaperView) (b : ℕ) (o : Option Pair) : Type 0 where
  pub pair : (owner_numbers o).named ≡ true → (x : ℕ) × (((owner_numbers o).offset.0 ≡ pos x) × Belongs v b x (owner_numbers o).index)
  pub none : (owner_numbers o).named ≡ false → (x j : ℕ) → Belongs v b x j → ⊥
