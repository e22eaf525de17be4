-- Need not be believed. What the copiers of one etype move: the contracts of calls cite `byte_of` and `data_size`, and the proofs show that these make them up.
use Rattle.std.specs.Prelude.{ℕ, ◌+◌, ◌≤◌, ◌<◌, true, List, ◌≡◌, pos}
use Rattle.laws.specs.Lists.{nth, tabulate}
use Rattle.view.specs.Limits.{width_allowed}
use Rattle.view.specs.Types.{PaperType}
use Rattle.view.specs.Places.{data_at}
use Rattle.view.specs.Parts.{EntriesValid, reach_of, size_of}

-- n entries of widths ws and displacements ds, as a type; its extent plays no part in where its data lie
unfoldable pub type_of : ℕ → List ℕ → List ℕ → PaperType
type_of n ws ds = record { widths = tabulate (nth ws) n; displacements = tabulate (λ i. pos (nth ds i)) n; extent = pos 0 }

-- where packed byte j lies in the file, of an etype that begins at a
unfoldable pub place_in : ℕ → List ℕ → List ℕ → ℕ → ℕ → ℕ
place_in n ws ds a j = a + data_at (type_of n ws ds) j

-- the file's byte there
unfoldable pub byte_in : ℕ → List ℕ → List ℕ → List ℕ → ℕ → ℕ → ℕ
byte_in n ws ds file a j = nth file (place_in n ws ds a j)

-- an etype that begins at a lies within len bytes, and its data fit into `room`
pub record Lies (n : ℕ) (ws ds : List ℕ) (a len room : ℕ) : Type 0 where
  pub valid : EntriesValid n ws ds
  pub allowed : (i : ℕ) → i < n → width_allowed (nth ws i) ≡ true
  pub inside : a + reach_of ws ds n ≤ len
  pub fits : size_of n ws ≤ room
