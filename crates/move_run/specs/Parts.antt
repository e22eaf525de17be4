-- Need not be believed. What a run of bytes is: the contracts of calls cite `byte_of` and `written`, and the proofs show that these make them up.
use Rattle.std.specs.Prelude.{ℕ, ◌+◌, ◌≤◌, List}
use Rattle.laws.specs.Lists.{nth}

-- place k of a run that begins at a
unfoldable pub onward : ℕ → ℕ → ℕ
onward a k = a + k

-- byte k of a run of l that begins at a
unfoldable pub byte_from : List ℕ → ℕ → ℕ → ℕ
byte_from l a k = nth l (a + k)

-- a run of `width` places from `from` on lies within one list, and one from `to` on within another, by their lengths
pub record Runs (there from here to width : ℕ) : Type 0 where
  pub source : from + width ≤ there
  pub target : to + width ≤ here

-- one value for each place
unfoldable pub always : ℕ → ℕ → ℕ
always x k = x
