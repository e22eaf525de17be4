-- Need not be believed. What the functions of this crate test, rule by rule, on lists: `rule_view::is_accepted` and `rule_set::accept` have the paper's definitions in their contracts, and the proofs show that these make them up.
use Rattle.std.specs.Prelude.{ℕ, ◌+◌, ◌≤◌, ◌<◌, Bool, cond, List, ◌≡◌, leb, ltb, length}
use Rattle.laws.specs.Lists.{nth}
use Rattle.view.specs.Parts.{max_entry_end, max_extent, entry_end}
use Rattle.rule_limits.specs.Parts.{entry_fits}

-- ---- the etype, with widths ws and displacements ds

unfoldable pub entry_fits_at : List ℕ → List ℕ → ℕ → Bool
entry_fits_at ws ds i = entry_fits (nth ws i) (nth ds i)

-- ---- overlap

unfoldable pub apart_at : List ℕ → List ℕ → ℕ → Bool
apart_at ws ds i = leb (entry_end ws ds i) (nth ds (i + 1))

-- entry i of a filetype of widths ws and displacements ds ends at or before the next one begins, the last one before the first one of the next tile
unfoldable pub apart_in : List ℕ → List ℕ → ℕ → ℕ → Bool
apart_in ws ds f i = leb (entry_end ws ds i) (cond (ltb (i + 1) (length ws)) (nth ds (i + 1)) (nth ds 0 + f))

-- what this asks of the lists and the extent: limits that checks 4 to 6 leave
pub record ListsReady (ws ds : List ℕ) (f : ℕ) : Type 0 where
  pub some : 0 < length ws
  pub pairs : length ds ≡ length ws
  pub ends : (i : ℕ) → i < length ws → entry_end ws ds i ≤ max_entry_end
  pub extent : f ≤ max_extent
