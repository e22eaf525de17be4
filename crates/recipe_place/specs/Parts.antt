-- Need not be believed. The entries that a table of steps stands for, and what a table must keep so that they can be placed.
use Rattle.std.specs.Prelude.{ℕ, zero, suc, ◌+◌, ◌-◌, ◌*◌, ◌≤◌, ◌<◌, cond, List, [], map, ◌≡◌, eqb, ℤ, pos, ◌+ℤ◌, ◌*ℤ◌, length}
use Rattle.std.proofs.Math.IntN.{sub_ℕ}
use Rattle.laws.specs.Lists.{nth}
use Rattle.recipe_types.specs.Typemaps.{Entry, basic, joined, shifted}
use Rattle.recipe_types.specs.Recipes.{over}
use Rattle.recipe_types.specs.Parts.{bias, max_place, shape_at, shape_below}
use Rattle.recipe_place.specs.declared.Row.{Row}

-- what the row of step i says of it
unfoldable pub row_of : List ℕ → ℕ → Row
row_of rows i = record { copies = nth rows (8 * i); source = nth rows (8 * i + 1); name = nth rows (8 * i + 2) }

-- the entries of what step i names, given those of earlier steps
unfoldable pub plan_named : List ℕ → (ℕ → List Entry) → ℕ → List Entry
plan_named rows earlier i = cond (eqb (nth rows (8 * i + 1)) 1) (basic (nth rows (8 * i + 2))).entries (earlier (nth rows (8 * i + 2)))

-- n copies of some entries, shifted by the places of step i, in extents
unfoldable pub plan_copies : List ℕ → ℕ → ℕ → List Entry → ℕ → List Entry
plan_copies places i extent l n = joined (λ k. map (shifted (sub_ℕ (nth places (256 * i + k)) bias *ℤ pos extent)) l) n

unfoldable pub basic_copies : Row → List ℕ → ℕ → List Entry
basic_copies row places i = plan_copies places i row.name (basic row.name).entries row.copies

-- the entries of the first n steps
unfoldable pub plan_before : List ℕ → List ℕ → ℕ → ℕ → List Entry
plan_before rows places zero i = []
plan_before rows places (suc n) i = cond (eqb i n) (plan_copies places n (shape_below rows n).extent (plan_named rows (plan_before rows places n) n) (nth rows (8 * n))) (plan_before rows places n i)

unfoldable pub plan_of : List ℕ → List ℕ → ℕ → List Entry
plan_of rows places i = plan_before rows places (suc i) i

-- what the row of step i keeps: it names an earlier step or a small width, has few copies, all entries of which lie within its own least and end, and these within the limits
pub record RowKept (rows places : List ℕ) (i : ℕ) : Type 0 where
  pub earlier : (nth rows (8 * i + 1) ≡ 1 → ⊥) → nth rows (8 * i + 2) < i
  pub width : nth rows (8 * i + 1) ≡ 1 → nth rows (8 * i + 2) ≤ 8
  pub copies : nth rows (8 * i) ≤ 256
  pub counted : (shape_at rows i).entries ≡ nth rows (8 * i) * (shape_below rows i).entries
  pub few : (shape_at rows i).entries ≤ 256
  pub extent : (shape_at rows i).extent ≤ max_place
  pub least : (shape_at rows i).least ≤ max_place
  pub end : (shape_at rows i).end ≤ max_place
  pub small : (k : ℕ) → k < nth rows (8 * i) → nth places (256 * i + k) ≤ 2147483648
  pub above : (k : ℕ) → k < nth rows (8 * i) → bias * (shape_below rows i).extent + (shape_at rows i).least ≤ (shape_below rows i).least + nth places (256 * i + k) * (shape_below rows i).extent
  pub below : (k : ℕ) → k < nth rows (8 * i) → (shape_below rows i).end + nth places (256 * i + k) * (shape_below rows i).extent ≤ (shape_at rows i).end + bias * (shape_below rows i).extent

-- a table of n steps
pub record Plan (rows places : List ℕ) (n : ℕ) : Type 0 where
  pub rows_long : length rows ≡ 256
  pub places_long : length places ≡ 8192
  pub steps : n ≤ 32
  pub row : (i : ℕ) → i < n → RowKept rows places i

-- the entries of step i, shifted, keep the limits (the shift has 2^20 added, for it may be negative), and two lists have room for them
pub record PlaceAsked (rows places : List ℕ) (i shift widths displacements : ℕ) : Type 0 where
  pub plan : Plan rows places (suc i)
  pub above : max_place ≤ shift + (shape_at rows i).least
  pub below : shift + (shape_at rows i).end ≤ max_place + max_place
  pub widths_long : (shape_at rows i).entries ≤ widths
  pub displacements_long : (shape_at rows i).entries ≤ displacements

-- the shift of copy k of step i, and what it asks of the numbers
unfoldable pub copy_shift : List ℕ → ℕ → ℕ → ℕ → ℕ → ℕ
copy_shift places i k shift extent = shift + nth places (256 * i + k) * extent - bias * extent

pub record CopyFits (places : List ℕ) (i k shift extent : ℕ) : Type 0 where
  pub places_long : length places ≡ 8192
  pub step : i < 32
  pub copy : k < 256
  pub shift_small : shift ≤ max_place + max_place
  pub extent_small : extent ≤ max_place
  pub place_small : nth places (256 * i + k) ≤ 2147483648
  pub not_below : bias * extent ≤ shift + nth places (256 * i + k) * extent

-- copies of a basic type keep the limits, and two lists have room for them
pub record BasicFits (row : Row) (places : List ℕ) (i shift widths displacements : ℕ) : Type 0 where
  pub places_long : length places ≡ 8192
  pub step : i < 32
  pub few : row.copies ≤ 256
  pub width : row.name ≤ 8
  pub shift_small : shift ≤ max_place + max_place
  pub small : (k : ℕ) → k < row.copies → nth places (256 * i + k) ≤ 2147483648
  pub above : (k : ℕ) → k < row.copies → bias * row.name + max_place ≤ shift + nth places (256 * i + k) * row.name
  pub below : (k : ℕ) → k < row.copies → row.name + shift + nth places (256 * i + k) * row.name ≤ max_place + max_place + bias * row.name
  pub widths_long : row.copies ≤ widths
  pub displacements_long : row.copies ≤ displacements

-- the two lists after the entries were put at their front
unfoldable pub widths_of : List Entry → List ℕ
widths_of l = map (λ e. e.width) l

unfoldable pub displacements_of : List Entry → ℕ → List ℤ
displacements_of l shift = map (λ e. e.displacement +ℤ sub_ℕ shift max_place) l

pub record Placed (l : List Entry) (shift : ℕ) (ws ws' : List ℕ) (ds ds' : List ℤ) : Type 0 where
  pub widths : ws' ≡ over (widths_of l) ws
  pub displacements : ds' ≡ over (displacements_of l shift) ds
