-- Need not be believed. How an access finds its places, by one division for its first offset and then by a step from each offset to the next; and end of file, from the tiles of each instance. All on a view's numbers and its origins: `place` and `end_of_file` are shown to be made up of these.
use Rattle.std.specs.Prelude.{ℕ, ◌+◌, ◌*◌, ◌/◌, ◌%◌, ◌≤◌, ◌<◌, cond, List, ltb}
use Rattle.laws.specs.Lists.{nth}
use Rattle.laws.specs.Parts.{greatest}
use Rattle.view.specs.declared.Numbers.{Numbers}
use Rattle.view.specs.Parts.{max_instances, max_entry_end, max_extent, max_displacement, end_from}
use Rattle.view_place.specs.declared.Spot.{Spot}

-- the numbers that lay out the tiles keep document 01's limits
pub record Tiled (v : Numbers) : Type 0 where
  pub start : v.displacement ≤ max_displacement
  pub some : 0 < v.filetype.instances
  pub few : v.filetype.instances ≤ max_instances
  pub extent : 0 < v.filetype.extent
  pub small : v.filetype.extent ≤ max_extent

-- and so do the origins ps of the instances: each lies below the limit on an entry's end
pub record OriginsLow (v : Numbers) (ps : List ℕ) : Type 0 where
  pub origin : (i : ℕ) → i < v.filetype.instances → nth ps i < max_entry_end

-- the spot of offset x: the beginning of its tile, and its instance there
unfoldable pub spot_at : Numbers → ℕ → Spot
spot_at v x =
    record {
      tile = record { 0 = v.displacement + x / v.filetype.instances * v.filetype.extent };
      instance = x % v.filetype.instances;
    }

-- where the etype at x begins
unfoldable pub place_on : Numbers → List ℕ → ℕ → ℕ
place_on v ps x = v.displacement + x / v.filetype.instances * v.filetype.extent + nth ps (x % v.filetype.instances)

-- the spot of the next offset: the next instance, and after the last one the first of the next tile
unfoldable pub next_spot : Spot → ℕ → ℕ → Spot
next_spot s k f =
    cond (ltb (s.instance + 1) k)
    (record { tile = s.tile; instance = s.instance + 1 })
    (record { tile = record { 0 = s.tile.0 + f }; instance = 0 })

-- an etype that begins at a spot of a filetype with origins ps lies in the machine's range
pub record SpotValid (ps : List ℕ) (s : Spot) : Type 0 where
  pub instance : s.instance < max_instances
  pub fits : s.tile.0 + nth ps s.instance < 18446744073709551616

-- the end of instance i, and the greatest over all
unfoldable pub end_at : Numbers → List ℕ → ℕ → ℕ → ℕ
end_at v ps size i = end_from (v.displacement + nth ps i) size v.filetype.extent v.filetype.instances i

unfoldable pub end_on : Numbers → List ℕ → ℕ → ℕ
end_on v ps size = greatest (end_at v ps size) v.filetype.instances
