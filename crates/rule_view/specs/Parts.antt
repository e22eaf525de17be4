-- Need not be believed. What the functions of this crate test on a view, part by part: the contract of `is_accepted` is `accepted`, and the proofs show that the parts make it up.
use Rattle.std.specs.Prelude.{ℕ, ◌+◌, ◌-◌, ◌*◌, ◌≤◌, Bool, not, leb}
use Rattle.laws.specs.Checks.{also, either, within}
use Rattle.laws.specs.Search.{all}
use Rattle.laws.specs.Lists.{nth}
use Rattle.view.specs.declared.View.{View}
use Rattle.view.specs.Parts.{max_etype_entries, max_filetype_entries, max_instances, max_extent, max_displacement, ordered, holes_fit, EntriesValid, entry_end, reach_of, clear}
use Rattle.view.specs.Types.{paper}
use Rattle.view.specs.Modes.{allows_writing}
use Rattle.rule_entries.specs.Parts.{apart_at, entry_fits_at}
use Rattle.rule_instances.specs.Parts.{OriginsValid, origins_step, reach_at}

-- ---- the etype

unfoldable pub etype_accepted : View → Bool
etype_accepted v =
    let e = v.numbers.etype in
    also (within 1 max_etype_entries e.entries)
    (also (within 1 max_extent e.extent)
    (also (all (entry_fits_at v.widths v.displacements) e.entries)
    (ordered (nth v.displacements) e.entries)))

-- ---- the filetype

unfoldable pub filetype_accepted : View → Bool
filetype_accepted v =
    let n = v.numbers.etype.entries in
    let k = v.numbers.filetype.instances in
    also (within 1 max_instances k)
    (also (leb (k * n) max_filetype_entries)
    (also (within 1 max_extent v.numbers.filetype.extent)
    (also (all (reach_at v.origins (reach_of v.widths v.displacements n)) k)
    (also (origins_step v.origins k (nth v.displacements (n - 1)) (nth v.displacements 0))
    (holes_fit (nth v.origins) k v.numbers.etype.extent v.numbers.filetype.extent)))))

-- ---- overlap

-- tiles in order, which have no bytes that clash
unfoldable pub shape_apart : View → Bool
shape_apart v =
    let n = v.numbers.etype.entries in
    let k = v.numbers.filetype.instances in
    let end = entry_end v.widths v.displacements (n - 1) in
    also (all (apart_at v.widths v.displacements) (n - 1))
    (also (origins_step v.origins k end (nth v.displacements 0))
    (leb (nth v.origins (k - 1) + end) (nth v.origins 0 + nth v.displacements 0 + v.numbers.filetype.extent)))

-- what the test of overlap asks: both types keep their limits
pub record ShapeValid (v : View) : Type 0 where
  pub entries : EntriesValid v.numbers.etype.entries v.widths v.displacements
  pub origins : OriginsValid v.numbers.filetype.instances v.origins
  pub extent : v.numbers.filetype.extent ≤ max_extent

-- ---- the view

unfoldable pub view_accepted : ℕ → View → Bool
view_accepted mode v =
    also (leb v.numbers.displacement max_displacement)
    (also (etype_accepted v)
    (also (filetype_accepted v)
    (either (not (allows_writing mode)) (either (shape_apart v) (clear (paper v))))))
