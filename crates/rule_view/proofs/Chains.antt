-- The tests of this crate: the etype, the filetype and overlap.
use Rattle.laws.proofs.Prelude.{ℕ, ◌+◌, ◌-◌, ◌*◌, ◌≤◌, ◌<◌, ◌≡◌, ◌∙◌, Bool, true, List, arith, mul-le-mul, length, get_or, take, get_or-take, length-take-le, w64, Fits, leb-true, all, nth, also_inv, within_inv, all_at, all_same, greatest_least}
use Rattle.view.specs.declared.View.{View}
use Rattle.view.specs.Parts.{ordered, entry_end, EntriesValid, reach_of}
use Rattle.view.proofs.Accepted.{width_small}
use Rattle.rule_limits.specs.Parts.{entry_fits}
use Rattle.rule_entries.specs.Parts.{entry_fits_at}
use Rattle.rule_instances.specs.Parts.{OriginsValid, reach_at}
use Rattle.sorting.specs.Parts.{never_decreases}
use Rattle.rule_overlap.specs.Parts.{RecordReady}
use Rattle.rule_view.specs.Parts.{etype_accepted, filetype_accepted, ShapeValid}

-- ---- the etype

pub ordered_prefix : (ds : List ℕ) (n : ℕ) (t : Bool) → t ≡ never_decreases (take n ds) → n ≤ length ds → t ≡ ordered (nth ds) n
unfolding ordered never_decreases
ordered_prefix ds n t h l =
    h ∙ rw (length-take-le n ds l)
    (all_same _ _ (n - 1) (λ i b. rw (get_or-take n ds i 0 (omega arith), get_or-take n ds (i + 1) 0 (omega arith))))

module _ (v : View) (h : etype_accepted v ≡ true) where
  counts : (1 ≤ v.numbers.etype.entries) × (v.numbers.etype.entries ≤ 8)
  unfolding etype_accepted
  counts = within_inv 1 8 v.numbers.etype.entries (also_inv _ _ h).0

  extents : (1 ≤ v.numbers.etype.extent) × (v.numbers.etype.extent ≤ 1048576)
  unfolding etype_accepted
  extents = within_inv 1 1048576 v.numbers.etype.extent (also_inv _ _ (also_inv _ _ h).1).0

  all_fit : all (entry_fits_at v.widths v.displacements) v.numbers.etype.entries ≡ true
  unfolding etype_accepted
  all_fit = (also_inv _ _ (also_inv _ _ (also_inv _ _ h).1).1).0

  entry_end_law : (i : ℕ) → i < v.numbers.etype.entries → entry_end v.widths v.displacements i ≤ 1048576
  unfolding entry_fits_at entry_fits
  entry_end_law i l = leb-true _ _ (also_inv _ _ (all_at (entry_fits_at v.widths v.displacements) v.numbers.etype.entries all_fit i l)).1

  pub etype_entries : EntriesValid v.numbers.etype.entries v.widths v.displacements
  etype_entries = record { some = omega (arith, counts.0); few = counts.1; ends = entry_end_law }

  pub etype_extent : 0 < v.numbers.etype.extent
  etype_extent = omega (arith, extents.0)

  pub etype_some : 1 ≤ v.numbers.etype.entries
  etype_some = counts.0

  pub entries_fit_law : (k : ℕ) → k ≤ 64 → Fits w64 (k * v.numbers.etype.entries)
  entries_fit_law k l = record { fits = omega (arith, mul-le-mul l counts.1) }

  pub reach_small : (r : ℕ) → r ≡ reach_of v.widths v.displacements v.numbers.etype.entries → r ≤ 1048576
  unfolding reach_of
  reach_small r q = rw q (greatest_least (entry_end v.widths v.displacements) v.numbers.etype.entries 1048576 entry_end_law)

  pub last_in : v.numbers.etype.entries - 1 < 8
  last_in = omega (arith, counts.0, counts.1)

  pub last_small : get_or v.displacements (v.numbers.etype.entries - 1) 0 ≤ 1048576
  last_small = omega (arith, entry_end_law (v.numbers.etype.entries - 1) (omega (arith, counts.0)))

  pub first_small : get_or v.displacements 0 0 ≤ 1048576
  first_small = omega (arith, entry_end_law 0 (omega (arith, counts.0)))

-- ---- the filetype

module _ (k : ℕ) (ps : List ℕ) (reach : ℕ) (all_reach : all (reach_at ps reach) k ≡ true) where
  origin_small : (g : ℕ) → g < k → nth ps g ≤ 1048576
  unfolding reach_at
  origin_small g l = omega (arith, leb-true (nth ps g + reach) 1048576 (all_at _ k all_reach g l))

  pub reach_origins : 1 ≤ k → k ≤ 64 → OriginsValid k ps
  reach_origins a b = record { some = omega arith; few = b; small = origin_small }

-- ---- what the tests of the etype and the filetype leave for that of overlap

module _ (v : View) where
  pub shape_valid : etype_accepted v ≡ true → filetype_accepted v ≡ true → ShapeValid v
  unfolding filetype_accepted
  shape_valid h g =
      let a = also_inv _ _ g in
      let b = also_inv _ _ a.1 in
      let c = also_inv _ _ b.1 in
      let d = also_inv _ _ c.1 in
      let m = within_inv 1 64 _ a.0 in
      record { entries = etype_entries v h; origins = reach_origins _ v.origins _ d.0 m.0 m.1; extent = (within_inv 1 1048576 _ c.0).1 }

  -- and for the entries' keys
  pub groups_ready : etype_accepted v ≡ true → filetype_accepted v ≡ true → RecordReady v
  unfolding etype_accepted filetype_accepted entry_fits_at entry_fits
  groups_ready h g =
      let s = shape_valid h g in
      let a = also_inv _ _ g in
      let b = also_inv _ _ a.1 in
      let c = also_inv _ _ b.1 in
      let f = (also_inv _ _ (also_inv _ _ (also_inv _ _ h).1).1).0 in
      record {
        some = s.entries.some;
        few = s.entries.few;
        some_instances = s.origins.some;
        few_instances = s.origins.few;
        total = leb-true _ _ b.0;
        some_extent = omega (arith, (within_inv 1 1048576 _ c.0).0);
        extent = s.extent;
        displacements = λ i l. omega (arith, s.entries.ends i l);
        widths = λ i l. let w = width_small (nth v.widths i) (also_inv _ _ (all_at (entry_fits_at v.widths v.displacements) v.numbers.etype.entries f i l)).0 in (omega (arith, w.0), omega (arith, w.1));
        origins = s.origins.small;
      }
