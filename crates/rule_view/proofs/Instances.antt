-- Rules on the filetype, whose entries are the etype's shifted by each origin: what is tested on the record is what the paper asks of the lists.
use Rattle.laws.proofs.Prelude.{ℕ, ◌+◌, ◌-◌, ◌*◌, ◌/◌, ◌%◌, ◌≤◌, ◌<◌, ◌≡◌, sym, ap, ◌∙◌, true, ⊎_elim, arith, mod-lt, zero-div, zero-mod, leb, le-leb, leb-true, lt-ltb, le-ltb, all, greatest, nth, iff, also_inv, also_true, lt_or_le, all_at, all_intro, run_below, run_div, run_mod, runs_below, times_more, greatest_above, greatest_one}
use Rattle.view.specs.declared.View.{View}
use Rattle.view.specs.Limits.{width_allowed, entry_displacement_allowed}
use Rattle.view.specs.Types.{paper, entries, width_at, displacement_at}
use Rattle.view.specs.Rules.{entry_allowed, entries_allowed, type_ordered, origin, view_holes_fit, IsBuilt}
use Rattle.view.specs.Parts.{ordered, holes_fit, built, entry_end, reach_of, next_begins, entry_apart, apart}
use Rattle.view.proofs.Paper.{paper_entries, paper_file_entries, paper_width, paper_displacement, paper_file_width, paper_file_displacement_read, paper_file_displacement, paper_extent, paper_file_extent, paper_instances, paper_origin}
use Rattle.view.proofs.Accepted.{type_entry, width_small, holes_are}
use Rattle.view.proofs.Groups.{built_only}
use Rattle.rule_limits.specs.Parts.{entry_fits}
use Rattle.rule_entries.specs.Parts.{entry_fits_at, apart_at}
use Rattle.rule_instances.specs.Parts.{reach_at, step_at, origins_step}
use Rattle.rule_instances.proofs.Holes.{holes_same}
use Rattle.rule_view.specs.Parts.{shape_apart}
use Rattle.rule_view.proofs.Pieces.{Linked, inside, across, linked}

-- ---- the filetype, where the etype has entries and the filetype instances

module _ (v : View) (some : 0 < v.numbers.etype.entries) (more : 0 < v.numbers.filetype.instances) where
  pub view_holes_same : view_holes_fit (paper v) ≡ holes_fit (nth v.origins) v.numbers.filetype.instances v.numbers.etype.extent v.numbers.filetype.extent
  view_holes_same = holes_are (paper v) ∙ rw (paper_instances v some, paper_extent v, paper_file_extent v) (holes_same (origin (paper v)) (nth v.origins) v.numbers.filetype.instances v.numbers.etype.extent v.numbers.filetype.extent more (paper_origin v some))

  -- the filetype is built of the etype, by the record's very form
  shifted : IsBuilt (paper v)
  shifted = record {
    groups = v.numbers.filetype.instances;
    whole_groups_law = rw (paper_entries v, paper_file_entries v);
    shift = nth v.origins;
    widths = λ g e lg le. (entry g e lg (omega (arith, paper_entries v, le))).0;
    displacements = λ g e lg le. (entry g e lg (omega (arith, paper_entries v, le))).1;
  }
    where
      entry : (g e : ℕ) → g < v.numbers.filetype.instances → e < v.numbers.etype.entries → (width_at (paper v).filetype (g * entries (paper v).etype + e) ≡ width_at (paper v).etype e) × (displacement_at (paper v).filetype (g * entries (paper v).etype + e) ≡ displacement_at (paper v).etype e + nth v.origins g)
      entry g e lg le =
          let n = v.numbers.etype.entries in
          let b = run_below v.numbers.filetype.instances n g e lg le in
          let d = run_div n g e le in
          let m = run_mod n g e le in
          let w : width_at (paper v).filetype (g * n + e) ≡ width_at (paper v).etype e = paper_file_width v (g * n + e) b ∙ ap (nth v.widths) m ∙ sym (paper_width v e le) in
          let p : displacement_at (paper v).filetype (g * n + e) ≡ displacement_at (paper v).etype e + nth v.origins g = omega (arith, paper_file_displacement v (g * n + e) b, ap (nth v.origins) d, ap (nth v.displacements) m, paper_displacement v e le) in
          rw (paper_entries v) (w, p)

  pub view_built : built (paper v) ≡ true
  view_built =
      let some_entries : 0 < entries (paper v).filetype = omega (arith, paper_file_entries v, run_below v.numbers.filetype.instances v.numbers.etype.entries 0 0 more some) in
      built_only (paper v) (omega (arith, some, paper_entries v)) shifted some_entries

  -- limits: each entry of each instance ends within them exactly if the farthest of each instance does
  module _ (fits : all (entry_fits_at v.widths v.displacements) v.numbers.etype.entries ≡ true) where
    entry_width : (e : ℕ) → e < v.numbers.etype.entries → width_allowed (nth v.widths e) ≡ true
    unfolding entry_fits_at entry_fits
    entry_width e l = (also_inv _ _ (all_at _ v.numbers.etype.entries fits e l)).0

    entry_limit : (g e : ℕ) → nth v.origins g + reach_of v.widths v.displacements v.numbers.etype.entries ≤ 1048576 → e < v.numbers.etype.entries → nth v.origins g + nth v.displacements e + nth v.widths e ≤ 1048576
    unfolding reach_of
    entry_limit g e h l = omega (arith, greatest_above (entry_end v.widths v.displacements) v.numbers.etype.entries e l)

    pub reach_allowed : all (reach_at v.origins (reach_of v.widths v.displacements v.numbers.etype.entries)) v.numbers.filetype.instances ≡ true → entries_allowed (paper v).filetype ≡ true
    unfolding entries_allowed entry_allowed entry_displacement_allowed reach_at
    reach_allowed h =
        rw (paper_file_entries v)
        (all_intro _ (v.numbers.filetype.instances * v.numbers.etype.entries) (λ i l.
        let g = runs_below v.numbers.filetype.instances v.numbers.etype.entries i some l in
        let m = mod-lt i {m = v.numbers.etype.entries} some in
        let r = leb-true _ 1048576 (all_at _ v.numbers.filetype.instances h (i / v.numbers.etype.entries) g) in
        rw (paper_file_width v i l, paper_file_displacement_read v i l)
        (also_true (entry_width (i % v.numbers.etype.entries) m) (le-leb _ _ (entry_limit (i / v.numbers.etype.entries) (i % v.numbers.etype.entries) r m)))))

    reach_some : 0 < reach_of v.widths v.displacements v.numbers.etype.entries
    unfolding reach_of
    reach_some = omega (arith, greatest_above (entry_end v.widths v.displacements) v.numbers.etype.entries 0 some, width_small (nth v.widths 0) (entry_width 0 some))

    -- the entry that reaches farthest is an entry of each instance
    allowed_limit : ((i : ℕ) → i < entries (paper v).filetype → displacement_at (paper v).filetype i + width_at (paper v).filetype i ≤ 1048576) → (g : ℕ) → g < v.numbers.filetype.instances → nth v.origins g + reach_of v.widths v.displacements v.numbers.etype.entries ≤ 1048576
    unfolding reach_of
    allowed_limit h g l =
        let f = greatest_one (entry_end v.widths v.displacements) v.numbers.etype.entries reach_some in
        let b = run_below v.numbers.filetype.instances v.numbers.etype.entries g f.0 l f.1.0 in
        let a = h (g * v.numbers.etype.entries + f.0) (omega (arith, paper_file_entries v)) in
        let d = paper_file_displacement v (g * v.numbers.etype.entries + f.0) b in
        let w = paper_file_width v (g * v.numbers.etype.entries + f.0) b in
        let e : entry_end v.widths v.displacements f.0 ≡ greatest (entry_end v.widths v.displacements) v.numbers.etype.entries = f.1.1 in
        let x = rw (run_div v.numbers.etype.entries g f.0 f.1.0, run_mod v.numbers.etype.entries g f.0 f.1.0) at d in
        let y = rw (run_mod v.numbers.etype.entries g f.0 f.1.0) at w in
        omega arith

    pub allowed_reach : entries_allowed (paper v).filetype ≡ true → all (reach_at v.origins (reach_of v.widths v.displacements v.numbers.etype.entries)) v.numbers.filetype.instances ≡ true
    unfolding reach_at
    allowed_reach h = all_intro _ v.numbers.filetype.instances (λ g l. le-leb _ _ (allowed_limit (λ i b. (type_entry (paper v).filetype h i b).1) g l))

  -- order
  file_order : (i : ℕ) → i + 1 < v.numbers.filetype.instances * v.numbers.etype.entries → leb (displacement_at (paper v).filetype i) (displacement_at (paper v).filetype (i + 1)) ≡ leb (nth v.origins (i / v.numbers.etype.entries) + nth v.displacements (i % v.numbers.etype.entries)) (nth v.origins ((i + 1) / v.numbers.etype.entries) + nth v.displacements ((i + 1) % v.numbers.etype.entries))
  file_order i l = rw (paper_file_displacement v i (omega arith), paper_file_displacement v (i + 1) l)

  pub order_step : ordered (nth v.displacements) v.numbers.etype.entries ≡ true → type_ordered (paper v).filetype ≡ origins_step v.origins v.numbers.filetype.instances (nth v.displacements (v.numbers.etype.entries - 1)) (nth v.displacements 0)
  unfolding ordered type_ordered origins_step step_at Linked
  order_step o = rw (paper_file_entries v) (iff _ _ split join)
    where
      d : ℕ → ℕ
      d = nth v.displacements

      p : ℕ → ℕ
      p = nth v.origins

      split : all (λ i. leb (displacement_at (paper v).filetype i) (displacement_at (paper v).filetype (i + 1))) (v.numbers.filetype.instances * v.numbers.etype.entries - 1) ≡ true → all (λ g. leb (p g + d (v.numbers.etype.entries - 1)) (p (g + 1) + d 0)) (v.numbers.filetype.instances - 1) ≡ true
      split h = all_intro _ (v.numbers.filetype.instances - 1) (λ g l. le-leb _ _ (across p d d v.numbers.etype.entries v.numbers.filetype.instances some more (λ i b. leb-true _ _ (sym (file_order i (omega arith)) ∙ all_at _ (v.numbers.filetype.instances * v.numbers.etype.entries - 1) h i b)) g l))

      join : all (λ g. leb (p g + d (v.numbers.etype.entries - 1)) (p (g + 1) + d 0)) (v.numbers.filetype.instances - 1) ≡ true → all (λ i. leb (displacement_at (paper v).filetype i) (displacement_at (paper v).filetype (i + 1))) (v.numbers.filetype.instances * v.numbers.etype.entries - 1) ≡ true
      join h = all_intro _ (v.numbers.filetype.instances * v.numbers.etype.entries - 1) (λ i b. file_order i (omega arith) ∙ le-leb _ _ (linked p d d v.numbers.etype.entries v.numbers.filetype.instances some more (λ e l. leb-true _ _ (all_at _ (v.numbers.etype.entries - 1) o e l)) (λ g l. leb-true _ _ (all_at _ (v.numbers.filetype.instances - 1) h g l)) i b))

  -- overlap: the next entry, or the first of the next tile
  module _ (i : ℕ) (l : i < v.numbers.filetype.instances * v.numbers.etype.entries) where
    file_end : displacement_at (paper v).filetype i + width_at (paper v).filetype i ≡ nth v.origins (i / v.numbers.etype.entries) + entry_end v.widths v.displacements (i % v.numbers.etype.entries)
    file_end = omega (arith, paper_file_displacement v i l, paper_file_width v i l)

    next_begins_law : i + 1 < v.numbers.filetype.instances * v.numbers.etype.entries → next_begins (paper v) i ≡ nth v.origins ((i + 1) / v.numbers.etype.entries) + nth v.displacements ((i + 1) % v.numbers.etype.entries)
    unfolding next_begins
    next_begins_law b = rw (paper_file_entries v, lt-ltb (i + 1) (v.numbers.filetype.instances * v.numbers.etype.entries) b) (paper_file_displacement v (i + 1) b)

    tile_begins : v.numbers.filetype.instances * v.numbers.etype.entries ≤ i + 1 → next_begins (paper v) i ≡ nth v.origins 0 + nth v.displacements 0 + v.numbers.filetype.extent
    unfolding next_begins
    tile_begins b =
        let z = run_below v.numbers.filetype.instances v.numbers.etype.entries 0 0 more some in
        let x = rw (zero-div v.numbers.etype.entries, zero-mod v.numbers.etype.entries) at (paper_file_displacement v 0 (omega arith)) in
        rw (paper_file_entries v, le-ltb (i + 1) (v.numbers.filetype.instances * v.numbers.etype.entries) b, paper_file_extent v) (omega arith)

  ends : ℕ → ℕ
  ends = entry_end v.widths v.displacements

  last_entry : v.numbers.filetype.instances * v.numbers.etype.entries - 1 ≡ (v.numbers.filetype.instances - 1) * v.numbers.etype.entries + (v.numbers.etype.entries - 1)
  last_entry = let k : v.numbers.filetype.instances - 1 + 1 ≡ v.numbers.filetype.instances = omega arith in omega (arith, times_more (v.numbers.filetype.instances - 1) v.numbers.etype.entries, ap (λ (z : ℕ). z * v.numbers.etype.entries) k)

  entry_linked : apart (paper v) ≡ true → (i : ℕ) → i < v.numbers.filetype.instances * v.numbers.etype.entries → displacement_at (paper v).filetype i + width_at (paper v).filetype i ≤ next_begins (paper v) i
  unfolding apart entry_apart
  entry_linked h i l = leb-true _ _ (all_at _ (entries (paper v).filetype) h i (omega (arith, paper_file_entries v)))

  apart_linked : apart (paper v) ≡ true → (i : ℕ) → i < v.numbers.filetype.instances * v.numbers.etype.entries - 1 → Linked (nth v.origins) ends (nth v.displacements) v.numbers.etype.entries v.numbers.filetype.instances some more i
  unfolding Linked ends
  apart_linked h i l = omega (arith, entry_linked h i (omega arith), file_end i (omega arith), next_begins_law i (omega arith) (omega arith))

  tile_end : apart (paper v) ≡ true → nth v.origins (v.numbers.filetype.instances - 1) + entry_end v.widths v.displacements (v.numbers.etype.entries - 1) ≤ nth v.origins 0 + nth v.displacements 0 + v.numbers.filetype.extent
  tile_end h =
      let b = run_below v.numbers.filetype.instances v.numbers.etype.entries (v.numbers.filetype.instances - 1) (v.numbers.etype.entries - 1) (omega arith) (omega arith) in
      let l : v.numbers.filetype.instances * v.numbers.etype.entries - 1 < v.numbers.filetype.instances * v.numbers.etype.entries = omega (arith, last_entry) in
      let e = rw (last_entry, run_div v.numbers.etype.entries (v.numbers.filetype.instances - 1) (v.numbers.etype.entries - 1) (omega arith), run_mod v.numbers.etype.entries (v.numbers.filetype.instances - 1) (v.numbers.etype.entries - 1) (omega arith)) at (file_end (v.numbers.filetype.instances * v.numbers.etype.entries - 1) l) in
      let a = rw last_entry at (entry_linked h (v.numbers.filetype.instances * v.numbers.etype.entries - 1) l) in
      let t = rw last_entry at (tile_begins (v.numbers.filetype.instances * v.numbers.etype.entries - 1) l (omega arith)) in
      omega arith

  apart_held : apart (paper v) ≡ true → shape_apart v ≡ true
  unfolding shape_apart apart_at origins_step step_at ends
  apart_held h =
      also_true (all_intro _ (v.numbers.etype.entries - 1) (λ e l. le-leb _ _ (inside (nth v.origins) ends (nth v.displacements) v.numbers.etype.entries v.numbers.filetype.instances some more (apart_linked h) e l)))
      (also_true (all_intro _ (v.numbers.filetype.instances - 1) (λ g l. le-leb _ _ (across (nth v.origins) ends (nth v.displacements) v.numbers.etype.entries v.numbers.filetype.instances some more (apart_linked h) g l)))
      (le-leb _ _ (tile_end h)))

  module _ (h : shape_apart v ≡ true) where
    entries_held : (e : ℕ) → e < v.numbers.etype.entries - 1 → ends e ≤ nth v.displacements (e + 1)
    unfolding shape_apart apart_at ends
    entries_held e l = leb-true _ _ (all_at _ (v.numbers.etype.entries - 1) (also_inv _ _ h).0 e l)

    steps_held : (g : ℕ) → g < v.numbers.filetype.instances - 1 → nth v.origins g + ends (v.numbers.etype.entries - 1) ≤ nth v.origins (g + 1) + nth v.displacements 0
    unfolding shape_apart origins_step step_at ends
    steps_held g l = leb-true _ _ (all_at _ (v.numbers.filetype.instances - 1) (also_inv _ _ (also_inv _ _ h).1).0 g l)

    tile_held : nth v.origins (v.numbers.filetype.instances - 1) + ends (v.numbers.etype.entries - 1) ≤ nth v.origins 0 + nth v.displacements 0 + v.numbers.filetype.extent
    unfolding shape_apart ends
    tile_held = leb-true _ _ (also_inv _ _ (also_inv _ _ h).1).1

    -- an entry before the last, and the last one
    entry_before : (i : ℕ) → i < v.numbers.filetype.instances * v.numbers.etype.entries - 1 → displacement_at (paper v).filetype i + width_at (paper v).filetype i ≤ next_begins (paper v) i
    unfolding Linked ends
    entry_before i l =
        let a = linked (nth v.origins) ends (nth v.displacements) v.numbers.etype.entries v.numbers.filetype.instances some more entries_held steps_held i l in
        omega (arith, file_end i (omega arith), next_begins_law i (omega arith) (omega arith))

    entry_last : (i : ℕ) → i < v.numbers.filetype.instances * v.numbers.etype.entries → v.numbers.filetype.instances * v.numbers.etype.entries ≤ i + 1 → displacement_at (paper v).filetype i + width_at (paper v).filetype i ≤ next_begins (paper v) i
    unfolding ends
    entry_last i l b =
        let z : i ≡ (v.numbers.filetype.instances - 1) * v.numbers.etype.entries + (v.numbers.etype.entries - 1) = omega (arith, last_entry) in
        let g : i / v.numbers.etype.entries ≡ v.numbers.filetype.instances - 1 = ap (λ (x : ℕ). x / v.numbers.etype.entries) z ∙ run_div v.numbers.etype.entries (v.numbers.filetype.instances - 1) (v.numbers.etype.entries - 1) (omega arith) in
        let e : i % v.numbers.etype.entries ≡ v.numbers.etype.entries - 1 = ap (λ (x : ℕ). x % v.numbers.etype.entries) z ∙ run_mod v.numbers.etype.entries (v.numbers.filetype.instances - 1) (v.numbers.etype.entries - 1) (omega arith) in
        omega (arith, rw (g, e) at (file_end i l), tile_begins i l b, tile_held)

    held_apart : apart (paper v) ≡ true
    unfolding apart entry_apart
    held_apart = rw (paper_file_entries v) (all_intro _ (v.numbers.filetype.instances * v.numbers.etype.entries) (λ i l. le-leb _ _ (⊎_elim (λ b. entry_before i (omega arith)) (λ b. entry_last i l b) (lt_or_le (i + 1) (v.numbers.filetype.instances * v.numbers.etype.entries)))))

  pub apart_same : apart (paper v) ≡ shape_apart v
  apart_same = iff _ _ apart_held held_apart
