-- The checks from 7 on on the record and the lists of natural numbers are the paper's, and they name the same entries.
use Rattle.laws.proofs.Prelude.{ℕ, ◌+◌, ◌-◌, ◌*◌, ◌%◌, ◌≤◌, ◌<◌, ◌≡◌, refl, sym, ap, ◌∙◌, true, false, not, List, ⊎_elim, arith, length, eqb, lt-ltb, le-ltb, also, either, check, nth, all, all_same, least_false, least_false_le, least_false_same, check_step, lt_or_le, run_below}
use Rattle.view.specs.declared.Named.{Named}
use Rattle.view.specs.declared.Named.TheVariants.{FiletypeEntry}
use Rattle.view.specs.Types.{PaperView, entries, width_at, displacement_at, extent_of}
use Rattle.view.specs.Rules.{type_ordered, whole_groups, instances, origin, hole_allowed, view_holes_fit}
use Rattle.view.specs.Parts.{in_order, ordered, holes_fit, entry_matches, group_matches, origin_allowed, group_built, deciding_group, order_entry, of_both, differing_entry, below_entry, hole_names, hole_entry, next_begins, entry_apart, apart, clear_of, entry_clear, clear, overlap_entry, named_by, fault_of, fault_by, record_of}
use Rattle.view.specs.Modes.{allows_writing}
use Rattle.view.proofs.Accepted.{type_entry, extent_small, width_small, spaced}
use Rattle.view.proofs.Clashing.{apart_or_clear}
use Rattle.view.proofs.Groups.{groups_whole, groups_some}
use Rattle.view.proofs.Holding.{held_at}
use Rattle.rule_instances.proofs.Holes.{hole_same}
use Rattle.rule_entries.specs.Parts.{apart_in}
use Rattle.rule_instances.specs.Parts.{hole_fits}
use Rattle.rule_groups.specs.Parts.{entry_shifted, matches_at, group_matches_at, origin_at, group_fits, deciding, first_group_fault}
use Rattle.view.specs.Acceptance.{view_refusal}
use Rattle.rule_lists.proofs.Limiting.{from7}
use Rattle.rule_set.specs.Parts.{Limited, tiles_refusal, tile_names, groups_refusal, groups_names, shapes_refusal, order_names, shape_names, shapes_fault, ShapesReady}
use Rattle.rule_set.proofs.Chain.{limited_chain}
use Rattle.rule_set.proofs.Recording.{naturals_of, naturals_length, file_counts, file_few, file_at, width_hold, displacement_hold, some, few_etype, few_instances, same_groups}

fault_same : (f g : ℕ → Named) (k : ℕ) → f k ≡ g k → fault_by f k ≡ fault_by g k
unfolding fault_by
fault_same f g k e = ap (fault_of k) e

module _ (v : PaperView) (lim : Limited v) where
  file_entries : entries v.filetype ≡ length v.filetype.displacements
  unfolding entries
  file_entries = lim.filetype_pairs

  abbrev fd : List ℕ
  fd = naturals_of v.filetype.displacements

  fd_length : length fd ≡ entries v.filetype
  fd_length = naturals_length v.filetype.displacements (file_few v lim) ∙ sym file_entries

  fd_at : (i : ℕ) → i < entries v.filetype → nth fd i ≡ displacement_at v.filetype i
  fd_at i l = file_at v lim i (omega (arith, file_entries))

  -- 7

  etype_order : (i : ℕ) → i < entries v.etype - 1 → in_order (nth (record_of v).displacements) i ≡ in_order (displacement_at v.etype) i
  etype_order i l = rw (displacement_hold v lim i (omega arith), displacement_hold v lim (i + 1) (omega arith))

  file_order : (i : ℕ) → i < entries v.filetype - 1 → in_order (nth fd) i ≡ in_order (displacement_at v.filetype) i
  file_order i l = rw (fd_at i (omega arith), fd_at (i + 1) (omega arith))

  order_same : ordered (nth (record_of v).displacements) (entries v.etype) ≡ type_ordered v.etype
  unfolding ordered type_ordered
  order_same = all_same _ _ (entries v.etype - 1) etype_order

  file_order_same : ordered (nth fd) (length fd) ≡ type_ordered v.filetype
  unfolding ordered type_ordered
  file_order_same = rw fd_length (all_same _ _ (entries v.filetype - 1) file_order)

  etype_entry : least_false (in_order (nth (record_of v).displacements)) (entries v.etype - 1) + 1 ≡ order_entry v.etype
  unfolding order_entry
  etype_entry = ap (λ (z : ℕ). z + 1) (least_false_same _ _ (entries v.etype - 1) etype_order)

  file_entry : least_false (in_order (nth fd)) (length fd - 1) + 1 ≡ order_entry v.filetype
  unfolding order_entry
  file_entry = rw fd_length (ap (λ (z : ℕ). z + 1) (least_false_same _ _ (entries v.filetype - 1) file_order))

  names_7 : shape_names (record_of v) v.filetype.widths fd 7 ≡ named_by v 7
  unfolding shape_names order_names named_by of_both record_of
  names_7 = rw (etype_entry, file_entry)

  -- where the groups are whole there are instances
  module _ (whole : whole_groups v ≡ true) where
    more : 0 < instances v
    unfolding entries
    more = groups_some v whole (file_counts v lim).0

    -- 18 and 19

    group_in : (g e : ℕ) → g < instances v → e < entries v.etype → g * entries v.etype + e < entries v.filetype
    group_in g e lg le = omega (arith, run_below (instances v) (entries v.etype) g e lg le, groups_whole v whole)

    group_begin : (g : ℕ) → g < instances v → g * entries v.etype < entries v.filetype
    group_begin g l = omega (arith, group_in g 0 l (some v lim))

    entry_same : (g : ℕ) → g < instances v → (e : ℕ) → e < entries v.etype → matches_at (record_of v).widths (record_of v).displacements (entries v.etype) v.filetype.widths fd g e ≡ entry_matches v g e
    unfolding matches_at entry_shifted entry_matches width_at
    entry_same g lg e le =
        let w : nth (record_of v).widths e ≡ nth v.etype.widths e = width_hold v lim e le in
        rw (w, fd_at (g * entries v.etype + e) (group_in g e lg le), displacement_hold v lim e le, fd_at (g * entries v.etype) (group_begin g lg), displacement_hold v lim 0 (some v lim))

    group_same : (g : ℕ) → g < instances v → group_matches_at (record_of v).widths (record_of v).displacements (entries v.etype) v.filetype.widths fd g ≡ group_matches v g
    unfolding group_matches_at group_matches
    group_same g l = all_same _ _ (entries v.etype) (entry_same g l)

    origin_same : (g : ℕ) → g < instances v → origin_at (record_of v).widths (record_of v).displacements (entries v.etype) v.filetype.widths fd g ≡ origin_allowed v g
    unfolding origin_at origin_allowed
    origin_same g l = rw (fd_at (g * entries v.etype) (group_begin g l), displacement_hold v lim 0 (some v lim))

    deciding_same : deciding (record_of v).widths (record_of v).displacements (entries v.etype) v.filetype.widths fd ≡ deciding_group v
    unfolding deciding deciding_group group_fits group_built instances entries
    deciding_same = least_false_same _ _ (instances v - 1) (λ g l. λ i. also (group_same g (omega arith) i) (origin_same g (omega arith) i))

    deciding_in : deciding_group v < instances v
    unfolding deciding_group
    deciding_in = omega (arith, more, least_false_le (group_built v) (instances v - 1))

    decided_match : group_matches_at (record_of v).widths (record_of v).displacements (entries v.etype) v.filetype.widths fd (deciding (record_of v).widths (record_of v).displacements (entries v.etype) v.filetype.widths fd) ≡ group_matches v (deciding_group v)
    decided_match = rw deciding_same (group_same (deciding_group v) deciding_in)

    decided_origin : origin_at (record_of v).widths (record_of v).displacements (entries v.etype) v.filetype.widths fd (deciding (record_of v).widths (record_of v).displacements (entries v.etype) v.filetype.widths fd) ≡ origin_allowed v (deciding_group v)
    decided_origin = rw deciding_same (origin_same (deciding_group v) deciding_in)

    differing_same : least_false (matches_at (record_of v).widths (record_of v).displacements (entries v.etype) v.filetype.widths fd (deciding_group v)) (entries v.etype) ≡ least_false (entry_matches v (deciding_group v)) (entries v.etype)
    differing_same = least_false_same _ _ (entries v.etype) (entry_same (deciding_group v) deciding_in)

    names_18 : group_matches v (deciding_group v) ≡ false → shape_names (record_of v) v.filetype.widths fd 18 ≡ named_by v 18
    unfolding shape_names groups_names first_group_fault named_by differing_entry record_of check
    names_18 h = rw (decided_match, h, deciding_same, differing_same)

    names_19 : group_matches v (deciding_group v) ≡ true → origin_allowed v (deciding_group v) ≡ false → shape_names (record_of v) v.filetype.widths fd 19 ≡ named_by v 19
    unfolding shape_names groups_names first_group_fault named_by below_entry record_of check
    names_19 h o = rw (decided_match, decided_origin, h, o, deciding_same)

    -- 9

    origin_hold : (g : ℕ) → g < instances v → nth (record_of v).origins g ≡ origin v g
    unfolding record_of
    origin_hold g l = held_at (origin v) (instances v) 64 (few_instances v lim) g l

    hole_fits_law : (i : ℕ) → i < instances v + 1 → hole_fits (record_of v).origins (instances v) (extent_of v.etype) (extent_of v.filetype) i ≡ hole_allowed v i
    unfolding hole_fits hole_allowed
    hole_fits_law i l = rw (hole_same (nth (record_of v).origins) (origin v) (instances v) (extent_of v.etype) (extent_of v.filetype) more origin_hold i l)

    view_holes_same : holes_fit (nth (record_of v).origins) (instances v) (extent_of v.etype) (extent_of v.filetype) ≡ view_holes_fit v
    unfolding view_holes_fit holes_fit hole_fits
    view_holes_same = all_same (hole_fits (record_of v).origins (instances v) (extent_of v.etype) (extent_of v.filetype)) (hole_allowed v) (instances v + 1) hole_fits_law

    first_hole_same : least_false (hole_fits (record_of v).origins (instances v) (extent_of v.etype) (extent_of v.filetype)) (instances v + 1) ≡ least_false (hole_allowed v) (instances v + 1)
    first_hole_same = least_false_same _ _ (instances v + 1) hole_fits_law

    names_9 : shape_names (record_of v) v.filetype.widths fd 9 ≡ named_by v 9
    unfolding shape_names groups_names tile_names named_by hole_entry record_of entries
    names_9 = ap (λ (h : ℕ). FiletypeEntry (hole_names (instances v) (length v.etype.widths) (length v.filetype.widths) h)) first_hole_same

  -- 10

  apart_at_law : (i : ℕ) → i < entries v.filetype → apart_in v.filetype.widths fd (extent_of v.filetype) i ≡ entry_apart v i
  unfolding apart_in entry_apart next_begins width_at entries
  apart_at_law i l = ⊎_elim (λ b. rw (lt-ltb (i + 1) (length v.filetype.widths) b, fd_at i l, fd_at (i + 1) b)) (λ b. rw (le-ltb (i + 1) (length v.filetype.widths) b, fd_at i l, fd_at 0 (file_counts v lim).0)) (lt_or_le (i + 1) (length v.filetype.widths))

  apart_same : all (apart_in v.filetype.widths fd (extent_of v.filetype)) (length v.filetype.widths) ≡ apart v
  unfolding apart entries
  apart_same = all_same _ _ (length v.filetype.widths) apart_at_law

  clear_at : (i : ℕ) → i < entries v.filetype → entry_clear (nth v.filetype.widths) (nth fd) (extent_of v.filetype) i ≡ entry_clear (width_at v.filetype) (displacement_at v.filetype) (extent_of v.filetype) i
  unfolding entry_clear width_at
  clear_at i l =
      let e : all (λ k. clear_of (extent_of v.filetype) (nth fd k % extent_of v.filetype) (nth v.filetype.widths k) (nth fd i % extent_of v.filetype) (nth v.filetype.widths i)) i ≡ all (λ k. clear_of (extent_of v.filetype) (displacement_at v.filetype k % extent_of v.filetype) (nth v.filetype.widths k) (displacement_at v.filetype i % extent_of v.filetype) (nth v.filetype.widths i)) i = all_same _ _ i (λ k h. rw (fd_at k (omega arith), fd_at i l)) in
      rw e

  clear_same : all (entry_clear (nth v.filetype.widths) (nth fd) (extent_of v.filetype)) (length v.filetype.widths) ≡ clear v
  unfolding clear entries
  clear_same = all_same _ _ (length v.filetype.widths) clear_at

  -- tiles in order, or no bytes that clash
  overlap_same : either (all (apart_in v.filetype.widths fd (extent_of v.filetype)) (length v.filetype.widths)) (all (entry_clear (nth v.filetype.widths) (nth fd) (extent_of v.filetype)) (length v.filetype.widths)) ≡ clear v
  unfolding entries
  overlap_same = (λ i. either (apart_same i) (clear_same i)) ∙ apart_or_clear v (spaced v lim.filetype_extent lim.filetype_entries) (file_counts v lim).0

  names_10 : shape_names (record_of v) v.filetype.widths fd 10 ≡ named_by v 10
  unfolding shape_names groups_names tile_names named_by overlap_entry record_of entries
  names_10 = ap FiletypeEntry (least_false_same _ _ (length v.filetype.widths) clear_at)

  names_17 : shape_names (record_of v) v.filetype.widths fd 17 ≡ named_by v 17
  unfolding shape_names groups_names tile_names named_by
  names_17 = refl

  names_0 : shape_names (record_of v) v.filetype.widths fd 0 ≡ named_by v 0
  unfolding shape_names groups_names tile_names named_by
  names_0 = refl

  whole_same : eqb (length v.filetype.widths % entries v.etype) 0 ≡ whole_groups v
  unfolding whole_groups entries
  whole_same = refl

  shapes_from7 : (mode : ℕ) → shapes_fault (record_of v) v.filetype.widths fd mode ≡ fault_by (named_by v) (from7 mode v)
  unfolding shapes_fault shapes_refusal groups_refusal tiles_refusal from7 record_of
  shapes_from7 mode =
      let names = shape_names (record_of v) v.filetype.widths fd in
      let f = fault_by names in
      let g = fault_by (named_by v) in
      check_step f g _ _ 7 _ _ (λ i. also (order_same i) (file_order_same i)) (λ z. fault_same names (named_by v) 7 names_7) (λ z.
      check_step f g _ _ 17 _ _ whole_same (λ y. fault_same names (named_by v) 17 names_17) (λ whole.
      check_step f g _ _ 18 _ _ (decided_match whole) (λ x. fault_same names (named_by v) 18 (names_18 whole x)) (λ m.
      check_step f g _ _ 19 _ _ (decided_origin whole) (λ x. fault_same names (named_by v) 19 (names_19 whole m x)) (λ o.
      check_step f g _ _ 9 _ _ (view_holes_same whole) (λ x. fault_same names (named_by v) 9 (names_9 whole)) (λ h.
      check_step f g _ _ 10 _ _ (ap (either (not (allows_writing mode))) overlap_same) (λ x. fault_same names (named_by v) 10 names_10) (λ p. fault_same names (named_by v) 0 names_0))))))

  pub shapes_same : (mode : ℕ) → shapes_fault (record_of v) v.filetype.widths fd mode ≡ fault_by (named_by v) (view_refusal mode v)
  shapes_same mode = shapes_from7 mode ∙ ap (fault_by (named_by v)) (limited_chain mode v lim)

  -- ---- what the code asks of the records

  entry_ends : (i : ℕ) → i < entries v.etype → nth (record_of v).displacements i + nth (record_of v).widths i ≤ 1048576
  entry_ends i l = omega (arith, width_hold v lim i l, displacement_hold v lim i l, (type_entry v.etype lim.etype_entries i l).1)

  file_ends : (i : ℕ) → i < length v.filetype.widths → nth fd i + nth v.filetype.widths i ≤ 1048576
  unfolding entries width_at
  file_ends i l = omega (arith, fd_at i l, (type_entry v.filetype lim.filetype_entries i l).1)

  file_widths : (i : ℕ) → i < length v.filetype.widths → (0 < nth v.filetype.widths i) × (nth v.filetype.widths i < 16)
  unfolding entries width_at
  file_widths i l = let w = width_small _ (type_entry v.filetype lim.filetype_entries i l).0 in (omega (arith, w.0), omega (arith, w.1))

  pub ready : ShapesReady (record_of v) v.filetype.widths (naturals_of v.filetype.displacements)
  unfolding record_of extent_of
  ready = record {
    entries = record { some = (some v lim); few = few_etype v lim; ends = entry_ends };
    extent = (extent_small v.etype.extent lim.etype_extent).0;
    some = (file_counts v lim).0;
    pairs = naturals_length v.filetype.displacements (file_few v lim) ∙ sym lim.filetype_pairs;
    groups = sym (same_groups v lim);
    few = (few_instances v lim);
    ends = file_ends;
    file_some = omega (arith, (extent_small v.filetype.extent lim.filetype_extent).0);
    file_extent = (extent_small v.filetype.extent lim.filetype_extent).1;
    file_few = (file_counts v lim).1;
    widths = file_widths;
  }
