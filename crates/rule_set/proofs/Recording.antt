-- What the code builds of lent lists that keep the limits is the record of the view.
use Rattle.laws.proofs.Prelude.{ℕ, ◌+◌, ◌*◌, ◌/◌, ◌≤◌, ◌<◌, ◌≡◌, refl, sym, ap, ◌∙◌, List, arith, div-mul-le_self, mul-le-mul_right, div-lt_iff_lt-mul, length, take, replicate, length-replicate, ℤ, get_or-take, length-take-le, leb-true, nth, front, also_inv, within_inv, times_more, length_store, store_same}
use Rattle.view.specs.Limits.{etype_entries_allowed, filetype_entries_allowed}
use Rattle.view.specs.Types.{PaperView, entries, width_at, displacement_at, extent_of, whole}
use Rattle.view.specs.Rules.{instances, origin}
use Rattle.view.specs.Parts.{record_of}
use Rattle.view.proofs.Holding.{held_at}
use Rattle.rule_groups.specs.Parts.{whole_at, group_origin, Recordable, view_record}
use Rattle.rule_set.specs.Parts.{Limited}

-- displacements as natural numbers, as the code keeps them
unfoldable pub naturals_of : List ℤ → List ℕ
naturals_of ds = take (length ds) (front (whole_at ds) (length ds) (replicate 256 0))

module _ (ds : List ℤ) (few : length ds ≤ 256) where
  room : length ds ≤ length (front (whole_at ds) (length ds) (replicate 256 0))
  room = omega (arith, length_store (λ i. i) (whole_at ds) (length ds) (replicate 256 0), length-replicate {A = ℕ} 256 0)

  pub naturals_length : length (naturals_of ds) ≡ length ds
  unfolding naturals_of
  naturals_length = length-take-le (length ds) _ room

  naturals_at : (i : ℕ) → i < length ds → nth (naturals_of ds) i ≡ whole_at ds i
  unfolding naturals_of
  naturals_at i l = get_or-take (length ds) _ i 0 l ∙ held_at (whole_at ds) (length ds) 256 few i l

module _ (v : PaperView) (lim : Limited v) where
  pub counts : (1 ≤ length v.etype.widths) × (length v.etype.widths ≤ 8)
  unfolding etype_entries_allowed
  counts = within_inv 1 8 _ lim.etype_count

  pub file_counts : (1 ≤ length v.filetype.widths) × (length v.filetype.widths ≤ 256) × (length v.filetype.widths ≤ 64 * length v.etype.widths)
  unfolding filetype_entries_allowed
  file_counts =
      let a = also_inv _ _ lim.filetype_count in
      let b = within_inv 1 256 _ a.0 in
      (b.0, b.1, leb-true _ _ a.1)

  pub file_few : length v.filetype.displacements ≤ 256
  file_few = omega (arith, file_counts.1, lim.filetype_pairs)

  pub etype_some : 0 < length v.etype.widths
  etype_some = counts.0

  pub pairs_few : length v.filetype.displacements ≤ 256
  pairs_few = file_few

  -- the displacements of the filetype, as natural numbers
  pub file_at : (i : ℕ) → i < length v.filetype.displacements → nth (naturals_of v.filetype.displacements) i ≡ displacement_at v.filetype i
  unfolding displacement_at whole_at
  file_at i l = naturals_at v.filetype.displacements file_few i l

  pub width_hold : (i : ℕ) → i < entries v.etype → nth (record_of v).widths i ≡ width_at v.etype i
  unfolding record_of entries
  width_hold i l = held_at (width_at v.etype) (entries v.etype) 8 counts.1 i l

  pub displacement_hold : (i : ℕ) → i < entries v.etype → nth (record_of v).displacements i ≡ displacement_at v.etype i
  unfolding record_of entries
  displacement_hold i l = held_at (displacement_at v.etype) (entries v.etype) 8 counts.1 i l

  pub some : 0 < entries v.etype
  unfolding entries
  some = counts.0

  pub few_etype : entries v.etype ≤ 8
  unfolding entries
  few_etype = counts.1

  pub same_groups : length (naturals_of v.filetype.displacements) / entries v.etype ≡ instances v
  unfolding instances entries
  same_groups = ap (λ (z : ℕ). z / length v.etype.widths) (naturals_length v.filetype.displacements file_few ∙ sym lim.filetype_pairs)

  count_groups : length v.filetype.displacements / entries v.etype ≡ instances v
  unfolding instances entries
  count_groups = ap (λ (z : ℕ). z / length v.etype.widths) (sym lim.filetype_pairs)

  pub group_below : (g : ℕ) → g < instances v → g * entries v.etype < length v.filetype.displacements
  unfolding instances entries
  group_below g l = omega (arith, counts.0, times_more g (length v.etype.widths), mul-le-mul_right {m = g + 1} {n = length v.filetype.widths / length v.etype.widths} (length v.etype.widths) (omega arith), div-mul-le_self (length v.filetype.widths) (length v.etype.widths), lim.filetype_pairs)

  pub few_instances : instances v ≤ 64
  unfolding instances entries
  few_instances =
      let s : 0 < length v.etype.widths = counts.0 in
      let q : length v.filetype.widths < 65 * length v.etype.widths = omega (arith, file_counts.2) in
      let r : length v.filetype.widths / length v.etype.widths < 65 = (div-lt_iff_lt-mul s).1 q in
      omega arith

  first_at : nth (front (whole_at v.etype.displacements) (length v.etype.displacements) (replicate 8 0)) 0 ≡ displacement_at v.etype 0
  unfolding displacement_at whole_at
  first_at = held_at (whole_at v.etype.displacements) (length v.etype.displacements) 8 (omega (arith, counts.1, lim.etype_pairs)) 0 (omega (arith, counts.0, lim.etype_pairs))

  same_origin : (g : ℕ) → g < instances v → group_origin (naturals_of v.filetype.displacements) (entries v.etype) (nth (front (whole_at v.etype.displacements) (length v.etype.displacements) (replicate 8 0)) 0) g ≡ origin v g
  unfolding group_origin origin
  same_origin g l = rw (file_at (g * entries v.etype) (group_below g l), first_at)

  same_origins : front (group_origin (naturals_of v.filetype.displacements) (entries v.etype) (nth (front (whole_at v.etype.displacements) (length v.etype.displacements) (replicate 8 0)) 0)) (length (naturals_of v.filetype.displacements) / entries v.etype) (replicate 64 0) ≡ front (origin v) (instances v) (replicate 64 0)
  same_origins =
      ap (λ (z : ℕ). front (group_origin (naturals_of v.filetype.displacements) (entries v.etype) (nth (front (whole_at v.etype.displacements) (length v.etype.displacements) (replicate 8 0)) 0)) z (replicate 64 0)) same_groups
      ∙ store_same (λ i. i) _ (λ i. i) (origin v) (instances v) (replicate 64 0) (λ k l. refl) same_origin

  pub record_hold : view_record (record { displacement = whole v.displacement; etype = record { entries = length v.etype.widths; extent = extent_of v.etype }; filetype = record { instances = length v.filetype.displacements / length v.etype.widths; extent = extent_of v.filetype } }) v.etype.widths v.etype.displacements (naturals_of v.filetype.displacements) ≡ record_of v
  unfolding view_record record_of entries width_at displacement_at whole_at
  record_hold = λ i. record {
    numbers = record { displacement = whole v.displacement; etype = record { entries = length v.etype.widths; extent = extent_of v.etype }; filetype = record { instances = count_groups i; extent = extent_of v.filetype } };
    widths = front (nth v.etype.widths) (length v.etype.widths) (replicate 8 0);
    displacements = front (whole_at v.etype.displacements) (sym lim.etype_pairs i) (replicate 8 0);
    origins = same_origins i;
  }

  pub recordable : Recordable v.etype.widths v.etype.displacements (naturals_of v.filetype.displacements)
  unfolding entries
  recordable = record { some = counts.0; few = counts.1; pairs = sym lim.etype_pairs; groups = omega (arith, same_groups, few_instances) }
