-- The etype of a valid view as the copier takes it: its data are the view's, and it lies in the file exactly if its farthest entry does.
use Rattle.laws.proofs.Prelude.{ℕ, ◌+◌, ◌-◌, ◌≤◌, ◌<◌, ◌≡◌, refl, sym, ap, ◌∙◌, Bool, true, false, arith, mul-le-mul, total, greatest_least, greatest_above, greatest_one, total_same, total_most}
use Rattle.view.specs.declared.View.{View}
use Rattle.view.specs.Types.{paper, entries, width_at, displacement_at, whole}
use Rattle.view.specs.Acceptance.{Valid}
use Rattle.view.specs.Places.{place, packed_before, entry_of, data_at, byte_of, data_size}
use Rattle.view.proofs.Paper.{paper_entries, paper_width, paper_displacement}
use Rattle.view.proofs.Accepted.{Facts, facts}
use Rattle.view.proofs.Held.{some_entry, few_entries, record_entry}
use Rattle.view.proofs.Packing.{packed_part, entry_below, entry_ends, entry_begins, data_run}
use Rattle.view.specs.Parts.{EntriesValid, entry_end, reach_of, size_of}
use Rattle.move_etype.specs.Parts.{type_of, place_in}
use Rattle.move_read.specs.Parts.{in_file}
use Rattle.move_read.proofs.Reading.{in_file_law, in_file_at}

not_true_false : (b : Bool) → (b ≡ true → ⊥) → b ≡ false
not_true_false true h = absurd (h refl)
not_true_false false h = refl

-- how far the etype's entries reach
abbrev pub reach : View → ℕ
reach v = reach_of v.widths v.displacements v.numbers.etype.entries

module _ (v : View) (k : Valid (paper v)) where
  valid : Facts (paper v)
  valid = facts (paper v) k

  -- entry i of the record, and of the paper
  entry_end_law : (i : ℕ) → i < v.numbers.etype.entries → entry_end v.widths v.displacements i ≡ displacement_at (paper v).etype i + width_at (paper v).etype i
  entry_end_law i l = omega (arith, paper_width v i l, paper_displacement v i l)

  pub entries_valid : EntriesValid v.numbers.etype.entries v.widths v.displacements
  entries_valid = record {
    some = some_entry v k;
    few = few_entries v k;
    ends = record_entry v k;
  }

  pub data_is : size_of v.numbers.etype.entries v.widths ≡ data_size (paper v)
  unfolding size_of data_size packed_before
  data_is = sym (ap (total (width_at (paper v).etype)) (paper_entries v) ∙ total_same _ _ v.numbers.etype.entries (λ i l. paper_width v i l))

  pub data_small : data_size (paper v) ≤ 64
  unfolding data_size packed_before
  data_small =
      let m = total_most (width_at (paper v).etype) (entries (paper v).etype) 8 (λ i l. (valid.width i l).1) in
      let b = mul-le-mul {n₁ = entries (paper v).etype} {m₁ = 8} {n₂ = 8} {m₂ = 8} valid.few (omega arith) in
      omega arith

  pub place_in_law : (x j : ℕ) → place_in v.numbers.etype.entries v.widths v.displacements (place (paper v) x) j ≡ byte_of (paper v) x j
  unfolding place_in byte_of type_of data_at entry_of packed_before entries width_at displacement_at whole paper
  place_in_law x j = refl

  pub reach_small : reach v ≤ 1048576
  unfolding reach_of
  reach_small = greatest_least _ v.numbers.etype.entries 1048576 entries_valid.ends

  -- entry i ends within the reach
  entry_reached : (i : ℕ) → i < entries (paper v).etype → displacement_at (paper v).etype i + width_at (paper v).etype i ≤ reach v
  unfolding reach_of
  entry_reached i l =
      let b : i < v.numbers.etype.entries = omega (arith, paper_entries v) in
      omega (arith, entry_end_law i b, greatest_above (entry_end v.widths v.displacements) v.numbers.etype.entries i b)

  -- an entry that ends at the reach: one is there, since no width is 0
  farthest : (i : ℕ) × ((i < entries (paper v).etype) × (displacement_at (paper v).etype i + width_at (paper v).etype i ≡ reach v))
  unfolding reach_of
  farthest =
      let w = (valid.width 0 valid.some).0 in
      let g = greatest_one (entry_end v.widths v.displacements) v.numbers.etype.entries (omega (arith, entry_reached 0 valid.some)) in
      (g.0, (omega (arith, paper_entries v, g.1.0), omega (arith, entry_end_law g.0 g.1.0, g.1.1)))

  -- each data byte lies before the reach
  pub data_before : (j : ℕ) → j < data_size (paper v) → data_at (paper v).etype j < reach v
  unfolding data_at data_size
  data_before j l =
      let t = (paper v).etype in
      omega (arith, entry_reached (entry_of t j) (entry_below t j l), entry_ends t j l, entry_begins t j l)

  -- and one lies just before it
  pub data_last : (j : ℕ) × ((j < data_size (paper v)) × (data_at (paper v).etype j + 1 ≡ reach v))
  unfolding data_size
  data_last =
      let t = (paper v).etype in
      let i = farthest.0 in
      let l = farthest.1.0 in
      let w = (valid.width i l).0 in
      let r : width_at t i - 1 < width_at t i = omega arith in
      (packed_before t i + (width_at t i - 1), (omega (arith, packed_part t i (entries t) l), omega (arith, data_run t i (width_at t i - 1) l r, farthest.1.1)))

  module _ (size x : ℕ) where
    pub in_file_yes : place (paper v) x + reach v ≤ size → in_file (paper v) size x ≡ true
    unfolding byte_of
    in_file_yes h = in_file_law (paper v) size x (λ j l. omega (arith, data_before j l))

    pub in_file_no : size < place (paper v) x + reach v → in_file (paper v) size x ≡ false
    unfolding byte_of
    in_file_no h = not_true_false (in_file (paper v) size x) (λ e. let b = in_file_at (paper v) size x e data_last.0 data_last.1.0 in omega (arith, data_last.1.1))
