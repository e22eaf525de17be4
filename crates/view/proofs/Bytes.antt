-- The data bytes of pairs and the bytes of the filetype, both ways: data byte j of offset x is a byte of an entry in tile x div K, and byte a of entry i in tile t is the data byte of a pair.
use Rattle.laws.proofs.Prelude.{ℕ, ◌+◌, ◌-◌, ◌*◌, ◌/◌, ◌%◌, ◌<◌, ◌≡◌, ap, arith, div-add-mod', mod-lt, run_div, run_mod, run_below, runs_below}
use Rattle.view.specs.Types.{PaperView, entries, width_at, displacement_at, extent_of, whole}
use Rattle.view.specs.Rules.{instances}
use Rattle.view.specs.Places.{place, data_size, packed_before, entry_of, data_at, byte_of}
use Rattle.view.proofs.Accepted.{Facts, instances_some}
use Rattle.view.proofs.Packing.{entry_below, entry_ends, entry_begins, data_run, packed_part}

-- ---- data byte j of offset x as a byte of the filetype

-- its entry, and its index in the entry
unfoldable pub in_entry : PaperView → ℕ → ℕ → ℕ
in_entry v x j = x % instances v * entries v.etype + entry_of v.etype j

unfoldable pub in_byte : PaperView → ℕ → ℕ
in_byte v j = j - packed_before v.etype (entry_of v.etype j)

module _ (v : PaperView) (f : Facts v) (x j : ℕ) (l : j < data_size v) where
  of_etype : entry_of v.etype j < entries v.etype
  unfolding data_size
  of_etype = entry_below v.etype j l

  of_group : x % instances v < instances v
  of_group = mod-lt x {m = instances v} (instances_some v f)

  pub of_width : (in_byte v j < width_at v.etype (entry_of v.etype j)) × (entry_of v.etype j < entries v.etype)
  unfolding in_byte data_size
  of_width = (omega (arith, entry_ends v.etype j l, entry_begins v.etype j l), of_etype)

  pub is_byte : (in_entry v x j < entries v.filetype) × (in_byte v j < width_at v.filetype (in_entry v x j))
  unfolding in_entry
  is_byte = (
    omega (arith, run_below (instances v) (entries v.etype) (x % instances v) (entry_of v.etype j) of_group of_etype, f.groups),
    omega (arith, f.group_width_law (x % instances v) (entry_of v.etype j) of_group of_etype, of_width.0),
  )

  pub lies_at : byte_of v x j ≡ whole v.displacement + x / instances v * extent_of v.filetype + (displacement_at v.filetype (in_entry v x j) + in_byte v j)
  unfolding byte_of place data_at in_entry in_byte
  lies_at = omega (arith, f.group_displacement_law (x % instances v) (entry_of v.etype j) of_group of_etype)

  -- the group and the etype's entry, back from its entry
  pub group_is : in_entry v x j / entries v.etype ≡ x % instances v
  unfolding in_entry
  group_is = run_div (entries v.etype) (x % instances v) (entry_of v.etype j) of_etype

  pub entry_is : in_entry v x j % entries v.etype ≡ entry_of v.etype j
  unfolding in_entry
  entry_is = run_mod (entries v.etype) (x % instances v) (entry_of v.etype j) of_etype

-- ---- byte a of entry i of the filetype, in tile t, as the data byte of a pair

unfoldable pub offset_at : PaperView → ℕ → ℕ → ℕ
offset_at v t i = t * instances v + i / entries v.etype

unfoldable pub index_at : PaperView → ℕ → ℕ → ℕ
index_at v i a = packed_before v.etype (i % entries v.etype) + a

module _ (v : PaperView) (f : Facts v) (i : ℕ) where
  pub at_group : i < entries v.filetype → i / entries v.etype < instances v
  at_group li = runs_below (instances v) (entries v.etype) i f.some (omega (arith, f.groups))

  pub at_entry : i % entries v.etype < entries v.etype
  at_entry = mod-lt i {m = entries v.etype} f.some

  at_number : i / entries v.etype * entries v.etype + i % entries v.etype ≡ i
  at_number = div-add-mod' i (entries v.etype)

  module _ (a : ℕ) (li : i < entries v.filetype) (la : a < width_at v.filetype i) where
    pub at_inside : a < width_at v.etype (i % entries v.etype)
    at_inside = omega (arith, f.group_width_law (i / entries v.etype) (i % entries v.etype) (at_group li) at_entry, ap (width_at v.filetype) at_number)

    pub at_index : index_at v i a < data_size v
    unfolding index_at data_size
    at_index = omega (arith, at_inside, packed_part v.etype (i % entries v.etype) (entries v.etype) at_entry)

module _ (v : PaperView) (f : Facts v) (t i a : ℕ) (li : i < entries v.filetype) (la : a < width_at v.filetype i) where
  pub at_lies : byte_of v (offset_at v t i) (index_at v i a) ≡ whole v.displacement + (t * extent_of v.filetype + (displacement_at v.filetype i + a))
  unfolding byte_of place offset_at index_at
  at_lies =
      rw (run_div (instances v) t (i / entries v.etype) (at_group v f i li), run_mod (instances v) t (i / entries v.etype) (at_group v f i li), data_run v.etype (i % entries v.etype) a (at_entry v f i) (at_inside v f i a li la))
      (omega (arith, f.group_displacement_law (i / entries v.etype) (i % entries v.etype) (at_group v f i li) (at_entry v f i), ap (displacement_at v.filetype) (at_number v f i)))
