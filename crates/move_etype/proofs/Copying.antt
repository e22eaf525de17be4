-- The data of one etype, entry by entry: no sum wraps, each entry lies inside, and the entries' runs make up the packed data.
use Rattle.laws.proofs.Prelude.{ℕ, ◌+◌, ◌*◌, ◌^◌, ◌≤◌, ◌<◌, ◌≡◌, refl, sym, ap, ◌∙◌, true, List, arith, length, get_or, pos, w64, Fits, rules, total, nth, store, store_none, length_tabulate, tabulate_at, greatest_above, total_part, total_same, total_most, store_run}
use Rattle.view.specs.Limits.{width_allowed}
use Rattle.view.specs.Types.{entries, width_at, displacement_at, whole}
use Rattle.view.specs.Places.{packed_before, data_at}
use Rattle.view.proofs.Accepted.{width_small}
use Rattle.view.proofs.Packing.{data_run}
use Rattle.view.proofs.Etypes.{Summed, summed_none, summed_more, summed_end, widths_valid, entry_held}
use Rattle.view.specs.Parts.{entry_end, reach_of, size_of}
use Rattle.move_run.specs.Parts.{onward, byte_from}
use Rattle.move_etype.specs.Parts.{type_of, place_in, byte_in, Lies}

-- ---- the data of an etype that begins at a, moved either way

-- value k of the packed data goes to place k of the target, and the entries before entry i are copied; the etype lies in a file of len bytes, its data in a buffer of `room`
pub record Copying (n : ℕ) (ws ds : List ℕ) (a len room : ℕ) (place value : ℕ → ℕ) (target₀ target : List ℕ) (i packed : ℕ) : Type 0 where
  pub lies : Lies n ws ds a len room
  pub sums : Summed ws n i packed
  pub long : length target ≡ length target₀
  pub done : target ≡ store place value packed target₀

-- a run's `width` places or values are those of the packed data from `packed` on
pub record Continues (packed width : ℕ) (run all : ℕ → ℕ) : Type 0 where
  pub each : (k : ℕ) → k < width → run k ≡ all (packed + k)

-- on the buffer's side, where the packed data begin at place 0
pub buffer_places : (packed width : ℕ) → Continues packed width (onward packed) (λ k. k)
unfolding onward
buffer_places packed width = record { each = λ k q. refl }

pub buffer_values : (packed width : ℕ) (part : List ℕ) → Continues packed width (byte_from part packed) (nth part)
unfolding byte_from
buffer_values packed width part = record { each = λ k q. refl }

module _ (n : ℕ) (ws ds : List ℕ) where
  type_entries : entries (type_of n ws ds) ≡ n
  unfolding type_of entries
  type_entries = length_tabulate _ n

  type_width : (i : ℕ) → i < n → width_at (type_of n ws ds) i ≡ nth ws i
  unfolding type_of width_at
  type_width i l = tabulate_at _ n i 0 l

  type_displacement : (i : ℕ) → i < n → displacement_at (type_of n ws ds) i ≡ nth ds i
  unfolding type_of displacement_at whole
  type_displacement i l = ap whole (tabulate_at _ n i (pos 0) l)

  type_packed : (i : ℕ) → i ≤ n → packed_before (type_of n ws ds) i ≡ total (nth ws) i
  unfolding packed_before
  type_packed i h = total_same (width_at (type_of n ws ds)) (nth ws) i (λ j l. type_width j (omega arith))

  -- byte k of entry i lies where the entry does
  entry_place : (a i k : ℕ) → i < n → k < nth ws i → a + nth ds i + k ≡ place_in n ws ds a (total (nth ws) i + k)
  unfolding place_in
  entry_place a i k l w =
      let d = data_run (type_of n ws ds) i k (omega (arith, type_entries)) (omega (arith, type_width i l)) in
      let p = type_packed i (omega arith) in
      let q : data_at (type_of n ws ds) (total (nth ws) i + k) ≡ nth ds i + k = ap (λ (z : ℕ). data_at (type_of n ws ds) (z + k)) (sym p) ∙ d ∙ ap (λ (z : ℕ). z + k) (type_displacement i l) in
      omega (arith, q)

  module _ (a len room : ℕ) (place value : ℕ → ℕ) (target₀ : List ℕ) where
    pub copying_none : Lies n ws ds a len room → Copying n ws ds a len room place value target₀ target₀ 0 0
    copying_none h = record { lies = h; sums = summed_none n ws; long = refl; done = store_none place value target₀ }

    module _ (target : List ℕ) (i packed : ℕ) (h : Copying n ws ds a len room place value target₀ target i packed) where
      pub copying_end : n ≤ i → target ≡ store place value (size_of n ws) target₀
      copying_end l = h.done ∙ ap (λ (z : ℕ). store place value z target₀) (summed_end n ws i packed h.sums l)

      -- the target is as long as it was
      pub target_inside : (x : ℕ) → x ≤ length target₀ → x ≤ length target
      target_inside x q = omega (arith, h.long)

      module _ (l : i < n) where
        pub copying_held : i < 8
        copying_held = entry_held n ws (widths_valid n ws ds h.lies.valid) i l

        pub copying_width : width_allowed (get_or ws i 0) ≡ true
        copying_width = h.lies.allowed i l

        -- entry i lies in the file
        pub file_inside : a + get_or ds i 0 + get_or ws i 0 ≤ len
        unfolding reach_of
        file_inside = omega (arith, h.lies.inside, greatest_above (entry_end ws ds) n i l)

        pub file_places : Continues packed (get_or ws i 0) (onward (a + get_or ds i 0)) (place_in n ws ds a)
        unfolding onward
        file_places = record { each = λ k q. entry_place a i k l q ∙ ap (λ (z : ℕ). place_in n ws ds a (z + k)) (sym h.sums.is) }

        pub file_values : (file : List ℕ) → Continues packed (get_or ws i 0) (byte_from file (a + get_or ds i 0)) (byte_in n ws ds file a)
        unfolding onward byte_from byte_in
        file_values file = record { each = λ k q. ap (nth file) (file_places.each k q) }

        -- its packed data lie in the buffer
        pub packed_inside : packed + get_or ws i 0 ≤ room
        unfolding size_of
        packed_inside = omega (arith, h.lies.fits, h.sums.is, total_part (nth ws) i n l)

        -- at most eight entries of at most eight bytes
        pub copying_small : get_or ws i 0 ≤ 8
        copying_small = (width_small (get_or ws i 0) copying_width).1

        pub packed_fits : (k : ℕ) → k ≤ 8 → Fits w64 (packed + k)
        packed_fits k q = record { fits = omega (arith, h.sums.is, copying_held, total_most (nth ws) i 8 (λ j m. (width_small (nth ws j) (h.lies.allowed j (omega arith))).1)) }

        -- the entry's run continues the packed data
        pub copying_more : (place' value' : ℕ → ℕ) (target' : List ℕ) → length target' ≡ length target → target' ≡ store place' value' (get_or ws i 0) target → Continues packed (get_or ws i 0) place' place → Continues packed (get_or ws i 0) value' value → Copying n ws ds a len room place value target₀ target' (i + 1) (packed + get_or ws i 0)
        copying_more place' value' target' m e hp hv = record {
          lies = h.lies;
          sums = summed_more n ws i packed h.sums l;
          long = m ∙ h.long;
          done = store_run place value place' value' packed (get_or ws i 0) target₀ target target' h.done e hp.each hv.each;
        }

pub ruleset copying = (rules, copying_none, copying_more, file_places, file_values, buffer_places, buffer_values, copying_end)
