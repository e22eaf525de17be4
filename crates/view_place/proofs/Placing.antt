-- No step on the way to a place or to an end of file wraps, and each step leads where the definitions on numbers say.
use Rattle.laws.proofs.Prelude.{ℕ, ◌+◌, ◌-◌, ◌*◌, ◌/◌, ◌%◌, ◌≤◌, ◌<◌, ◌≡◌, refl, ap, ◌∙◌, true, List, ⊎_elim, arith, mul-le-mul, div-le_self, mod-lt, get_or, ℤ, pos, negsuc, w64, Fits, to_z, of_z, to_z-of_z, ltb-true, lt-ltb, le-ltb, nth, not_both, lt_or_le, next_in, next_over, times_more, Highest, highest_end, greatest_least}
use Rattle.view.specs.declared.Numbers.{Numbers}
use Rattle.view.specs.Limits.{offset_allowed}
use Rattle.view.specs.Types.{whole}
use Rattle.view.specs.Parts.{end_from}
use Rattle.view_place.specs.declared.Spot.{Spot}
use Rattle.view_place.specs.Parts.{Tiled, OriginsLow, spot_at, place_on, next_spot, SpotValid, end_at, end_on}

offset_small : (z : ℤ) → offset_allowed z ≡ true → whole z ≤ 4294967295
unfolding offset_allowed whole
offset_small (pos o) h = omega (arith, ltb-true o 4294967296 h)
offset_small (negsuc o) h = not_both h refl

pub offset_below : (z : ℤ) → offset_allowed z ≡ true → whole z < 4294967296
offset_below z h = omega (arith, offset_small z h)

-- ---- the end of one instance

module _ (size start f n i : ℕ) (hs : size ≤ 1099511627776) (hn : n ≤ 64) (hi : i < n) where
  before : (size - start - 1) / f * n ≤ 70368744177664
  before = let q = div-le_self (size - start - 1) f in let a : (size - start - 1) / f ≤ 1099511627776 = omega arith in mul-le-mul a hn

-- the machine's reading of an offset's bits is the offset
pub offset_read : (z : ℤ) → offset_allowed z ≡ true → to_z w64 (of_z w64 z) ≡ z
unfolding offset_allowed
offset_read (pos o) h = to_z-of_z {w = w64} {z = pos o} (record { sfits = omega (arith, ltb-true o 4294967296 h) })
offset_read (negsuc o) h = not_both h refl

-- ---- the spot of an offset

module _ (v : Numbers) (k : Tiled v) where
  tile_small : (x : ℕ) → x < 4294967296 → x / v.filetype.instances * v.filetype.extent ≤ 4503599626321920
  tile_small x l =
      let q = div-le_self x v.filetype.instances in
      let a : x / v.filetype.instances ≤ 4294967295 = omega arith in
      mul-le-mul a k.small

  -- `at` is the offset as the machine reads it
  module _ (o : ℤ) (ok : offset_allowed o ≡ true) (at : ℕ) (read : at ≡ whole (to_z w64 (of_z w64 o))) where
    is : at ≡ whole o
    is = read ∙ ap whole (offset_read o ok)

    tiles : at / v.filetype.instances * v.filetype.extent ≤ 4503599626321920
    tiles = tile_small at (omega (arith, is, offset_below o ok))

    pub step_fits : Fits w64 (at / v.filetype.instances * v.filetype.extent)
    step_fits = record { fits = omega (arith, tiles) }

    pub tile_fits : Fits w64 (v.displacement + at / v.filetype.instances * v.filetype.extent)
    tile_fits = record { fits = omega (arith, tiles, k.start) }

  module _ (x : ℕ) (s : Spot) (at : s ≡ spot_at v x) where
    spot_tile : s.tile.0 ≡ v.displacement + x / v.filetype.instances * v.filetype.extent
    unfolding spot_at
    spot_tile = ap (λ z. z.tile.0) at

    spot_instance : s.instance ≡ x % v.filetype.instances
    unfolding spot_at
    spot_instance = ap (λ z. z.instance) at

    instance_below : s.instance < v.filetype.instances
    instance_below = rw spot_instance (mod-lt x {m = v.filetype.instances} k.some)

    pub spot_held : s.instance < 64
    spot_held = omega (arith, instance_below, k.few)

    pub spot_step : x < 4294967296 → s.tile.0 + v.filetype.extent < 18446744073709551616
    spot_step l = omega (arith, spot_tile, tile_small x l, k.start, k.small)

    pub spot_placed : (ps : List ℕ) (r : ℕ) → r ≡ s.tile.0 + nth ps s.instance → r ≡ place_on v ps x
    unfolding place_on
    spot_placed ps r e = rw (spot_tile, spot_instance) at e

    module _ (ps : List ℕ) (b : OriginsLow v ps) (l : x < 4294967296) where
      -- no etype begins past this
      pub spot_small : s.tile.0 + nth ps s.instance < 4505798650626048
      spot_small = omega (arith, spot_tile, tile_small x l, k.start, b.origin s.instance instance_below)

      pub spot_valid : SpotValid ps s
      spot_valid = record { instance = spot_held; fits = omega (arith, spot_small) }

    -- a step leads to the spot of the next offset
    module _ (r : Spot) (q : r ≡ next_spot s v.filetype.instances v.filetype.extent) where
      next_inside : s.instance + 1 < v.filetype.instances → r ≡ spot_at v (x + 1)
      unfolding next_spot spot_at
      next_inside b =
          let z = rw (lt-ltb (s.instance + 1) v.filetype.instances b) at q in
          let n = next_in v.filetype.instances x (omega (arith, spot_instance)) in
          rw (n.0, n.1) (rw at at z)

      next_tile : v.filetype.instances ≤ s.instance + 1 → r ≡ spot_at v (x + 1)
      unfolding next_spot spot_at
      next_tile b =
          let z = rw (le-ltb (s.instance + 1) v.filetype.instances b) at q in
          let n = next_over v.filetype.instances x k.some (omega (arith, spot_instance, instance_below)) in
          let t : s.tile.0 + v.filetype.extent ≡ v.displacement + (x / v.filetype.instances * v.filetype.extent + v.filetype.extent) = omega (arith, spot_tile) in
          rw (n.0, n.1, times_more (x / v.filetype.instances) v.filetype.extent) (z ∙ (λ i. record { tile = record { 0 = t i }; instance = 0 }))

      pub spot_next : r ≡ spot_at v (x + 1)
      spot_next = ⊎_elim next_inside next_tile (lt_or_le (s.instance + 1) v.filetype.instances)

  -- ---- end of file

  module _ (ps : List ℕ) where
    module _ (size : ℕ) where
      pub end_at_law : (i e : ℕ) → e ≡ end_from (v.displacement + get_or ps i 0) size v.filetype.extent v.filetype.instances i → e ≡ end_at v ps size i
      unfolding end_at
      end_at_law i e h = h

      pub end_found : (i e : ℕ) (z : ℤ) → Highest (end_at v ps size) i v.filetype.instances e → v.filetype.instances ≤ i → z ≡ pos e → z ≡ pos (end_on v ps size)
      unfolding end_on
      end_found i e z h l q = q ∙ ap pos (highest_end (end_at v ps size) i v.filetype.instances e h l)

      module _ (hs : size ≤ 1099511627776) where
        end_small : (i : ℕ) → i < v.filetype.instances → end_at v ps size i ≤ 70368744177729
        unfolding end_at end_from
        end_small i l = ⊎_elim
            (λ q. rw (lt-ltb (v.displacement + nth ps i) size q) (omega (arith, before size (v.displacement + nth ps i) v.filetype.extent v.filetype.instances i hs k.few l, k.few)))
            (λ q. rw (le-ltb (v.displacement + nth ps i) size q) (omega arith))
            (lt_or_le (v.displacement + nth ps i) size)

        pub end_signed : (i e : ℕ) → Highest (end_at v ps size) i v.filetype.instances e → e < 9223372036854775808
        end_signed i e h =
            let b = greatest_least (end_at v ps size) i 70368744177729 (λ j l. end_small j (omega (arith, h.reached))) in
            omega (arith, h.is)
