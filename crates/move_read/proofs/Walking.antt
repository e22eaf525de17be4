-- What both movers and the end of a write share: a walk from the spot of an offset to that of the next, in which no sum wraps, and the part of the buffer that belongs to each etype.
use Rattle.laws.proofs.Prelude.{ℕ, ◌+◌, ◌*◌, ◌≤◌, ◌<◌, ◌≡◌, ap, ◌∙◌, true, ⊎_elim, arith, add-zero, eq-zero-or-pos, mul-le-mul_right, ℤ, w64, Fits, to_z, of_z, nth, run_div, run_mod, times_more}
use Rattle.view.specs.declared.View.{View}
use Rattle.view.specs.Limits.{offset_allowed}
use Rattle.view.specs.Types.{PaperView, paper, whole}
use Rattle.view.specs.Acceptance.{Valid}
use Rattle.view.specs.Places.{place, byte_of, data_size}
use Rattle.view.specs.Parts.{reach_of, size_of}
use Rattle.view_place.specs.declared.Spot.{Spot}
use Rattle.view_place.specs.Parts.{Tiled, spot_at, next_spot, SpotValid}
use Rattle.view_place.proofs.Placing.{offset_read, spot_held, spot_placed, spot_step, spot_small, spot_valid, spot_next}
use Rattle.view_place.proofs.Laid.{tiled, origins_low, place_is}
use Rattle.move_read.specs.Moves.{file_byte}
use Rattle.move_read.specs.Parts.{Ranged}
use Rattle.move_read.proofs.Etypes.{data_is, reach_small}

-- a byte of the data of an access, by the etype that it is of
pub file_byte_run : (v : PaperView) (o t j : ℕ) → j < data_size v → file_byte v o (t * data_size v + j) ≡ byte_of v (o + t) j
unfolding file_byte
file_byte_run v o t j l = rw (run_div (data_size v) t j l, run_mod (data_size v) t j l)

-- of the c offsets from o on, the first t are done, and s is the spot of the next
pub record Walking (v : View) (o c t : ℕ) (s : Spot) : Type 0 where
  pub valid : Valid (paper v)
  pub bound : o + c ≤ 4294967296
  pub reached : t ≤ c
  pub spot : s ≡ spot_at v.numbers (o + t)

pub walk_none : (v : View) (o c : ℕ) (s : Spot) → Valid (paper v) → o + c ≤ 4294967296 → s ≡ spot_at v.numbers o → Walking v o c 0 s
walk_none v o c s k b at = record { valid = k; bound = b; reached = omega arith; spot = rw add-zero at }

module _ (v : View) (o c t : ℕ) (s : Spot) (w : Walking v o c t s) (l : t < c) where
  below : o + t < 4294967296
  below = omega (arith, w.bound)

  tiles : Tiled v.numbers
  tiles = tiled v w.valid

  -- what the functions on places ask for
  pub walk_valid : SpotValid v.origins s
  walk_valid = spot_valid v.numbers tiles (o + t) s w.spot v.origins (origins_low v w.valid) below

  pub walk_held : s.instance < 64
  walk_held = spot_held v.numbers tiles (o + t) s w.spot

  pub walk_step : s.tile.0 + v.numbers.filetype.extent < 18446744073709551616
  walk_step = spot_step v.numbers tiles (o + t) s w.spot below

  pub walk_more : (s' : Spot) → s' ≡ next_spot s v.numbers.filetype.instances v.numbers.filetype.extent → Walking v o c (t + 1) s'
  walk_more s' n = record {
    valid = w.valid;
    bound = w.bound;
    reached = omega arith;
    spot = let e : o + (t + 1) ≡ o + t + 1 = omega arith in rw e (spot_next v.numbers tiles (o + t) s w.spot s' n);
  }

  -- p is where the etype at o + t begins, r how far it reaches
  module _ (p : ℕ) (begins : p ≡ s.tile.0 + nth v.origins s.instance) where
    pub walk_place : p ≡ place (paper v) (o + t)
    walk_place = spot_placed v.numbers tiles (o + t) s w.spot v.origins p begins ∙ place_is v w.valid (o + t)

    pub walk_end_fits : (r : ℕ) → r ≡ reach_of v.widths v.displacements v.numbers.etype.entries → Fits w64 (p + r)
    walk_end_fits r e = record { fits = omega (arith, spot_small v.numbers tiles (o + t) s w.spot v.origins (origins_low v w.valid) below, reach_small v w.valid) }

  -- S bytes of the buffer, from t·S on, are the etype's
  module _ (S : ℕ) (sized : S ≡ size_of v.numbers.etype.entries v.widths) where
    pub walk_size : S ≡ data_size (paper v)
    walk_size = sized ∙ data_is v w.valid

    pub walk_room : (room : ℕ) → c * data_size (paper v) ≤ room → t * S + S ≤ room
    walk_room room q = rw walk_size (omega (arith, times_more t (data_size (paper v)), mul-le-mul_right {m = t + 1} {n = c} (data_size (paper v)) (omega arith)))

-- ---- where an access begins

module _ (v : View) (o : ℤ) (c : ℕ) (h : Ranged v o c) where
  pub move_tiled : Tiled v.numbers
  move_tiled = tiled v h.valid

  pub walk_begun : (s : Spot) → s ≡ spot_at v.numbers (whole o) → Walking v (whole o) c 0 s
  walk_begun s at = walk_none v (whole o) c s h.valid h.last at

  module _ (some : c ≡ 0 → ⊥) where
    pub positive : 0 < c
    positive = ⊎_elim (λ z. absurd (some z)) (λ p. p) (eq-zero-or-pos c)

    pub move_offset : offset_allowed o ≡ true
    move_offset = h.offset positive

    -- `first` is the access's offset as the machine reads it
    pub begin_natural : (first : ℕ) → first ≡ whole (to_z w64 (of_z w64 o)) → first ≡ whole o
    begin_natural first read = read ∙ ap whole (offset_read o move_offset)
