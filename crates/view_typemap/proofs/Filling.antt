-- What the loops store.
use Rattle.laws.proofs.Prelude.{ℕ, ◌+◌, ◌*◌, ◌/◌, ◌%◌, ◌<◌, ◌≡◌, refl, List, ℤ, arith, length, take, length-take-le, mod-lt, get_or, w64, to_z, to_z_pos, runs_below}
use Rattle.view_typemap.specs.Parts.{group_width, group_displacement, Room, Signed}

pub width_is : (ws : List ℕ) (n i : ℕ) → get_or ws (i % n) 0 ≡ group_width ws n i
unfolding group_width
width_is ws n i = refl

module _ (n k i : ℕ) (out : List ℤ) (r : Room n k (length out)) (l : i < length (take (k * n) out)) (origins ds : List ℕ) (s : Signed origins ds n k) where
  pub sum_small : get_or origins (i / n) 0 + get_or ds (i % n) 0 < 9223372036854775808
  sum_small = s.small (i / n) (i % n) (runs_below k n i r.some (omega (arith, l, length-take-le (k * n) out r.room))) (mod-lt i {m = n} r.some)

  -- the sum, read as signed, is itself
  pub displacement_is : to_z w64 (get_or origins (i / n) 0 + get_or ds (i % n) 0) ≡ group_displacement origins ds n i
  unfolding group_displacement
  displacement_is = to_z_pos w64 sum_small
