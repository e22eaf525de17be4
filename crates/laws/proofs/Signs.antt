-- A signed number, as the code tests its sign and casts it.
use Prim.Native.Nat.{ℕ, suc}
use mathlib.Core.Bool.{true, false, true≢false}
use mathlib.Core.Path.{◌≡◌, ◌∙◌}
use native.Mathlib.Omega.{arith}
use borrow.Author.Tests.{ltb-true}
use lib.Dec.{T, ltb}
use lib.IntN.{ℤ, pos, negsuc, nat_abs, ◌-ℤ◌, +ℤ_comm, -ℤ_one}
use lib.Signed.{lt_z, non_neg}
use mir.Syntax.{w64}
use mir.Val.{Fits, SFits}

-- no natural number tests as negative
pub not_negative : (n : ℕ) → ltb n 0 ≡ true → ⊥
not_negative n e = omega (arith, ltb-true n 0 e)

-- what a cast of a number that tests as not negative asks
pub natural_sign : (z : ℤ) → lt_z z (pos 0) ≡ false → T (non_neg z)
natural_sign (pos n) e = tt
natural_sign (negsuc n) e = absurd (true≢false e)

pub natural_fits : (z : ℤ) → lt_z z (pos 0) ≡ false → SFits w64 z → Fits w64 (nat_abs z)
natural_fits (pos n) e f = record { fits = omega (arith, f.sfits) }
natural_fits (negsuc n) e f = absurd (true≢false e)

-- -1 less a negative number
pub minus_negative : (n : ℕ) → negsuc 0 -ℤ negsuc n ≡ pos n
minus_negative n = +ℤ_comm (negsuc 0) (pos (suc n)) ∙ -ℤ_one (pos (suc n))
