-- A signed number and the natural one taken for it, as the code tests and casts it.
use Rattle.laws.proofs.Prelude.{◌≡◌, refl, true, false, true≢false, ℤ, pos, negsuc, nat_abs, lt_z, not_negative}
use Rattle.view.specs.Types.{whole}

-- the test of the sign came out true, and false
pub negative_is : (z : ℤ) → lt_z z (pos 0) ≡ true → 0 ≡ whole z
unfolding whole
negative_is (pos n) e = absurd (not_negative n e)
negative_is (negsuc n) e = refl

pub natural_is : (z : ℤ) → lt_z z (pos 0) ≡ false → nat_abs z ≡ whole z
unfolding whole
natural_is (pos n) e = refl
natural_is (negsuc n) e = absurd (true≢false e)
