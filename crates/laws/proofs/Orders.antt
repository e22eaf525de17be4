-- What the library's `max` and `min` of two natural numbers answer, as numbers.
use Rattle.std.proofs.Common.{ℕ, ◌≡◌, max, min, arith}
use Rattle.std.specs.Ordering.{ord_max, ord_min, nat_cmp}
use Rattle.std.proofs.lemmas.Grind.{common_steps}

pub max_is : (a b r : ℕ) → r ≡ ord_max nat_cmp a b → r ≡ max a b
max_is a b r e = grind (arith, common_steps)

pub min_is : (a b r : ℕ) → r ≡ ord_min nat_cmp a b → r ≡ min a b
min_is a b r e = grind (arith, common_steps)
