-- Integers as differences of natural numbers. What is said of sums, of products by a natural number, of equations and of the order of integers becomes a statement about natural numbers. The library's rules `ints` read an integer z as up z less down z.
use Rattle.laws.proofs.Prelude.{ℕ, ◌+◌, ◌*◌, ◌≡◌, refl, ap, arith, ℤ, pos, sub_ℕ, ◌+ℤ◌, ◌-ℤ◌, leb}
use Rattle.std.proofs.lemmas.Int.{ints}
use Rattle.std.proofs.lemmas.Bool.Decides.{nat_tests}
use lib.IntN.{◌*ℤ◌, neg_ℤ}
use lib.Signed.{le_z}
pub use borrow.Author.Differences.{up, down}

-- z is a less b
pub record Difference (z : ℤ) (a b : ℕ) : Type 0 where
  pub is : up z + b ≡ a + down z

-- ---- integers that are known as differences

-- each integer is a difference
pub self_is : (z : ℤ) → Difference z (up z) (down z)
self_is z = record { is = refl }

-- a natural number is itself less 0
pub pos_is : (n : ℕ) → Difference (pos n) n 0
pos_is n = record { is = refl }

-- `sub_ℕ a b` is a less b
pub sub_is : (a b : ℕ) → Difference (sub_ℕ a b) a b
sub_is a b = record { is = grind (arith, nat_tests) }

-- an equal integer is the same difference
pub same_is : {z w : ℤ} {a b : ℕ} → z ≡ w → Difference w a b → Difference z a b
same_is e d = rw e d

-- the same difference by other numbers
pub other_is : {z : ℤ} {a b : ℕ} (c d : ℕ) → a + d ≡ c + b → Difference z a b → Difference z c d
other_is c d e p = record { is = omega arith }

-- ---- sums, negatives and products

-- a sum of differences
pub sum_is : {z w : ℤ} {a b c d : ℕ} → Difference z a b → Difference w c d → Difference (z +ℤ w) (a + c) (b + d)
sum_is p q = record { is = omega (arith, ints) }

-- the negative of a difference
pub negative_is : {z : ℤ} {a b : ℕ} → Difference z a b → Difference (neg_ℤ z) b a
negative_is p = record { is = omega (arith, ints) }

-- a difference of differences
pub less_is : {z w : ℤ} {a b c d : ℕ} → Difference z a b → Difference w c d → Difference (z -ℤ w) (a + d) (b + c)
less_is p q = record { is = omega (arith, ints) }

-- a difference times a natural number
pub times_is : {z : ℤ} {a b : ℕ} (n : ℕ) → Difference z a b → Difference (z *ℤ pos n) (a * n) (b * n)
times_is n p = record { is = omega (arith, ints, ap (λ (x : ℕ). x * n) p.is) }

-- ---- equations and the order

-- two numbers that are equal differences are equal
pub is_equal : {z w : ℤ} {a b c d : ℕ} → Difference z a b → Difference w c d → a + d ≡ c + b → z ≡ w
is_equal p q e = omega (arith, ints)

-- two ways to write an integer as a difference have equal sums crosswise
pub is_once : {z : ℤ} {a b c d : ℕ} → Difference z a b → Difference z c d → a + d ≡ c + b
is_once p q = omega arith

-- one integer is at most another if its sum crosswise is, and only then
pub is_most : {z w : ℤ} {a b c d : ℕ} → Difference z a b → Difference w c d → le_z z w ≡ leb (a + d) (c + b)
is_most p q = grind (arith, ints, nat_tests)

-- ---- the same of `sub_ℕ`

-- a number that is c more than b, less b, is c
pub sub_pos : (a b c : ℕ) → a ≡ b + c → sub_ℕ a b ≡ pos c
sub_pos a b c e = is_equal (sub_is a b) (pos_is c) (omega arith)

-- differences are equal if the sums crosswise are
pub sub_eq : (a b c d : ℕ) → a + d ≡ c + b → sub_ℕ a b ≡ sub_ℕ c d
sub_eq a b c d e = is_equal (sub_is a b) (sub_is c d) e
