-- Two's complement: what the code reads of an unsigned number as signed.
use Rattle.laws.proofs.Prelude.{ℕ, ◌+◌, ◌%◌, ◌<◌, ◌≤◌, ◌≡◌, refl, sym, ◌∙◌, arith, ℤ, pos, negsuc, nat_abs, true, leb, leb-true, w64, to_z}
use Rattle.std.proofs.lemmas.Int.{ints}
use Rattle.std.proofs.lemmas.Bool.Decides.{nat_tests}
use Rattle.recipe_types.specs.Parts.{near}
use Rattle.recipe_types.proofs.Integers.{sub_is}
use Rattle.recipe_steps.specs.Parts.{Biased}

pub near_abs : (z : ℤ) → near z ≡ leb (nat_abs z) 1048576
unfolding near
near_abs (pos n) = refl
near_abs (negsuc n) = refl

pub biased_is : (x : ℕ) → x < 18446744073709551616 → near (to_z w64 x) ≡ true → Biased (to_z w64 x) ((x + 1073741824) % 18446744073709551616)
biased_is x l n =
    let h : nat_abs (to_z w64 x) ≤ 1048576 = leb-true _ _ (sym (near_abs (to_z w64 x)) ∙ n) in
    let s = sub_is ((x + 1073741824) % 18446744073709551616) 1073741824 in
    record { is = grind (arith, ints, nat_tests); low = grind (arith, ints, nat_tests); high = grind (arith, ints, nat_tests) }
