-- A dimension that has passed check 29.
use Rattle.laws.proofs.Prelude.{ℕ, ◌+◌, ◌≤◌, ◌<◌, ◌≡◌, true, List, arith, also}
use Rattle.std.proofs.lemmas.Int.{ints}
use Rattle.std.proofs.lemmas.Bool.Decides.{nat_tests}
use Rattle.recipe_types.specs.Recipes.{inside, item_number, dimension_at}

pub inside_start : (items : List ℕ) (j : ℕ) → inside (dimension_at items j) ≡ true → item_number items j 2 < 9223372036854775808
unfolding inside dimension_at also
inside_start items j h = grind (arith, ints, nat_tests)

pub inside_end : (items : List ℕ) (j : ℕ) → inside (dimension_at items j) ≡ true → item_number items j 2 + item_number items j 1 ≤ item_number items j 0
unfolding inside dimension_at also
inside_end items j h = grind (arith, ints, nat_tests)
