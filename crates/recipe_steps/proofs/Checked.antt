-- What is known of the numbers of a step that has passed checks 28 and 29.
use Rattle.laws.proofs.Prelude.{ℕ, ◌+◌, ◌≤◌, ◌<◌, ◌≡◌, true, List, arith, leb-true, le-leb, all, all_at, all_intro, also_inv}
use Rattle.recipe_types.specs.Recipes.{none_zero, dimensions_allowed, some_of, inside, item_number, dimension_at, block_at}
use Rattle.recipe_steps.specs.declared.StepNumbers.{StepNumbers}
use Rattle.recipe_steps.specs.Parts.{Sound, Factors}
use Rattle.recipe_steps.proofs.Steps.{kind_2, kind_3, kind_4}
use Rattle.recipe_steps.proofs.Arrays.{inside_end}

module _ (items : List ℕ) (s : StepNumbers) (c : Sound items s) where
  module _ (k : s.kind ≡ 2) where
    counts : (1 ≤ s.a) × (1 ≤ s.b)
    unfolding none_zero some_of
    counts = let p = also_inv _ _ (rw (kind_2 items s k) at c.zeros) in (leb-true 1 s.a p.0, leb-true 1 s.b p.1)

    pub count_some : 1 ≤ s.a
    count_some = counts.0

    pub length_some : 1 ≤ s.b
    length_some = counts.1

  module _ (k : s.kind ≡ 3) where
    blocks : (1 ≤ s.b) × (all (λ i. some_of (item_number items (s.a + i) 0)) s.b ≡ true)
    unfolding none_zero some_of block_at
    blocks = let p = also_inv _ _ (rw (kind_3 items s k) at c.zeros) in (leb-true 1 s.b p.0, p.1)

    pub blocks_some : 1 ≤ s.b
    blocks_some = blocks.0

    pub block_some : (i : ℕ) → i < s.b → 1 ≤ item_number items (s.a + i) 0
    unfolding some_of
    block_some i l = leb-true 1 (item_number items (s.a + i) 0) (all_at (λ j. some_of (item_number items (s.a + j) 0)) s.b blocks.1 i l)

  module _ (k : s.kind ≡ 4) where
    subsizes : all (λ i. some_of (item_number items (s.a + i) 1)) s.b ≡ true
    unfolding none_zero dimension_at
    subsizes = rw (kind_4 items s k) at c.zeros

    pub subsize_some : (i : ℕ) → i < s.b → 1 ≤ item_number items (s.a + i) 1
    unfolding some_of
    subsize_some i l = leb-true 1 (item_number items (s.a + i) 1) (all_at (λ j. some_of (item_number items (s.a + j) 1)) s.b subsizes i l)

    pub dimension_inside : (i : ℕ) → i < s.b → inside (dimension_at items (s.a + i)) ≡ true
    unfolding dimensions_allowed
    dimension_inside i l = all_at (λ j. inside (dimension_at items (s.a + j))) s.b (also_inv _ _ (rw (kind_4 items s k) at c.dimensions)).1 i l

    pub size_some : (i : ℕ) → i < s.b → 1 ≤ item_number items (s.a + i) 0
    size_some i l = omega (arith, subsize_some i l, inside_end items (s.a + i) (dimension_inside i l))

    -- none of the subsizes is 0, and none of the sizes
    pub subsize_factors : Factors items s.a s.b 1 256
    subsize_factors = record { some = subsizes; some_limit = omega arith; small_limit = omega arith }

    pub size_factors : Factors items s.a s.b 0 1048576
    unfolding some_of
    size_factors = record {
      some = all_intro (λ i. some_of (item_number items (s.a + i) 0)) s.b (λ i l. le-leb 1 (item_number items (s.a + i) 0) (size_some i l));
      some_limit = omega arith;
      small_limit = omega arith;
    }
