-- What is known of a step whose copies are to be put, by its kind, and the places of a contiguous one.
use Rattle.laws.proofs.Prelude.{ℕ, ◌+◌, ◌≤◌, ◌≡◌, refl, sym, List, arith, leb-true, pos, w64, to_z, all_at}
use Rattle.recipe_types.specs.Typemaps.{product}
use Rattle.recipe_types.specs.Recipes.{item_number, block_at, dimension_at}
use Rattle.recipe_types.specs.Parts.{copies_of, place_of, step_near, near}
use Rattle.recipe_types.proofs.Integers.{sub_pos}
use Rattle.recipe_steps.specs.declared.StepNumbers.{StepNumbers}
use Rattle.recipe_steps.specs.Parts.{numbers_from, Placeable, PlacesPut, Run, VectorReady, IndexedReady, ArrayReady}
use Rattle.recipe_steps.proofs.Steps.{kind_1, kind_2, kind_3, kind_4}
use Rattle.recipe_steps.proofs.Arrays.{inside_start, inside_end}
use Rattle.recipe_steps.proofs.Checked.{length_some, subsize_some, dimension_inside}
use Rattle.recipe_steps.proofs.Placing.{run_put, put_none}

module _ (items : List ℕ) (s : StepNumbers) (p : Placeable items s) where
  -- ---- contiguous

  module _ (k : s.kind ≡ 1) where
    few_copies : s.a ≤ 256
    unfolding copies_of
    few_copies = rw (kind_1 items s k) at p.few

    pub contiguous_placed : (out out' : List ℕ) → Run 0 1073741824 s.a out out' → PlacesPut items s out out'
    unfolding copies_of place_of
    contiguous_placed out out' r =
        let t = run_put 0 s.a 1073741824 out out' r (λ j. pos j) (put_none _ out).places (omega (arith, few_copies)) (λ j b. sym (sub_pos (1073741824 + j) 1073741824 (0 + j) (omega arith))) out refl in
        let q : 0 + s.a ≡ s.a = omega arith in
        record { places = rw (kind_1 items s k) (rw q at t.places); length_stays = t.length_stays }

  -- ---- vector

  module _ (k : s.kind ≡ 2) where
    pub vector_ready : VectorReady s
    unfolding copies_of step_near
    vector_ready = record { some = length_some items s p.sound k; few = rw (kind_2 items s k) at p.few; near = rw (kind_2 items s k) at p.near }

  -- ---- indexed

  module _ (k : s.kind ≡ 3) where
    pub indexed_ready : IndexedReady items s.a s.b
    unfolding copies_of step_near block_at numbers_from
    indexed_ready = record { few = rw (kind_3 items s k) at p.few; near = λ i l. all_at (λ j. near (to_z w64 (item_number items (s.a + j) 1))) s.b (rw (kind_3 items s k) at p.near) i l }

  -- ---- subarray

  module _ (k : s.kind ≡ 4) where
    pub array_ready : ArrayReady items s.a s.b
    unfolding step_near dimension_at numbers_from
    array_ready = record {
      some = subsize_some items s p.sound k;
      natural = λ i l. inside_start items (s.a + i) (dimension_inside items s p.sound k i l);
      within = λ i l. inside_end items (s.a + i) (dimension_inside items s p.sound k i l);
      small = leb-true (product (λ i. item_number items (s.a + i) 0) s.b) 1048576 (rw (kind_4 items s k) at p.near);
    }
