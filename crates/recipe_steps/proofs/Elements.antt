-- The places of a subarray's elements, from the last dimension to the first.
use Rattle.laws.proofs.Prelude.{ℕ, suc, ◌+◌, ◌-◌, ◌*◌, ◌/◌, ◌%◌, ◌≤◌, ◌<◌, ◌≡◌, refl, sym, ap, ◌∙◌, List, arith, length, set, mod-lt, mul-le-mul, times_more, to_z_pos, w64}
use Rattle.recipe_types.specs.Typemaps.{element_place, product}
use Rattle.recipe_types.specs.Recipes.{item_number, dimension_at}
use Rattle.recipe_types.proofs.Integers.{sub_pos}
use Rattle.recipe_steps.specs.Parts.{numbers_from, dimensions_from, Put, ArrayReady, ElementAt}
use Rattle.recipe_steps.proofs.Placing.{one_put}

-- ---- the last dimension

module _ (items : List ℕ) (first n : ℕ) (a : ArrayReady items first n) (some : n ≡ 0 → ⊥) where
  last_in : n - 1 < n
  last_in = omega (arith, some)

  rows_and_last : n ≡ suc (n - 1)
  rows_and_last = omega (arith, some)

  sizes_some : (i : ℕ) → i < n → 1 ≤ numbers_from items first 0 i
  unfolding numbers_from
  sizes_some i l = omega (arith, a.some i l, a.within i l)

  size_is : product (numbers_from items first 0) n ≡ product (numbers_from items first 0) (n - 1) * item_number items (first + (n - 1)) 0
  unfolding product numbers_from
  size_is = ap (product (numbers_from items first 0)) rows_and_last

  pub array_less : ArrayReady items first (n - 1)
  unfolding numbers_from
  array_less = record {
    some = λ i l. a.some i (omega arith);
    natural = λ i l. a.natural i (omega arith);
    within = λ i l. a.within i (omega arith);
    small = omega (arith, a.small, size_is, mul-le-mul {n₁ = product (numbers_from items first 0) (n - 1)} {m₁ = 1} {n₂ = product (numbers_from items first 0) (n - 1)} {m₂ = item_number items (first + (n - 1)) 0} (omega arith) (sizes_some (n - 1) last_in));
  }

  pub subsize_above : (subsize : ℕ) → subsize ≡ item_number items (first + (n - 1)) 1 → 0 < subsize
  subsize_above subsize e = rw e (a.some (n - 1) last_in)

  module _ (k size subsize start rows : ℕ) (e0 : size ≡ item_number items (first + (n - 1)) 0) (e1 : subsize ≡ item_number items (first + (n - 1)) 1) (e2 : start ≡ item_number items (first + (n - 1)) 2) where
    column_in : start + k % subsize < size
    column_in = omega (arith, a.within (n - 1) last_in, e0, e1, e2, mod-lt k {m = subsize} (subsize_above subsize e1))

    module _ (r : ElementAt items first (n - 1) (k / subsize) rows) where
      place_in_law : rows * size + (start + k % subsize) < product (numbers_from items first 0) n
      place_in_law = omega (arith, size_is, e0, column_in, times_more rows size, rows_in)
        where
          rows_in : (rows + 1) * size ≤ product (numbers_from items first 0) (n - 1) * item_number items (first + (n - 1)) 0
          rows_in = rw (sym e0) (mul-le-mul {n₁ = rows + 1} {m₁ = size} (omega (arith, r.below)) (omega arith))

      pub place_small : rows * size + (start + k % subsize) ≤ 1048576
      place_small = omega (arith, place_in_law, a.small)

      pub element_more : ElementAt items first n k (rows * size + (start + k % subsize))
      unfolding element_place dimensions_from dimension_at
      element_more = record {
        is =
            ap (λ (m : ℕ). element_place (dimensions_from items first) m k) rows_and_last
            ∙ rw (sym e0, sym e1, sym e2, to_z_pos w64 {n = start} (rw e2 (a.natural (n - 1) last_in)), r.is);
        below = place_in_law;
      }

-- ---- an element more

pub element_put : (items : List ℕ) (first n k r : ℕ) (l₀ out : List ℕ) → ArrayReady items first n → ElementAt items first n k r → k < length out → Put (element_place (dimensions_from items first) n) k l₀ out → Put (element_place (dimensions_from items first) n) (k + 1) l₀ (set out k (1073741824 + r))
element_put items first n k r l₀ out a m room p =
    one_put (element_place (dimensions_from items first) n) k (1073741824 + r) l₀ out p room (omega (arith, m.below, a.small)) (m.is ∙ sym (sub_pos (1073741824 + r) 1073741824 r refl))
