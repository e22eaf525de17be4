-- Sums and products that stop above a limit.
use Rattle.laws.proofs.Prelude.{ℕ, zero, suc, ◌+◌, ◌*◌, ◌≤◌, ◌<◌, ◌≡◌, min, ⊎_elim, List, arith, add-one, mul-le-mul, eq-or-lt_of_le, leb-true, all_at}
use Rattle.recipe_types.specs.Typemaps.{product}
use Rattle.recipe_types.specs.Recipes.{item_number, some_of}
use Rattle.recipe_types.specs.Parts.{Capped}
use Rattle.recipe_steps.specs.Parts.{Factors}

pub capped_above : (limit n r : ℕ) → limit < r → limit < n → Capped limit n r
capped_above limit n r h l = record { same = λ q. absurd (omega arith); above = λ q. l }

-- ---- products

pub product_more : (f : ℕ → ℕ) (i : ℕ) → product f (i + 1) ≡ product f i * f i
unfolding product
product_more f i = rw (add-one i)

-- where no factor is 0, a product is at least that of fewer factors
pub product_part : (f : ℕ → ℕ) (i n : ℕ) → ((i : ℕ) → i < n → 1 ≤ f i) → i < n → product f i * f i ≤ product f n
unfolding product
product_part f i zero h l = absurd (omega arith)
product_part f i (suc n) h l =
    ⊎_elim (λ e. rw e (omega arith))
    (λ q. omega (arith, product_part f i n (λ k b. h k (omega arith)) q, mul-le-mul {n₁ = product f n} {m₁ = 1} {n₂ = product f n} {m₂ = f n} (omega arith) (h n (omega arith))))
    (eq-or-lt_of_le {n = i} {m = n} (omega arith))

-- a product of the first factors that is above the limit, where none of them is 0
pub product_over : {items : List ℕ} {first n which limit : ℕ} → Factors items first n which limit → (i p x r : ℕ) → i < n → p ≡ product (λ k. item_number items (first + k) which) i → x ≡ item_number items (first + i) which → r ≡ min (p * x) 18446744073709551615 → limit < r → Capped limit (product (λ k. item_number items (first + k) which) n) r
unfolding some_of
product_over {items} {first} {n} {which} {limit} g i p x r l e q m h =
    let f : ℕ → ℕ = λ k. item_number items (first + k) which in
    let some : (k : ℕ) → k < n → 1 ≤ f k = λ k b. leb-true 1 (f k) (all_at (λ j. some_of (f j)) n g.some k b) in
    let part : p * x ≤ product f n = rw (e, q) (product_part f i n some l) in
    capped_above limit (product f n) r h (omega arith)
