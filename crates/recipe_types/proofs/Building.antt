-- Laws of the type that each step of a recipe means: which type it is made of, and its entries as shifted copies. Assumes nothing.
use mathlib.Core.List.{List, [], ◌∷◌, ◌++◌, map, map-append}
use lib.IntN.{ℤ, pos, ◌*ℤ◌, +ℤ_idr, zero-*ℤ}
use lib.ListN.{length, length-append, length-map}
use native.Mathlib.Nat.{one-le-mul, suc-mul}
use Rattle.laws.proofs.Prelude.{ℕ, zero, suc, ◌-◌, ◌*◌, ◌≤◌, ◌<◌, ◌≡◌, refl, sym, ap, ◌∙◌, true, ⊎_elim, eq-or-lt_of_le, arith, eq-eqb, ne_eqb, leb-true, zero-mul, also_inv, all, all_at, total}
use Rattle.recipe_types.specs.Typemaps.{Entry, Typemap, extent, joined, shifted, copies, bounded, basic, contiguous, vector, indexed, subarray, resized, product}
use Rattle.recipe_types.specs.Recipes.{Recipe, step_number, Step, contiguous_step, vector_step, indexed_step, subarray_step, resized_step, no_step, recipe_step, construct, named, types_before, step_type, step_count, some_of, none_zero, meaning}
use Rattle.recipe_types.specs.Parts.{copies_of, place_of}

-- ---- the type of a step

-- among the types of the first n steps, that of an earlier step is its own type
pub types_before_law : (r : Recipe) (n k : ℕ) → k < n → types_before r n k ≡ step_type r k
unfolding types_before step_type
types_before_law r zero k l = absurd (omega arith)
types_before_law r (suc n) k l =
    ⊎_elim (λ e. rw e) (λ q. rw (ne_eqb k n (λ e. omega arith)) (types_before_law r n k q)) (eq-or-lt_of_le {n = k} {m = n} (omega arith))

-- the type of a step, made of what it names among the types before it
type_is : (r : Recipe) (i : ℕ) → step_type r i ≡ construct (recipe_step r i) (named r (types_before r i) i)
unfolding types_before step_type
type_is r i = rw (eq-eqb i i refl)

-- a step that names a basic width is made of that basic type
pub type_is_basic : (r : Recipe) (i : ℕ) → step_number r i 1 ≡ 1 → step_type r i ≡ construct (recipe_step r i) (basic (step_number r i 2))
unfolding named
type_is_basic r i e = type_is r i ∙ rw (named, eq-eqb (step_number r i 1) 1 e)

-- a step that names an earlier step is made of that step's type
pub type_is_step : (r : Recipe) (i : ℕ) → step_number r i 1 ≡ 2 → step_number r i 2 < i → step_type r i ≡ construct (recipe_step r i) (step_type r (step_number r i 2))
unfolding named
type_is_step r i e l = type_is r i ∙ rw (named, ne_eqb (step_number r i 1) 1 (λ q. omega arith), types_before_law r i (step_number r i 2) l)

-- a recipe means the type of its last step
pub meaning_is : (r : Recipe) → 1 ≤ step_count r → meaning r ≡ step_type r (step_count r - 1)
unfolding meaning
meaning_is r l = types_before_law r (step_count r) (step_count r - 1) (omega arith)

-- ---- lists one after another

-- the joined lists are as long as all of them together, if each has m elements
pub length_joined : {A : Type 0} (f : ℕ → List A) (m n : ℕ) → ((k : ℕ) → k < n → length (f k) ≡ m) → length (joined f n) ≡ n * m
unfolding joined
length_joined f m zero h = sym (zero-mul m)
length_joined f m (suc n) h = rw (length-append, suc-mul, length_joined f m n (λ k l. h k (omega arith)), h n (omega arith))

-- lists that are equal one by one give the same joined list
pub joined_same : {A : Type 0} (f g : ℕ → List A) (n : ℕ) → ((k : ℕ) → k < n → f k ≡ g k) → joined f n ≡ joined g n
unfolding joined
joined_same f g zero h = refl
joined_same f g (suc n) h =
    let a = joined_same f g n (λ k l. h k (omega arith)) in
    let b = h n (omega arith) in
    cc

-- a function of each element of the joined list is a function of each element of each list
pub map_joined : {A B : Type 0} (h : A → B) (f : ℕ → List A) (n : ℕ) → map h (joined f n) ≡ joined (λ k. map h (f k)) n
unfolding joined
map_joined h f zero = refl
map_joined h f (suc n) = map-append h (joined f n) (f n) ∙ ap (λ l. l ++ map h (f n)) (map_joined h f n)

-- ---- what a step makes, as shifted copies

-- a shift by no extents changes no entry
shifted_none : (x : ℤ) (l : List Entry) → map (shifted (pos 0 *ℤ x)) l ≡ l
unfolding shifted
shifted_none x [] = refl
shifted_none x (e ∷ l) = rw (zero-*ℤ x, +ℤ_idr e.displacement) (ap (λ r. e ∷ r) (shifted_none x l))

-- the entries that a step makes are copies of those of the type that it names; copy k is shifted by its place
pub construct_entries : (s : Step) (t : Typemap) → (construct s t).entries ≡ joined (λ k. map (shifted (place_of s k *ℤ extent t)) t.entries) (copies_of s)
unfolding construct contiguous vector indexed subarray resized bounded copies copies_of place_of joined
construct_entries (contiguous_step count) t = refl
construct_entries (vector_step count block_length stride) t = refl
construct_entries (indexed_step n block) t = refl
construct_entries (subarray_step n dim) t = refl
construct_entries (resized_step x) t = sym (shifted_none (extent t) t.entries)
construct_entries no_step t = sym (shifted_none (extent t) t.entries)

-- as many entries as the copies have together
pub entry_count : (s : Step) (t : Typemap) → length (construct s t).entries ≡ copies_of s * length t.entries
entry_count s t =
    ap length (construct_entries s t)
    ∙ length_joined (λ k. map (shifted (place_of s k *ℤ extent t)) t.entries) (length t.entries) (copies_of s) (λ k l. length-map t.entries (shifted (place_of s k *ℤ extent t)))

-- ---- a step without zeros makes at least one copy

some_of_law : (n : ℕ) → some_of n ≡ true → 1 ≤ n
unfolding some_of
some_of_law n h = leb-true 1 n h

-- a sum of at least one number, each at least 1, is at least 1
total_some : (f : ℕ → ℕ) (n : ℕ) → 1 ≤ n → ((k : ℕ) → k < n → 1 ≤ f k) → 1 ≤ total f n
unfolding total
total_some f zero l h = absurd (omega arith)
total_some f (suc n) l h = omega (arith, h n (omega arith))

-- a product of numbers that are at least 1 is at least 1
pub product_some : (f : ℕ → ℕ) (n : ℕ) → ((k : ℕ) → k < n → 1 ≤ f k) → 1 ≤ product f n
unfolding product
product_some f zero h = omega arith
product_some f (suc n) h = one-le-mul (product_some f n (λ k l. h k (omega arith))) (h n (omega arith))

-- a step of which no count, block length or subsize is 0 makes at least one copy
pub copies_some : (s : Step) → none_zero s ≡ true → 1 ≤ copies_of s
unfolding none_zero copies_of
copies_some (contiguous_step count) h = some_of_law count h
copies_some (vector_step count block_length stride) h =
    let p = also_inv (some_of count) (some_of block_length) h in
    one-le-mul (some_of_law count p.0) (some_of_law block_length p.1)
copies_some (indexed_step n block) h =
    let p = also_inv (some_of n) (all (λ i. some_of (block i).block_length) n) h in
    total_some (λ i. (block i).block_length) n (some_of_law n p.0) (λ k l. some_of_law (block k).block_length (all_at (λ i. some_of (block i).block_length) n p.1 k l))
copies_some (subarray_step n dim) h =
    product_some (λ i. (dim i).subsize) n (λ k l. some_of_law (dim k).subsize (all_at (λ i. some_of (dim i).subsize) n h k l))
copies_some (resized_step x) h = omega arith
copies_some no_step h = omega arith
