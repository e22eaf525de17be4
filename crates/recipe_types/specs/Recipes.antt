-- Must be believed. Document 02, order 4: a recipe as docs/recipes.md fixes its form, the type that each step means, and the refusals in the paper's order.
use Rattle.std.specs.Prelude.{ℕ, zero, suc, ◌+◌, ◌-◌, ◌*◌, ◌/◌, ◌%◌, Bool, true, false, cond, List, [], ◌∷◌, ◌++◌, leb, ltb, eqb, ℤ, pos, negsuc, ◌+ℤ◌, length, drop}
use Rattle.std.specs.Int.Signed.{le_z}
use Rattle.std.specs.Int.{w64}
use Rattle.std.proofs.Common.{to_z}
use Rattle.laws.specs.Checks.{also, either, within, check}
use Rattle.laws.specs.Search.{all, least_false}
use Rattle.laws.specs.Lists.{nth}
use Rattle.view.specs.Limits.{width_allowed, entry_displacement_allowed, extent_allowed}
use Rattle.recipe_types.specs.Typemaps.{Typemap, Block, Dimension, lower_bound, extent, basic, contiguous, vector, indexed, subarray, resized}

-- ---- the form

-- a recipe: the numbers of its steps, six each, and those of its items, three each
pub record Recipe : Type 0 where
  pub steps : List ℕ
  pub items : List ℕ

abbrev pub recipe_of : List ℕ → List ℕ → Recipe
recipe_of steps items = record { steps = steps; items = items }

-- number c of step i, and of item i; 0 past the end of the list
unfoldable pub step_number : Recipe → ℕ → ℕ → ℕ
step_number r i c = nth r.steps (6 * i + c)

unfoldable pub item_number : List ℕ → ℕ → ℕ → ℕ
item_number items i c = nth items (3 * i + c)

-- a signed number stands in two's complement
abbrev pub signed : ℕ → ℤ
signed x = to_z w64 x

unfoldable pub block_at : List ℕ → ℕ → Block
block_at items i = record { block_length = item_number items i 0; displacement = signed (item_number items i 1) }

unfoldable pub dimension_at : List ℕ → ℕ → Dimension
dimension_at items i = record { size = item_number items i 0; subsize = item_number items i 1; start = signed (item_number items i 2) }

-- a step: its constructor with the numbers
pub data Step : Type 0 where
  contiguous_step : ℕ → Step
  vector_step : ℕ → ℕ → ℤ → Step
  indexed_step : ℕ → (ℕ → Block) → Step
  subarray_step : ℕ → (ℕ → Dimension) → Step
  resized_step : ℤ → Step
  no_step : Step

-- a step by its kind and its three numbers
unfoldable pub step_of : List ℕ → ℕ → ℕ → ℕ → ℕ → Step
step_of items kind a b c =
    cond (eqb kind 1) (contiguous_step a)
    (cond (eqb kind 2) (vector_step a b (signed c))
    (cond (eqb kind 3) (indexed_step b (λ i. block_at items (a + i)))
    (cond (eqb kind 4) (subarray_step b (λ i. dimension_at items (a + i)))
    (cond (eqb kind 5) (resized_step (signed a))
    no_step))))

unfoldable pub recipe_step : Recipe → ℕ → Step
recipe_step r i = step_of r.items (step_number r i 0) (step_number r i 3) (step_number r i 4) (step_number r i 5)

-- ---- the type that a step means

-- what a constructor makes of the type that the step names
unfoldable pub construct : Step → Typemap → Typemap
construct (contiguous_step count) t = contiguous count t
construct (vector_step count block_length stride) t = vector count block_length stride t
construct (indexed_step n block) t = indexed n block t
construct (subarray_step n dim) t = subarray n dim t
construct (resized_step x) t = resized x t
construct no_step t = t

-- the type that step i names: with source 1 a basic width, else an earlier step
unfoldable pub named : Recipe → (ℕ → Typemap) → ℕ → Typemap
named r earlier i = cond (eqb (step_number r i 1) 1) (basic (step_number r i 2)) (earlier (step_number r i 2))

-- the types of the first n steps, each made of what the steps before it are
unfoldable pub types_before : Recipe → ℕ → ℕ → Typemap
types_before r zero k = basic 0
types_before r (suc n) k = cond (eqb k n) (construct (recipe_step r n) (named r (types_before r n) n)) (types_before r n k)

unfoldable pub step_type : Recipe → ℕ → Typemap
step_type r i = types_before r (suc i) i

-- ---- the refusals

-- 26: 1 to 32 whole steps
unfoldable pub step_count : Recipe → ℕ
step_count r = length r.steps / 6

unfoldable pub steps_allowed : Recipe → Bool
steps_allowed r = also (eqb (length r.steps % 6) 0) (within 1 32 (step_count r))

-- 27: the step, of one of the five kinds, names a basic width or an earlier step
unfoldable pub names : Recipe → ℕ → Bool
names r i =
    also (within 1 5 (step_number r i 0))
    (either (also (eqb (step_number r i 1) 1) (width_allowed (step_number r i 2)))
    (also (eqb (step_number r i 1) 2) (ltb (step_number r i 2) i)))

-- 28: no count, block length or subsize is 0; the number of blocks is a count
unfoldable pub some_of : ℕ → Bool
some_of n = leb 1 n

unfoldable pub none_zero : Step → Bool
none_zero (contiguous_step count) = some_of count
none_zero (vector_step count block_length stride) = also (some_of count) (some_of block_length)
none_zero (indexed_step n block) = also (some_of n) (all (λ i. some_of (block i).block_length) n)
none_zero (subarray_step n dim) = all (λ i. some_of (dim i).subsize) n
none_zero (resized_step x) = true
none_zero no_step = true

-- 29: a subarray has 1 to 4 dimensions and lies inside its array
unfoldable pub inside : Dimension → Bool
inside d = also (le_z (pos 0) d.start) (le_z (d.start +ℤ pos d.subsize) (pos d.size))

unfoldable pub dimensions_allowed : Step → Bool
dimensions_allowed (subarray_step n dim) = also (within 1 4 n) (all (λ i. inside (dim i)) n)
dimensions_allowed (contiguous_step count) = true
dimensions_allowed (vector_step count block_length stride) = true
dimensions_allowed (indexed_step n block) = true
dimensions_allowed (resized_step x) = true
dimensions_allowed no_step = true

-- 30: at most 256 entries
unfoldable pub entry_count_allowed : Typemap → Bool
entry_count_allowed t = leb (length t.entries) 256

-- 31: document 01's limits of each entry's displacement and of the extent
unfoldable pub every : {A : Type 0} → (A → Bool) → List A → Bool
every p [] = true
every p (x ∷ l) = also (p x) (every p l)

unfoldable pub limits_kept : Typemap → Bool
limits_kept t = also (every (λ e. entry_displacement_allowed e.width e.displacement) t.entries) (extent_allowed (extent t))

-- 32: the lower bound is 0
unfoldable pub is_zero : ℤ → Bool
is_zero (pos n) = eqb n 0
is_zero (negsuc n) = false

-- 33: a lent list has room for the entries
unfoldable pub room : Typemap → ℕ → Bool
room t len = leb (length t.entries) len

-- what a step is refused with, 0 if with nothing, where the lent lists have these lengths
unfoldable pub last_refusal : Typemap → ℕ → ℕ → ℕ
last_refusal t widths displacements =
    check (is_zero (lower_bound t)) 32
    (check (also (room t widths) (room t displacements)) 33 0)

unfoldable pub step_refusal : Recipe → ℕ → ℕ → ℕ → ℕ
step_refusal r widths displacements i =
    check (names r i) 27
    (check (none_zero (recipe_step r i)) 28
    (check (dimensions_allowed (recipe_step r i)) 29
    (check (entry_count_allowed (step_type r i)) 30
    (check (limits_kept (step_type r i)) 31
    (cond (eqb (suc i) (step_count r)) (last_refusal (step_type r i) widths displacements) 0)))))

-- the first step that is refused, or the number of steps; and what the recipe is refused with
unfoldable pub first_bad : Recipe → ℕ → ℕ → ℕ
first_bad r widths displacements = least_false (λ i. eqb (step_refusal r widths displacements i) 0) (step_count r)

unfoldable pub recipe_refusal : Recipe → ℕ → ℕ → ℕ
recipe_refusal r widths displacements =
    let bad = first_bad r widths displacements in
    check (steps_allowed r) 26
    (cond (ltb bad (step_count r)) (step_refusal r widths displacements bad) 0)

-- ---- the result: the type of the last step

unfoldable pub meaning : Recipe → Typemap
meaning r = types_before r (step_count r) (step_count r - 1)

-- a list at the front of a lent one: what lies after it stays
unfoldable pub over : {A : Type 0} → List A → List A → List A
over l before = l ++ drop (length l) before
