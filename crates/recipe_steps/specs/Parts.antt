-- Need not be believed. A step by its numbers, and what the functions of this crate ask of it.
use Rattle.std.specs.Prelude.{ℕ, ◌+◌, ◌*◌, ◌/◌, ◌%◌, ◌≤◌, ◌<◌, Bool, true, List, ◌≡◌, ltb, eqb, ℤ, pos, ◌+ℤ◌, ◌*ℤ◌, length}
use Rattle.std.proofs.Math.IntN.{sub_ℕ}
use Rattle.std.specs.Int.{w64}
use Rattle.std.proofs.Common.{to_z}
use Rattle.laws.specs.Checks.{also, either, within}
use Rattle.laws.specs.Lists.{nth}
use Rattle.laws.specs.Search.{all, total}
use Rattle.view.specs.Limits.{width_allowed}
use Rattle.recipe_types.specs.Typemaps.{Block, Dimension, element_place, product}
use Rattle.recipe_types.specs.Recipes.{Step, step_of, none_zero, dimensions_allowed, block_at, dimension_at, some_of, item_number}
use Rattle.recipe_types.specs.Parts.{copies_of, place_of, step_near, near, bias, max_place, Places}
use Rattle.recipe_steps.specs.declared.StepNumbers.{StepNumbers}

-- the numbers of step i
unfoldable pub numbers_at : List ℕ → ℕ → StepNumbers
numbers_at steps i = record {
  kind = nth steps (6 * i);
  source = nth steps (6 * i + 1);
  name = nth steps (6 * i + 2);
  a = nth steps (6 * i + 3);
  b = nth steps (6 * i + 4);
  c = nth steps (6 * i + 5);
}

-- the step of these numbers
unfoldable pub step_by : List ℕ → StepNumbers → Step
step_by items s = step_of items s.kind s.a s.b s.c

-- it names a basic width or a step before i
unfoldable pub names_by : StepNumbers → ℕ → Bool
names_by s i =
    also (within 1 5 s.kind)
    (either (also (eqb s.source 1) (width_allowed s.name))
    (also (eqb s.source 2) (ltb s.name i)))

-- the step has passed the checks on its kind, on zeros and on dimensions
pub record Sound (items : List ℕ) (s : StepNumbers) : Type 0 where
  pub kind : within 1 5 s.kind ≡ true
  pub zeros : none_zero (step_by items s) ≡ true
  pub dimensions : dimensions_allowed (step_by items s) ≡ true

-- and makes few copies, none of them far
pub record Placeable (items : List ℕ) (s : StepNumbers) : Type 0 where
  pub sound : Sound items s
  pub few : copies_of (step_by items s) ≤ 256
  pub near : step_near (step_by items s) ≡ true

-- the list has the places of the step's copies at its front, and its length stays
pub record PlacesPut (items : List ℕ) (s : StepNumbers) (before after : List ℕ) : Type 0 where
  pub places : Places (place_of (step_by items s)) (copies_of (step_by items s)) after
  pub length_stays : length after ≡ length before

-- ---- what the functions within this crate ask

-- one number of each of n items, to be multiplied up to a limit: none is 0
pub record Factors (items : List ℕ) (first n which limit : ℕ) : Type 0 where
  pub some : all (λ i. some_of (item_number items (first + i) which)) n ≡ true
  pub some_limit : 1 ≤ limit
  pub small_limit : limit ≤ max_place

-- number `which` of the items from item `first` on, and these as blocks and as dimensions
unfoldable pub numbers_from : List ℕ → ℕ → ℕ → ℕ → ℕ
numbers_from items first which i = item_number items (first + i) which

unfoldable pub blocks_from : List ℕ → ℕ → ℕ → Block
blocks_from items first i = block_at items (first + i)

unfoldable pub dimensions_from : List ℕ → ℕ → ℕ → Dimension
dimensions_from items first i = dimension_at items (first + i)

-- where copy k of blocks of equal length lies
unfoldable pub vector_place : ℕ → ℤ → ℕ → ℤ
vector_place each stride k = pos (k / each) *ℤ stride +ℤ pos (k % each)

-- a list has start, start + 1 and so on from `at` on, n numbers; what lies before and behind them and its length stay
pub record Run (at start n : ℕ) (before after : List ℕ) : Type 0 where
  pub put : (j : ℕ) → j < n → nth after (at + j) ≡ start + j
  pub kept : (k : ℕ) → k < at → nth after k ≡ nth before k
  pub kept_behind : (k : ℕ) → at + n ≤ k → nth after k ≡ nth before k
  pub length_stays : length after ≡ length before

-- a list has these places at its front, and its length stays
pub record Put (place : ℕ → ℤ) (n : ℕ) (before after : List ℕ) : Type 0 where
  pub places : Places place n after
  pub length_stays : length after ≡ length before

-- a number that is near, with the bias added
pub record Biased (z : ℤ) (r : ℕ) : Type 0 where
  pub is : z ≡ sub_ℕ r bias
  pub low : bias ≤ r + max_place
  pub high : r ≤ bias + max_place

-- a few copies in blocks of equal length, at a stride that is near, with the bias added
pub record BlocksReady (count each stride : ℕ) : Type 0 where
  pub some : 1 ≤ each
  pub few : count * each ≤ 256
  pub low : bias ≤ stride + max_place
  pub high : stride ≤ bias + max_place

-- the same of the numbers of a vector
pub record VectorReady (s : StepNumbers) : Type 0 where
  pub some : 1 ≤ s.b
  pub few : s.a * s.b ≤ 256
  pub near : either (eqb s.a 1) (near (to_z w64 s.c)) ≡ true

-- n blocks with a few copies in all, at displacements that are near
pub record IndexedReady (items : List ℕ) (first n : ℕ) : Type 0 where
  pub few : total (numbers_from items first 0) n ≤ 256
  pub near : (i : ℕ) → i < n → near (to_z w64 (item_number items (first + i) 1)) ≡ true

-- n dimensions of an array with a few elements, in which the subarray is
pub record ArrayReady (items : List ℕ) (first n : ℕ) : Type 0 where
  pub some : (i : ℕ) → i < n → 1 ≤ item_number items (first + i) 1
  pub natural : (i : ℕ) → i < n → item_number items (first + i) 2 < 9223372036854775808
  pub within : (i : ℕ) → i < n → item_number items (first + i) 2 + item_number items (first + i) 1 ≤ item_number items (first + i) 0
  pub small : product (numbers_from items first 0) n ≤ max_place

-- element k of the subarray lies at r, in the array
pub record ElementAt (items : List ℕ) (first n k r : ℕ) : Type 0 where
  pub is : element_place (dimensions_from items first) n k ≡ pos r
  pub below : r < product (numbers_from items first 0) n
