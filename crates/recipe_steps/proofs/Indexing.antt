-- The places of an indexed step's blocks, put a run a block.
use Rattle.laws.proofs.Prelude.{ℕ, ◌+◌, ◌-◌, ◌≤◌, ◌<◌, ◌≡◌, sym, ap, ◌∙◌, List, arith, add-one, lt-ltb, le-ltb, pos, sub_ℕ, ◌+ℤ◌, w64, to_z, total, total_part}
use Rattle.recipe_types.specs.Typemaps.{Block, block_place}
use Rattle.recipe_types.specs.Recipes.{item_number, block_at}
use Rattle.recipe_types.proofs.Integers.{pos_is, sub_is, same_is, sum_is, is_equal}
use Rattle.recipe_steps.specs.Parts.{numbers_from, blocks_from, Run, Put, Biased, IndexedReady}
use Rattle.recipe_steps.proofs.Placing.{run_put}

-- ---- a block more

module _ (block : ℕ → Block) (i : ℕ) where
  earlier_block : (k : ℕ) → k < total (λ j. (block j).block_length) i → block_place block (i + 1) k ≡ block_place block i k
  unfolding block_place
  earlier_block k l = rw (add-one i) (rw (lt-ltb k (total (λ j. (block j).block_length) i) l))

  last_block : (j : ℕ) → block_place block (i + 1) (total (λ j. (block j).block_length) i + j) ≡ (block i).displacement +ℤ pos j
  unfolding block_place
  last_block j =
      let t = total (λ j. (block j).block_length) i in
      let e : t + j - t ≡ j = omega arith in
      rw (add-one i) (rw (le-ltb (t + j) t (omega arith), e))

-- ---- i blocks are put, and the next one goes to `at`

module _ (items : List ℕ) (first n i : ℕ) (ready : IndexedReady items first n) (l : i < n) where
  -- all copies up to those of block i are few
  pub end_in : total (numbers_from items first 0) i + item_number items (first + i) 0 ≤ 256
  unfolding numbers_from
  end_in = omega (arith, total_part (λ k. item_number items (first + k) 0) i n l, ready.few)

  module _ (at each x start : ℕ) (at_is : at ≡ total (numbers_from items first 0) i) (e : each ≡ item_number items (first + i) 0) (ex : x ≡ item_number items (first + i) 1) (b : Biased (to_z w64 x) start) where
    before_is : at ≡ total (λ j. (blocks_from items first j).block_length) i
    unfolding blocks_from block_at numbers_from
    before_is = at_is

    own_place : (j : ℕ) → j < each → block_place (blocks_from items first) (i + 1) (at + j) ≡ sub_ℕ (start + j) 1073741824
    unfolding blocks_from block_at
    own_place j h =
        ap (λ (y : ℕ). block_place (blocks_from items first) (i + 1) (y + j)) before_is
        ∙ (last_block (blocks_from items first) i j
        ∙ rw (sym ex) (is_equal (sum_is (same_is b.is (sub_is start 1073741824)) (pos_is j)) (sub_is (start + j) 1073741824) (omega arith)))

    pub indexed_put : (l₀ out out' : List ℕ) → Put (block_place (blocks_from items first) i) at l₀ out → Run at start each out out' → Put (block_place (blocks_from items first) (i + 1)) (at + each) l₀ out'
    indexed_put l₀ out out' p r =
        run_put at each start out out' r (block_place (blocks_from items first) (i + 1))
        (record { is = λ k c. earlier_block (blocks_from items first) i k (omega (arith, before_is)) ∙ p.places.is k c; small = p.places.small })
        (omega (arith, b.high, end_in)) own_place l₀ p.length_stays
