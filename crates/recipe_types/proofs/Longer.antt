-- What one copy, block or dimension more adds to a type, and a vector as an indexed type: what a reader of the standard can check by hand beside Standard.antt. Assumes nothing.
use mathlib.Core.List.{List, [], ◌∷◌, ◌++◌, map, append-nil, append_assoc}
use lib.IntN.{ℤ, pos, negsuc, ◌+ℤ◌, ◌*ℤ◌, +ℤ_idl, zero-*ℤ, *ℤ-negsuc}
use native.Mathlib.Nat.{suc-mul}
use Rattle.laws.proofs.Prelude.{ℕ, zero, suc, ◌+◌, ◌-◌, ◌*◌, ◌/◌, ◌%◌, ◌<◌, ◌≡◌, refl, sym, ap, ◌∙◌, arith, lt-ltb, le-ltb, add-zero, add-suc, one-mul, zero-mul, mod-eq_of_lt, run_div, run_mod, total}
use Rattle.recipe_types.specs.Typemaps.{Entry, Typemap, Block, Dimension, extent, joined, shifted, copies, bounded, contiguous, vector, indexed, subarray, block_place, element_place, product}
use Rattle.recipe_types.proofs.Integers.{Difference, self_is, pos_is, same_is, other_is, sum_is, negative_is, times_is, is_equal}
use Rattle.recipe_types.proofs.Building.{joined_same, map_joined}
use Rattle.recipe_types.proofs.Standard.{copies_same, bounded_extent}

-- ---- products of differences

-- a less b, times c less d, is a c + b d less a d + b c
pub product_is : {z w : ℤ} {a b c d : ℕ} → Difference z a b → Difference w c d → Difference (z *ℤ w) (a * c + b * d) (a * d + b * c)
product_is {z} {w = pos n} {a} {b} {c} {d} p q =
    other_is (a * c + b * d) (a * d + b * c) (omega (arith, ap (λ (x : ℕ). a * x) q.is, ap (λ (x : ℕ). b * x) q.is)) (times_is n p)
product_is {z} {w = negsuc n} {a} {b} {c} {d} p q =
    same_is (*ℤ-negsuc z n)
    (other_is (a * c + b * d) (a * d + b * c) (omega (arith, ap (λ (x : ℕ). a * x) q.is, ap (λ (x : ℕ). b * x) q.is)) (negative_is (times_is (suc n) p)))

-- ---- lists joined one after another

-- m + n lists one after another are the first m, then the n after them
pub joined_more : {A : Type 0} (f : ℕ → List A) (m n : ℕ) → joined f (m + n) ≡ joined f m ++ joined (λ k. f (m + k)) n
unfolding joined
joined_more f m zero = rw (add-zero m, append-nil (joined f m))
joined_more f m (suc n) = rw (add-suc m n, joined_more f m n) (append_assoc (joined f m) (joined (λ k. f (m + k)) n) (f (m + n)))

-- n times b lists one after another are n runs of b lists each
pub joined_runs : {A : Type 0} (f : ℕ → List A) (n b : ℕ) → joined f (n * b) ≡ joined (λ j. joined (λ k. f (j * b + k)) b) n
unfolding joined
joined_runs f zero b = rw (zero-mul b)
joined_runs f (suc n) b = rw (suc-mul n b, joined_more f (n * b) b, joined_runs f n b)

-- ---- copies moved twice

-- q times x plus p times (m times x) is (p times m plus q) times x, whatever they are added to
moved_sum : (d p m q x : ℤ) → d +ℤ q *ℤ x +ℤ p *ℤ (m *ℤ x) ≡ d +ℤ (p *ℤ m +ℤ q) *ℤ x
moved_sum d p m q x =
    is_equal
    (sum_is (sum_is (self_is d) (product_is (self_is q) (self_is x))) (product_is (self_is p) (product_is (self_is m) (self_is x))))
    (sum_is (self_is d) (product_is (sum_is (product_is (self_is p) (self_is m)) (self_is q)) (self_is x)))
    (omega arith)

-- entries moved by q extents x and then by p extents of m times x are moved by (p times m plus q) extents x
moved_twice : (p m q x : ℤ) (l : List Entry) → map (shifted (p *ℤ (m *ℤ x))) (map (shifted (q *ℤ x)) l) ≡ map (shifted ((p *ℤ m +ℤ q) *ℤ x)) l
unfolding shifted
moved_twice p m q x [] = refl
moved_twice p m q x (e ∷ l) = cc (moved_sum e.displacement p m q x, moved_twice p m q x l)

-- the entries of b copies, of which copy k lies at p times m plus near k, are those of a copy of b copies, moved by p extents of m times x
run_entries : (b : ℕ) (place near : ℕ → ℤ) (p m x : ℤ) (l : List Entry) → ((k : ℕ) → k < b → place k ≡ p *ℤ m +ℤ near k) → joined (λ k. map (shifted (place k *ℤ x)) l) b ≡ map (shifted (p *ℤ (m *ℤ x))) (joined (λ k. map (shifted (near k *ℤ x)) l) b)
run_entries b place near p m x l h =
    joined_same (λ k. map (shifted (place k *ℤ x)) l) (λ k. map (shifted (p *ℤ (m *ℤ x))) (map (shifted (near k *ℤ x)) l)) b (λ k i. ap (λ (z : ℤ). map (shifted (z *ℤ x)) l) (h k i) ∙ sym (moved_twice p m (near k) x l))
    ∙ sym (map_joined (shifted (p *ℤ (m *ℤ x))) (λ k. map (shifted (near k *ℤ x)) l) b)

-- the entries of n times b copies, of which copy k of run j lies at far j times m plus near k, are those of n copies of b copies, where the extent of b copies is m times x
pub runs_entries : (n b : ℕ) (place far near : ℕ → ℤ) (m x : ℤ) (l : List Entry) → ((j k : ℕ) → k < b → place (j * b + k) ≡ far j *ℤ m +ℤ near k) → joined (λ k. map (shifted (place k *ℤ x)) l) (n * b) ≡ joined (λ j. map (shifted (far j *ℤ (m *ℤ x))) (joined (λ k. map (shifted (near k *ℤ x)) l) b)) n
runs_entries n b place far near m x l h =
    joined_runs (λ k. map (shifted (place k *ℤ x)) l) n b
    ∙ joined_same (λ j. joined (λ k. map (shifted (place (j * b + k) *ℤ x)) l) b) (λ j. map (shifted (far j *ℤ (m *ℤ x))) (joined (λ k. map (shifted (near k *ℤ x)) l) b)) n (λ j i. run_entries b (λ k. place (j * b + k)) near (far j) m x l (h j))

-- ---- one copy or block more

-- one typemap followed by another: the entries and the markers of the second after those of the first
unfoldable pub followed : Typemap → Typemap → Typemap
followed s t = record {
  entries = s.entries ++ t.entries;
  lower_markers = s.lower_markers ++ t.lower_markers;
  upper_markers = s.upper_markers ++ t.upper_markers;
}

-- m + n copies are m copies, followed by the n copies after them
copies_more : (m n : ℕ) (place : ℕ → ℤ) (t : Typemap) → copies (m + n) place t ≡ followed (copies m place t) (copies n (λ k. place (m + k)) t)
unfolding copies followed
copies_more m n place t =
    let a = joined_more (λ k. map (shifted (place k *ℤ extent t)) t.entries) m n in
    let b = joined_more (λ k. map (λ z. z +ℤ place k *ℤ extent t) t.lower_markers) m n in
    let c = joined_more (λ k. map (λ z. z +ℤ place k *ℤ extent t) t.upper_markers) m n in
    rw (a, b, c)

-- the same, where the places of both parts are known
copies_parts : (m n : ℕ) (f g h : ℕ → ℤ) (t : Typemap) → ((k : ℕ) → k < m → f k ≡ g k) → ((k : ℕ) → k < n → f (m + k) ≡ h k) → copies (m + n) f t ≡ followed (copies m g t) (copies n h t)
copies_parts m n f g h t a b =
    copies_more m n f t
    ∙ rw (copies_same m m f g t refl a, copies_same n n (λ k. f (m + k)) h t refl b)

-- contiguous: n + 1 copies are n copies, followed by a copy at place n
pub contiguous_more : (n : ℕ) (t : Typemap) → contiguous (suc n) t ≡ followed (contiguous n t) (copies 1 (λ k. pos n) t)
unfolding contiguous copies joined followed
contiguous_more n t = refl

-- vector: n + 1 blocks are n blocks, followed by b copies one after another from n times the stride on
pub vector_more : (n b : ℕ) (stride : ℤ) (t : Typemap) → vector (suc n) b stride t ≡ followed (vector n b stride t) (copies b (λ k. pos n *ℤ stride +ℤ pos k) t)
unfolding vector
vector_more n b stride t =
    rw (suc-mul n b)
    (copies_parts (n * b) b (λ k. pos (k / b) *ℤ stride +ℤ pos (k % b)) (λ k. pos (k / b) *ℤ stride +ℤ pos (k % b)) (λ k. pos n *ℤ stride +ℤ pos k) t (λ k l. refl) (λ k l. cc (run_div b n k l, run_mod b n k l)))

-- indexed: n + 1 blocks are n blocks, followed by the copies of block n, one after another from its displacement on
pub indexed_more : (n : ℕ) (block : ℕ → Block) (t : Typemap) → indexed (suc n) block t ≡ followed (indexed n block t) (copies (block n).block_length (λ k. (block n).displacement +ℤ pos k) t)
unfolding indexed total block_place
indexed_more n block t =
    let before = total (λ i. (block i).block_length) n in
    copies_parts before (block n).block_length (block_place block (suc n)) (block_place block n) (λ k. (block n).displacement +ℤ pos k) t
    (λ k l. rw (lt-ltb k before l))
    (λ k l. let e : before + k - before ≡ k = omega arith in rw (le-ltb (before + k) before (omega arith), e))

-- ---- one dimension, and one dimension more

-- types with the same entries and the same bounds set are equal
bounded_same : (x y : ℤ) (s t : Typemap) → x ≡ y → s.entries ≡ t.entries → bounded x s ≡ bounded y t
unfolding bounded
bounded_same x y s t a b = rw (a, b)

-- a subarray of one dimension: the copies one after another from the start on, with lower bound 0 and the upper bound of the whole array
pub subarray_one : (dim : ℕ → Dimension) (t : Typemap) → subarray 1 dim t ≡ bounded (pos (dim 0).size *ℤ extent t) (copies (dim 0).subsize (λ k. (dim 0).start +ℤ pos k) t)
unfolding subarray product element_place
subarray_one dim t =
    bounded_same _ _ _ _ (ap (λ (m : ℕ). pos m *ℤ extent t) (one-mul (dim 0).size))
    (ap (λ u. u.entries) (copies_same (1 * (dim 0).subsize) (dim 0).subsize (element_place dim 1) (λ k. (dim 0).start +ℤ pos k) t (one-mul (dim 0).subsize)
    (λ k l. cc (zero-*ℤ (pos (dim 0).size), mod-eq_of_lt l, +ℤ_idl ((dim 0).start +ℤ pos k)))))

-- element k of run j along the last dimension lies at the place of j among the dimensions before it times the size of the last one, plus its start, plus k
element_run : (dim : ℕ → Dimension) (n j k : ℕ) → k < (dim n).subsize → element_place dim (suc n) (j * (dim n).subsize + k) ≡ element_place dim n j *ℤ pos (dim n).size +ℤ ((dim n).start +ℤ pos k)
unfolding element_place
element_run dim n j k l = cc (run_div (dim n).subsize j k l, run_mod (dim n).subsize j k l)

-- a subarray of n + 1 dimensions is the subarray of the first n dimensions of the subarray of the last one: the last dimension runs fastest
pub subarray_more : (n : ℕ) (dim : ℕ → Dimension) (t : Typemap) → subarray (suc n) dim t ≡ subarray n dim (subarray 1 (λ i. dim n) t)
unfolding subarray product copies bounded
subarray_more n dim t =
    let outer = product (λ i. (dim i).size) n in
    let count = product (λ i. (dim i).subsize) n in
    let last = copies (dim n).subsize (λ k. (dim n).start +ℤ pos k) t in
    let size = bounded_extent (pos (dim n).size *ℤ extent t) last in
    bounded_same _ _ (copies (count * (dim n).subsize) (element_place dim (suc n)) t) (copies count (element_place dim n) (bounded (pos (dim n).size *ℤ extent t) last))
    (is_equal (product_is (pos_is (outer * (dim n).size)) (self_is (extent t))) (product_is (pos_is outer) (same_is size (product_is (pos_is (dim n).size) (self_is (extent t))))) (omega arith))
    (rw size (runs_entries count (dim n).subsize (element_place dim (suc n)) (element_place dim n) (λ k. (dim n).start +ℤ pos k) (pos (dim n).size) (extent t) t.entries (element_run dim n)))
    ∙ ap (λ u. subarray n dim u) (sym (subarray_one (λ i. dim n) t))

-- ---- a vector as an indexed type

-- a vector is an indexed type of blocks of equal length, block i at i times the stride
pub vector_is_indexed : (count b : ℕ) (stride : ℤ) (t : Typemap) → vector count b stride t ≡ indexed count (λ i. record { block_length = b; displacement = pos i *ℤ stride }) t
unfolding vector indexed total
vector_is_indexed zero b stride t = copies_same (0 * b) 0 (λ k. pos (k / b) *ℤ stride +ℤ pos (k % b)) (block_place (λ i. record { block_length = b; displacement = pos i *ℤ stride }) 0) t (zero-mul b) (λ k l. absurd (omega arith))
vector_is_indexed (suc n) b stride t =
    vector_more n b stride t
    ∙ ap (λ s. followed s (copies b (λ k. pos n *ℤ stride +ℤ pos k) t)) (vector_is_indexed n b stride t)
    ∙ sym (indexed_more n (λ i. record { block_length = b; displacement = pos i *ℤ stride }) t)
