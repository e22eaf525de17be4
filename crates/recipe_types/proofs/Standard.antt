-- What a reader of the standard can check by hand of the constructors: how many entries each makes, where two of them make the same type, and the bounds. Assumes nothing.
use mathlib.Core.List.{map}
use lib.IntN.{ℤ, pos, ◌+ℤ◌, ◌*ℤ◌, +ℤ_idl, +ℤ_idr, zero-*ℤ}
use lib.ListN.{length}
use native.Mathlib.Nat.{zero-add, sub-zero}
use Rattle.laws.proofs.Prelude.{ℕ, ◌+◌, ◌*◌, ◌/◌, ◌%◌, ◌<◌, ◌≡◌, refl, sym, ap, ◌∙◌, arith, le-ltb, one-mul, div-eq_of_lt, mod-eq_of_lt, div-add-mod', total}
use Rattle.recipe_types.specs.Typemaps.{Typemap, Block, Dimension, least, greatest_of, end_of, markers_else, lower_bound, upper_bound, extent, shifted, copies, bounded, basic, contiguous, vector, indexed, subarray, resized, block_place, element_place, product}
use Rattle.recipe_types.specs.Recipes.{contiguous_step, vector_step, indexed_step, subarray_step, construct}
use Rattle.recipe_types.specs.Parts.{copies_of}
use Rattle.recipe_types.proofs.Building.{entry_count, joined_same}

-- ---- how many entries

-- contiguous: count times those of t
pub contiguous_count : (count : ℕ) (t : Typemap) → length (contiguous count t).entries ≡ count * length t.entries
unfolding construct copies_of
contiguous_count count t = entry_count (contiguous_step count) t

-- vector: count times the block length times those of t
pub vector_count : (count block_length : ℕ) (stride : ℤ) (t : Typemap) → length (vector count block_length stride t).entries ≡ count * block_length * length t.entries
unfolding construct copies_of
vector_count count block_length stride t = entry_count (vector_step count block_length stride) t

-- indexed: the sum of the block lengths times those of t
pub indexed_count : (n : ℕ) (block : ℕ → Block) (t : Typemap) → length (indexed n block t).entries ≡ total (λ i. (block i).block_length) n * length t.entries
unfolding construct copies_of
indexed_count n block t = entry_count (indexed_step n block) t

-- subarray: the product of the subsizes times those of t
pub subarray_count : (n : ℕ) (dim : ℕ → Dimension) (t : Typemap) → length (subarray n dim t).entries ≡ product (λ i. (dim i).subsize) n * length t.entries
unfolding construct copies_of
subarray_count n dim t = entry_count (subarray_step n dim) t

-- resized: those of t
pub resized_count : (x : ℤ) (t : Typemap) → length (resized x t).entries ≡ length t.entries
unfolding resized bounded
resized_count x t = refl

-- ---- two constructors that make the same type

-- as many copies at the same places are the same type
pub copies_same : (m n : ℕ) (f g : ℕ → ℤ) (t : Typemap) → m ≡ n → ((k : ℕ) → k < n → f k ≡ g k) → copies m f t ≡ copies n g t
unfolding copies
copies_same m n f g t e h =
    let a = joined_same (λ k. map (shifted (f k *ℤ extent t)) t.entries) (λ k. map (shifted (g k *ℤ extent t)) t.entries) n (λ k l. ap (λ p. map (shifted (p *ℤ extent t)) t.entries) (h k l)) in
    let b = joined_same (λ k. map (λ z. z +ℤ f k *ℤ extent t) t.lower_markers) (λ k. map (λ z. z +ℤ g k *ℤ extent t) t.lower_markers) n (λ k l. ap (λ p. map (λ z. z +ℤ p *ℤ extent t) t.lower_markers) (h k l)) in
    let c = joined_same (λ k. map (λ z. z +ℤ f k *ℤ extent t) t.upper_markers) (λ k. map (λ z. z +ℤ g k *ℤ extent t) t.upper_markers) n (λ k l. ap (λ p. map (λ z. z +ℤ p *ℤ extent t) t.upper_markers) (h k l)) in
    rw (e, a, b, c)

-- contiguous is a vector of one block, whatever its stride
pub contiguous_is_vector : (n : ℕ) (stride : ℤ) (t : Typemap) → contiguous n t ≡ vector 1 n stride t
unfolding contiguous vector
contiguous_is_vector n stride t =
    sym (copies_same (1 * n) n (λ k. pos (k / n) *ℤ stride +ℤ pos (k % n)) (λ k. pos k) t (one-mul n)
    (λ k l. rw (div-eq_of_lt l, mod-eq_of_lt l, zero-*ℤ stride) (+ℤ_idl (pos k))))

-- a vector whose stride is its block length is contiguous
pub vector_is_contiguous : (count b : ℕ) (t : Typemap) → vector count b (pos b) t ≡ contiguous (count * b) t
unfolding contiguous vector
vector_is_contiguous count b t =
    copies_same (count * b) (count * b) (λ k. pos (k / b) *ℤ pos b +ℤ pos (k % b)) (λ k. pos k) t refl (λ k l. ap pos (div-add-mod' k b))

-- an indexed type of one block of n copies at displacement 0 is contiguous
pub indexed_is_contiguous : (n : ℕ) (block : ℕ → Block) (t : Typemap) → (block 0).block_length ≡ n → (block 0).displacement ≡ pos 0 → indexed 1 block t ≡ contiguous n t
unfolding contiguous indexed total block_place
indexed_is_contiguous n block t a b =
    copies_same (total (λ i. (block i).block_length) 1) n (block_place block 1) (λ k. pos k) t (zero-add (block 0).block_length ∙ a)
    (λ k l. rw (le-ltb k 0 (omega arith), b, sub-zero k) (+ℤ_idl (pos k)))

-- the first n elements of an array of one dimension are the entries of a contiguous type
pub subarray_first : (n : ℕ) (dim : ℕ → Dimension) (t : Typemap) → (dim 0).subsize ≡ n → (dim 0).start ≡ pos 0 → (subarray 1 dim t).entries ≡ (contiguous n t).entries
unfolding contiguous subarray bounded product element_place
subarray_first n dim t a b =
    ap (λ u. u.entries) (copies_same (product (λ i. (dim i).subsize) 1) n (element_place dim 1) (λ k. pos k) t (one-mul (dim 0).subsize ∙ a)
    (λ k l. let e : 0 * (dim 0).size + (0 + k) ≡ k = omega arith in rw (a, b, mod-eq_of_lt l) (ap pos e)))

-- and so are those of the whole array
pub subarray_whole : (n : ℕ) (t : Typemap) → (subarray 1 (λ i. record { size = n; subsize = n; start = pos 0 }) t).entries ≡ (contiguous n t).entries
subarray_whole n t = subarray_first n (λ i. record { size = n; subsize = n; start = pos 0 }) t refl refl

-- resized changes no entry: neither a width nor a displacement
pub resized_entries : (x : ℤ) (t : Typemap) → (resized x t).entries ≡ t.entries
unfolding resized bounded
resized_entries x t = refl

-- ---- bounds and extents

-- a basic type begins at 0, and its extent is its width
pub basic_lower_bound : (w : ℕ) → lower_bound (basic w) ≡ pos 0
unfolding lower_bound least markers_else basic
basic_lower_bound w = refl

pub basic_extent : (w : ℕ) → extent (basic w) ≡ pos w
unfolding extent lower_bound upper_bound least greatest_of markers_else end_of basic
basic_extent w = +ℤ_idr (pos 0 +ℤ pos w) ∙ +ℤ_idl (pos w)

-- a type with set bounds begins at 0, and its extent is the upper bound
bounded_lower_bound : (x : ℤ) (t : Typemap) → lower_bound (bounded x t) ≡ pos 0
unfolding lower_bound least markers_else bounded
bounded_lower_bound x t = refl

pub bounded_extent : (x : ℤ) (t : Typemap) → extent (bounded x t) ≡ x
unfolding extent lower_bound upper_bound least greatest_of markers_else bounded
bounded_extent x t = +ℤ_idr x

-- a resized type begins at 0, and its extent is the one given
pub resized_lower_bound : (x : ℤ) (t : Typemap) → lower_bound (resized x t) ≡ pos 0
unfolding resized
resized_lower_bound x t = bounded_lower_bound x t

pub resized_extent : (x : ℤ) (t : Typemap) → extent (resized x t) ≡ x
unfolding resized
resized_extent x t = bounded_extent x t

-- a subarray begins at 0, and its extent is that of the whole array: the product of the sizes times the extent of t
pub subarray_lower_bound : (n : ℕ) (dim : ℕ → Dimension) (t : Typemap) → lower_bound (subarray n dim t) ≡ pos 0
unfolding subarray
subarray_lower_bound n dim t = bounded_lower_bound (pos (product (λ i. (dim i).size) n) *ℤ extent t) (copies (product (λ i. (dim i).subsize) n) (element_place dim n) t)

pub subarray_extent : (n : ℕ) (dim : ℕ → Dimension) (t : Typemap) → extent (subarray n dim t) ≡ pos (product (λ i. (dim i).size) n) *ℤ extent t
unfolding subarray
subarray_extent n dim t = bounded_extent (pos (product (λ i. (dim i).size) n) *ℤ extent t) (copies (product (λ i. (dim i).subsize) n) (element_place dim n) t)
