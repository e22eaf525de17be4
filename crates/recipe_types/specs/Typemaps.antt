-- Must be believed. MPI-3.1, chapter 4: typemaps, their bounds and extent, and the five constructors of document 02's order 4. Every alignment is 1: no extent is padded.
use Rattle.std.specs.Prelude.{ℕ, zero, suc, ◌-◌, ◌*◌, ◌/◌, ◌%◌, cond, List, [], ◌∷◌, ◌++◌, map, ltb, ℤ, pos, ◌+ℤ◌, ◌-ℤ◌, ◌*ℤ◌}
use Rattle.std.specs.Int.Signed.{le_z}
use Rattle.laws.specs.Search.{total}

-- an entry: a basic width at a displacement
pub record Entry : Type 0 where
  pub width : ℕ
  pub displacement : ℤ

-- a typemap: the entries in order of construction, and the markers of lower and upper bounds
pub record Typemap : Type 0 where
  pub entries : List Entry
  pub lower_markers : List ℤ
  pub upper_markers : List ℤ

-- its widths and its displacements
unfoldable pub widths : Typemap → List ℕ
widths t = map (λ e. e.width) t.entries

unfoldable pub displacements : Typemap → List ℤ
displacements t = map (λ e. e.displacement) t.entries

-- ---- lower bound, upper bound and extent

-- the least and the greatest number of a list; 0 if it is empty
unfoldable pub least : List ℤ → ℤ
least [] = pos 0
least (x ∷ []) = x
least (x ∷ (y ∷ l)) = cond (le_z x (least (y ∷ l))) x (least (y ∷ l))

unfoldable pub greatest_of : List ℤ → ℤ
greatest_of [] = pos 0
greatest_of (x ∷ []) = x
greatest_of (x ∷ (y ∷ l)) = cond (le_z x (greatest_of (y ∷ l))) (greatest_of (y ∷ l)) x

-- the end of an entry: its displacement plus its width
unfoldable pub end_of : Entry → ℤ
end_of e = e.displacement +ℤ pos e.width

-- the markers, where there are any; else what the entries give
unfoldable pub markers_else : List ℤ → List ℤ → List ℤ
markers_else [] given = given
markers_else (x ∷ markers) given = x ∷ markers

unfoldable pub lower_bound : Typemap → ℤ
lower_bound t = least (markers_else t.lower_markers (map (λ e. e.displacement) t.entries))

unfoldable pub upper_bound : Typemap → ℤ
upper_bound t = greatest_of (markers_else t.upper_markers (map end_of t.entries))

unfoldable pub extent : Typemap → ℤ
extent t = upper_bound t -ℤ lower_bound t

-- ---- copies of a type

-- f 0, f 1 and so on, n lists one after another
unfoldable pub joined : {A : Type 0} → (ℕ → List A) → ℕ → List A
joined f zero = []
joined f (suc n) = joined f n ++ f n

unfoldable pub shifted : ℤ → Entry → Entry
shifted s e = record { width = e.width; displacement = e.displacement +ℤ s }

-- n copies of t, the entries and the markers; copy k is shifted by place k, counted in extents of t
unfoldable pub copies : ℕ → (ℕ → ℤ) → Typemap → Typemap
copies n place t = record {
  entries = joined (λ k. map (shifted (place k *ℤ extent t)) t.entries) n;
  lower_markers = joined (λ k. map (λ z. z +ℤ place k *ℤ extent t) t.lower_markers) n;
  upper_markers = joined (λ k. map (λ z. z +ℤ place k *ℤ extent t) t.upper_markers) n;
}

-- the entries with one marker of each bound, which replace all others: lower bound 0, and this upper bound
unfoldable pub bounded : ℤ → Typemap → Typemap
bounded upper t = record { entries = t.entries; lower_markers = pos 0 ∷ []; upper_markers = upper ∷ [] }

-- ---- the constructors

-- a basic type
unfoldable pub basic : ℕ → Typemap
basic w = record { entries = record { width = w; displacement = pos 0 } ∷ []; lower_markers = []; upper_markers = [] }

-- count copies, one after another
unfoldable pub contiguous : ℕ → Typemap → Typemap
contiguous count = copies count (λ k. pos k)

-- count blocks of so many copies one after another; block i begins at i times the stride
unfoldable pub vector : ℕ → ℕ → ℤ → Typemap → Typemap
vector count block_length stride = copies (count * block_length) (λ k. pos (k / block_length) *ℤ stride +ℤ pos (k % block_length))

-- a block of an indexed type: how many copies, and where the first of them lies
pub record Block : Type 0 where
  pub block_length : ℕ
  pub displacement : ℤ

-- where copy k of the first n blocks lies: the last block has the copies that those before it have not
unfoldable pub block_place : (ℕ → Block) → ℕ → ℕ → ℤ
block_place block zero k = pos 0
block_place block (suc n) k =
    let before = total (λ i. (block i).block_length) n in
    cond (ltb k before) (block_place block n k) ((block n).displacement +ℤ pos (k - before))

unfoldable pub indexed : ℕ → (ℕ → Block) → Typemap → Typemap
indexed n block = copies (total (λ i. (block i).block_length) n) (block_place block n)

-- a dimension of an array and of a subarray in it
pub record Dimension : Type 0 where
  pub size : ℕ
  pub subsize : ℕ
  pub start : ℤ

-- the product of f i for i below n
unfoldable pub product : (ℕ → ℕ) → ℕ → ℕ
product f zero = 1
product f (suc n) = product f n * f n

-- where element k of the subarray lies in the array, in C order: the last dimension runs fastest
unfoldable pub element_place : (ℕ → Dimension) → ℕ → ℕ → ℤ
element_place dim zero k = pos 0
element_place dim (suc n) k =
    element_place dim n (k / (dim n).subsize) *ℤ pos (dim n).size +ℤ ((dim n).start +ℤ pos (k % (dim n).subsize))

-- its elements; lower bound 0, and the array's extent
unfoldable pub subarray : ℕ → (ℕ → Dimension) → Typemap → Typemap
subarray n dim t = bounded (pos (product (λ i. (dim i).size) n) *ℤ extent t) (copies (product (λ i. (dim i).subsize) n) (element_place dim n) t)

-- lower bound 0, and this extent
unfoldable pub resized : ℤ → Typemap → Typemap
resized x t = bounded x t
