-- Need not be believed. What the code computes with: a step as copies of the type that it names, natural numbers for places that may be negative, and a type's numbers.
use Rattle.std.specs.Prelude.{ℕ, suc, ◌+◌, ◌-◌, ◌*◌, ◌/◌, ◌%◌, ◌≤◌, ◌<◌, Bool, true, false, cond, List, [], ◌∷◌, map, ◌≡◌, leb, eqb, ℤ, pos, negsuc, ◌+ℤ◌, ◌*ℤ◌, length}
use Rattle.std.proofs.Math.IntN.{sub_ℕ}
use Rattle.laws.specs.Checks.{also, either, within}
use Rattle.laws.specs.Search.{all, total}
use Rattle.laws.specs.Lists.{nth}
use Rattle.view.specs.Types.{whole}
use Rattle.recipe_types.specs.declared.Shape.{Shape}
use Rattle.recipe_types.specs.Typemaps.{Typemap, end_of, markers_else, block_place, element_place, product}
use Rattle.recipe_types.specs.Recipes.{Step, contiguous_step, vector_step, indexed_step, subarray_step, resized_step, no_step}

-- ---- a step as copies

-- how many copies a step makes of the type that it names, and where copy k lies, in extents of that type
unfoldable pub copies_of : Step → ℕ
copies_of (contiguous_step count) = count
copies_of (vector_step count block_length stride) = count * block_length
copies_of (indexed_step n block) = total (λ i. (block i).block_length) n
copies_of (subarray_step n dim) = product (λ i. (dim i).subsize) n
copies_of (resized_step x) = 1
copies_of no_step = 1

unfoldable pub place_of : Step → ℕ → ℤ
place_of (contiguous_step count) k = pos k
place_of (vector_step count block_length stride) k = pos (k / block_length) *ℤ stride +ℤ pos (k % block_length)
place_of (indexed_step n block) k = block_place block n k
place_of (subarray_step n dim) k = element_place dim n k
place_of (resized_step x) k = pos 0
place_of no_step k = pos 0

-- ---- natural numbers for places that may be negative

abbrev pub max_place : ℕ
max_place = 1048576

-- what is added to a place: 2^30
abbrev pub bias : ℕ
bias = 1073741824

-- a place from -2^20 to 2^20
unfoldable pub near : ℤ → Bool
near (pos n) = leb n max_place
near (negsuc n) = leb (suc n) max_place

-- no number of a step takes a copy further than that by itself: a stride counts if there is a second block, and an array has at most 2^20 elements
unfoldable pub step_near : Step → Bool
step_near (contiguous_step count) = true
step_near (vector_step count block_length stride) = either (eqb count 1) (near stride)
step_near (indexed_step n block) = all (λ i. near (block i).displacement) n
step_near (subarray_step n dim) = leb (product (λ i. (dim i).size) n) max_place
step_near (resized_step x) = true
step_near no_step = true

-- the first n numbers of a list are these places, each with the bias added, and small
pub record Places (place : ℕ → ℤ) (n : ℕ) (l : List ℕ) : Type 0 where
  pub is : (k : ℕ) → k < n → place k ≡ sub_ℕ (nth l k) bias
  pub small : (k : ℕ) → k < n → nth l k ≤ 2147483648

-- a number of copies as far as it matters: itself up to the limit, and some number above it if it is above
pub record Capped (limit n r : ℕ) : Type 0 where
  pub same : r ≤ limit → r ≡ n
  pub above : limit < r → limit < n

-- ---- a type's numbers

-- each element of a list has a property, and some element has
pub data Each {A : Type 0} (P : A → Type 0) : List A → Type 0 where
  none : Each P []
  more : {x : A} {l : List A} → P x → Each P l → Each P (x ∷ l)

pub data Some {A : Type 0} (P : A → Type 0) : List A → Type 0 where
  here : {x : A} {l : List A} → P x → Some P (x ∷ l)
  later : {x : A} {l : List A} → Some P l → Some P (x ∷ l)

-- how far z lies above x, and below it
pub record Above (x z : ℤ) : Type 0 where
  pub by : ℕ
  pub is : z ≡ x +ℤ pos by

-- x is the least of a list, and the greatest
pub record Lowest (l : List ℤ) (x : ℤ) : Type 0 where
  pub each : Each (λ z. Above x z) l
  pub some : Some (λ z. z ≡ x) l

pub record Highest (l : List ℤ) (x : ℤ) : Type 0 where
  pub each : Each (λ z. Above z x) l
  pub some : Some (λ z. z ≡ x) l

-- what the bounds of a typemap are taken from
unfoldable pub lowers : Typemap → List ℤ
lowers t = markers_else t.lower_markers (map (λ e. e.displacement) t.entries)

unfoldable pub uppers : Typemap → List ℤ
uppers t = markers_else t.upper_markers (map end_of t.entries)

-- a typemap that keeps the limits has these numbers: how many entries, the extent, the least displacement, the greatest end, and how far the lower bound lies below the least displacement
pub record Known (t : Typemap) (s : Shape) : Type 0 where
  pub counted : length t.entries ≡ s.entries
  pub some : 1 ≤ s.entries
  pub few : s.entries ≤ 256
  pub extent_some : 1 ≤ s.extent
  pub extent_few : s.extent ≤ 1048576
  pub end_few : s.end ≤ 1048576
  pub least_few : s.least ≤ 1048576
  pub base_few : s.base ≤ 1048576
  pub low : Lowest (map (λ e. e.displacement) t.entries) (pos s.least)
  pub high : Highest (map end_of t.entries) (pos s.end)
  pub lower : Lowest (lowers t) (sub_ℕ s.least s.base)
  pub upper : Highest (uppers t) (sub_ℕ (s.least + s.extent) s.base)

-- the least and the greatest of the first n numbers of a list
pub record Spans (l : List ℕ) (n low high : ℕ) : Type 0 where
  pub within : (k : ℕ) → k < n → (low ≤ nth l k) × (nth l k ≤ high)
  pub low_at : ℕ
  pub low_in : low_at < n
  pub low_is : nth l low_at ≡ low
  pub high_at : ℕ
  pub high_in : high_at < n
  pub high_is : nth l high_at ≡ high

-- the numbers of a basic type
pub record Basic (w : ℕ) (s : Shape) : Type 0 where
  pub entries : s.entries ≡ 1
  pub extent : s.extent ≡ w
  pub least : s.least ≡ 0
  pub end : s.end ≡ w
  pub base : s.base ≡ 0

-- ---- the limits, and the numbers of what a step makes, from the numbers of the type that it names and the least and the greatest place of a copy (with the bias added)

-- each entry of each copy keeps the limits
unfoldable pub entries_fit : Shape → ℕ → ℕ → Bool
entries_fit t low high =
    also (leb (bias * t.extent) (t.least + low * t.extent))
    (leb (t.end + high * t.extent) (max_place + bias * t.extent))

-- the extent; 0 for a resized one below 0
unfoldable pub extent_got : Step → Shape → ℕ → ℕ → ℕ
extent_got (contiguous_step count) t low high = (high + 1 - low) * t.extent
extent_got (vector_step count block_length stride) t low high = (high + 1 - low) * t.extent
extent_got (indexed_step n block) t low high = (high + 1 - low) * t.extent
extent_got (subarray_step n dim) t low high = product (λ i. (dim i).size) n * t.extent
extent_got (resized_step x) t low high = whole x
extent_got no_step t low high = t.extent

unfoldable pub limits_by : Step → Shape → ℕ → ℕ → Bool
limits_by s t low high = also (entries_fit t low high) (within 1 1048576 (extent_got s t low high))

-- the step sets the bounds itself
unfoldable pub sets_bounds : Step → Bool
sets_bounds (contiguous_step count) = false
sets_bounds (vector_step count block_length stride) = false
sets_bounds (indexed_step n block) = false
sets_bounds (subarray_step n dim) = true
sets_bounds (resized_step x) = true
sets_bounds no_step = false

unfoldable pub shape_made : Step → Shape → ℕ → ℕ → Shape
shape_made s t low high =
    let first = t.least + low * t.extent - bias * t.extent in
    record {
      entries = copies_of s * t.entries;
      extent = extent_got s t low high;
      least = first;
      end = t.end + high * t.extent - bias * t.extent;
      base = cond (sets_bounds s) first t.base;
    }

-- ---- a table of the steps: eight numbers a step (copies; source and name of what it names; its type's entries, extent, least, end, base), and 256 places a step

unfoldable pub shape_at : List ℕ → ℕ → Shape
shape_at rows i = record {
  entries = nth rows (8 * i + 3);
  extent = nth rows (8 * i + 4);
  least = nth rows (8 * i + 5);
  end = nth rows (8 * i + 6);
  base = nth rows (8 * i + 7);
}

unfoldable pub basic_shape : ℕ → Shape
basic_shape w = record { entries = 1; extent = w; least = 0; end = w; base = 0 }

-- the numbers of the type that is named
unfoldable pub shape_named : List ℕ → ℕ → ℕ → Shape
shape_named rows source name = cond (eqb source 1) (basic_shape name) (shape_at rows name)

-- a step that is named has a row in the table
pub record Nameable (source name : ℕ) : Type 0 where
  pub earlier : (source ≡ 1 → ⊥) → name < 32

-- the same of step i, by its row
unfoldable pub shape_below : List ℕ → ℕ → Shape
shape_below rows i = shape_named rows (nth rows (8 * i + 1)) (nth rows (8 * i + 2))
