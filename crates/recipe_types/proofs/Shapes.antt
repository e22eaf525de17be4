-- A type's numbers: what they say of its typemap, and how a step makes those of the next type.
use Rattle.laws.proofs.Prelude.{ℕ, zero, suc, ◌+◌, ◌-◌, ◌*◌, ◌/◌, ◌%◌, ◌≤◌, ◌<◌, ◌≡◌, refl, sym, ap, ◌∙◌, Bool, true, false, cond, List, map, arith, ℤ, pos, negsuc, sub_ℕ, ◌+ℤ◌, leb, eqb, add-mul, mul-le-mul_right, subst, also, also_inv, either, leb-true, leb-false, le-ltb, lt-ltb, within, within_inv, within_high, also_false, true≢false, not_true_false, all, all_at, all_below, least_false, least_false_breaks, total, total_part, eq-or-lt_of_le, div_self, mod_self, ⊎_elim, nth, times_more}
use mathlib.Core.List.{[], ◌∷◌}
use lib.IntN.{◌*ℤ◌, *ℤ_comm}
use native.Mathlib.Nat.{one-le-mul, le-mul_of_pos_right}
use borrow.Author.Tests.{eqb-false}
use Rattle.std.proofs.lemmas.Bool.Decides.{nat_tests}
use Rattle.view.specs.Types.{whole}
use Rattle.view.specs.Limits.{width_allowed, entry_displacement_allowed, extent_allowed}
use Rattle.recipe_types.specs.declared.Shape.{Shape}
use Rattle.recipe_types.specs.Typemaps.{Entry, Typemap, Block, Dimension, element_place, block_place, shifted, end_of, markers_else, lower_bound, extent, basic, copies, bounded, contiguous, vector, indexed, subarray, resized, product}
use Rattle.recipe_types.specs.Recipes.{Step, contiguous_step, vector_step, indexed_step, subarray_step, resized_step, no_step, construct, some_of, none_zero, dimensions_allowed, every, is_zero, limits_kept}
use Rattle.recipe_types.specs.Parts.{Each, Above, Lowest, Highest, lowers, uppers, Known, Basic, Places, Spans, copies_of, place_of, near, step_near, bias, max_place, entries_fit, extent_got, limits_by, shape_made, sets_bounds}
use Rattle.recipe_types.proofs.Integers.{up, down, Difference, self_is, pos_is, sub_is, same_is, other_is, sum_is, times_is, is_equal, is_once, sub_eq}
use Rattle.recipe_types.proofs.Extremes.{each_some, each_unmap, each_part, every_each, some_unmap, above_le, lowest_one, highest_one}
use Rattle.recipe_types.proofs.Building.{construct_entries, entry_count}
use Rattle.recipe_types.proofs.Bounds.{kept_by, bound_lower, bound_extent, allowed_inside, entries_limits, end_moves, shift_is, copies_low, copies_high, copies_lower, copies_upper}

-- ---- what a type's numbers say of its bounds

-- the lower bound of a known type
lower_is : (t : Typemap) (s : Shape) → Known t s → lower_bound t ≡ sub_ℕ s.least s.base
lower_is t s k = bound_lower t (sub_ℕ s.least s.base) k.lower

-- the extent of a known type is its number
pub known_extent : (t : Typemap) (s : Shape) → Known t s → extent t ≡ pos s.extent
known_extent t s k = is_equal (bound_extent t k.lower k.upper (sub_is s.least s.base) (sub_is (s.least + s.extent) s.base)) (pos_is s.extent) (omega arith)

-- a less b is 0 if a is b, and only then
zero_is : {z : ℤ} {a b : ℕ} → Difference z a b → is_zero z ≡ eqb a b
unfolding is_zero
zero_is {z = pos n} d = grind (arith, nat_tests)
zero_is {z = negsuc n} d = grind (arith, nat_tests)

-- the lower bound of a known type is 0 if its numbers `least` and `base` are equal, and only then
pub known_lower : (t : Typemap) (s : Shape) → Known t s → is_zero (lower_bound t) ≡ eqb s.least s.base
known_lower t s k = zero_is (same_is (lower_is t s k) (sub_is s.least s.base))

-- ---- the basic type of a width

-- an allowed width is from 1 to 8
width_small : (w : ℕ) → width_allowed w ≡ true → (1 ≤ w) × (w ≤ 8)
unfolding width_allowed either
width_small w h = grind (arith, nat_tests)

-- the least of a list of one number, and the greatest
only_lowest : (x y : ℤ) → x ≡ y → Lowest (x ∷ []) y
only_lowest x y e = rw e (lowest_one y)

only_highest : (x y : ℤ) → x ≡ y → Highest (x ∷ []) y
only_highest x y e = rw e (highest_one y)

-- a type of one entry of an allowed width at displacement 0 has the numbers of a basic type
pub basic_known : (w : ℕ) (s : Shape) → width_allowed w ≡ true → Basic w s → Known (basic w) s
unfolding basic lowers uppers markers_else end_of
basic_known w s h b = let q = width_small w h in record {
  counted = sym b.entries;
  some = omega arith;
  few = omega arith;
  extent_some = omega arith;
  extent_few = omega arith;
  end_few = omega arith;
  least_few = omega arith;
  base_few = omega arith;
  low = only_lowest (pos 0) (pos s.least) (is_equal (pos_is 0) (pos_is s.least) (omega arith));
  high = only_highest (pos 0 +ℤ pos w) (pos s.end) (is_equal (sum_is (pos_is 0) (pos_is w)) (pos_is s.end) (omega arith));
  lower = only_lowest (pos 0) (sub_ℕ s.least s.base) (is_equal (pos_is 0) (sub_is s.least s.base) (omega arith));
  upper = only_highest (pos 0 +ℤ pos w) (sub_ℕ (s.least + s.extent) s.base) (is_equal (sum_is (pos_is 0) (pos_is w)) (sub_is (s.least + s.extent) s.base) (omega arith));
}

-- ---- the extent of what a step makes

-- the extent of a type with lower bound 0 and this upper bound
bounded_extent : (x : ℤ) (t : Typemap) → extent (bounded x t) ≡ x
unfolding bounded lowers uppers markers_else
bounded_extent x t = is_equal (bound_extent (bounded x t) (lowest_one (pos 0)) (highest_one x) (pos_is 0) (self_is x)) (self_is x) (omega arith)

-- the extents from the least place to the end of the copy at the greatest, and those below the least place
span_times : (low high ex : ℕ) → low ≤ high → (high + 1 - low) * ex + low * ex ≡ high * ex + ex
span_times low high ex h = let e : high + 1 - low + low ≡ high + 1 = omega arith in sym (add-mul (high + 1 - low) low ex) ∙ ap (λ (z : ℕ). z * ex) e ∙ times_more high ex

-- an integer keeps the limits of an extent if it does as a natural number, which is 0 if it is below 0
allowed_whole : (x : ℤ) → extent_allowed x ≡ within 1 1048576 (whole x)
unfolding extent_allowed whole within also
allowed_whole (pos n) = refl
allowed_whole (negsuc n) = refl

-- the extent of copies reaches from the least place to the end of the copy at the greatest
copies_extent : (t : Typemap) (s : Shape) → Known t s → (place : ℕ → ℤ) (n : ℕ) (l : List ℕ) (low high : ℕ) → Places place n l → Spans l n low high → extent (copies n place t) ≡ pos ((high + 1 - low) * s.extent)
copies_extent t s k place n l low high p q =
    let h : low ≤ high = omega (arith, q.within q.low_at q.low_in) in
    is_equal
    (bound_extent (copies n place t)
    (copies_lower t s.extent (known_extent t s k) place n l p low high q (sub_ℕ s.least s.base) k.lower)
    (copies_upper t s.extent (known_extent t s k) place n l p low high q (sub_ℕ (s.least + s.extent) s.base) k.upper)
    (sum_is (sub_is s.least s.base) (sub_is (low * s.extent) (bias * s.extent)))
    (sum_is (sub_is (s.least + s.extent) s.base) (sub_is (high * s.extent) (bias * s.extent))))
    (pos_is ((high + 1 - low) * s.extent))
    (omega (arith, span_times low high s.extent h))

-- the extent of a subarray is that of the whole array
subarray_extent : (n : ℕ) (dim : ℕ → Dimension) (t : Typemap) (s : Shape) → Known t s → extent (subarray n dim t) ≡ pos (product (λ i. (dim i).size) n * s.extent)
unfolding subarray
subarray_extent n dim t s k = bounded_extent (pos (product (λ i. (dim i).size) n) *ℤ extent t) (copies (product (λ i. (dim i).subsize) n) (element_place dim n) t) ∙ ap (λ (z : ℤ). pos (product (λ i. (dim i).size) n) *ℤ z) (known_extent t s k)

-- the extent keeps its limits if the number that is computed for it does
extent_got_law : (st : Step) (t : Typemap) (s : Shape) (l : List ℕ) (low high : ℕ) → Known t s → Places (place_of st) (copies_of st) l → Spans l (copies_of st) low high → extent_allowed (extent (construct st t)) ≡ within 1 1048576 (extent_got st s low high)
unfolding construct contiguous vector indexed subarray resized copies_of place_of extent_got extent_allowed
extent_got_law (contiguous_step count) t s l low high k p q = ap extent_allowed (copies_extent t s k (place_of (contiguous_step count)) (copies_of (contiguous_step count)) l low high p q)
extent_got_law (vector_step count block_length stride) t s l low high k p q = ap extent_allowed (copies_extent t s k (place_of (vector_step count block_length stride)) (copies_of (vector_step count block_length stride)) l low high p q)
extent_got_law (indexed_step n block) t s l low high k p q = ap extent_allowed (copies_extent t s k (place_of (indexed_step n block)) (copies_of (indexed_step n block)) l low high p q)
extent_got_law (subarray_step n dim) t s l low high k p q = ap extent_allowed (subarray_extent n dim t s k)
extent_got_law (resized_step x) t s l low high k p q = ap extent_allowed (bounded_extent x t) ∙ allowed_whole x
extent_got_law no_step t s l low high k p q = ap extent_allowed (known_extent t s k)

-- ---- the entries of what a step makes

module _ (st : Step) (t : Typemap) (s : Shape) (l : List ℕ) (low high : ℕ) (k : Known t s) (p : Places (place_of st) (copies_of st) l) (q : Spans l (copies_of st) low high) where
  -- the least displacement
  made_low : Lowest (map (λ e. e.displacement) (construct st t).entries) (pos s.least +ℤ sub_ℕ (low * s.extent) (bias * s.extent))
  made_low = rw (construct_entries st t) (copies_low t s.extent (known_extent t s k) (place_of st) (copies_of st) l p low high q (pos s.least) k.low)

  -- the greatest end
  made_high : Highest (map end_of (construct st t).entries) (pos s.end +ℤ sub_ℕ (high * s.extent) (bias * s.extent))
  made_high = rw (construct_entries st t) (copies_high t s.extent (known_extent t s k) (place_of st) (copies_of st) l p low high q (pos s.end) k.high)

  -- the least displacement and the greatest end as differences of natural numbers
  made_low_is : Difference (pos s.least +ℤ sub_ℕ (low * s.extent) (bias * s.extent)) (s.least + low * s.extent) (bias * s.extent)
  made_low_is = other_is (s.least + low * s.extent) (bias * s.extent) (omega arith) (sum_is (pos_is s.least) (sub_is (low * s.extent) (bias * s.extent)))

  made_high_is : Difference (pos s.end +ℤ sub_ℕ (high * s.extent) (bias * s.extent)) (s.end + high * s.extent) (bias * s.extent)
  made_high_is = other_is (s.end + high * s.extent) (bias * s.extent) (omega arith) (sum_is (pos_is s.end) (sub_is (high * s.extent) (bias * s.extent)))

  -- each entry keeps the limits if the numbers that are computed for the least displacement and the greatest end do
  entries_fit_law : every kept_by (construct st t).entries ≡ entries_fit s low high
  unfolding entries_fit
  entries_fit_law = entries_limits (construct st t).entries (pos s.least +ℤ sub_ℕ (low * s.extent) (bias * s.extent)) (pos s.end +ℤ sub_ℕ (high * s.extent) (bias * s.extent)) (s.least + low * s.extent) (bias * s.extent) (s.end + high * s.extent) (bias * s.extent) made_low made_high made_low_is made_high_is

-- what a step makes keeps the limits if the numbers that are computed for it do
pub limits_judged : (st : Step) (t : Typemap) (s : Shape) (l : List ℕ) (low high : ℕ) → Known t s → none_zero st ≡ true → Places (place_of st) (copies_of st) l → Spans l (copies_of st) low high → limits_kept (construct st t) ≡ limits_by st s low high
unfolding limits_kept limits_by
limits_judged st t s l low high k z p q = rw (entries_fit_law st t s l low high k p q, extent_got_law st t s l low high k p q)

-- ---- the numbers of what a step makes

-- a number equal to the least of a list
lowest_same : {l : List ℤ} {x y : ℤ} → x ≡ y → Lowest l x → Lowest l y
lowest_same {l} e p = subst (λ z. Lowest l z) e p

-- a number equal to the greatest of a list
highest_same : {l : List ℤ} {x y : ℤ} → x ≡ y → Highest l x → Highest l y
highest_same {l} e p = subst (λ z. Highest l z) e p

-- the bounds that a step sets itself, as differences of natural numbers, where the least displacement is `first`
bounded_lower : (x : ℤ) (t : Typemap) (first : ℕ) → Lowest (lowers (bounded x t)) (sub_ℕ first first)
unfolding bounded lowers markers_else
bounded_lower x t first = only_lowest (pos 0) (sub_ℕ first first) (is_equal (pos_is 0) (sub_is first first) (omega arith))

bounded_upper : (x : ℤ) (t : Typemap) (first ex : ℕ) → x ≡ pos ex → Highest (uppers (bounded x t)) (sub_ℕ (first + ex) first)
unfolding bounded uppers markers_else
bounded_upper x t first ex e = only_highest x (sub_ℕ (first + ex) first) (is_equal (same_is e (pos_is ex)) (sub_is (first + ex) first) (omega arith))

module _ (t : Typemap) (s : Shape) (k : Known t s) (place : ℕ → ℤ) (n : ℕ) (l : List ℕ) (low high : ℕ) (p : Places place n l) (q : Spans l n low high) (fits : bias * s.extent ≤ s.least + low * s.extent) where
  -- the least of what the lower bound of copies is taken from, as a difference of natural numbers
  copied_lower : Lowest (lowers (copies n place t)) (sub_ℕ (s.least + low * s.extent - bias * s.extent) s.base)
  copied_lower =
      lowest_same
      (is_equal (sum_is (sub_is s.least s.base) (sub_is (low * s.extent) (bias * s.extent))) (sub_is (s.least + low * s.extent - bias * s.extent) s.base) (omega arith))
      (copies_lower t s.extent (known_extent t s k) place n l p low high q (sub_ℕ s.least s.base) k.lower)

  -- the greatest of what the upper bound of copies is taken from, as a difference of natural numbers
  copied_upper : Highest (uppers (copies n place t)) (sub_ℕ (s.least + low * s.extent - bias * s.extent + (high + 1 - low) * s.extent) s.base)
  copied_upper =
      let h : low ≤ high = omega (arith, q.within q.low_at q.low_in) in
      highest_same
      (is_equal (sum_is (sub_is (s.least + s.extent) s.base) (sub_is (high * s.extent) (bias * s.extent))) (sub_is (s.least + low * s.extent - bias * s.extent + (high + 1 - low) * s.extent) s.base) (omega (arith, span_times low high s.extent h)))
      (copies_upper t s.extent (known_extent t s k) place n l p low high q (sub_ℕ (s.least + s.extent) s.base) k.upper)

-- a step whose places are all 0 has the bias as its least place
still_low : (l : List ℕ) (n low high : ℕ) → Places (λ i. pos 0) n l → Spans l n low high → low ≡ bias
still_low l n low high p q = omega (arith, is_once (pos_is 0) (same_is (p.is q.low_at q.low_in) (sub_is (nth l q.low_at) bias)), q.low_is)

-- an integer that is 1 or more as a natural number is that number
whole_pos : (x : ℤ) → 1 ≤ whole x → x ≡ pos (whole x)
unfolding whole
whole_pos (pos n) h = refl
whole_pos (negsuc n) h = absurd (omega arith)

-- the least of what the lower bound of what a step makes is taken from
lowers_made : (st : Step) (t : Typemap) (s : Shape) (l : List ℕ) (low high : ℕ) → Known t s → Places (place_of st) (copies_of st) l → Spans l (copies_of st) low high → bias * s.extent ≤ s.least + low * s.extent → Lowest (lowers (construct st t)) (sub_ℕ (shape_made st s low high).least (shape_made st s low high).base)
unfolding construct contiguous vector indexed subarray resized copies_of place_of shape_made sets_bounds
lowers_made (contiguous_step count) t s l low high k p q fits = copied_lower t s k (place_of (contiguous_step count)) (copies_of (contiguous_step count)) l low high p q fits
lowers_made (vector_step count block_length stride) t s l low high k p q fits = copied_lower t s k (place_of (vector_step count block_length stride)) (copies_of (vector_step count block_length stride)) l low high p q fits
lowers_made (indexed_step n block) t s l low high k p q fits = copied_lower t s k (place_of (indexed_step n block)) (copies_of (indexed_step n block)) l low high p q fits
lowers_made (subarray_step n dim) t s l low high k p q fits = bounded_lower (pos (product (λ i. (dim i).size) n) *ℤ extent t) (copies (product (λ i. (dim i).subsize) n) (element_place dim n) t) (s.least + low * s.extent - bias * s.extent)
lowers_made (resized_step x) t s l low high k p q fits = bounded_lower x t (s.least + low * s.extent - bias * s.extent)
lowers_made no_step t s l low high k p q fits =
    lowest_same (sub_eq s.least s.base (s.least + low * s.extent - bias * s.extent) s.base (omega (arith, ap (λ (z : ℕ). z * s.extent) (still_low l 1 low high p q)))) k.lower

-- the greatest of what the upper bound of what a step makes is taken from
uppers_made : (st : Step) (t : Typemap) (s : Shape) (l : List ℕ) (low high : ℕ) → Known t s → Places (place_of st) (copies_of st) l → Spans l (copies_of st) low high → bias * s.extent ≤ s.least + low * s.extent → 1 ≤ extent_got st s low high → Highest (uppers (construct st t)) (sub_ℕ ((shape_made st s low high).least + (shape_made st s low high).extent) (shape_made st s low high).base)
unfolding construct contiguous vector indexed subarray resized copies_of place_of shape_made sets_bounds extent_got
uppers_made (contiguous_step count) t s l low high k p q fits some = copied_upper t s k (place_of (contiguous_step count)) (copies_of (contiguous_step count)) l low high p q fits
uppers_made (vector_step count block_length stride) t s l low high k p q fits some = copied_upper t s k (place_of (vector_step count block_length stride)) (copies_of (vector_step count block_length stride)) l low high p q fits
uppers_made (indexed_step n block) t s l low high k p q fits some = copied_upper t s k (place_of (indexed_step n block)) (copies_of (indexed_step n block)) l low high p q fits
uppers_made (subarray_step n dim) t s l low high k p q fits some = bounded_upper (pos (product (λ i. (dim i).size) n) *ℤ extent t) (copies (product (λ i. (dim i).subsize) n) (element_place dim n) t) (s.least + low * s.extent - bias * s.extent) (product (λ i. (dim i).size) n * s.extent) (ap (λ (z : ℤ). pos (product (λ i. (dim i).size) n) *ℤ z) (known_extent t s k))
uppers_made (resized_step x) t s l low high k p q fits some = bounded_upper x t (s.least + low * s.extent - bias * s.extent) (whole x) (whole_pos x some)
uppers_made no_step t s l low high k p q fits some =
    highest_same (sub_eq (s.least + s.extent) s.base (s.least + low * s.extent - bias * s.extent + s.extent) s.base (omega (arith, ap (λ (z : ℕ). z * s.extent) (still_low l 1 low high p q)))) k.upper

-- the least displacement is at most the greatest end
ends_after : (t : Typemap) (s : Shape) → Known t s → s.least ≤ s.end
unfolding end_of
ends_after t s k =
    let r = each_some (each_unmap (λ z. Above z (pos s.end)) end_of t.entries k.high.each) (some_unmap (λ z. z ≡ pos s.least) (λ e. e.displacement) t.entries k.low.some) in
    omega (arith, above_le (sum_is (same_is r.1.1 (pos_is s.least)) (pos_is r.0.width)) (pos_is s.end) r.1.0)

-- of two numbers up to 2^20, the one that is chosen is too
base_small : (b : Bool) (x y : ℕ) → x ≤ 1048576 → y ≤ 1048576 → cond b x y ≤ 1048576
base_small true x y h g = h
base_small false x y h g = g

-- what a step makes of a known type is known by the numbers that are computed for it, if these keep the limits
pub known_made : (st : Step) (t : Typemap) (s : Shape) (l : List ℕ) (low high : ℕ) → Known t s → none_zero st ≡ true → Places (place_of st) (copies_of st) l → Spans l (copies_of st) low high → limits_by st s low high ≡ true → copies_of st * s.entries ≤ 256 → Known (construct st t) (shape_made st s low high)
unfolding limits_by entries_fit shape_made
known_made st t s l low high k z p q h few =
    let f = also_inv (entries_fit s low high) (within 1 1048576 (extent_got st s low high)) h in
    let g = also_inv (leb (bias * s.extent) (s.least + low * s.extent)) (leb (s.end + high * s.extent) (max_place + bias * s.extent)) f.0 in
    let fits = leb-true (bias * s.extent) (s.least + low * s.extent) g.0 in
    let ends = leb-true (s.end + high * s.extent) (max_place + bias * s.extent) g.1 in
    let range = within_inv 1 1048576 (extent_got st s low high) f.1 in
    let span : low ≤ high = omega (arith, q.within q.low_at q.low_in) in
    let order : s.least + low * s.extent ≤ s.end + high * s.extent = omega (arith, ends_after t s k, mul-le-mul_right s.extent span) in
    record {
      counted = entry_count st t ∙ ap (λ (c : ℕ). copies_of st * c) k.counted;
      some = one-le-mul (omega (arith, q.low_in)) k.some;
      few = few;
      extent_some = range.0;
      extent_few = range.1;
      end_few = omega arith;
      least_few = omega arith;
      base_few = base_small (sets_bounds st) (s.least + low * s.extent - bias * s.extent) s.base (omega arith) k.base_few;
      low = lowest_same (is_equal (made_low_is st t s l low high k p q) (pos_is (s.least + low * s.extent - bias * s.extent)) (omega arith)) (made_low st t s l low high k p q);
      high = highest_same (is_equal (made_high_is st t s l low high k p q) (pos_is (s.end + high * s.extent - bias * s.extent)) (omega arith)) (made_high st t s l low high k p q);
      lower = lowers_made st t s l low high k p q fits;
      upper = uppers_made st t s l low high k p q fits range.0;
    }

-- ---- a copy among the entries of what a step makes

-- what each entry has, each entry of a copy has
copy_each : (st : Step) (t : Typemap) (P : Entry → Type 0) (j : ℕ) → j < copies_of st → Each P (construct st t).entries → Each (λ e. P (shifted (place_of st j *ℤ extent t) e)) t.entries
copy_each st t P j h e = each_unmap P (shifted (place_of st j *ℤ extent t)) t.entries (each_part P (λ k. map (shifted (place_of st k *ℤ extent t)) t.entries) (copies_of st) j h (subst (λ es. Each P es) (construct_entries st t) e))

-- a copy lies between the least displacement and the greatest end of what the step makes
pub copy_within : (st : Step) (t : Typemap) (s big : Shape) (l : List ℕ) (k : ℕ) → Known t s → Known (construct st t) big → Places (place_of st) (copies_of st) l → k < copies_of st → (bias * s.extent + big.least ≤ s.least + nth l k * s.extent) × (s.end + nth l k * s.extent ≤ big.end + bias * s.extent)
unfolding shifted
copy_within st t s big l k known made p h =
    let shift = shift_is t s.extent (known_extent t s known) (place_of st) (copies_of st) l p k h in
    let first = each_some (copy_each st t (λ e. Above (pos big.least) e.displacement) k h (each_unmap (λ z. Above (pos big.least) z) (λ e. e.displacement) (construct st t).entries made.low.each)) (some_unmap (λ z. z ≡ pos s.least) (λ e. e.displacement) t.entries known.low.some) in
    let last = each_some (copy_each st t (λ e. Above (end_of e) (pos big.end)) k h (each_unmap (λ z. Above z (pos big.end)) end_of (construct st t).entries made.high.each)) (some_unmap (λ z. z ≡ pos s.end) end_of t.entries known.high.some) in
    (omega (arith, above_le (pos_is big.least) (sum_is (same_is first.1.1 (pos_is s.least)) shift) first.1.0), omega (arith, above_le (same_is (end_moves (place_of st k *ℤ extent t) last.0) (sum_is (same_is last.1.1 (pos_is s.end)) shift)) (pos_is big.end) last.1.0))

-- ---- steps whose numbers are too large

-- numbers of an entry further than 2^20 extents away, which does not lie inside the limits
far_outside : (z : ℤ) (ex least w : ℕ) → 1 ≤ ex → least ≤ 1048576 → near z ≡ false → down z * ex ≤ least + up z * ex → least + up z * ex + w ≤ 1048576 + down z * ex → ⊥
unfolding near
far_outside (pos m) ex least w some small far a b = omega (arith, leb-false m max_place far, le-mul_of_pos_right {m = ex} m some)
far_outside (negsuc m) ex least w some small far a b = omega (arith, leb-false (suc m) max_place far, le-mul_of_pos_right {m = ex} (suc m) some)

-- an entry from 0 to 2^20 that is moved further than 2^20 extents does not keep the limits
far_entry : (z x d : ℤ) (w ex least : ℕ) → x ≡ pos ex → d ≡ pos least → 1 ≤ ex → least ≤ 1048576 → near z ≡ false → entry_displacement_allowed w (d +ℤ z *ℤ x) ≡ true → ⊥
far_entry z x d w ex least ex_is d_is some small far h =
    let inside = allowed_inside w (d +ℤ z *ℤ x) h in
    let at = sum_is (same_is d_is (pos_is least)) (same_is (ap (λ (y : ℤ). z *ℤ y) ex_is) (times_is ex (self_is z))) in
    far_outside z ex least w some small far
    (omega (arith, above_le (pos_is 0) at inside.0))
    (omega (arith, above_le (sum_is at (pos_is w)) (pos_is 1048576) inside.1))

-- with a copy further than 2^20 extents away, what a step makes does not keep the limits
far_copy : (st : Step) (t : Typemap) (s : Shape) (j : ℕ) → Known t s → j < copies_of st → near (place_of st j) ≡ false → limits_kept (construct st t) ≡ false
unfolding limits_kept shifted
far_copy st t s j k h far = not_true_false (limits_kept (construct st t)) (λ kept.
    let each = every_each kept_by (construct st t).entries (also_inv (every kept_by (construct st t).entries) (extent_allowed (extent (construct st t))) kept).0 in
    let r = each_some (copy_each st t (λ e. kept_by e ≡ true) j h each) (some_unmap (λ z. z ≡ pos s.least) (λ e. e.displacement) t.entries k.low.some) in
    far_entry (place_of st j) (extent t) r.0.displacement r.0.width s.extent s.least (known_extent t s k) r.1.1 k.extent_some k.least_few far r.1.0)

-- the first copy of a vector's second block lies at the stride
second_block : (block_length : ℕ) (stride : ℤ) → 1 ≤ block_length → pos (block_length / block_length) *ℤ stride +ℤ pos (block_length % block_length) ≡ stride
second_block block_length stride h =
    is_equal
    (sum_is (same_is (ap (λ (x : ℕ). pos x *ℤ stride) (div_self h) ∙ *ℤ_comm (pos 1) stride) (times_is 1 (self_is stride))) (same_is (ap pos (mod_self block_length)) (pos_is 0)))
    (self_is stride) (omega arith)

-- the first copy of a block lies at its displacement
block_first : (block : ℕ → Block) (n i : ℕ) → i < n → 1 ≤ (block i).block_length → block_place block n (total (λ j. (block j).block_length) i) ≡ (block i).displacement
unfolding block_place
block_first block zero i h some = absurd (omega arith)
block_first block (suc n) i h some =
    let f : ℕ → ℕ = λ j. (block j).block_length in
    ⊎_elim
    (λ e. rw (e, le-ltb (total f n) (total f n) (omega arith)) (is_equal (sum_is (self_is (block n).displacement) (pos_is (total f n - total f n))) (self_is (block n).displacement) (omega arith)))
    (λ b. rw (lt-ltb (total f i) (total f n) (omega (arith, total_part f i n b))) (block_first block n i b some))
    (eq-or-lt_of_le {n = i} {m = n} (omega arith))

-- if `either` of two conditions is false, both are
either_false : (a b : Bool) → either a b ≡ false → (a ≡ false) × (b ≡ false)
unfolding either
either_false true b h = absurd (true≢false h)
either_false false b h = (refl, h)

-- a step with a number too large for its copies makes a type that does not keep the limits
pub far_limits : (st : Step) (t : Typemap) (s : Shape) → Known t s → none_zero st ≡ true → dimensions_allowed st ≡ true → step_near st ≡ false → limits_kept (construct st t) ≡ false
unfolding none_zero some_of step_near copies_of place_of limits_kept construct extent_allowed
far_limits (contiguous_step count) t s k z d far = absurd (true≢false far)
far_limits (vector_step count block_length stride) t s k z d far =
    let some = also_inv (leb 1 count) (leb 1 block_length) z in
    let a = leb-true 1 count some.0 in
    let b = leb-true 1 block_length some.1 in
    let f = either_false (eqb count 1) (near stride) far in
    let two : 2 ≤ count = omega (arith, eqb-false count 1 f.0) in
    far_copy (vector_step count block_length stride) t s block_length k (omega (arith, mul-le-mul_right block_length two)) (ap near (second_block block_length stride b) ∙ f.1)
far_limits (indexed_step n block) t s k z d far =
    let some = also_inv (leb 1 n) (all (λ i. leb 1 (block i).block_length) n) z in
    let i = least_false (λ i. near (block i).displacement) n in
    let l = all_below (λ i. near (block i).displacement) n far in
    let b = leb-true 1 (block i).block_length (all_at (λ i. leb 1 (block i).block_length) n some.1 i l) in
    far_copy (indexed_step n block) t s (total (λ j. (block j).block_length) i) k (omega (arith, total_part (λ j. (block j).block_length) i n l)) (ap near (block_first block n i l b) ∙ least_false_breaks (λ i. near (block i).displacement) n l)
far_limits (subarray_step n dim) t s k z d far =
    let large = leb-false (product (λ i. (dim i).size) n) max_place far in
    also_false (every kept_by (subarray n dim t).entries) (extent_allowed (extent (subarray n dim t)))
    (ap extent_allowed (subarray_extent n dim t s k) ∙ within_high 1 1048576 (product (λ i. (dim i).size) n * s.extent) (omega (arith, le-mul_of_pos_right {m = s.extent} (product (λ i. (dim i).size) n) k.extent_some)))
far_limits (resized_step x) t s k z d far = absurd (true≢false far)
far_limits no_step t s k z d far = absurd (true≢false far)
