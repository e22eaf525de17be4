-- Copies of a type: the least displacement, the greatest end, the bounds and the extent, and the limits of the entries.
use Rattle.laws.proofs.Prelude.{ℕ, zero, suc, ◌+◌, ◌*◌, ◌<◌, ◌≡◌, refl, ap, Bool, true, false≢true, List, map, arith, ℤ, pos, negsuc, sub_ℕ, ◌+ℤ◌, leb, leb-true, le-leb, mul-le-mul_right, also, also_true, also_inv, iff, nth}
use mathlib.Core.List.{[], ◌∷◌}
use lib.IntN.{◌*ℤ◌}
use Rattle.view.specs.Limits.{entry_displacement_allowed}
use Rattle.recipe_types.specs.Typemaps.{Entry, Typemap, lower_bound, upper_bound, extent, end_of, markers_else, joined, shifted, copies}
use Rattle.recipe_types.specs.Recipes.{every}
use Rattle.recipe_types.specs.Parts.{Above, Lowest, Highest, lowers, uppers, Places, Spans, bias}
use Rattle.recipe_types.proofs.Integers.{Difference, self_is, pos_is, sub_is, same_is, sum_is, less_is, times_is, is_equal}
use Rattle.recipe_types.proofs.Extremes.{each_so, each_some, each_both, each_unmap, some_unmap, every_each, each_every, above_is, above_le, above_trans, least_is, greatest_is, lowest_images, highest_images, lowest_joined, highest_joined}

-- ---- the bounds of a typemap

-- the lower bound is the least of what it is taken from
pub bound_lower : (t : Typemap) (x : ℤ) → Lowest (lowers t) x → lower_bound t ≡ x
unfolding lower_bound lowers
bound_lower t x p = least_is (lowers t) x p

-- the upper bound is the greatest of what it is taken from
pub bound_upper : (t : Typemap) (x : ℤ) → Highest (uppers t) x → upper_bound t ≡ x
unfolding upper_bound uppers
bound_upper t x p = greatest_is (uppers t) x p

-- the extent is the difference of the bounds
pub bound_extent : (t : Typemap) {x y : ℤ} {a b c d : ℕ} → Lowest (lowers t) x → Highest (uppers t) y → Difference x a b → Difference y c d → Difference (extent t) (c + b) (d + a)
unfolding extent
bound_extent t {x} {y} p q dx dy = less_is (same_is (bound_upper t y q) dy) (same_is (bound_lower t x p) dx)

-- ---- the limits of the entries

-- an entry that keeps the limits lies at 0 or above, and ends at 2^20 or below
pub allowed_inside : (w : ℕ) (d : ℤ) → entry_displacement_allowed w d ≡ true → (Above (pos 0) d) × (Above (d +ℤ pos w) (pos 1048576))
unfolding entry_displacement_allowed
allowed_inside w (pos n) h = let q = leb-true (n + w) 1048576 h in (above_is (pos_is 0) (pos_is n) (omega arith), above_is (sum_is (pos_is n) (pos_is w)) (pos_is 1048576) (omega arith))
allowed_inside w (negsuc n) h = absurd (false≢true h)

-- an entry at 0 or above that ends at 2^20 or below keeps the limits
inside_allowed : (w : ℕ) (d : ℤ) → Above (pos 0) d → Above (d +ℤ pos w) (pos 1048576) → entry_displacement_allowed w d ≡ true
unfolding entry_displacement_allowed
inside_allowed w (pos n) h k = le-leb (n + w) 1048576 (omega (arith, above_le (sum_is (pos_is n) (pos_is w)) (pos_is 1048576) k))
inside_allowed w (negsuc n) h k = absurd (omega (arith, above_le (pos_is 0) (self_is (negsuc n)) h))

-- an entry keeps the limits
abbrev pub kept_by : Entry → Bool
kept_by e = entry_displacement_allowed e.width e.displacement

-- each entry keeps the limits if the least displacement and the greatest end do
pub entries_limits : (es : List Entry) (x y : ℤ) (a b c d : ℕ) → Lowest (map (λ e. e.displacement) es) x → Highest (map end_of es) y → Difference x a b → Difference y c d → every kept_by es ≡ also (leb b a) (leb c (1048576 + d))
unfolding end_of
entries_limits es x y a b c d p q dx dy = iff (every kept_by es) (also (leb b a) (leb c (1048576 + d))) whole parts
  where
    whole : every kept_by es ≡ true → also (leb b a) (leb c (1048576 + d)) ≡ true
    whole h =
        let each = every_each kept_by es h in
        let l = each_some each (some_unmap (λ z. z ≡ x) (λ e. e.displacement) es p.some) in
        let g = each_some each (some_unmap (λ z. z ≡ y) end_of es q.some) in
        also_true
        (le-leb b a (omega (arith, above_le (pos_is 0) (same_is l.1.1 dx) (allowed_inside l.0.width l.0.displacement l.1.0).0)))
        (le-leb c (1048576 + d) (omega (arith, above_le (same_is g.1.1 dy) (pos_is 1048576) (allowed_inside g.0.width g.0.displacement g.1.0).1)))

    parts : also (leb b a) (leb c (1048576 + d)) ≡ true → every kept_by es ≡ true
    parts h =
        let r = also_inv (leb b a) (leb c (1048576 + d)) h in
        let f = above_is (pos_is 0) dx (omega (arith, leb-true b a r.0)) in
        let g = above_is dy (pos_is 1048576) (omega (arith, leb-true c (1048576 + d) r.1)) in
        each_every kept_by
        (each_so (λ e. kept_by e ≡ true) (λ e i. inside_allowed e.width e.displacement (above_trans f i.0) (above_trans i.1 g))
        (each_both (each_unmap (λ z. Above x z) (λ e. e.displacement) es p.each) (each_unmap (λ z. Above z y) end_of es q.each)))

-- ---- the entries and the markers of copies, where copy k is moved by shift k

-- no marker of a type is no marker of the copies
joined_none : (shift : ℕ → ℤ) (n : ℕ) → joined (λ k. map (λ z. z +ℤ shift k) []) n ≡ []
unfolding joined
joined_none shift zero = refl
joined_none shift (suc n) = rw (joined_none shift n)

-- where there are markers, their least is that of the markers or else of what is given
or_lowest : (l given : List ℤ) (x : ℤ) → Lowest l x → Lowest (markers_else l given) x
unfolding markers_else
or_lowest [] given x p = absurd (elim p.some [ ])
or_lowest (z ∷ l) given x p = p

-- where there are markers, their greatest is that of the markers or else of what is given
or_highest : (l given : List ℤ) (x : ℤ) → Highest l x → Highest (markers_else l given) x
unfolding markers_else
or_highest [] given x p = absurd (elim p.some [ ])
or_highest (z ∷ l) given x p = p

module _ (shift : ℕ → ℤ) (n : ℕ) (x y : ℤ) (at : ℕ) (below : at < n) (is : shift at ≡ y) where
  -- the least of the markers, or of what else is given
  joined_lower : (markers given copied : List ℤ) → ((k : ℕ) → k < n → Above y (shift k)) → Lowest (markers_else markers given) x → (Lowest given x → Lowest copied (x +ℤ y)) → Lowest (markers_else (joined (λ k. map (λ z. z +ℤ shift k) markers) n) copied) (x +ℤ y)
  unfolding markers_else
  joined_lower [] given copied h p f = rw (joined_none shift n) (f p)
  joined_lower (m ∷ markers) given copied h p f = or_lowest (joined (λ k. map (λ z. z +ℤ shift k) (m ∷ markers)) n) copied (x +ℤ y) (lowest_joined shift (m ∷ markers) n x y at below is p h)

  -- the greatest of the markers, or of what else is given
  joined_upper : (markers given copied : List ℤ) → ((k : ℕ) → k < n → Above (shift k) y) → Highest (markers_else markers given) x → (Highest given x → Highest copied (x +ℤ y)) → Highest (markers_else (joined (λ k. map (λ z. z +ℤ shift k) markers) n) copied) (x +ℤ y)
  unfolding markers_else
  joined_upper [] given copied h p f = rw (joined_none shift n) (f p)
  joined_upper (m ∷ markers) given copied h p f = or_highest (joined (λ k. map (λ z. z +ℤ shift k) (m ∷ markers)) n) copied (x +ℤ y) (highest_joined shift (m ∷ markers) n x y at below is p h)

-- the end of a moved entry
pub end_moves : (s : ℤ) (e : Entry) → end_of (shifted s e) ≡ end_of e +ℤ s
unfolding end_of shifted
end_moves s e = is_equal (sum_is (sum_is (self_is e.displacement) (self_is s)) (pos_is e.width)) (sum_is (sum_is (self_is e.displacement) (pos_is e.width)) (self_is s)) (omega arith)

-- the displacement of a moved entry
displacement_moves : (s : ℤ) (e : Entry) → (shifted s e).displacement ≡ e.displacement +ℤ s
unfolding shifted
displacement_moves s e = refl

-- ---- copies of a type at places: low is the least place and high the greatest, with the bias added

module _ (t : Typemap) (ex : ℕ) (size : extent t ≡ pos ex) (place : ℕ → ℤ) (n : ℕ) (l : List ℕ) (p : Places place n l) where
  -- how far a copy is moved
  pub shift_is : (k : ℕ) → k < n → Difference (place k *ℤ extent t) (nth l k * ex) (bias * ex)
  shift_is k h = same_is (ap (λ (z : ℤ). place k *ℤ z) size) (times_is ex (same_is (p.is k h) (sub_is (nth l k) bias)))

  module _ (low high : ℕ) (q : Spans l n low high) where
    -- the least shift, and the greatest
    abbrev least_shift : ℤ
    least_shift = sub_ℕ (low * ex) (bias * ex)

    abbrev greatest_shift : ℤ
    greatest_shift = sub_ℕ (high * ex) (bias * ex)

    -- the copy at the least place is moved by the least shift
    low_shift : place q.low_at *ℤ extent t ≡ least_shift
    low_shift = is_equal (shift_is q.low_at q.low_in) (sub_is (low * ex) (bias * ex)) (ap (λ (z : ℕ). z * ex + bias * ex) q.low_is)

    -- the copy at the greatest place is moved by the greatest shift
    high_shift : place q.high_at *ℤ extent t ≡ greatest_shift
    high_shift = is_equal (shift_is q.high_at q.high_in) (sub_is (high * ex) (bias * ex)) (ap (λ (z : ℕ). z * ex + bias * ex) q.high_is)

    -- no copy is moved by less than the least shift
    low_below : (k : ℕ) → k < n → Above least_shift (place k *ℤ extent t)
    low_below k h = above_is (sub_is (low * ex) (bias * ex)) (shift_is k h) (omega (arith, mul-le-mul_right ex (q.within k h).0))

    -- no copy is moved by more than the greatest shift
    high_above : (k : ℕ) → k < n → Above (place k *ℤ extent t) greatest_shift
    high_above k h = above_is (shift_is k h) (sub_is (high * ex) (bias * ex)) (omega (arith, mul-le-mul_right ex (q.within k h).1))

    -- the least displacement of the copies
    pub copies_low : (x : ℤ) → Lowest (map (λ e. e.displacement) t.entries) x → Lowest (map (λ e. e.displacement) (joined (λ k. map (shifted (place k *ℤ extent t)) t.entries) n)) (x +ℤ least_shift)
    copies_low x h = lowest_images (λ e. e.displacement) (λ k. shifted (place k *ℤ extent t)) (λ k. place k *ℤ extent t) (λ k e. displacement_moves (place k *ℤ extent t) e) t.entries n x least_shift h q.low_at q.low_in low_shift low_below

    -- the greatest end of the copies
    pub copies_high : (x : ℤ) → Highest (map end_of t.entries) x → Highest (map end_of (joined (λ k. map (shifted (place k *ℤ extent t)) t.entries) n)) (x +ℤ greatest_shift)
    copies_high x h = highest_images end_of (λ k. shifted (place k *ℤ extent t)) (λ k. place k *ℤ extent t) (λ k e. end_moves (place k *ℤ extent t) e) t.entries n x greatest_shift h q.high_at q.high_in high_shift high_above

    -- the least of what the lower bound of the copies is taken from
    pub copies_lower : (x : ℤ) → Lowest (lowers t) x → Lowest (lowers (copies n place t)) (x +ℤ least_shift)
    unfolding lowers copies
    copies_lower x h = joined_lower (λ k. place k *ℤ extent t) n x least_shift q.low_at q.low_in low_shift t.lower_markers (map (λ e. e.displacement) t.entries) (map (λ e. e.displacement) (joined (λ k. map (shifted (place k *ℤ extent t)) t.entries) n)) low_below h (copies_low x)

    -- the greatest of what the upper bound of the copies is taken from
    pub copies_upper : (x : ℤ) → Highest (uppers t) x → Highest (uppers (copies n place t)) (x +ℤ greatest_shift)
    unfolding uppers copies
    copies_upper x h = joined_upper (λ k. place k *ℤ extent t) n x greatest_shift q.high_at q.high_in high_shift t.upper_markers (map end_of t.entries) (map end_of (joined (λ k. map (shifted (place k *ℤ extent t)) t.entries) n)) high_above h (copies_high x)
