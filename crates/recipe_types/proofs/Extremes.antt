-- What holds of each or of some element of a list, and the least and the greatest of a list of integers.
use Rattle.laws.proofs.Prelude.{ℕ, zero, suc, ◌+◌, ◌-◌, ◌≤◌, ◌<◌, ◌≡◌, refl, sym, ap, ◌∙◌, Bool, true, false, cond, List, ◌++◌, map, arith, ℤ, pos, ◌+ℤ◌, leb-true, leb-false, eq-or-lt_of_le, mul-le-mul_right, also_true, also_inv, ⊎_elim}
use mathlib.Core.List.{[], ◌∷◌}
use lib.IntN.{◌*ℤ◌}
use lib.Signed.{le_z}
use Rattle.recipe_types.specs.Typemaps.{joined, least, greatest_of}
use Rattle.recipe_types.specs.Recipes.{every}
use Rattle.recipe_types.specs.Parts.{Each, none, more, Some, here, later, Above, Lowest, Highest}
use Rattle.recipe_types.proofs.Integers.{up, down, Difference, self_is, pos_is, sum_is, times_is, same_is, is_equal, is_most}

-- ---- each element, and some element

-- if each element has a property, each has what follows from it
pub each_so : {A : Type 0} {P : A → Type 0} (Q : A → Type 0) {l : List A} → ((x : A) → P x → Q x) → Each P l → Each Q l
each_so Q f none = none
each_so Q f (more {x} p r) = more (f x p) (each_so Q f r)

-- if some element has a property, it has what follows from it
pub some_so : {A : Type 0} {P : A → Type 0} (Q : A → Type 0) {l : List A} → ((x : A) → P x → Q x) → Some P l → Some Q l
some_so Q f (here {x} p) = here (f x p)
some_so Q f (later r) = later (some_so Q f r)

-- an element has what each has and what some has
pub each_some : {A : Type 0} {P Q : A → Type 0} {l : List A} → Each P l → Some Q l → (x : A) × ((P x) × (Q x))
each_some (more {x} p r) (here q) = (x, (p, q))
each_some (more p r) (later q) = each_some r q
each_some {A = A} {P = P} {Q = Q} none x3 = elim x3 [ ]

-- if each element has two properties, each has both
pub each_both : {A : Type 0} {P Q : A → Type 0} {l : List A} → Each P l → Each Q l → Each (λ x. (P x) × (Q x)) l
each_both none s = none
each_both (more p r) (more q s) = more (p, q) (each_both r s)

-- each element of two lists, one after the other
pub each_append : {A : Type 0} (P : A → Type 0) {l m : List A} → Each P l → Each P m → Each P (l ++ m)
each_append P none s = s
each_append P (more p r) s = more p (each_append P r s)

-- each element of the first of two lists
pub each_first : {A : Type 0} (P : A → Type 0) (l m : List A) → Each P (l ++ m) → Each P l
each_first P [] m e = none
each_first P (x ∷ l) m (more p r) = more p (each_first P l m r)

-- each element of the second of two lists
pub each_second : {A : Type 0} (P : A → Type 0) (l m : List A) → Each P (l ++ m) → Each P m
each_second P [] m e = e
each_second P (x ∷ l) m (more p r) = each_second P l m r

-- some element of the first of two lists is one of both
pub some_first : {A : Type 0} (P : A → Type 0) {l : List A} (m : List A) → Some P l → Some P (l ++ m)
some_first P m (here p) = here p
some_first P m (later r) = later (some_first P m r)

-- some element of the second of two lists is one of both
pub some_second : {A : Type 0} (P : A → Type 0) (l : List A) {m : List A} → Some P m → Some P (l ++ m)
some_second P [] s = s
some_second P (x ∷ l) s = later (some_second P l s)

-- what each element has of its image, each image has
pub each_map : {A B : Type 0} (P : B → Type 0) (f : A → B) {l : List A} → Each (λ x. P (f x)) l → Each P (map f l)
each_map P f none = none
each_map P f (more p r) = more p (each_map P f r)

-- what each image has, each element has of its image
pub each_unmap : {A B : Type 0} (P : B → Type 0) (f : A → B) (l : List A) → Each P (map f l) → Each (λ x. P (f x)) l
each_unmap P f [] e = none
each_unmap P f (x ∷ l) (more p r) = more p (each_unmap P f l r)

-- what some element has of its image, some image has
pub some_map : {A B : Type 0} (P : B → Type 0) (f : A → B) {l : List A} → Some (λ x. P (f x)) l → Some P (map f l)
some_map P f (here p) = here p
some_map P f (later r) = later (some_map P f r)

-- what some image has, some element has of its image
pub some_unmap : {A B : Type 0} (P : B → Type 0) (f : A → B) (l : List A) → Some P (map f l) → Some (λ x. P (f x)) l
some_unmap P f (x ∷ l) (here p) = here p
some_unmap P f (x ∷ l) (later r) = later (some_unmap P f l r)
some_unmap {A = A} {B = B} P f [] x' = elim x' [ ]

-- each element of n lists one after another
pub each_joined : {A : Type 0} (P : A → Type 0) (f : ℕ → List A) (n : ℕ) → ((k : ℕ) → k < n → Each P (f k)) → Each P (joined f n)
unfolding joined
each_joined P f zero h = none
each_joined P f (suc n) h = each_append P (each_joined P f n (λ k l. h k (omega arith))) (h n (omega arith))

-- each element of one of n lists one after another
pub each_part : {A : Type 0} (P : A → Type 0) (f : ℕ → List A) (n k : ℕ) → k < n → Each P (joined f n) → Each P (f k)
unfolding joined
each_part P f zero k l e = absurd (omega arith)
each_part P f (suc n) k l e =
    ⊎_elim (λ q. rw q (each_second P (joined f n) (f n) e))
    (λ q. each_part P f n k q (each_first P (joined f n) (f n) e))
    (eq-or-lt_of_le {n = k} {m = n} (omega arith))

-- some element of one of n lists is one of all
pub some_joined : {A : Type 0} (P : A → Type 0) (f : ℕ → List A) (n k : ℕ) → k < n → Some P (f k) → Some P (joined f n)
unfolding joined
some_joined P f zero k l s = absurd (omega arith)
some_joined P f (suc n) k l s =
    ⊎_elim (λ q. some_second P (joined f n) (rw q at s))
    (λ q. some_first P (f n) (some_joined P f n k q s))
    (eq-or-lt_of_le {n = k} {m = n} (omega arith))

-- a test that holds of every element holds of each
pub every_each : {A : Type 0} (p : A → Bool) (l : List A) → every p l ≡ true → Each (λ x. p x ≡ true) l
unfolding every
every_each p [] e = none
every_each p (x ∷ l) e = let h = also_inv (p x) (every p l) e in more h.0 (every_each p l h.1)

-- a test holds of every element if it holds of each
pub each_every : {A : Type 0} (p : A → Bool) {l : List A} → Each (λ x. p x ≡ true) l → every p l ≡ true
unfolding every
each_every p none = refl
each_every p (more h r) = also_true h (each_every p r)

-- ---- the order

-- an integer lies above another if the sums crosswise of the differences do
pub above_is : {x z : ℤ} {a b c d : ℕ} → Difference x a b → Difference z c d → a + d ≤ c + b → Above x z
above_is {x} {z} {a} {b} {c} {d} p q h = record { by = c + b - (a + d); is = is_equal q (sum_is p (pos_is (c + b - (a + d)))) (omega arith) }

-- the sums crosswise of the differences, of an integer above another
pub above_le : {x z : ℤ} {a b c d : ℕ} → Difference x a b → Difference z c d → Above x z → a + d ≤ c + b
above_le p q h = omega (arith, same_is h.is (sum_is p (pos_is h.by)), q)

-- what lies above what lies above an integer lies above it
pub above_trans : {x y z : ℤ} → Above x y → Above y z → Above x z
above_trans {x} {y} {z} h k = above_is (self_is x) (self_is z) (omega (arith, above_le (self_is x) (self_is y) h, above_le (self_is y) (self_is z) k))

-- integers above each other are equal
pub above_antisym : {x y : ℤ} → Above x y → Above y x → x ≡ y
above_antisym {x} {y} h k = is_equal (self_is x) (self_is y) (omega (arith, above_le (self_is x) (self_is y) h, above_le (self_is y) (self_is x) k))

-- an equal integer lies above
pub above_same : {x y : ℤ} → x ≡ y → Above x y
above_same {x} {y} e = above_is (self_is x) (same_is (sym e) (self_is x)) (omega arith)

-- sums of integers above others lie above the sums of these
pub above_sum : {x y z w : ℤ} → Above x y → Above z w → Above (x +ℤ z) (y +ℤ w)
above_sum {x} {y} {z} {w} h k = above_is (sum_is (self_is x) (self_is z)) (sum_is (self_is y) (self_is w)) (omega (arith, above_le (self_is x) (self_is y) h, above_le (self_is z) (self_is w) k))

-- integers above others, times a natural number
pub above_times : {x y : ℤ} (n : ℕ) → Above x y → Above (x *ℤ pos n) (y *ℤ pos n)
above_times {x} {y} n h = above_is (times_is n (self_is x)) (times_is n (self_is y)) (omega (arith, mul-le-mul_right n (above_le (self_is x) (self_is y) h)))

-- an integer that another is at most lies above it
above_test : (x z : ℤ) → le_z x z ≡ true → Above x z
above_test x z e = above_is (self_is x) (self_is z) (leb-true (up x + down z) (up z + down x) (sym (is_most (self_is x) (self_is z)) ∙ e))

-- an integer that is not at most another lies above it
below_test : (x z : ℤ) → le_z x z ≡ false → Above z x
below_test x z e = above_is (self_is z) (self_is x) (omega (arith, leb-false (up x + down z) (up z + down x) (sym (is_most (self_is x) (self_is z)) ∙ e)))

-- ---- the least and the greatest of a list

-- a list has one least number
pub lowest_once : {l : List ℤ} {x y : ℤ} → Lowest l x → Lowest l y → x ≡ y
lowest_once p q = above_antisym (least_of p q) (least_of q p)
  where
    least_of : {l : List ℤ} {x y : ℤ} → Lowest l x → Lowest l y → Above x y
    least_of p q = let r = each_some p.each q.some in rw r.1.1 at r.1.0

-- a list has one greatest number
pub highest_once : {l : List ℤ} {x y : ℤ} → Highest l x → Highest l y → x ≡ y
highest_once p q = above_antisym (greatest_of_law q p) (greatest_of_law p q)
  where
    greatest_of_law : {l : List ℤ} {x y : ℤ} → Highest l x → Highest l y → Above y x
    greatest_of_law p q = let r = each_some p.each q.some in rw r.1.1 at r.1.0

-- the least of a list of one number
pub lowest_one : (x : ℤ) → Lowest (x ∷ []) x
lowest_one x = record { each = more (above_same refl) none; some = here refl }

-- the greatest of a list of one number
pub highest_one : (x : ℤ) → Highest (x ∷ []) x
highest_one x = record { each = more (above_same refl) none; some = here refl }

-- the least of a list with one more number in front
lowest_more : (x y : ℤ) (l : List ℤ) → Lowest l y → Lowest (x ∷ l) (cond (le_z x y) x y)
lowest_more x y l p = by (le_z x y) refl
  where
    by : (t : Bool) → le_z x y ≡ t → Lowest (x ∷ l) (cond t x y)
    by true e = record { each = more (above_same refl) (each_so (λ z. Above x z) (λ z h. above_trans (above_test x y e) h) p.each); some = here refl }
    by false e = record { each = more (below_test x y e) p.each; some = later p.some }

-- the greatest of a list with one more number in front
highest_more : (x y : ℤ) (l : List ℤ) → Highest l y → Highest (x ∷ l) (cond (le_z x y) y x)
highest_more x y l p = by (le_z x y) refl
  where
    by : (t : Bool) → le_z x y ≡ t → Highest (x ∷ l) (cond t y x)
    by true e = record { each = more (above_test x y e) p.each; some = later p.some }
    by false e = record { each = more (above_same refl) (each_so (λ z. Above z x) (λ z h. above_trans h (below_test x y e)) p.each); some = here refl }

-- `least` gives the least number of a list
least_lowest : (x : ℤ) (l : List ℤ) → Lowest (x ∷ l) (least (x ∷ l))
unfolding least
least_lowest x [] = lowest_one x
least_lowest x (y ∷ l) = lowest_more x (least (y ∷ l)) (y ∷ l) (least_lowest y l)

-- `greatest` gives the greatest number of a list
greatest_highest : (x : ℤ) (l : List ℤ) → Highest (x ∷ l) (greatest_of (x ∷ l))
unfolding greatest_of
greatest_highest x [] = highest_one x
greatest_highest x (y ∷ l) = highest_more x (greatest_of (y ∷ l)) (y ∷ l) (greatest_highest y l)

-- the least number of a list is what `least` gives
pub least_is : (l : List ℤ) (x : ℤ) → Lowest l x → least l ≡ x
least_is [] x p = absurd (elim p.some [ ])
least_is (y ∷ l) x p = lowest_once (least_lowest y l) p

-- the greatest number of a list is what `greatest` gives
pub greatest_is : (l : List ℤ) (x : ℤ) → Highest l x → greatest_of l ≡ x
greatest_is [] x p = absurd (elim p.some [ ])
greatest_is (y ∷ l) x p = highest_once (greatest_highest y l) p

-- ---- n copies of a list one after another, copy k moved by shift k

module _ {A : Type 0} (g : A → ℤ) (moved : ℕ → A → A) (shift : ℕ → ℤ) (moves : (k : ℕ) (e : A) → g (moved k e) ≡ g e +ℤ shift k) (es : List A) (n : ℕ) (x y : ℤ) where
  -- no copy has anything below the least of the list with the least shift added
  each_lowest : Each (λ e. Above x (g e)) es → ((k : ℕ) → k < n → Above y (shift k)) → Each (λ e. Above (x +ℤ y) (g e)) (joined (λ k. map (moved k) es) n)
  each_lowest p h = each_joined (λ e. Above (x +ℤ y) (g e)) (λ k. map (moved k) es) n (λ k l. each_map (λ e. Above (x +ℤ y) (g e)) (moved k) (each_so (λ e. Above (x +ℤ y) (g (moved k e))) (λ e q. rw (moves k e) (above_sum q (h k l))) p))

  -- no copy has anything above the greatest of the list with the greatest shift added
  each_highest : Each (λ e. Above (g e) x) es → ((k : ℕ) → k < n → Above (shift k) y) → Each (λ e. Above (g e) (x +ℤ y)) (joined (λ k. map (moved k) es) n)
  each_highest p h = each_joined (λ e. Above (g e) (x +ℤ y)) (λ k. map (moved k) es) n (λ k l. each_map (λ e. Above (g e) (x +ℤ y)) (moved k) (each_so (λ e. Above (g (moved k e)) (x +ℤ y)) (λ e q. rw (moves k e) (above_sum q (h k l))) p))

  -- a copy has what the list has, with its shift added
  some_extreme : Some (λ e. g e ≡ x) es → (k : ℕ) → k < n → shift k ≡ y → Some (λ e. g e ≡ x +ℤ y) (joined (λ k. map (moved k) es) n)
  some_extreme p k l e = some_joined (λ a. g a ≡ x +ℤ y) (λ k. map (moved k) es) n k l (some_map (λ a. g a ≡ x +ℤ y) (moved k) (some_so (λ a. g (moved k a) ≡ x +ℤ y) (λ a q. moves k a ∙ ap (λ (z : ℤ). z +ℤ shift k) q ∙ ap (λ (z : ℤ). x +ℤ z) e) p))

  -- the least of the copies is the least of the list with the least shift added
  pub lowest_images : Lowest (map g es) x → (at : ℕ) → at < n → shift at ≡ y → ((k : ℕ) → k < n → Above y (shift k)) → Lowest (map g (joined (λ k. map (moved k) es) n)) (x +ℤ y)
  lowest_images p at l e h = record {
    each = each_map (λ z. Above (x +ℤ y) z) g (each_lowest (each_unmap (λ z. Above x z) g es p.each) h);
    some = some_map (λ z. z ≡ x +ℤ y) g (some_extreme (some_unmap (λ z. z ≡ x) g es p.some) at l e);
  }

  -- the greatest of the copies is the greatest of the list with the greatest shift added
  pub highest_images : Highest (map g es) x → (at : ℕ) → at < n → shift at ≡ y → ((k : ℕ) → k < n → Above (shift k) y) → Highest (map g (joined (λ k. map (moved k) es) n)) (x +ℤ y)
  highest_images p at l e h = record {
    each = each_map (λ z. Above z (x +ℤ y)) g (each_highest (each_unmap (λ z. Above z x) g es p.each) h);
    some = some_map (λ z. z ≡ x +ℤ y) g (some_extreme (some_unmap (λ z. z ≡ x) g es p.some) at l e);
  }

module _ (shift : ℕ → ℤ) (l : List ℤ) (n : ℕ) (x y : ℤ) (at : ℕ) (below : at < n) (is : shift at ≡ y) where
  -- the least of copies of a list of integers
  pub lowest_joined : Lowest l x → ((k : ℕ) → k < n → Above y (shift k)) → Lowest (joined (λ k. map (λ z. z +ℤ shift k) l) n) (x +ℤ y)
  lowest_joined p h = record {
    each = each_lowest (λ z. z) (λ k z. z +ℤ shift k) shift (λ k z. refl) l n x y p.each h;
    some = some_extreme (λ z. z) (λ k z. z +ℤ shift k) shift (λ k z. refl) l n x y p.some at below is;
  }

  -- the greatest of copies of a list of integers
  pub highest_joined : Highest l x → ((k : ℕ) → k < n → Above (shift k) y) → Highest (joined (λ k. map (λ z. z +ℤ shift k) l) n) (x +ℤ y)
  highest_joined p h = record {
    each = each_highest (λ z. z) (λ k z. z +ℤ shift k) shift (λ k z. refl) l n x y p.each h;
    some = some_extreme (λ z. z) (λ k z. z +ℤ shift k) shift (λ k z. refl) l n x y p.some at below is;
  }

module _ (place : ℕ → ℤ) (ex : ℕ) (l : List ℤ) (n : ℕ) (x p : ℤ) (at : ℕ) (below : at < n) (is : place at ≡ p) where
  -- the least of copies at places counted in an extent
  pub lowest_places : Lowest l x → ((k : ℕ) → k < n → Above p (place k)) → Lowest (joined (λ k. map (λ z. z +ℤ place k *ℤ pos ex) l) n) (x +ℤ p *ℤ pos ex)
  lowest_places q h = lowest_joined (λ k. place k *ℤ pos ex) l n x (p *ℤ pos ex) at below (ap (λ (z : ℤ). z *ℤ pos ex) is) q (λ k b. above_times ex (h k b))

  -- the greatest of copies at places counted in an extent
  pub highest_places : Highest l x → ((k : ℕ) → k < n → Above (place k) p) → Highest (joined (λ k. map (λ z. z +ℤ place k *ℤ pos ex) l) n) (x +ℤ p *ℤ pos ex)
  highest_places q h = highest_joined (λ k. place k *ℤ pos ex) l n x (p *ℤ pos ex) at below (ap (λ (z : ℤ). z *ℤ pos ex) is) q (λ k b. above_times ex (h k b))
