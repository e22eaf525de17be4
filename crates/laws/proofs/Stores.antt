-- Laws of `tabulate` and `store`.
use Prim.Native.Nat.{ℕ, zero, suc, ◌+◌, ◌≤◌, ◌<◌}
use mathlib.Core.List.{List, ◌∷◌, ◌++◌}
use mathlib.Core.Logic.{⊎_elim, ◌≢◌}
use mathlib.Core.Path.{◌≡◌, refl, sym, ap, ◌∙◌, subst}
use native.Mathlib.Nat.{eq-or-lt_of_le, zero-add, suc-add}
use native.Mathlib.Numerals.{add-one}
use native.Mathlib.Omega.{arith}
use borrow.Author.Rules.{rules}
use lib.ListN.{length, get_or, set, length-set}
use lib.Seq.{get_or-set_same, get_or-set_other, ext_get_or}
use Rattle.laws.specs.Lists.{tabulate}
use Rattle.laws.specs.Parts.{store, front}

pub length_tabulate : {A : Type 0} (f : ℕ → A) (n : ℕ) → length (tabulate f n) ≡ n
unfolding tabulate
length_tabulate f zero = refl
length_tabulate f (suc n) = ap suc (length_tabulate (λ i. f (suc i)) n)

pub tabulate_at : {A : Type 0} (f : ℕ → A) (n i : ℕ) (d : A) → i < n → get_or (tabulate f n) i d ≡ f i
unfolding tabulate
tabulate_at f zero i d l = absurd (omega arith)
tabulate_at f (suc n) zero d l = refl
tabulate_at f (suc n) (suc i) d l = tabulate_at (λ k. f (suc k)) n i d (omega arith)

pub tabulate_same : {A : Type 0} (f g : ℕ → A) (n : ℕ) → ((i : ℕ) → i < n → f i ≡ g i) → tabulate f n ≡ tabulate g n
unfolding tabulate
tabulate_same f g zero h = refl
tabulate_same f g (suc n) h =
    let a = h 0 (omega arith) in
    let b = tabulate_same (λ i. f (suc i)) (λ i. g (suc i)) n (λ i l. h (suc i) (omega arith)) in
    cc

-- a list is the table of its elements
pub tabulate_is : {A : Type 0} (f : ℕ → A) (n : ℕ) (d : A) (l : List A) → length l ≡ n → ((i : ℕ) → i < n → f i ≡ get_or l i d) → tabulate f n ≡ l
tabulate_is f n d l e h = ext_get_or d (tabulate f n) l (length_tabulate f n ∙ sym e) (λ i q. let b : i < n = omega (arith, length_tabulate f n) in tabulate_at f n i d b ∙ h i b)

-- a list of a elements, then b more
pub tabulate_add : {A : Type 0} (f : ℕ → A) (a b : ℕ) → tabulate f (a + b) ≡ tabulate f a ++ tabulate (λ k. f (a + k)) b
unfolding tabulate
tabulate_add f zero b = rw zero-add (tabulate_same f (λ k. f (0 + k)) b (λ i l. ap f (sym (zero-add i))))
tabulate_add f (suc a) b = rw suc-add (ap (λ l. f 0 ∷ l) (tabulate_add (λ k. f (suc k)) a b ∙ ap (λ l. tabulate (λ k. f (suc k)) a ++ l) (tabulate_same (λ k. f (suc (a + k))) (λ k. f (suc a + k)) b (λ i l. ap f (sym (suc-add a i))))))

-- ---- stores

pub length_store : {A : Type 0} (place : ℕ → ℕ) (value : ℕ → A) (n : ℕ) (l : List A) → length (store place value n l) ≡ length l
unfolding store
length_store place value zero l = refl
length_store place value (suc n) l = rw length-set (length_store place value n l)

pub store_none : {A : Type 0} (place : ℕ → ℕ) (value : ℕ → A) (l : List A) → l ≡ store place value 0 l
unfolding store
store_none place value l = refl

-- one store more, as a loop makes it
pub store_more : {A : Type 0} (place : ℕ → ℕ) (value : ℕ → A) (n p : ℕ) (x : A) (l₀ l : List A) → l ≡ store place value n l₀ → p ≡ place n → x ≡ value n → set l p x ≡ store place value (n + 1) l₀
unfolding store
store_more place value n p x l₀ l e ep ex = rw (add-one n) (cc)

pub store_end : {A : Type 0} (place : ℕ → ℕ) (value : ℕ → A) (i n : ℕ) (l₀ l : List A) → l ≡ store place value i l₀ → i ≤ n → n ≤ i → l ≡ store place value n l₀
store_end place value i n l₀ l e a b = let h : i ≡ n = omega arith in cc

pub ruleset storing = (rules, store_none, store_more, store_end)

-- a place that no store goes to
pub store_other : {A : Type 0} (place : ℕ → ℕ) (value : ℕ → A) (n : ℕ) (l : List A) (d : A) (b : ℕ) → ((k : ℕ) → k < n → b ≢ place k) → get_or (store place value n l) b d ≡ get_or l b d
unfolding store
store_other place value zero l d b h = refl
store_other place value (suc n) l d b h =
    get_or-set_other (store place value n l) (place n) b (value n) d (h n (omega arith)) ∙ store_other place value n l d b (λ k q. h k (omega arith))

-- the place of store j, to which no later store goes
pub store_at : {A : Type 0} (place : ℕ → ℕ) (value : ℕ → A) (n : ℕ) (l : List A) (d : A) (j : ℕ) → j < n → place j < length l → ((k : ℕ) → k < n → j < k → place j ≢ place k) → get_or (store place value n l) (place j) d ≡ value j
unfolding store
store_at place value zero l d j q f h = absurd (omega arith)
store_at place value (suc n) l d j q f h = ⊎_elim last (λ b. before b (store_at place value n l d j b f (λ k x y. h k (omega arith) y))) (eq-or-lt_of_le {n = j} {m = n} (omega arith))
  where
    last : j ≡ n → get_or (set (store place value n l) (place n) (value n)) (place j) d ≡ value j
    last e = rw e (get_or-set_same (store place value n l) (place n) (value n) d (rw (length_store place value n l) (subst (λ (x : ℕ). place x < length l) e f)))

    before : j < n → get_or (store place value n l) (place j) d ≡ value j → get_or (set (store place value n l) (place n) (value n)) (place j) d ≡ value j
    before b e = get_or-set_other (store place value n l) (place n) (place j) (value n) d (h n (omega arith) b) ∙ e

pub store_same : {A : Type 0} (place : ℕ → ℕ) (value : ℕ → A) (place' : ℕ → ℕ) (value' : ℕ → A) (n : ℕ) (l : List A) → ((k : ℕ) → k < n → place k ≡ place' k) → ((k : ℕ) → k < n → value k ≡ value' k) → store place value n l ≡ store place' value' n l
unfolding store
store_same place value place' value' zero l hp hv = refl
store_same place value place' value' (suc n) l hp hv =
    let e = store_same place value place' value' n l (λ k q. hp k (omega arith)) (λ k q. hv k (omega arith)) in
    let p = hp n (omega arith) in
    let v = hv n (omega arith) in
    cc

-- an element of the front, and one behind it
pub front_at : {A : Type 0} (value : ℕ → A) (n : ℕ) (l : List A) (d : A) (i : ℕ) → i < n → i < length l → get_or (front value n l) i d ≡ value i
front_at value n l d i a b = store_at (λ k. k) value n l d i a b (λ k x y. λ e. omega arith)

pub front_past : {A : Type 0} (value : ℕ → A) (n : ℕ) (l : List A) (d : A) (i : ℕ) → n ≤ i → get_or (front value n l) i d ≡ get_or l i d
front_past value n l d i a = store_other (λ k. k) value n l d i (λ k x. λ e. omega arith)
