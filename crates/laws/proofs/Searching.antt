-- Laws of `least_false` and `all`: what a search returns, and the invariant of the loop that makes it.
use Prim.Native.Nat.{ℕ, zero, suc, ◌+◌, ◌-◌, ◌≤◌, ◌<◌}
use mathlib.Core.Bool.{Bool, true, false, cond}
use mathlib.Core.Logic.{⊎_elim}
use mathlib.Core.Path.{◌≡◌, refl, sym, ap, ◌∙◌}
use native.Mathlib.Nat.{eq-or-lt_of_le}
use native.Mathlib.Omega.{arith}
use lib.Dec.{eqb}
use borrow.Author.Count.{below_more}
use borrow.Author.Rules.{rules}
use borrow.Author.Tests.{eq-eqb, ne_eqb, eqb-true, le-ltb, lt-ltb, le-leb, lt-leb}
use Rattle.laws.specs.Search.{least_false, all, IsFirst}
use Rattle.laws.proofs.Booleans.{eq_or_ne, lt_or_le, not_both, iff, flag_true, flag_false, unflag_true, unflag_false}

-- a search among the first n indices found f; then index n is looked at, which keeps the rule or not
abbrev searched : ℕ → ℕ → Bool → ℕ
searched n f keeps = cond (eqb f n) (cond keeps (suc n) n) f

searched_le : (n f : ℕ) (b : Bool) → f ≤ n → searched n f b ≤ suc n
searched_le n f b h = ⊎_elim (λ q. rw (eq-eqb f n q) (last b)) (λ q. rw (ne_eqb f n q) (omega arith)) (eq_or_ne f n)
  where
    last : (c : Bool) → cond c (suc n) n ≤ suc n
    last true = omega arith
    last false = omega arith

pub least_false_le : (p : ℕ → Bool) (n : ℕ) → least_false p n ≤ n
unfolding least_false
least_false_le p zero = omega arith
least_false_le p (suc n) = searched_le n (least_false p n) (p n) (least_false_le p n)

-- what is found is r, where r keeps to what a search finds
searched_is : (p : ℕ → Bool) (n r f : ℕ) → r ≤ suc n → ((k : ℕ) → k < r → p k ≡ true) → (r < suc n → p r ≡ false) → (n ≤ r → f ≡ n) → (r < n → f ≡ r) → r ≡ searched n f (p n)
searched_is p n r f le keeps breaks top low = ⊎_elim past (λ h. ⊎_elim (at h) (below h) (eq-or-lt_of_le (omega arith))) (eq-or-lt_of_le le)
  where
    past : r ≡ suc n → r ≡ searched n f (p n)
    past e = simp (eq-eqb f n (top (omega arith)), keeps n (omega arith)) e

    at : r < suc n → r ≡ n → r ≡ searched n f (p n)
    at h e = simp (eq-eqb f n (top (omega arith)), ap p (sym e) ∙ breaks h) e

    below : r < suc n → r < n → r ≡ searched n f (p n)
    below h l = let e = low l in simp (ne_eqb f n (λ q. omega arith)) (sym e)

-- a number within n that breaks the rule, if below n, and before which nothing does, is what the search finds
pub least_false_is : (p : ℕ → Bool) (n r : ℕ) → r ≤ n → ((k : ℕ) → k < r → p k ≡ true) → (r < n → p r ≡ false) → r ≡ least_false p n
unfolding least_false
least_false_is p zero r le keeps breaks = omega arith
least_false_is p (suc n) r le keeps breaks =
    searched_is p n r (least_false p n) le keeps breaks
    (λ h. sym (least_false_is p n n (omega arith) (λ k l. keeps k (omega arith)) (λ l. absurd (omega arith))))
    (λ h. sym (least_false_is p n r (omega arith) keeps (λ l. breaks (omega arith))))

-- ---- what is known of the index that is found

searched_keeps : (p : ℕ → Bool) (n f : ℕ) → ((k : ℕ) → k < f → p k ≡ true) → (k : ℕ) → k < searched n f (p n) → p k ≡ true
searched_keeps p n f keeps k l = ⊎_elim (λ q. ⊎_elim (λ e. ap p e ∙ top q e (p n) refl) (λ e. keeps k (omega arith)) (eq-or-lt_of_le {n = k} {m = n} (bound q (p n) refl))) (λ q. keeps k (simp (ne_eqb f n q) at l)) (eq_or_ne f n)
  where
    bound : f ≡ n → (b : Bool) → p n ≡ b → k ≤ n
    bound q true e = omega (arith, simp (eq-eqb f n q, e) at l)
    bound q false e = omega (arith, simp (eq-eqb f n q, e) at l)

    top : f ≡ n → k ≡ n → (b : Bool) → p n ≡ b → p n ≡ true
    top q d true e = e
    top q d false e = absurd (omega (arith, simp (eq-eqb f n q, e) at l))

pub least_false_keeps : (p : ℕ → Bool) (n k : ℕ) → k < least_false p n → p k ≡ true
unfolding least_false
least_false_keeps p zero k l = absurd (omega arith)
least_false_keeps p (suc n) k l = searched_keeps p n (least_false p n) (least_false_keeps p n) k l

searched_breaks : (p : ℕ → Bool) (n f : ℕ) → f ≤ n → (f < n → p f ≡ false) → searched n f (p n) < suc n → p (searched n f (p n)) ≡ false
searched_breaks p n f le breaks l = ⊎_elim (λ q. last q (p n) refl) (λ q. rw (ne_eqb f n q) (breaks (omega arith))) (eq_or_ne f n)
  where
    last : f ≡ n → (b : Bool) → p n ≡ b → p (searched n f (p n)) ≡ false
    last q true e = absurd (omega (arith, simp (eq-eqb f n q, e) at l))
    last q false e = simp (eq-eqb f n q, e)

pub least_false_breaks : (p : ℕ → Bool) (n : ℕ) → least_false p n < n → p (least_false p n) ≡ false
unfolding least_false
least_false_breaks p zero l = absurd (omega arith)
least_false_breaks p (suc n) l = searched_breaks p n (least_false p n) (least_false_le p n) (least_false_breaks p n) l

-- ---- the loop's invariant: nothing before i breaks the rule

pub record Passed (p : ℕ → Bool) (i n : ℕ) : Type 0 where
  pub reached : i ≤ n
  pub keeps : (k : ℕ) → k < i → p k ≡ true

pub passed_none : (p : ℕ → Bool) (n : ℕ) → Passed p 0 n
passed_none p n = record { reached = omega arith; keeps = λ k h. absurd (omega arith) }

pub passed_more : (p : ℕ → Bool) (i n : ℕ) → Passed p i n → i < n → p i ≡ true → Passed p (i + 1) n
passed_more p i n s l h = record { reached = omega arith; keeps = below_more _ _ s.keeps h }

pub passed_stop : (p : ℕ → Bool) (i n : ℕ) → Passed p i n → i < n → p i ≡ false → i ≡ least_false p n
passed_stop p i n s l h = least_false_is p n i s.reached s.keeps (λ q. h)

pub passed_end : (p : ℕ → Bool) (i n : ℕ) → Passed p i n → n ≤ i → i ≡ least_false p n
passed_end p i n s l = least_false_is p n i s.reached s.keeps (λ q. absurd (omega arith))

pub least_false_same : (p q : ℕ → Bool) (n : ℕ) → ((k : ℕ) → k < n → p k ≡ q k) → least_false p n ≡ least_false q n
least_false_same p q n h =
    least_false_is q n (least_false p n) (least_false_le p n) (λ k l. sym (h k (omega (arith, least_false_le p n))) ∙ least_false_keeps p n k l) (λ l. sym (h (least_false p n) l) ∙ least_false_breaks p n l)

-- ---- a search that ends at the last index at the latest: the first that breaks the rule, or the last one

pub ends_first : (p : ℕ → Bool) (n g : ℕ) → ((k : ℕ) → k < g → p k ≡ true) → g < n → p g ≡ false → least_false p (n - 1) ≡ g
ends_first p n g keeps l h = sym (least_false_is p (n - 1) g (omega arith) keeps (λ q. h))

pub ends_last : (p : ℕ → Bool) (n : ℕ) → ((k : ℕ) → k < n → p k ≡ true) → least_false p (n - 1) ≡ n - 1
ends_last p n keeps = sym (least_false_is p (n - 1) (n - 1) (omega arith) (λ k l. keeps k (omega arith)) (λ l. absurd (omega arith)))

pub ends_holds : (p : ℕ → Bool) (n : ℕ) → p (least_false p (n - 1)) ≡ true → (k : ℕ) → k < n → p k ≡ true
ends_holds p n h k l = ⊎_elim (λ e. ⊎_elim (last e) (λ b. least_false_keeps p (n - 1) k (omega arith)) (eq-or-lt_of_le {n = k} {m = n - 1} (omega arith))) (λ b. not_both h (least_false_breaks p (n - 1) b)) (eq-or-lt_of_le (least_false_le p (n - 1)))
  where
    last : least_false p (n - 1) ≡ n - 1 → k ≡ n - 1 → p k ≡ true
    last e q = ap p (q ∙ sym e) ∙ h

-- ---- the first index that breaks a rule

pub first_one : (breaks : ℕ → Type 0) (n i j : ℕ) → IsFirst breaks n i → IsFirst breaks n j → i ≡ j
first_one breaks n i j a b = ⊎_elim (λ e. e) (λ ne. ⊎_elim (λ l. absurd (b.earlier i l a.here)) (λ l. absurd (a.earlier j (omega arith) b.here)) (lt_or_le i j)) (eq_or_ne i j)

-- what the search finds is the first index at which a test fails, and nothing else is
pub first_false : (p : ℕ → Bool) (n : ℕ) → least_false p n < n → IsFirst (λ i. p i ≡ false) n (least_false p n)
first_false p n l = record { below = l; here = least_false_breaks p n l; earlier = λ k b e. not_both (least_false_keeps p n k b) e }

pub not_false_true : (b : Bool) → (b ≡ false → ⊥) → b ≡ true
not_false_true true h = refl
not_false_true false h = absurd (h refl)

pub not_true_false : (b : Bool) → (b ≡ true → ⊥) → b ≡ false
not_true_false true h = absurd (h refl)
not_true_false false h = refl

pub first_found : (p : ℕ → Bool) (n i : ℕ) → IsFirst (λ k. p k ≡ false) n i → i ≡ least_false p n
first_found p n i f = least_false_is p n i (omega (arith, f.below)) (λ k l. not_false_true (p k) (f.earlier k l)) (λ l. f.here)

-- ---- a rule that holds everywhere

pub all_intro : (p : ℕ → Bool) (n : ℕ) → ((k : ℕ) → k < n → p k ≡ true) → all p n ≡ true
unfolding all
all_intro p n h = eq-eqb (least_false p n) n (sym (least_false_is p n n (omega arith) h (λ l. absurd (omega arith))))

pub all_at : (p : ℕ → Bool) (n : ℕ) → all p n ≡ true → (k : ℕ) → k < n → p k ≡ true
unfolding all
all_at p n h k l = least_false_keeps p n k (omega (arith, eqb-true (least_false p n) n h))

pub all_same : (p q : ℕ → Bool) (n : ℕ) → ((k : ℕ) → k < n → p k ≡ q k) → all p n ≡ all q n
all_same p q n h = iff (all p n) (all q n) (λ e. all_intro q n (λ k l. sym (h k l) ∙ all_at p n e k l)) (λ e. all_intro p n (λ k l. h k l ∙ all_at q n e k l))

pub all_yes : (p : ℕ → Bool) (n r : ℕ) → r ≡ least_false p n → r ≡ n → all p n ≡ true
unfolding all
all_yes p n r e h = eq-eqb _ _ (sym e ∙ h)

pub all_no : (p : ℕ → Bool) (n r : ℕ) → r ≡ least_false p n → (r ≡ n → ⊥) → all p n ≡ false
unfolding all
all_no p n r e h = ne_eqb _ _ (λ q. h (e ∙ q))

pub passed_fails : (p : ℕ → Bool) (i n : ℕ) → Passed p i n → i < n → p i ≡ false → false ≡ all p n
passed_fails p i n s l h = sym (all_no p n i (passed_stop p i n s l h) (λ q. omega arith))

pub passed_holds : (p : ℕ → Bool) (i n : ℕ) → Passed p i n → n ≤ i → true ≡ all p n
passed_holds p i n s l = sym (all_yes p n i (passed_end p i n s l) (omega (arith, s.reached)))

pub all_below : (p : ℕ → Bool) (n : ℕ) → all p n ≡ false → least_false p n < n
unfolding all
all_below p n h = ⊎_elim (λ e. not_both (eq-eqb (least_false p n) n e) h) (λ l. l) (eq-or-lt_of_le (least_false_le p n))

pub all_reaches : (p : ℕ → Bool) (n : ℕ) → all p n ≡ true → n ≤ least_false p n
unfolding all
all_reaches p n h = omega (arith, eqb-true (least_false p n) n h)

pub all_fails : (p : ℕ → Bool) (n i : ℕ) → i < n → p i ≡ false → all p n ≡ false
all_fails p n i l h = not_true_false (all p n) (λ e. not_both (all_at p n e i l) h)

pub ruleset searching = (rules, le-ltb, lt-ltb, le-leb, lt-leb, eq-eqb, ne_eqb, flag_true, flag_false, unflag_true, unflag_false, passed_none, passed_more, passed_stop, passed_end, passed_fails, passed_holds)
