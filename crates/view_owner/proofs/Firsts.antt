-- Laws of `first_owner`: what the loop over answers keeps and returns, the same as a search, and answers in runs.
use Rattle.laws.proofs.Prelude.{ℕ, zero, suc, ◌+◌, ◌*◌, ◌≤◌, ◌<◌, ◌≡◌, refl, sym, ap, ◌∙◌, Bool, true, false, cond, not, ⊎_elim, arith, add-zero, add-suc, eq-or-lt_of_le, zero-mul, add-one, ltb, lt-ltb, le-ltb, not-true, not-false, least_false, lt_or_le, least_false_keeps, least_false_breaks, times_more}
use Rattle.std.proofs.Common.{Option, Some, None}
use Rattle.view.specs.declared.Pair.{Pair}
use Rattle.view_owner.specs.Parts.{or_else, first_owner}

or_assoc : (a b c : Option Pair) → or_else (or_else a b) c ≡ or_else a (or_else b c)
unfolding or_else
or_assoc (Some p) b c = refl
or_assoc None b c = refl

or_none : (a : Option Pair) → or_else a None ≡ a
unfolding or_else
or_none (Some p) = refl
or_none None = refl

module _ (answer : ℕ → Option Pair) where
  -- answers that all name nobody
  first_none : (n : ℕ) → ((i : ℕ) → i < n → answer i ≡ None) → first_owner answer n ≡ None
  unfolding first_owner or_else
  first_none zero h = refl
  first_none (suc n) h = rw (first_none n (λ i l. h i (omega arith))) (h n (omega arith))

  -- a pair that was found stays
  first_stays : (n : ℕ) (p : Pair) (i : ℕ) → i ≤ n → first_owner answer i ≡ Some p → first_owner answer n ≡ Some p
  unfolding first_owner or_else
  first_stays zero p i l e = let z : i ≡ 0 = omega arith in rw z at e
  first_stays (suc n) p i l e = ⊎_elim (λ q. rw q at e) (λ q. rw (first_stays n p i (omega arith) e)) (eq-or-lt_of_le l)

  first_found : (n : ℕ) (p : Pair) (i : ℕ) → i < n → first_owner answer i ≡ None → answer i ≡ Some p → first_owner answer n ≡ Some p
  unfolding first_owner or_else
  first_found n p i l e h = first_stays n p (suc i) (omega arith) (rw e h)

  -- the first m answers, and n more
  first_add : (m n : ℕ) → first_owner answer (m + n) ≡ or_else (first_owner answer m) (first_owner (λ i. answer (m + i)) n)
  unfolding first_owner
  first_add m zero = rw add-zero (sym (or_none (first_owner answer m)))
  first_add m (suc n) = rw (add-suc, first_add m n) (or_assoc (first_owner answer m) (first_owner (λ i. answer (m + i)) n) (answer (m + n)))

  -- k runs of n answers
  pub first_runs : (k n : ℕ) → first_owner answer (k * n) ≡ first_owner (λ g. first_owner (λ i. answer (g * n + i)) n) k
  unfolding first_owner
  first_runs zero n = rw zero-mul
  first_runs (suc k) n = rw (← add-one k, times_more k n, first_add (k * n) n, first_runs k n)

pub first_same : (answer other : ℕ → Option Pair) (n : ℕ) → ((i : ℕ) → i < n → answer i ≡ other i) → first_owner answer n ≡ first_owner other n
unfolding first_owner
first_same answer other zero h = refl
first_same answer other (suc n) h =
    let a = first_same answer other n (λ i l. h i (omega arith)) in
    let b = h n (omega arith) in
    cc

-- the first pair is what a search for the first hit names
module _ (hit : ℕ → Bool) (pair : ℕ → Pair) where
  answer_at : ℕ → Option Pair
  answer_at i = cond (hit i) (Some (pair i)) None

  answer_miss : (i : ℕ) → hit i ≡ false → answer_at i ≡ None
  unfolding answer_at
  answer_miss i h = rw h

  answer_hit : (i : ℕ) → hit i ≡ true → answer_at i ≡ Some (pair i)
  unfolding answer_at
  answer_hit i h = rw h

  module _ (n : ℕ) where
    found : ℕ
    found = least_false (λ i. not (hit i)) n

    missed_below : (i : ℕ) → i < found → answer_at i ≡ None
    unfolding found
    missed_below i l = answer_miss i (not-true (hit i) (least_false_keeps (λ i. not (hit i)) n i l))

    hit_there : found < n → hit found ≡ true
    unfolding found
    hit_there l = not-false (hit found) (least_false_breaks (λ i. not (hit i)) n l)

    first_search : first_owner answer_at n ≡ cond (ltb found n) (Some (pair found)) None
    first_search =
        ⊎_elim (λ l. rw (lt-ltb found n l) (first_found answer_at n (pair found) found l (first_none answer_at found missed_below) (answer_hit found (hit_there l))))
        (λ l. rw (le-ltb found n l) (first_none answer_at n (λ i q. missed_below i (omega arith))))
        (lt_or_le found n)

  pub first_searched : (n : ℕ) → first_owner (λ i. cond (hit i) (Some (pair i)) None) n ≡ cond (ltb (least_false (λ i. not (hit i)) n) n) (Some (pair (least_false (λ i. not (hit i)) n))) None
  unfolding answer_at found
  first_searched n = first_search n

-- ---- the loop's invariant: the first i of n answers name nobody

pub record Missed (answer : ℕ → Option Pair) (i n : ℕ) : Type 0 where
  pub reached : i ≤ n
  pub none : first_owner answer i ≡ None

module _ (answer : ℕ → Option Pair) (n : ℕ) where
  pub missed_none : Missed answer 0 n
  unfolding first_owner
  missed_none = record { reached = omega arith; none = refl }

  module _ (i : ℕ) (m : Missed answer i n) where
    pub missed_end : n ≤ i → None ≡ first_owner answer n
    missed_end l = sym m.none ∙ ap (first_owner answer) (omega (arith, m.reached))

    module _ (l : i < n) (r : Option Pair) (e : r ≡ answer i) where
      pub missed_more : r ≡ None → Missed answer (i + 1) n
      unfolding first_owner or_else
      missed_more h = record { reached = omega arith; none = rw (add-one i, m.none) (sym e ∙ h) }

      pub missed_stop : (p : Pair) → r ≡ Some p → Some p ≡ first_owner answer n
      missed_stop p h = sym (first_found answer n p i l m.none (sym e ∙ h))
