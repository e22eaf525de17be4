-- Laws of `greatest` and `total`.
use Prim.Native.Nat.{ℕ, zero, suc, ◌+◌, ◌*◌, ◌≤◌, ◌<◌, max}
use mathlib.Core.Logic.{⊎_elim}
use mathlib.Core.Path.{◌≡◌, refl, ap, ◌∙◌}
use native.Mathlib.Nat.{eq-or-lt_of_le}
use native.Mathlib.Numerals.{add-one}
use native.Mathlib.Omega.{arith}
use Rattle.laws.specs.Parts.{greatest}
use Rattle.laws.specs.Search.{total}
use Rattle.laws.proofs.Quotients.{times_more}
use Rattle.laws.proofs.Booleans.{lt_or_le}

-- each is at most the greatest
pub greatest_above : (f : ℕ → ℕ) (n i : ℕ) → i < n → f i ≤ greatest f n
unfolding greatest
greatest_above f zero i l = absurd (omega arith)
greatest_above f (suc n) i l = ⊎_elim (λ e. rw e (omega arith)) (λ q. omega (arith, greatest_above f n i q)) (eq-or-lt_of_le {n = i} {m = n} (omega arith))

-- what is at least each is at least the greatest
pub greatest_least : (f : ℕ → ℕ) (n b : ℕ) → ((i : ℕ) → i < n → f i ≤ b) → greatest f n ≤ b
unfolding greatest
greatest_least f zero b h = omega arith
greatest_least f (suc n) b h = omega (arith, greatest_least f n b (λ i l. h i (omega arith)), h n (omega arith))

-- the greatest, if it is above 0, is one of them
pub greatest_one : (f : ℕ → ℕ) (n : ℕ) → 0 < greatest f n → (i : ℕ) × ((i < n) × (f i ≡ greatest f n))
unfolding greatest
greatest_one f zero h = absurd (omega arith)
greatest_one f (suc n) h = ⊎_elim (λ q. let r = greatest_one f n (omega arith) in (r.0, (omega (arith, r.1.0), omega (arith, r.1.1)))) (λ q. (n, (omega arith, omega arith))) (lt_or_le (f n) (greatest f n))

pub greatest_same : (f g : ℕ → ℕ) (n : ℕ) → ((i : ℕ) → i < n → f i ≡ g i) → greatest f n ≡ greatest g n
unfolding greatest
greatest_same f g zero h = refl
greatest_same f g (suc n) h =
    let a = greatest_same f g n (λ i l. h i (omega arith)) in
    let b = h n (omega arith) in
    cc

-- the loop that takes a maximum: m is the greatest of the first i of n
pub record Highest (f : ℕ → ℕ) (i n m : ℕ) : Type 0 where
  pub reached : i ≤ n
  pub is : m ≡ greatest f i

pub highest_none : (f : ℕ → ℕ) (n : ℕ) → Highest f 0 n 0
unfolding greatest
highest_none f n = record { reached = omega arith; is = refl }

pub highest_more : (f : ℕ → ℕ) (i n m x r : ℕ) → Highest f i n m → i < n → x ≡ f i → r ≡ max m x → Highest f (i + 1) n r
unfolding greatest
highest_more f i n m x r g l hx hr = record { reached = omega arith; is = rw (add-one i) (hr ∙ ap (λ (z : ℕ). max z x) g.is ∙ ap (λ (z : ℕ). max (greatest f i) z) hx) }

pub highest_end : (f : ℕ → ℕ) (i n m : ℕ) → Highest f i n m → n ≤ i → m ≡ greatest f n
highest_end f i n m g l = g.is ∙ ap (greatest f) (omega (arith, g.reached))

pub ruleset maxima = (highest_none, highest_more, highest_end)

-- ---- sums

pub total_more : (f : ℕ → ℕ) (i : ℕ) → total f (i + 1) ≡ total f i + f i
unfolding total
total_more f i = rw (add-one i)

-- the sum up to i and i's own part are within the sum of more
pub total_part : (f : ℕ → ℕ) (i n : ℕ) → i < n → total f i + f i ≤ total f n
unfolding total
total_part f i zero l = absurd (omega arith)
total_part f i (suc n) l = ⊎_elim (λ e. rw e (omega arith)) (λ q. omega (arith, total_part f i n q)) (eq-or-lt_of_le {n = i} {m = n} (omega arith))

-- the part in which a number below the sum lies
pub total_find : (f : ℕ → ℕ) (n j : ℕ) → j < total f n → (i : ℕ) × ((i < n) × (total f i ≤ j) × (j < total f i + f i))
unfolding total
total_find f zero j h = absurd (omega arith)
total_find f (suc n) j h = ⊎_elim (λ q. let r = total_find f n j q in (r.0, (omega (arith, r.1.0), r.1.1, r.1.2))) (λ q. (n, (omega arith, q, h))) (lt_or_le j (total f n))

pub total_same : (f g : ℕ → ℕ) (n : ℕ) → ((i : ℕ) → i < n → f i ≡ g i) → total f n ≡ total g n
unfolding total
total_same f g zero h = refl
total_same f g (suc n) h =
    let a = total_same f g n (λ i l. h i (omega arith)) in
    let b = h n (omega arith) in
    cc

-- parts that are at most b each
pub total_most : (f : ℕ → ℕ) (n b : ℕ) → ((i : ℕ) → i < n → f i ≤ b) → total f n ≤ n * b
unfolding total
total_most f zero b h = omega arith
total_most f (suc n) b h = rw (← add-one n, times_more n b) (omega (arith, total_most f n b (λ i l. h i (omega arith)), h n (omega arith)))
