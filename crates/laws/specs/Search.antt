-- Must be believed. Searches and sums over the indices below n.
use Rattle.std.specs.Prelude.{ℕ, zero, suc, ◌+◌, ◌<◌, Bool, cond, eqb}

-- the least i below n at which p is false; n if there is none
unfoldable pub least_false : (ℕ → Bool) → ℕ → ℕ
least_false p zero = 0
least_false p (suc n) = cond (eqb (least_false p n) n) (cond (p n) (suc n) n) (least_false p n)

-- p is true at each i below n
unfoldable pub all : (ℕ → Bool) → ℕ → Bool
all p n = eqb (least_false p n) n

-- i is the first index below n that breaks a rule: it does, and no earlier one does
pub record IsFirst (breaks : ℕ → Type 0) (n i : ℕ) : Type 0 where
  pub below : i < n
  pub here : breaks i
  pub earlier : (k : ℕ) → k < i → breaks k → ⊥

-- the sum of f i for i below n
unfoldable pub total : (ℕ → ℕ) → ℕ → ℕ
total f zero = 0
total f (suc n) = total f n + f n
