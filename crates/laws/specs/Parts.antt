-- Need not be believed. Stores into a list, and maxima: what inner definitions compute with.
use Rattle.std.specs.Prelude.{ℕ, zero, suc, max, List, set}

-- value i stored at place i, for each i below n in turn
unfoldable pub store : {A : Type 0} → (ℕ → ℕ) → (ℕ → A) → ℕ → List A → List A
store place value zero l = l
store place value (suc n) l = set (store place value n l) (place n) (value n)

-- value i stored at index i, for each i below n
abbrev pub front : {A : Type 0} → (ℕ → A) → ℕ → List A → List A
front value n l = store (λ i. i) value n l

-- the greatest of f i for i below n; 0 if there is none
unfoldable pub greatest : (ℕ → ℕ) → ℕ → ℕ
greatest f zero = 0
greatest f (suc n) = max (greatest f n) (f n)
