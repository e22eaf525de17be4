-- Must be believed. Lists: an element by its index, and a list made of a function.
use Rattle.std.specs.Prelude.{ℕ, zero, suc, List, [], ◌∷◌, get_or}

-- element i of a list of numbers, 0 past its end
abbrev pub nth : List ℕ → ℕ → ℕ
nth l i = get_or l i 0

-- f 0, f 1 and so on, n elements
unfoldable pub tabulate : {A : Type 0} → (ℕ → A) → ℕ → List A
tabulate f zero = []
tabulate f (suc n) = f 0 ∷ tabulate (λ i. f (suc i)) n
