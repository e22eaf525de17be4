-- Need not be believed. What the functions of this crate test, rule by rule, on k origins ps: `rule_view::is_accepted` and `rule_set::accept` have the paper's definitions in their contracts, and the proofs show that these make them up.
use Rattle.std.specs.Prelude.{ℕ, ◌+◌, ◌-◌, ◌%◌, ◌≤◌, ◌<◌, Bool, List, leb, eqb}
use Rattle.laws.specs.Search.{all}
use Rattle.laws.specs.Lists.{nth}
use Rattle.view.specs.Parts.{max_instances, max_entry_end}
use Rattle.view.specs.Rules.{hole}

-- k origins within the limit
pub record OriginsValid (k : ℕ) (ps : List ℕ) : Type 0 where
  pub some : 0 < k
  pub few : k ≤ max_instances
  pub small : (g : ℕ) → g < k → nth ps g ≤ max_entry_end

-- each instance ends within the limit
unfoldable pub reach_at : List ℕ → ℕ → ℕ → Bool
reach_at ps reach g = leb (nth ps g + reach) max_entry_end

-- a from the beginning of instance g is at most b from the beginning of the next
unfoldable pub step_at : List ℕ → ℕ → ℕ → ℕ → Bool
step_at ps a b g = leb (nth ps g + a) (nth ps (g + 1) + b)

unfoldable pub origins_step : List ℕ → ℕ → ℕ → ℕ → Bool
origins_step ps k a b = all (step_at ps a b) (k - 1)

-- the hole before instance i is a multiple of e
unfoldable pub hole_fits : List ℕ → ℕ → ℕ → ℕ → ℕ → Bool
hole_fits ps k e f i = eqb (hole (nth ps) k e f i % e) 0
