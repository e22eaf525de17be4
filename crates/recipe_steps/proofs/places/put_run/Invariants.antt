-- `put_run` puts the numbers one by one. Assumes nothing.
use Rattle.laws.proofs.Prelude.{ℕ, ◌+◌, ◌<◌, ◌≡◌, nth}
use Rattle.recipe_steps.proofs.places.put_run.Given as goal

abbrev pub invariant-loop-j : goal.invariant-loop-j
invariant-loop-j l = (k : ℕ) → k < l.j → nth l.place-items k ≡ l.start + k
