-- Must be believed. Document 01, "When a view is accepted": the modes, 1 reading, 2 writing, 3 both.
use Rattle.std.specs.Prelude.{ℕ, Bool, eqb}
use Rattle.laws.specs.Checks.{either, within}

unfoldable pub mode_allowed : ℕ → Bool
mode_allowed mode = within 1 3 mode

unfoldable pub allows_reading : ℕ → Bool
allows_reading mode = either (eqb mode 1) (eqb mode 3)

unfoldable pub allows_writing : ℕ → Bool
allows_writing mode = either (eqb mode 2) (eqb mode 3)
