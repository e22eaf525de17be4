-- What the program's calls require: a view that passed the test is valid, and its first offsets are allowed.
use Rattle.laws.proofs.Prelude.{ℕ, ◌<◌, ◌≡◌, ap, ◌∙◌, Bool, true, false, not, List, arith, ℤ, pos, rules, lt-ltb, unflag_true}
use Rattle.view.specs.declared.View.{View}
use Rattle.view.specs.Limits.{offset_allowed}
use Rattle.view.specs.Types.{paper}
use Rattle.view.specs.Acceptance.{accepted, Valid}
use Rattle.view.proofs.Accepted.{accepted_valid}
use Rattle.view_place.specs.Parts.{Tiled, OriginsLow}
use Rattle.view_place.proofs.Laid.{tiled, origins_low}

module _ (v : View) (mode : ℕ) (t : Bool) (e : t ≡ accepted mode (paper v)) (h : not t ≡ false) where
  valid : Valid (paper v)
  valid = accepted_valid mode (paper v) (unflag_true t _ e h)

  pub tested_tiled : Tiled v.numbers
  tested_tiled = tiled v valid

  pub tested_origins : OriginsLow v.numbers v.origins
  tested_origins = origins_low v valid

pub first_allowed : (z : ℤ) (o : ℕ) → z ≡ pos o → o < 6 → offset_allowed z ≡ true
unfolding offset_allowed
first_allowed z o e l = ap offset_allowed e ∙ lt-ltb o 4294967296 (omega arith)

pub ruleset showing = (rules, tested_tiled, tested_origins, first_allowed)
