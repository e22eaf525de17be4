-- `View::linear` is the default view: both sides compute to the same record. Assumes nothing.
use Rattle.laws.proofs.Prelude.{refl}
use Rattle.view.specs.Parts.{default_view}
use Rattle.view.proofs.View.linear.Goals as goal

pub returns : goal.returns
unfolding default_view
returns c = refl
