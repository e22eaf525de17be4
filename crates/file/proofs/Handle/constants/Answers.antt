-- `constants` is what document 01 says: both sides compute to the same record. Assumes nothing.
use Rattle.laws.proofs.Prelude.{refl}
use Rattle.file.specs.Constants.{constants_on_paper}
use Rattle.file.proofs.Handle.constants.Goals as goal

pub returns : goal.returns
unfolding constants_on_paper
returns c = refl
