-- `numbers_into` stores each number at its index. Assumes nothing.
use Rattle.laws.proofs.Prelude.{storing}
use Rattle.tagged_fields.proofs.Fronts.{front_lent}
use Rattle.tagged_fields.proofs.numbers_into.Goals as goal

pub loop-i-init : goal.loop-i-init
loop-i-init c = search storing

pub loop-i-preserved : goal.loop-i-preserved
loop-i-preserved c = search storing

pub returns : goal.returns
returns c = search front_lent
