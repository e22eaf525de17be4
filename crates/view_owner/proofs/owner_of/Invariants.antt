-- `owner_of` tries instance after instance. The invariant: no instance before g has a pair of the byte. Assumes nothing.
use Rattle.view_owner.proofs.Firsts.{Missed}
use Rattle.view_owner.proofs.Whole.{owner_from}
use Rattle.view_owner.proofs.owner_of.Given as goal

abbrev pub invariant-loop-g : goal.invariant-loop-g
invariant-loop-g l = Missed (owner_from l.view l.b.0) l.g l.view.numbers.filetype.instances
