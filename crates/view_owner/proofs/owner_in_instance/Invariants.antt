-- `owner_in_instance` tries entry after entry. The invariant: no entry before i has a pair of the byte, and their widths are summed. Assumes nothing.
use Rattle.view_owner.proofs.Instances.{Tried}
use Rattle.view_owner.proofs.owner_in_instance.Given as goal

abbrev pub invariant-loop-i : goal.invariant-loop-i
invariant-loop-i l = Tried l.n l.view.widths l.view.displacements l.view.numbers.filetype.extent l.view.numbers.filetype.instances l.g l.begin.0 l.b.0 l.i l.packed
