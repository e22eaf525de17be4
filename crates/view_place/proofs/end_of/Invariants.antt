-- `end_of` takes the greatest over the instances, which is end of file. The invariant: `end` is the greatest of the first i. Assumes nothing.
use Rattle.laws.proofs.Prelude.{Highest}
use Rattle.view_place.specs.Parts.{end_at}
use Rattle.view_place.proofs.end_of.Given as goal

abbrev pub invariant-loop-i : goal.invariant-loop-i
invariant-loop-i l = Highest (end_at l.view.numbers l.view.origins l.size) l.i l.view.numbers.filetype.instances l.end
