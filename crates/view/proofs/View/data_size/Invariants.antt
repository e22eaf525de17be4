-- `data_size` sums the widths. Assumes nothing.
use Rattle.view.proofs.Etypes.{Summed}
use Rattle.view.proofs.View.data_size.Given as goal

abbrev pub invariant-loop-i : goal.invariant-loop-i
invariant-loop-i l = Summed l.self.widths l.n l.i l.size
