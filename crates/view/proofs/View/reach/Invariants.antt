-- `reach` takes the greatest of the entries' ends. Assumes nothing.
use Rattle.laws.proofs.Prelude.{Highest}
use Rattle.view.specs.Parts.{entry_end, EntriesValid}
use Rattle.view.proofs.View.reach.Given as goal

abbrev pub invariant-loop-i : goal.invariant-loop-i
invariant-loop-i l = EntriesValid l.n l.self.widths l.self.displacements × Highest (entry_end l.self.widths l.self.displacements) l.i l.n l.reach
