-- `numbers_into` stores each number at its index. Assumes nothing.
use Rattle.laws.proofs.Prelude.{◌≡◌, front}
use Rattle.tagged_fields.specs.Numbers.{number_from}
use Rattle.tagged_fields.proofs.numbers_into.Given as goal

abbrev pub invariant-loop-i : goal.invariant-loop-i
invariant-loop-i l = l.place-items ≡ front (number_from l.body l.from) l.i l.initial.place-items
