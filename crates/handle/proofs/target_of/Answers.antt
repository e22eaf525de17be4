-- `target_of` adds in 64 bits, and compares the sum with 2^32. Assumes nothing.
use Rattle.laws.proofs.Prelude.{rules}
use Rattle.handle.proofs.Ranging.{sought_none, sought_high, sought_within}
use Rattle.handle.proofs.target_of.Goals as goal

pub returns-in_err-pointer : goal.returns-in_err-pointer
returns-in_err-pointer c = search (rules, sought_none, c.in_err-pointer.ensures)

pub returns-then-pointer-gt-OFFSET_COUNT : goal.returns-then-pointer-gt-OFFSET_COUNT
returns-then-pointer-gt-OFFSET_COUNT c = search (rules, sought_high, c.in_ok-pointer.ensures)

pub returns : goal.returns
returns c = search (rules, sought_within, c.in_ok-pointer.ensures)
