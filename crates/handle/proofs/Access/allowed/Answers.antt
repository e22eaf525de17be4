-- `allowed` tests the sign, the offset against 2^32, and the count against what is left up to it. Assumes nothing.
use Rattle.handle.proofs.Ranging.{accessing}
use Rattle.handle.proofs.Access.allowed.Goals as goal

pub returns-then-offset-lt-MIN_OFFSET : goal.returns-then-offset-lt-MIN_OFFSET
returns-then-offset-lt-MIN_OFFSET c = search accessing

pub returns-then-at-gt-OFFSET_COUNT : goal.returns-then-at-gt-OFFSET_COUNT
returns-then-at-gt-OFFSET_COUNT c = search accessing

pub returns : goal.returns
returns c = search accessing
