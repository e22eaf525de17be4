-- `offset_allowed` tests the sign, and the offset against the last one. Assumes nothing.
use Rattle.handle.proofs.Ranging.{standing}
use Rattle.handle.proofs.offset_allowed.Goals as goal

pub returns-then-o-lt-MIN_OFFSET : goal.returns-then-o-lt-MIN_OFFSET
returns-then-o-lt-MIN_OFFSET c = search standing

pub returns : goal.returns
returns c = search standing
