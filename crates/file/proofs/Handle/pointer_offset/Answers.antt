-- `start` is the pointer as an offset, 0 for one that check 1 refuses. Assumes nothing.
use Rattle.handle.proofs.Ranging.{pointer_signed}
use Rattle.file.proofs.Checking.{start_past, start_at}
use Rattle.file.proofs.Handle.pointer_offset.Goals as goal

pub returns-then-self-gt-MAX_POINTER : goal.returns-then-self-gt-MAX_POINTER
returns-then-self-gt-MAX_POINTER c = search start_past

pub to_offset-requires : goal.to_offset-requires
to_offset-requires c = search pointer_signed

pub returns : goal.returns
returns c = search start_at
