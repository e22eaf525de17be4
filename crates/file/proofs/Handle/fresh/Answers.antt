-- `fresh` has the default view and pointer 0. Assumes nothing.
use Rattle.file.proofs.Checking.{fresh_is}
use Rattle.file.proofs.Handle.fresh.Goals as goal

pub returns : goal.returns
returns c = search (fresh_is)
