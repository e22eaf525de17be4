-- `open` gives the default view and pointer 0, or refuses. Assumes nothing.
use Rattle.file.proofs.Answering.{open_refused, open_done}
use Rattle.file.proofs.Handle.open.Goals as goal

pub returns-then-mode-gt-MODE_BOTH : goal.returns-then-mode-gt-MODE_BOTH
returns-then-mode-gt-MODE_BOTH c = search open_refused

pub returns : goal.returns
returns c = search open_done
