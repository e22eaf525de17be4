-- `mode_got` is 3 for an open that names no mode, else the mode named. Assumes nothing.
use Rattle.file.proofs.Checking.{mode_unnamed, mode_named}
use Rattle.file.proofs.opening.mode_got.Goals as goal

pub returns-then-mode-eq-MODE_UNNAMED : goal.returns-then-mode-eq-MODE_UNNAMED
returns-then-mode-eq-MODE_UNNAMED c = search mode_unnamed

pub returns-else-mode-eq-MODE_UNNAMED : goal.returns-else-mode-eq-MODE_UNNAMED
returns-else-mode-eq-MODE_UNNAMED c = search mode_named
