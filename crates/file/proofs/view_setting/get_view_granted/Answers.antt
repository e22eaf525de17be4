-- `get_view_granted` has the numbers of a valid view. Assumes nothing.
use Rattle.file.proofs.Getting.{given_view, entries_fit_law}
use Rattle.file.proofs.view_setting.get_view_granted.Goals as goal

pub overflow_mul-all : goal.overflow_mul-all
overflow_mul-all c = search entries_fit_law

pub returns : goal.returns
returns c = search given_view
