-- `get_view_refused` has zeros. Assumes nothing.
use Rattle.file.proofs.Getting.{given_none}
use Rattle.file.proofs.view_setting.get_view_refused.Goals as goal

pub returns : goal.returns
returns c = search given_none
