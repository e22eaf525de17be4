-- `seek_base` goes by the whence. Assumes nothing.
use Rattle.handle.proofs.Ranging.{pointer_signed}
use Rattle.call_query.proofs.Seeking.{base_set, base_current, base_end}
use Rattle.call_query.proofs.seek_base.Goals as goal

pub returns-in-0 : goal.returns-in-0
returns-in-0 c = search base_set

pub to_offset-requires : goal.to_offset-requires
to_offset-requires c = search pointer_signed

pub returns-in-1 : goal.returns-in-1
returns-in-1 c = search base_current

pub returns-in_default : goal.returns-in_default
returns-in_default c = search base_end
