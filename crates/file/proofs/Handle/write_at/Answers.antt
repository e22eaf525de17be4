-- `write_at` answers what `call_access::write` answers, with the handle as it came. Assumes nothing.
use Rattle.file.proofs.Writable.{at_written, at_refused}
use Rattle.file.proofs.Handle.write_at.Goals as goal

pub returns-in-Ok : goal.returns-in-Ok
returns-in-Ok c = at_written _ _ c.lent.ensures _ _ _ _ _ _ _ c.in-Ok.ensures

pub returns-in-Err : goal.returns-in-Err
returns-in-Err c = at_refused _ _ c.lent.ensures _ _ _ _ _ _ _ c.in-Err.ensures _ c.access_refused.ensures
