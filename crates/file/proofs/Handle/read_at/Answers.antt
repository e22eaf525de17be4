-- `read_at` answers what `call_access::read` answers, with the handle and the file record as they came. Assumes nothing.
use Rattle.file.proofs.Readable.{at_moved, at_refused}
use Rattle.file.proofs.Handle.read_at.Goals as goal

pub returns-in-Ok : goal.returns-in-Ok
returns-in-Ok c = at_moved _ _ c.lent.ensures _ _ _ _ _ _ _ c.in-Ok.ensures

pub returns-in-Err : goal.returns-in-Err
returns-in-Err c = at_refused _ _ c.lent.ensures _ _ _ _ _ _ _ c.in-Err.ensures _ c.access_refused.ensures
