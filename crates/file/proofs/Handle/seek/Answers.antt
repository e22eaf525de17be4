-- `seek` refuses, or puts the pointer where `call_query::seek` says. Assumes nothing.
use Rattle.file.proofs.Answering.{seek_refused_law, seek_done}
use Rattle.file.proofs.Handle.seek.Goals as goal

pub returns-in-Ok : goal.returns-in-Ok
returns-in-Ok c = seek_done _ _ c.lent.ensures _ _ _ _ c.ranges.by _ c.in-Ok.ensures

pub returns-in-Err : goal.returns-in-Err
returns-in-Err c = seek_refused_law _ _ c.lent.ensures _ _ _ _ c.ranges.by _ c.in-Err.ensures _ c.seek_refused.ensures
