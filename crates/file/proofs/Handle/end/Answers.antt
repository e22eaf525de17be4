-- `end` answers what `call_query::end` answers, with the handle and the file record as they came. Assumes nothing.
use Rattle.file.proofs.Answering.{end_answered, end_refused}
use Rattle.file.proofs.Handle.end.Goals as goal

pub returns-in-Ok : goal.returns-in-Ok
returns-in-Ok c = end_answered _ _ c.lent.ensures _ _ _ c.in-Ok.ensures

pub returns-in-Err : goal.returns-in-Err
returns-in-Err c = end_refused _ _ c.lent.ensures _ _ _ _ c.number.ensures c.in-Err.ensures
