-- `reverse` answers what `call_query::reverse` answers, with the handle as it came. Assumes nothing.
use Rattle.file.proofs.Answering.{owner_answered, owner_refused}
use Rattle.file.proofs.Handle.reverse.Goals as goal

pub returns-in-Ok : goal.returns-in-Ok
returns-in-Ok c = owner_answered _ _ c.lent.ensures _ _ c.in-Ok.ensures

pub returns-in-Err : goal.returns-in-Err
returns-in-Err c = owner_refused _ _ c.lent.ensures _ _ _ c.number.ensures c.in-Err.ensures
