-- `byte_offset` answers what `call_query::byte_offset` answers, with the handle as it came. Assumes nothing.
use Rattle.file.proofs.Answering.{place_answered, place_refused}
use Rattle.file.proofs.Handle.byte_offset.Goals as goal

pub returns-in-Ok : goal.returns-in-Ok
returns-in-Ok c = place_answered _ _ c.lent.ensures _ _ c.in-Ok.ensures

pub returns-in-Err : goal.returns-in-Err
returns-in-Err c = place_refused _ _ c.lent.ensures _ _ _ c.number.ensures c.in-Err.ensures
