-- `write` is the write at the pointer as an offset, after which the pointer is raised by the count. Assumes nothing.
use borrow.Author.Rules.{rules}
use Rattle.file.proofs.Writable.{next_refused, pointer_fits, next_written}
use Rattle.file.proofs.Handle.write.Goals as goal

pub overflow_add-self : goal.overflow_add-self
overflow_add-self c = pointer_fits _ _ c.lent.ensures _ _ _ _ _ _ _ c.in-Ok.ensures

pub returns-in-Ok : goal.returns-in-Ok
returns-in-Ok c = next_written _ _ c.lent.ensures _ _ _ _ _ _ c.pointer_offset.ensures _ c.in-Ok.ensures

pub returns-in-Err : goal.returns-in-Err
returns-in-Err c = next_refused _ _ c.lent.ensures _ _ _ _ _ _ c.pointer_offset.ensures _ c.in-Err.ensures _ c.access_refused.ensures
