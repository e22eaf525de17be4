-- `set_view` refuses, or puts the accepted view and pointer 0 into the handle. Assumes nothing.
use Rattle.laws.proofs.Prelude.{refl, ap, not}
use Rattle.file.proofs.Answering.{set_handle, set_refuses, set_grants}
use Rattle.file.proofs.Handle.set_view.Goals as goal

pub returns-then-not-handle_valid : goal.returns-then-not-handle_valid
returns-then-not-handle_valid c =
    set_handle _ _ c.lent.ensures _ _ _ c.handle_valid.ensures (ap not c.if-not-handle_valid.true) _ c.unnamed.ensures _ c.set_view_refused.ensures

pub returns-in-Ok : goal.returns-in-Ok
returns-in-Ok c =
    set_grants _ _ _ _ _ _ _ _ _ c.ranges.displacement c.ranges.ex c.ranges.fx _ c.lent.ensures _ c.handle_valid.ensures (ap not c.if-not-handle_valid.false) _ c.in-Ok.ensures _ refl

pub returns-in-Err : goal.returns-in-Err
returns-in-Err c =
    set_refuses _ _ _ _ _ _ _ _ _ c.ranges.displacement c.ranges.ex c.ranges.fx _ c.lent.ensures _ c.handle_valid.ensures (ap not c.if-not-handle_valid.false) _ c.in-Err.ensures _ refl _ c.set_view_refused-in-Err.ensures
