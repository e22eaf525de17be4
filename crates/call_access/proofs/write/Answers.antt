-- `write` refuses, or fills the gap and then stores the data. Assumes nothing.
use Rattle.std.proofs.Common.{rules, Err, ◌≡◌}
use Rattle.call_access.proofs.Writing.{write_refused, write_growable, filled_storable, write_made}
use Rattle.call_access.proofs.write.Goals as goal

pub returns-in_err-end : goal.returns-in_err-end
returns-in_err-end c =
    let e : c.from_residual.result ≡ Err c.in_err-end.field-0.0 = search rules in
    rw e (write_refused _ _ _ _ _ _ _ _ _ c.in_err-end.ensures)

pub grow-grown-requires : goal.grow-grown-requires
grow-grown-requires c = write_growable _ _ _ _ _ _ _ _ _ c.in_ok-end.ensures

pub scatter-requires : goal.scatter-requires
scatter-requires c = filled_storable _ _ _ _ _ _ _ _ _ c.in_ok-end.ensures _ _ c.grow-grown.ensures

pub returns : goal.returns
returns c = write_made _ _ _ _ _ _ _ _ _ c.in_ok-end.ensures _ _ c.grow-grown.ensures _ c.scatter.ensures
