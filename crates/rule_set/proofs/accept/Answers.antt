-- `accept` goes along the chain: checks 2 to 6, then those from 7 on. Assumes nothing.
use Rattle.std.proofs.lemmas.Result.{err_from_is_err_and}
use Rattle.rule_set.proofs.Answering.{refused_limits, limits_leave, accepted_shaped}
use Rattle.rule_set.proofs.accept.Goals as goal

pub returns-in_err-limits_fault : goal.returns-in_err-limits_fault
returns-in_err-limits_fault c =
    let p = err_from_is_err_and c.from_residual.result c.from_residual.ensures.1 in
    rw (p.1, p.2) (refused_limits _ _ _ _ _ _ _ _ _ c.ranges.displacement c.ranges.ex c.ranges.fx _ c.in_err-limits_fault.ensures)

pub accept_lists-requires : goal.accept_lists-requires
accept_lists-requires c = limits_leave c.args.mode _ _ _ _ _ _ _ _ c.ranges.displacement c.ranges.ex c.ranges.fx _ c.in_ok-limits_fault.ensures

pub returns : goal.returns
returns c = accepted_shaped _ _ _ _ _ _ _ _ _ c.ranges.displacement c.ranges.ex c.ranges.fx _ c.in_ok-limits_fault.ensures _ c.accept_lists.ensures
