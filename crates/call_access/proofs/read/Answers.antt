-- `read` follows the checks of a read, and moves what `gather` moves. Assumes nothing.
use Rattle.std.proofs.Common.{rules, Err, ◌≡◌}
use Rattle.view.specs.Parts.{refusal_in}
use Rattle.call_access.proofs.Reading.{read_refused, read_movable, read_made}
use Rattle.call_access.proofs.read.Goals as goal

pub returns-in_err-access_refusal : goal.returns-in_err-access_refusal
unfolding refusal_in
returns-in_err-access_refusal c =
    let e : c.from_residual.result ≡ Err c.in_err-access_refusal.field-0.0 = search rules in
    rw e (read_refused _ _ _ _ _ _ _ _ _ c.allows_reading-allowed.ensures _ c.in_err-access_refusal.ensures)

pub gather-requires : goal.gather-requires
unfolding refusal_in
gather-requires c = read_movable _ _ _ _ _ _ _ _ _ c.allows_reading-allowed.ensures c.in_ok-access_refusal.ensures

pub returns : goal.returns
unfolding refusal_in
returns c = read_made _ _ _ _ _ _ _ _ _ c.allows_reading-allowed.ensures c.in_ok-access_refusal.ensures _ _ c.gather.ensures
