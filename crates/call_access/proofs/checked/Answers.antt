-- `checked` follows checks 1, 11, 12, 13 and 14; check 12 leaves what `write_end` requires. Assumes nothing.
use Rattle.std.proofs.Common.{rules, Err, ◌≡◌}
use Rattle.view.specs.Parts.{refusal_in}
use Rattle.call_access.proofs.Writing.{judged_access, judged_ranged, judged_past, judged_granted}
use Rattle.call_access.proofs.checked.Goals as goal

pub returns-in_err-access_refusal : goal.returns-in_err-access_refusal
unfolding refusal_in
returns-in_err-access_refusal c =
    let e : c.from_residual.result ≡ Err c.in_err-access_refusal.field-0.0 = search rules in
    rw e (judged_access _ _ _ _ _ _ _ _ _ c.allows_writing-allowed.ensures _ c.in_err-access_refusal.ensures)

pub write_end-end-requires : goal.write_end-end-requires
unfolding refusal_in
write_end-end-requires c = judged_ranged _ _ _ _ _ _ _ _ _ c.allows_writing-allowed.ensures c.in_ok-access_refusal.ensures

pub returns-then-f-end : goal.returns-then-f-end
unfolding refusal_in
returns-then-f-end c = judged_past _ _ _ _ _ _ _ _ _ c.allows_writing-allowed.ensures c.in_ok-access_refusal.ensures _ c.write_end-end.ensures c.if-f-end.true

pub returns : goal.returns
unfolding refusal_in
returns c = judged_granted _ _ _ _ _ _ _ _ _ c.allows_writing-allowed.ensures c.in_ok-access_refusal.ensures _ c.write_end-end.ensures c.if-f-end.false
