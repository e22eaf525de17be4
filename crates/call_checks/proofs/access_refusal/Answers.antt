-- `access_refusal` follows checks 1, 11, 12 and 13 in their order; check 12 bounds the count, so that count·S fits. Assumes nothing.
use Rattle.laws.proofs.Prelude.{refl, not-true, not-false, check_yes, check_no, unflag_true, unflag_false}
use Rattle.view.specs.Parts.{refusal_in, refusal_number}
use Rattle.call_checks.specs.Refusals.{access_refusal}
use Rattle.call_checks.proofs.Accesses.{access_widths, access_fits, room_short, room_enough}
use Rattle.call_checks.proofs.access_refusal.Goals as goal

pub returns-then-not-file_valid : goal.returns-then-not-file_valid
unfolding access_refusal refusal_in refusal_number
returns-then-not-file_valid c = check_no _ _ _ _ (search unflag_false) refl

pub returns-then-not-allowed : goal.returns-then-not-allowed
unfolding access_refusal refusal_in refusal_number
returns-then-not-allowed c = check_yes _ _ _ _ (search unflag_true) (check_no _ _ _ _ (search not-true) refl)

pub returns-then-not-allowed-2 : goal.returns-then-not-allowed-2
unfolding access_refusal refusal_in refusal_number
returns-then-not-allowed-2 c = check_yes _ _ _ _ (search unflag_true) (check_yes _ _ _ _ (search not-false) (check_no _ _ _ _ (search unflag_false) refl))

pub data_size-packed-requires : goal.data_size-packed-requires
data_size-packed-requires c = search access_widths

pub overflow_mul-bytes : goal.overflow_mul-bytes
overflow_mul-bytes c = search access_fits

pub returns-then-room-bytes : goal.returns-then-room-bytes
unfolding access_refusal refusal_in refusal_number
returns-then-room-bytes c = check_yes _ _ _ _ (search unflag_true) (check_yes _ _ _ _ (search not-false) (check_yes _ _ _ _ (search unflag_true) (check_no _ _ _ _ (search room_short) refl)))

pub returns : goal.returns
unfolding access_refusal refusal_in refusal_number
returns c = check_yes _ _ _ _ (search unflag_true) (check_yes _ _ _ _ (search not-false) (check_yes _ _ _ _ (search unflag_true) (check_yes _ _ _ _ (search room_enough) refl)))
