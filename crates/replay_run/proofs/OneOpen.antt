-- "A trace of one open with mode 3 prints just `1 0 0 0 0`", computed by the definitions; and one of mode 4, which is refused with 16.
use Rattle.laws.proofs.Prelude.{refl, either, granted, check}
use mathlib.Core.List.{◌∷◌, []}
use Rattle.tagged_fields.specs.Fields.{little, body_length, is_cut, field_at}
use Rattle.tagged_fields.specs.Numbers.{number_at}
use Rattle.call_checks.specs.Refusals.{open_refusal}
use Rattle.file.specs.Handles.{mode_got}
use Rattle.file.specs.Parts.{open_answer, fresh_handle}
use Rattle.replay_record.specs.Records.{if_good, open_in, record_in}
use Rattle.replay_record.specs.Steps.{at_first, bytes_at_first, called, bytes_after, line_of, next_of, stepped}
use Rattle.replay_run.specs.Traces.{Nowhere, At, step_next, record_next, field_next, next_at, Replays, over, goes}

pub one_open : Replays (1 ∷ 8 ∷ 0 ∷ 3 ∷ 0 ∷ 0 ∷ 0 ∷ 0 ∷ 0 ∷ 0 ∷ 0 ∷ []) at_first bytes_at_first 0 (1 ∷ 0 ∷ 0 ∷ 0 ∷ 0 ∷ []) Nowhere
unfolding next_at field_next record_next step_next field_at is_cut body_length little either record_in open_in if_good number_at called bytes_after stepped line_of next_of at_first open_answer open_refusal mode_got fresh_handle granted check
one_open = goes refl (over refl)

-- a refused open, then a record that is cut short: the stop is its place
pub refused_and_cut : Replays (1 ∷ 8 ∷ 0 ∷ 4 ∷ 0 ∷ 0 ∷ 0 ∷ 0 ∷ 0 ∷ 0 ∷ 0 ∷ 1 ∷ []) at_first bytes_at_first 0 (1 ∷ 16 ∷ 0 ∷ 0 ∷ 0 ∷ []) (At 11)
unfolding next_at field_next record_next step_next field_at is_cut body_length little either record_in open_in if_good number_at called bytes_after stepped line_of next_of at_first open_answer open_refusal mode_got fresh_handle granted check
refused_and_cut = goes refl (over refl)
