-- `get_view` answers by what `call_query::get_view` answers, with the handle as it came. Assumes nothing.
use Rattle.laws.proofs.Prelude.{refl}
use Rattle.view.specs.Parts.{refusal_in}
use Rattle.file.proofs.Getting.{give_valid, gave}
use Rattle.file.proofs.Handle.get_view.Goals as goal

pub get_view_granted-requires : goal.get_view_granted-requires
unfolding refusal_in
get_view_granted-requires c = give_valid _ _ _ _ _ _ _ _ _ _ c.lent.ensures _ c.in-Ok.ensures refl

pub returns-in-Ok : goal.returns-in-Ok
unfolding refusal_in
returns-in-Ok c = gave _ _ _ _ _ _ _ _ _ _ c.lent.ensures _ c.in-Ok.ensures _ c.get_view_granted.ensures

pub returns-in-Err : goal.returns-in-Err
unfolding refusal_in
returns-in-Err c = gave _ _ _ _ _ _ _ _ _ _ c.lent.ensures _ c.in-Err.ensures _ c.get_view_refused.ensures
