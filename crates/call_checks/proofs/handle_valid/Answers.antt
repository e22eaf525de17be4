-- `handle_valid` tests mode, pointer and view in turn. Assumes nothing.
use Rattle.laws.proofs.Prelude.{rules, le-leb, lt-leb, also_yes, also_no, unflag_true, unflag_false}
use Rattle.view.specs.Limits.{pointer_allowed}
use Rattle.handle.specs.Handles.{handle_valid}
use Rattle.call_checks.proofs.handle_valid.Goals as goal

pub returns-then-not-mode_allowed : goal.returns-then-not-mode_allowed
unfolding handle_valid
returns-then-not-mode_allowed c = also_no _ _ (search unflag_false)

pub returns-then-h-gt-OFFSET_COUNT : goal.returns-then-h-gt-OFFSET_COUNT
unfolding handle_valid pointer_allowed
returns-then-h-gt-OFFSET_COUNT c = also_yes _ _ _ (search unflag_true) (also_no _ _ (search lt-leb))

pub returns : goal.returns
unfolding handle_valid pointer_allowed
returns c = also_yes _ _ _ (search unflag_true) (also_yes _ _ _ (search le-leb) (search rules))
