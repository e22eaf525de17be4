-- `is_accepted` follows the definition on the record along its tests, and that is the paper's. Assumes nothing.
use Rattle.laws.proofs.Prelude.{arith, also, either}
use Rattle.std.proofs.lemmas.Grind.{common_steps}
use Rattle.rule_view.specs.Parts.{view_accepted}
use Rattle.rule_view.proofs.Chains.{shape_valid, groups_ready}
use Rattle.rule_view.proofs.Whole.{keeps_by}
use Rattle.rule_view.proofs.is_accepted.Goals as goal

pub shape_apart-requires : goal.shape_apart-requires
shape_apart-requires c = shape_valid _ (grind (arith, common_steps)) (grind (arith, common_steps))

pub view_clear-requires : goal.view_clear-requires
view_clear-requires c = groups_ready _ (grind (arith, common_steps)) (grind (arith, common_steps))

pub returns-then-shape_apart : goal.returns-then-shape_apart
unfolding view_accepted also either
returns-then-shape_apart c = keeps_by _ _ _ (grind (arith, common_steps))

pub returns-else-shape_apart : goal.returns-else-shape_apart
unfolding view_accepted also either
returns-else-shape_apart c = keeps_by _ _ _ (grind (arith, common_steps))

pub returns-else-filetype_valid : goal.returns-else-filetype_valid
unfolding view_accepted also either
returns-else-filetype_valid c = keeps_by _ _ _ (grind (arith, common_steps))
