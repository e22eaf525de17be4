-- `etype_valid` follows the definition along its tests. Assumes nothing.
use Rattle.laws.proofs.Prelude.{arith, also, within}
use Rattle.rule_view.specs.Parts.{etype_accepted}
use Rattle.std.proofs.lemmas.Grind.{common_steps}
use Rattle.rule_view.proofs.Chains.{ordered_prefix}
use Rattle.rule_view.proofs.etype_valid.Goals as goal

pub returns-then-entries_fit : goal.returns-then-entries_fit
unfolding etype_accepted also within
returns-then-entries_fit c = let h = ordered_prefix _ _ _ c.never_decrease.ensures (grind (arith, common_steps)) in grind (arith, common_steps)
