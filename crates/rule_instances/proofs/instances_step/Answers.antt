-- `instances_step` compares each instance but the last with the next one. Assumes nothing.
use Rattle.laws.proofs.Prelude.{rules, refl}
use Rattle.std.proofs.Common.{tests}
use Rattle.rule_instances.specs.Parts.{step_at, origins_step}
use Rattle.rule_instances.proofs.Stepping.{each_told}
use Rattle.rule_instances.proofs.instances_step.Goals as goal

pub returns : goal.returns
unfolding origins_step step_at
returns c = each_told _ _ _ _ _ refl c.all.ensures.ran (λ x q k. search (rules, tests)) (λ x q k. search (rules, tests))
