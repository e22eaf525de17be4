-- `instances_fit` compares each origin in use with the greatest one that the reach leaves. Assumes nothing.
use Rattle.laws.proofs.Prelude.{arith, rules}
use Rattle.rule_instances.proofs.Stepping.{reach_answer}
use Rattle.rule_instances.proofs.instances_fit.Goals as goal

pub returns : goal.returns
returns c = reach_answer c.args.view.now.origins c.args.view.now.numbers.filetype.instances c.args.reach c.all.result (omega arith) c.requires.1 (search rules)
