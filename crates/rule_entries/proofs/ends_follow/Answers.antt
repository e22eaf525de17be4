-- `ends_follow` compares each entry but the last with the next one. Assumes nothing.
use Rattle.laws.proofs.Prelude.{rules, refl}
use Rattle.std.proofs.Common.{tests}
use Rattle.rule_entries.specs.Parts.{apart_at}
use Rattle.rule_entries.proofs.Ranging.{each_told}
use Rattle.rule_entries.proofs.ends_follow.Goals as goal

pub returns : goal.returns
unfolding apart_at
returns c = each_told _ _ _ _ _ refl c.all.ensures.ran (λ x q k. search (rules, tests)) (λ x q k. search (rules, tests))
