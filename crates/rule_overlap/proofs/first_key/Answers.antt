-- `first_key` finds the first key that is not clear. Assumes nothing.
use Rattle.laws.proofs.Prelude.{rules, ◌∙◌, length}
use Rattle.std.proofs.Common.{tests}
use Rattle.std.proofs.lemmas.Iterator.{first_from_Range}
use Rattle.rule_overlap.specs.Parts.{key_clear}
use Rattle.rule_overlap.proofs.Testing.{first_told}
use Rattle.rule_overlap.proofs.first_key.Goals as goal

pub returns : goal.returns
returns c = c.unwrap_or.ensures ∙ first_told (key_clear c.args.extent c.args.keys.now) (length c.args.keys.now) c.find.result (first_from_Range _ _ _ _ _ _ c.find.ensures.ran (λ x q k. search (rules, tests)) (λ x q k. search (rules, tests)))
