-- `first_out_of_order` finds the first entry that lies below the one before it. Assumes nothing.
use Rattle.laws.proofs.Prelude.{rules, ◌∙◌}
use Rattle.std.proofs.Common.{tests}
use Rattle.std.proofs.lemmas.Iterator.{first_from_Range}
use Rattle.rule_entries.proofs.Fitting.{first_below}
use Rattle.rule_entries.proofs.first_out_of_order.Goals as goal

pub returns : goal.returns
returns c =
    let ds = c.args.ds.now in
    c.unwrap_or.ensures ∙ rw c.max.ensures (first_below ds c.find.result (first_from_Range _ _ _ _ _ _ c.find.ensures.ran (λ x q k. search (rules, tests)) (λ x q k. search (rules, tests))))
