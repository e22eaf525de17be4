-- `entries_fit` tests each entry. Assumes nothing.
use Rattle.laws.proofs.Prelude.{rules, refl}
use Rattle.std.proofs.Common.{tests}
use Rattle.rule_entries.specs.Parts.{entry_fits_at}
use Rattle.rule_entries.proofs.Ranging.{each_told}
use Rattle.rule_entries.proofs.entries_fit.Goals as goal

pub returns : goal.returns
unfolding entry_fits_at
returns c = each_told _ _ _ _ _ refl c.all.ensures.ran (λ x q k. search (rules, tests)) (λ x q k. search (rules, tests))
