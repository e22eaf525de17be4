-- `entries_apart` compares the entries at the front of the view's lists. Assumes nothing.
use Rattle.laws.proofs.Prelude.{rules}
use Rattle.rule_entries.proofs.Fitting.{front_apart}
use Rattle.rule_entries.proofs.entries_apart.Goals as goal

pub returns : goal.returns
returns c = search (rules, front_apart)
