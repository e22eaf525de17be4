-- `first_clash` makes the entries' keys, and searches them if a sorted copy has keys that clash. Assumes nothing.
use Rattle.laws.proofs.Prelude.{rules, store_none, store_more}
use Rattle.rule_overlap.proofs.Filling.{list_valid, list_none, list_first}
use Rattle.rule_overlap.proofs.first_clash.Goals as goal

pub loop-i-init : goal.loop-i-init
loop-i-init c = search (rules, store_none)

pub loop-i-preserved : goal.loop-i-preserved
loop-i-preserved c = search (rules, store_more)

pub none_clash-requires : goal.none_clash-requires
none_clash-requires c = search (rules, list_valid)

pub returns-then-none_clash : goal.returns-then-none_clash
returns-then-none_clash c = search (rules, list_none)

pub returns : goal.returns
returns c = search (rules, list_first)
