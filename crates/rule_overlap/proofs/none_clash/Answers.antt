-- `none_clash` sorts the keys, and asks only neighbours. Assumes nothing.
use Rattle.rule_overlap.proofs.Keys.{sorted_answer, sorted_length}
use Rattle.rule_overlap.proofs.none_clash.Goals as goal

pub returns : goal.returns
returns c = (search sorted_answer, search sorted_length)
