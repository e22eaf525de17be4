-- `set_lists` sets the view of the lists, with what stands before and behind them in the body. Assumes nothing.
use Rattle.laws.proofs.Prelude.{tail_lent, rules}
use Rattle.set_record.specs.Sets.{body_view}
use Rattle.set_record.proofs.set_lists.Goals as goal

pub returns : goal.returns
unfolding body_view
returns c = search (rules, tail_lent)
