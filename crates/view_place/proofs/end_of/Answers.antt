-- `end_of` takes the greatest over the instances, which is end of file. The invariant: `end` is the greatest of the first i. Assumes nothing.
use Rattle.laws.proofs.Prelude.{rules, highest_none, highest_more, max_is}
use Rattle.view_place.proofs.Placing.{end_at_law, end_signed, end_found}
use Rattle.view_place.proofs.end_of.Goals as goal

pub loop-i-init : goal.loop-i-init
loop-i-init c = search highest_none

pub loop-i-preserved : goal.loop-i-preserved
loop-i-preserved c = search (rules, highest_more, end_at_law, max_is)

pub to_offset-requires : goal.to_offset-requires
to_offset-requires c = search end_signed

pub returns : goal.returns
returns c = search end_found
