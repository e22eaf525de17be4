-- `place_basic` fills in the widths, and puts a displacement a turn after those placed before. Assumes nothing.
use Rattle.recipe_place.proofs.Placing.{basic_none, basic_more, basic_end}
use Rattle.recipe_place.proofs.place_basic.Goals as goal

pub loop-k-init : goal.loop-k-init
loop-k-init c = search basic_none

pub loop-k-preserved : goal.loop-k-preserved
loop-k-preserved c = search basic_more

pub returns : goal.returns
returns c =
    let w = c.fill.ensures.after (λ y q. q) in
    search basic_end
