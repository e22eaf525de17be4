-- `glyphbirch_write_rounds` makes one write in turn. The invariant: what stands is what the last of the rounds made leaves. Assumes nothing.
use Rattle.bench_rounds.proofs.Making.{making}
use Rattle.bench_rounds.proofs.glyphbirch_write_rounds.Goals as goal

pub loop-init : goal.loop-init
loop-init c = search making

pub loop-preserved : goal.loop-preserved
loop-preserved c = search making

pub returns-then-last_write-ne0 : goal.returns-then-last_write-ne0
returns-then-last_write-ne0 c = search (making, c.ranges)

pub returns-after-loop : goal.returns-after-loop
returns-after-loop c = search (making, c.ranges)
