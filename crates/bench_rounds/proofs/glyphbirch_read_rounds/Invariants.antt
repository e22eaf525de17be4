-- `glyphbirch_read_rounds` makes one read in turn. The invariant: what stands is what the last of the rounds made leaves. Assumes nothing.
use Rattle.bench_rounds.specs.Parts.{begun, read_after}
use Rattle.bench_rounds.proofs.Making.{round, Made}
use Rattle.bench_rounds.proofs.glyphbirch_read_rounds.Given as goal

abbrev pub invariant-loop : goal.invariant-loop
invariant-loop l = Made (read_after l.file l.count l.offset) (begun l.view l.size l.initial.buf) l.rounds l.counter (round (l.last_read).refusal (l.last_read).handle (l.last_read).file l.buf)
