-- `glyphbirch_write_rounds` makes one write in turn. The invariant: what stands is what the last of the rounds made leaves. Assumes nothing.
use Rattle.bench_rounds.specs.Parts.{begun, write_after}
use Rattle.bench_rounds.proofs.Making.{round, Made}
use Rattle.bench_rounds.proofs.glyphbirch_write_rounds.Given as goal

abbrev pub invariant-loop : goal.invariant-loop
invariant-loop l = Made (write_after l.buf l.count l.offset) (begun l.view l.size l.initial.file) l.rounds l.counter (round (l.last_write).refusal (l.last_write).handle (l.last_write).file l.file)
