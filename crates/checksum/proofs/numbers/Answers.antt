-- `numbers` takes the checksum number by number. Assumes nothing.
use Rattle.laws.proofs.Prelude.{◌≡◌, ◌∙◌, rules}
use Rattle.std.specs.List.{fold}
use Rattle.checksum.specs.Parts.{fed, list_checksum}
use Rattle.checksum.proofs.Folding.{folded}
use Rattle.checksum.proofs.numbers.Goals as goal

pub returns : goal.returns
unfolding list_checksum
returns c = let e : c.fold.result ≡ fold fed 7 c.args.s.now = search rules in e ∙ folded (λ x. x) c.args.s.now 0
