-- `signed` takes the checksum number by number. Assumes nothing.
use Rattle.laws.proofs.Prelude.{◌≡◌, ◌∙◌, pos, rules}
use Rattle.std.specs.List.{fold}
use Rattle.checksum.specs.Parts.{fed, code, signed_checksum}
use Rattle.checksum.proofs.Folding.{folded}
use Rattle.checksum.proofs.signed.Goals as goal

pub returns : goal.returns
unfolding signed_checksum
returns c = let e : c.fold.result ≡ fold (λ s x. fed s (code x)) 7 c.args.s.now = search rules in e ∙ folded code c.args.s.now (pos 0)
