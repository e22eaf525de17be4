-- `key_clear` compares the key with a tile, and then with each earlier key. Assumes nothing.
use Rattle.laws.proofs.Prelude.{rules}
use Rattle.rule_overlap.proofs.Testing.{wide_key, earlier_told}
use Rattle.rule_overlap.proofs.key_clear.Goals as goal

pub returns-then-key-extent : goal.returns-then-key-extent
returns-then-key-extent c = earlier_told c.args.extent c.args.keys.now c.args.i c.all.result (search rules) (search rules) (search rules)

pub returns-else-key-extent : goal.returns-else-key-extent
returns-else-key-extent c = search (rules, wide_key)
