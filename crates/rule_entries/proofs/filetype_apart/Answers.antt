-- `filetype_apart` compares each entry with the next one, and the last one with the next tile. Assumes nothing.
use Rattle.laws.proofs.Prelude.{rules}
use Rattle.rule_entries.proofs.Fitting.{tile_closes, tile_fails}
use Rattle.rule_entries.proofs.filetype_apart.Goals as goal

pub returns-then-ends_follow : goal.returns-then-ends_follow
returns-then-ends_follow c = search (rules, tile_closes)

pub returns-else-ends_follow : goal.returns-else-ends_follow
returns-else-ends_follow c = search (rules, tile_fails)
