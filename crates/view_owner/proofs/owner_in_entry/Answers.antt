-- `owner_in_entry` answers along its tests what the definition says. Assumes nothing.
use Rattle.laws.proofs.Prelude.{rules}
use Rattle.view_owner.proofs.Trying.{entry_after, entry_beside, offset_past, tile_past, before_fits, offset_fits, entry_hit}
use Rattle.view_owner.proofs.owner_in_entry.Goals as goal

pub returns-then-b-start : goal.returns-then-b-start
returns-then-b-start c = search entry_after

pub returns-then-width-rest : goal.returns-then-width-rest
returns-then-width-rest c = search entry_beside

pub returns-then-tile-ge-OFFSET_COUNT : goal.returns-then-tile-ge-OFFSET_COUNT
returns-then-tile-ge-OFFSET_COUNT c = search tile_past

pub overflow_mul-before : goal.overflow_mul-before
overflow_mul-before c = search (rules, before_fits)

pub overflow_add-offset : goal.overflow_add-offset
overflow_add-offset c = search (rules, offset_fits)

pub returns-then-offset-ge-OFFSET_COUNT : goal.returns-then-offset-ge-OFFSET_COUNT
returns-then-offset-ge-OFFSET_COUNT c = search offset_past

pub returns : goal.returns
returns c = search entry_hit
