-- `lists_end` adds the four counts to the numbers before the lists, 8 bytes each. Assumes nothing.
use Rattle.set_record.proofs.Setting.{lists_end_is}
use Rattle.set_record.proofs.lists_end.Goals as goal

pub returns : goal.returns
returns c = lists_end_is _ _ c.list_lengths.ensures
