-- `view_clear` makes the keys of the filetype's entries, and asks whether bytes of two clash. Assumes nothing.
use Rattle.rule_overlap.proofs.Filling.{view_valid, view_answer}
use Rattle.rule_overlap.proofs.view_clear.Goals as goal

pub none_clash-requires : goal.none_clash-requires
none_clash-requires c = search view_valid

pub returns : goal.returns
returns c = search view_answer
