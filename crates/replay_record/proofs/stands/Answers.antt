-- `stands` compares the range with what the file has from the place on. Assumes nothing.
use Rattle.replay_record.proofs.Standing.{past_file, in_file_law}
use Rattle.replay_record.proofs.stands.Goals as goal

pub returns-in-Some : goal.returns-in-Some
returns-in-Some c = in_file_law _ _ _ _ _ c.in-Some.ensures.lookup.0.0 c.in-Some.ensures.lookup.0.2 c.starts_with.ensures.value

pub returns-in-None : goal.returns-in-None
returns-in-None c = past_file _ _ _ c.in-None.ensures.lookup.0
