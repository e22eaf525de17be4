-- `file_valid` tests the file's length and size, and then the handle. Assumes nothing.
use Rattle.call_checks.proofs.Handles.{file_no, file_judged}
use Rattle.call_checks.proofs.file_valid.Goals as goal

pub returns-then-not-allowed : goal.returns-then-not-allowed
returns-then-not-allowed c = search file_no

pub returns : goal.returns
returns c = search file_judged
