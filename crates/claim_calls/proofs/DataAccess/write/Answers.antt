-- `write` makes the call that the access asks for, whose contract gives the claim. Assumes nothing.
use Rattle.claim_calls.proofs.Accessing.{writing}
use Rattle.claim_calls.proofs.DataAccess.write.Goals as goal

pub returns-in-Pointer : goal.returns-in-Pointer
returns-in-Pointer c = search writing

pub returns-in-Explicit : goal.returns-in-Explicit
returns-in-Explicit c = search writing
