-- `read` makes the call that the access asks for, whose contract gives the claim. Assumes nothing.
use Rattle.claim_calls.proofs.Accessing.{reading}
use Rattle.claim_calls.proofs.DataAccess.read.Goals as goal

pub returns-in-Pointer : goal.returns-in-Pointer
returns-in-Pointer c = search reading

pub returns-in-Explicit : goal.returns-in-Explicit
returns-in-Explicit c = search reading
