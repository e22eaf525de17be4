-- `offset` is the explicit offset, or where an access at the pointer begins. Assumes nothing.
use Rattle.claim_calls.proofs.Accessing.{beginning}
use Rattle.claim_calls.proofs.DataAccess.offset.Goals as goal

pub returns-in-Pointer : goal.returns-in-Pointer
returns-in-Pointer c = search beginning

pub returns-in-Explicit : goal.returns-in-Explicit
returns-in-Explicit c = search beginning
