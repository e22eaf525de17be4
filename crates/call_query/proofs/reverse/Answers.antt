-- `reverse` follows checks 1 and 11; what they leave is what `owner_of` requires. Assumes nothing.
use Rattle.call_query.proofs.Querying.{query_valid, owner_handle, owner_mode, owner_found}
use Rattle.call_query.proofs.reverse.Goals as goal

pub returns-then-not-handle_valid : goal.returns-then-not-handle_valid
returns-then-not-handle_valid c = search owner_handle

pub returns-then-not-allows_writing : goal.returns-then-not-allows_writing
returns-then-not-allows_writing c = search owner_mode

pub owner_of-requires : goal.owner_of-requires
owner_of-requires c = search query_valid

pub returns : goal.returns
returns c = search owner_found
