-- `end` follows check 1; what it leaves is what `end_of` requires. Assumes nothing.
use Rattle.call_query.proofs.Querying.{file_tiled, file_origins, file_size, end_handle, end_found}
use Rattle.call_query.proofs.end.Goals as goal

pub returns-then-not-file_valid : goal.returns-then-not-file_valid
returns-then-not-file_valid c = search end_handle

pub end_of-requires : goal.end_of-requires
end_of-requires c = (search file_tiled, search file_origins, search file_size)

pub returns : goal.returns
returns c = search end_found
