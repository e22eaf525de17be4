-- `seek` follows checks 1, 15 and 12; the target is the base plus the offset. Assumes nothing.
use Rattle.call_query.proofs.Querying.{file_tiled, file_origins, file_size}
use Rattle.call_query.proofs.Seeking.{seek_pointer, seek_handle, seek_whence, seek_answered}
use Rattle.call_query.proofs.seek.Goals as goal

pub returns-then-not-file_valid : goal.returns-then-not-file_valid
returns-then-not-file_valid c = search seek_handle

pub returns-then-whence-gt-WHENCE_END : goal.returns-then-whence-gt-WHENCE_END
returns-then-whence-gt-WHENCE_END c = search seek_whence

pub seek_base-base-requires : goal.seek_base-base-requires
seek_base-base-requires c = (search file_tiled, search file_origins, search file_size, search seek_pointer)

pub returns : goal.returns
returns c = search seek_answered
