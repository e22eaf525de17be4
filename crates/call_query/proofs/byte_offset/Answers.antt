-- `byte_offset` follows checks 1 and 12; what they leave is what `place_of` requires. Assumes nothing.
use Rattle.laws.proofs.Prelude.{unflag_true, ap, not}
use Rattle.call_query.proofs.Querying.{query_tiled, query_origins, place_handle, place_range, place_found}
use Rattle.call_query.proofs.byte_offset.Goals as goal

pub returns-then-not-handle_valid : goal.returns-then-not-handle_valid
returns-then-not-handle_valid c = search place_handle

pub returns-then-not-offset_allowed : goal.returns-then-not-offset_allowed
returns-then-not-offset_allowed c = search place_range

pub place_of-requires : goal.place_of-requires
place_of-requires c = (search query_tiled, search query_origins, unflag_true _ _ c.offset_allowed.ensures (ap not c.if-not-offset_allowed.false))

pub returns : goal.returns
returns c = search place_found
