-- `place_of` begins where the spot of its offset says. Assumes nothing.
use Rattle.view_place.proofs.Placing.{offset_below, spot_valid, spot_placed}
use Rattle.view_place.proofs.place_of.Goals as goal

pub begin_at-requires : goal.begin_at-requires
begin_at-requires c = search (spot_valid, offset_below)

pub returns : goal.returns
returns c = search spot_placed
