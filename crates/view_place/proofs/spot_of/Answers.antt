-- `spot_of` divides the offset by the number of instances. Assumes nothing.
use Rattle.view_place.proofs.Placing.{step_fits, tile_fits}
use Rattle.view_place.proofs.spot_of.Goals as goal

pub overflow_mul-step : goal.overflow_mul-step
overflow_mul-step c = search step_fits

pub overflow_add-begin : goal.overflow_add-begin
overflow_add-begin c = search tile_fits
