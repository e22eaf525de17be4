-- What `place_of` and `end_of` require: the view passed the test, and the first offsets are allowed.
use Rattle.show_preview.proofs.Showing.{showing}
use Rattle.show_preview.proofs.show_places.Goals as goal

pub place_of-place-requires : goal.place_of-place-requires
place_of-place-requires g c = search showing

pub end_of-end-requires : goal.end_of-end-requires
end_of-end-requires g c = search showing
