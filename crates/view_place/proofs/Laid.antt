-- A valid view: its numbers and origins keep the limits that places ask for, and what is said of them here is what document 01 says of the view.
use Rattle.laws.proofs.Prelude.{ℕ, ◌≡◌, sym, greatest_same}
use Rattle.view.specs.declared.View.{View}
use Rattle.view.specs.Types.{paper}
use Rattle.view.specs.Acceptance.{Valid}
use Rattle.view.specs.Places.{place}
use Rattle.view.specs.Parts.{end_of_file}
use Rattle.view.proofs.Paper.{paper_instances, paper_origin, paper_place, paper_file_extent, paper_start}
use Rattle.view.proofs.Held.{start_small, some_entry, record_some, record_few, record_extent, extent_small, record_origin}
use Rattle.view_place.specs.Parts.{Tiled, OriginsLow, place_on, end_at, end_on}

module _ (v : View) (k : Valid (paper v)) where
  pub tiled : Tiled v.numbers
  tiled = record {
    start = start_small v k;
    some = record_some v k;
    few = record_few v k;
    extent = record_extent v k;
    small = extent_small v k;
  }

  pub origins_low : OriginsLow v.numbers v.origins
  origins_low = record { origin = record_origin v k }

  pub place_is : (x : ℕ) → place_on v.numbers v.origins x ≡ place (paper v) x
  unfolding place_on
  place_is x = sym (paper_place v (some_entry v k) (record_some v k) x)

  pub end_on_is : (size : ℕ) → end_on v.numbers v.origins size ≡ end_of_file (paper v) size
  unfolding end_on end_at end_of_file
  end_on_is size =
      rw (paper_instances v (some_entry v k), paper_start v, paper_file_extent v)
      (greatest_same _ _ v.numbers.filetype.instances (λ i l. rw (paper_origin v (some_entry v k) i l)))
