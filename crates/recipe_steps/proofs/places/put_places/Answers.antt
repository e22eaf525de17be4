-- What each kind's call asks, and the places of a contiguous step. Assumes nothing.
use Rattle.laws.proofs.Prelude.{arith, rules}
use Rattle.recipe_steps.proofs.Placed.{contiguous_placed, vector_ready, indexed_ready, array_ready}
use Rattle.recipe_steps.proofs.places.put_places.Goals as goal

pub put_vector-requires : goal.put_vector-requires
put_vector-requires c = (search vector_ready, search rules)

pub put_indexed-requires : goal.put_indexed-requires
put_indexed-requires c = (search indexed_ready, search rules)

pub put_elements-requires : goal.put_elements-requires
put_elements-requires c = (search array_ready, grind arith, search rules)

pub returns-in-1 : goal.returns-in-1
returns-in-1 c = search contiguous_placed
