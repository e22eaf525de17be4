-- `flatten` judges all steps before it places the last one. Assumes nothing.
use Rattle.recipe.proofs.Flattening.{flatten_refused, flatten_some, flatten_last, flatten_rows, flatten_asked, flatten_extent, flatten_done}
use Rattle.recipe.proofs.flatten.Goals as goal

pub returns-in-Err : goal.returns-in-Err
returns-in-Err c = search flatten_refused

pub overflow_sub-last : goal.overflow_sub-last
overflow_sub-last c = search flatten_some

pub place-requires : goal.place-requires
place-requires c = search flatten_asked

pub shape_at-shape-requires : goal.shape_at-shape-requires
shape_at-shape-requires c = (search flatten_last, search flatten_rows)

pub overflow_cast-result : goal.overflow_cast-result
overflow_cast-result c = search flatten_extent

pub returns : goal.returns
returns c = search flatten_done
