-- `copy_in` copies entry after entry; together they are the packed data, each at its place. Assumes nothing.
use Rattle.move_etype.proofs.Copying.{copying_width, target_inside, file_inside, packed_inside, packed_fits, copying_small, copying}
use Rattle.move_etype.proofs.copy_in.Goals as goal

pub loop-i-init : goal.loop-i-init
loop-i-init c = search copying

pub copy_run-requires : goal.copy_run-requires
copy_run-requires c = (record { source = search packed_inside; target = search (target_inside, file_inside) }, search copying_width)

pub overflow_add-taken : goal.overflow_add-taken
overflow_add-taken c = search (packed_fits, copying_small)

pub loop-i-preserved : goal.loop-i-preserved
loop-i-preserved c = search copying

pub returns : goal.returns
returns c = search copying
