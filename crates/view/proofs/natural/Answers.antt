-- `natural` gives the natural number that a signed one is, or 0. The machine's reading of the number's bits is the number. Assumes nothing.
use Rattle.laws.proofs.Prelude.{to_z-of_z, natural_sign, natural_fits}
use Rattle.view.proofs.Signs.{negative_is, natural_is}
use Rattle.view.proofs.natural.Goals as goal

pub overflow_cast-result : goal.overflow_cast-result
overflow_cast-result c = let f = c.ranges.x in let e = to_z-of_z f in let t = rw e at c.if-x-lt0.false in rw e (natural_sign c.args.x t, natural_fits _ t f)

pub returns-then-x-lt0 : goal.returns-then-x-lt0
returns-then-x-lt0 c = let e = to_z-of_z c.ranges.x in negative_is _ (rw e at c.if-x-lt0.true)

pub returns-else-x-lt0 : goal.returns-else-x-lt0
returns-else-x-lt0 c = let e = to_z-of_z c.ranges.x in rw e (natural_is _ (rw e at c.if-x-lt0.false))
