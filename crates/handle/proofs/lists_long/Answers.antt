-- `lists_long` compares each list with its own entry count. Assumes nothing.
use Rattle.laws.proofs.Prelude.{refl, rules, le-leb, lt-leb, also_yes, also_no}
use Rattle.handle.specs.Parts.{lists_long}
use Rattle.handle.proofs.Ranging.{counts_fit}
use Rattle.handle.proofs.lists_long.Goals as goal

pub overflow_mul-all : goal.overflow_mul-all
overflow_mul-all c = search (rules, counts_fit)

pub returns-then-ew-n : goal.returns-then-ew-n
unfolding lists_long
returns-then-ew-n c = also_no _ _ (search lt-leb)

pub returns-then-ed-n : goal.returns-then-ed-n
unfolding lists_long
returns-then-ed-n c = also_yes _ _ _ (search le-leb) (also_no _ _ (search lt-leb))

pub returns-then-fw-all : goal.returns-then-fw-all
unfolding lists_long
returns-then-fw-all c = also_yes _ _ _ (search le-leb) (also_yes _ _ _ (search le-leb) (also_no _ _ (search lt-leb)))

pub returns : goal.returns
unfolding lists_long
returns c = also_yes _ _ _ (search le-leb) (also_yes _ _ _ (search le-leb) (also_yes _ _ _ (search le-leb) refl))
