-- `allowed` follows the definition along its tests. Assumes nothing.
use Rattle.laws.proofs.Prelude.{refl, le-leb, lt-leb, also_yes, also_no}
use Rattle.view.specs.Limits.{file_allowed}
use Rattle.handle.proofs.FileNumbers.allowed.Goals as goal

pub returns-then-self-gt-MAX_FILE_SIZE : goal.returns-then-self-gt-MAX_FILE_SIZE
unfolding file_allowed
returns-then-self-gt-MAX_FILE_SIZE c = also_no _ _ (search lt-leb)

pub returns : goal.returns
unfolding file_allowed
returns c = also_yes _ _ _ (search le-leb) refl
