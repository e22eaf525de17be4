-- Must be believed. The papers' numbers that a handle has a constant for: the modes, the limits of the pointer and of a file's length, the whences of a seek, and the refusal numbers, of which 8 is not given any more (order 1).
use Rattle.std.specs.Prelude.{◌∷◌, []}
use Rattle.view.specs.Limits.{offset_count, max_file_length}
use Rattle.file.specs.declared.Constants.{Constants}

unfoldable pub constants_on_paper : Constants
constants_on_paper = record {
  modes = 0 ∷ 1 ∷ 2 ∷ 3 ∷ [];
  limits = offset_count ∷ max_file_length ∷ [];
  whences = 0 ∷ 1 ∷ 2 ∷ [];
  refusals = 1 ∷ 2 ∷ 3 ∷ 4 ∷ 5 ∷ 6 ∷ 7 ∷ 9 ∷ 10 ∷ 11 ∷ 12 ∷ 13 ∷ 14 ∷ 15 ∷ 16 ∷ 17 ∷ 18 ∷ 19 ∷ [];
}
