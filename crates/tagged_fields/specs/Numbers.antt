-- Must be believed. Bodies that are runs of numbers of 8 bytes, as docs/trace.md and docs/conformance.md have them.
use Rattle.std.specs.Prelude.{ℕ, ◌+◌, ◌-◌, ◌*◌, cond, List, ltb, ℤ, pos, negsuc}
use Rattle.tagged_fields.specs.Fields.{little}

-- how many bytes a number of a body takes
abbrev pub number_bytes : ℕ
number_bytes = 8

-- number i of a body that is a run of such numbers
unfoldable pub number_at : List ℕ → ℕ → ℕ
number_at s i = little s (number_bytes * i) number_bytes

-- the number that 64 bits are in two's complement: x below 2^63, else x - 2^64
unfoldable pub signed_of : ℕ → ℤ
signed_of x = cond (ltb x 9223372036854775808) (pos x) (negsuc (18446744073709551615 - x))

-- the same number, signed
unfoldable pub signed_at : List ℕ → ℕ → ℤ
signed_at s i = signed_of (number_at s i)

-- number i of the list that begins at number `from` of a body
abbrev pub number_from : List ℕ → ℕ → ℕ → ℕ
number_from s from i = number_at s (from + i)

-- the same of a list of signed numbers
abbrev pub signed_from : List ℕ → ℕ → ℕ → ℤ
signed_from s from i = signed_at s (from + i)
