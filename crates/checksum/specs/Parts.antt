-- Need not be believed: no claim cites it. The checksum of a run of numbers, as docs/conformance.md states it.
use Rattle.std.specs.Prelude.{ℕ, zero, suc, ◌+◌, ◌*◌, ◌%◌, List, ℤ, pos, negsuc, length, get_or}
use Rattle.laws.specs.Lists.{nth}

-- P
abbrev pub modulus : ℕ
modulus = 4294967291

-- "each number x turns s into (s·65,599 + (x mod P) + 1) mod P"
unfoldable pub fed : ℕ → ℕ → ℕ
fed s x = (s * 65599 + x % modulus + 1) % modulus

-- "it begins at 7": the checksum of f 0, f 1 and so on, n numbers
unfoldable pub checksum_of : (ℕ → ℕ) → ℕ → ℕ
checksum_of f zero = 7
checksum_of f (suc n) = fed (checksum_of f n) (f n)

-- "A signed number x below 0 counts there as 2^63 - 1 - x"
unfoldable pub code : ℤ → ℕ
code (pos n) = n
code (negsuc n) = 9223372036854775808 + n

-- of a list of numbers, and of a list of signed ones
unfoldable pub list_checksum : List ℕ → ℕ
list_checksum l = checksum_of (nth l) (length l)

unfoldable pub signed_checksum : List ℤ → ℕ
signed_checksum l = checksum_of (λ i. code (get_or l i (pos 0))) (length l)
