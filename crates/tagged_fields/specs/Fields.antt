-- Must be believed. Document 01, "Tagged fields": runs of a one-byte tag, a two-byte length, then that many body bytes.
use Rattle.std.specs.Prelude.{ℕ, zero, suc, ◌+◌, ◌*◌, Bool, cond, List, leb, ltb, length}
use Rattle.laws.specs.Checks.{either}
use Rattle.laws.specs.Lists.{nth}
use Rattle.tagged_fields.specs.declared.Field.{Field}
use Rattle.tagged_fields.specs.declared.Field.TheVariants.{Whole, Cut, End}

-- ---- numbers

-- the number in the n bytes from place `at`: numbers "stand low byte first". Bytes past the end count 0
unfoldable pub little : List ℕ → ℕ → ℕ → ℕ
little s at zero = 0
little s at (suc n) = nth s at + 256 * little s (at + 1) n

-- ---- fields

-- "a one-byte tag, a two-byte length": the three header bytes
abbrev pub header_bytes : ℕ
header_bytes = 3

-- how many body bytes the header at a place names
unfoldable pub body_length : List ℕ → ℕ → ℕ
body_length s at = little s (at + 1) 2

-- "A field is cut short if its three header bytes or its body run past the end of its run"
unfoldable pub is_cut : List ℕ → ℕ → Bool
is_cut s at = either (ltb (length s) (at + header_bytes)) (ltb (length s) (at + header_bytes + body_length s at))

-- what stands at a place of a run: nothing at its end or past it, a field cut short, or a whole field, with its tag and where its body begins
unfoldable pub field_at : List ℕ → ℕ → Field
field_at s at =
    cond (leb (length s) at)
    End
    (cond (is_cut s at) Cut (Whole (nth s at) (at + header_bytes) (body_length s at)))
