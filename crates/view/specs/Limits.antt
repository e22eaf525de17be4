-- Must be believed. Document 01, "A type on paper": the table of limits, a definition for each row.
use Rattle.std.specs.Prelude.{ℕ, ◌+◌, ◌*◌, Bool, false, leb, ltb, eqb, ℤ, pos, negsuc}
use Rattle.laws.specs.Checks.{also, either, within}

-- 2^32: offsets of one etype lie below it, and the pointer reaches it
abbrev pub offset_count : ℕ
offset_count = 4294967296

-- 2^40
abbrev pub max_file_length : ℕ
max_file_length = 1099511627776

-- width: 1, 2, 4 or 8
unfoldable pub width_allowed : ℕ → Bool
width_allowed w = either (eqb w 1) (either (eqb w 2) (either (eqb w 4) (eqb w 8)))

-- entries of an etype: 1 to 8
unfoldable pub etype_entries_allowed : ℕ → Bool
etype_entries_allowed n = within 1 8 n

-- entries of a filetype: 1 to 256, and at most 64 times the etype's
unfoldable pub filetype_entries_allowed : ℕ → ℕ → Bool
filetype_entries_allowed n m = also (within 1 256 m) (leb m (64 * n))

-- entry displacement: at least 0, and displacement + width at most 1,048,576
unfoldable pub entry_displacement_allowed : ℕ → ℤ → Bool
entry_displacement_allowed w (pos d) = leb (d + w) 1048576
entry_displacement_allowed w (negsuc d) = false

-- extent of either type: 1 to 1,048,576
unfoldable pub extent_allowed : ℤ → Bool
extent_allowed (pos x) = within 1 1048576 x
extent_allowed (negsuc x) = false

-- view displacement: 0 to 2^40
unfoldable pub displacement_allowed : ℤ → Bool
displacement_allowed (pos d) = leb d 1099511627776
displacement_allowed (negsuc d) = false

-- offset of one etype: 0 to 2^32 - 1
unfoldable pub offset_allowed : ℤ → Bool
offset_allowed (pos o) = ltb o offset_count
offset_allowed (negsuc o) = false

-- pointer: 0 to 2^32
unfoldable pub pointer_allowed : ℕ → Bool
pointer_allowed p = leb p offset_count

-- file length in bytes: 0 to 2^40, the size at most the length
unfoldable pub file_allowed : ℕ → ℕ → Bool
file_allowed len size = also (leb len max_file_length) (leb size len)
