-- Must be believed. Document 01, refusal 12: the ranges of an access and of a seek.
use Rattle.std.specs.Prelude.{ℕ, ◌+◌, Bool, false, leb, ℤ, pos, negsuc}
use Rattle.view.specs.Limits.{offset_count, pointer_allowed}

-- 12 of seek: the target is from 0 to 2^32
unfoldable pub target_allowed : ℤ → Bool
target_allowed (pos p) = pointer_allowed p
target_allowed (negsuc p) = false

-- 12 of an access: the offset is not negative, and offset + count at most 2^32
unfoldable pub access_allowed : ℤ → ℕ → Bool
access_allowed (pos o) c = leb (o + c) offset_count
access_allowed (negsuc o) c = false
