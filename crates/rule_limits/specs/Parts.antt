-- Need not be believed. What the functions of this crate test together: the contracts of the calls cite the rows of view/specs/Limits.antt, and the proofs show that these make them up.
use Rattle.std.specs.Prelude.{ℕ, ◌+◌, Bool, leb, eqb, ℤ}
use Rattle.laws.specs.Checks.{also}
use Rattle.view.specs.Parts.{max_entry_end}
use Rattle.view.specs.Limits.{width_allowed, etype_entries_allowed, filetype_entries_allowed, entry_displacement_allowed}

-- an entry of width w at d
unfoldable pub entry_fits : ℕ → ℕ → Bool
entry_fits w d = also (width_allowed w) (leb (d + w) max_entry_end)

-- an entry as it is lent
unfoldable pub signed_entry_fits : ℕ → ℤ → Bool
signed_entry_fits w d = also (width_allowed w) (entry_displacement_allowed w d)

-- each type's two lists have one length, and these counts are allowed
unfoldable pub lengths_allowed : ℕ → ℕ → ℕ → ℕ → Bool
lengths_allowed ew ed fw fd = also (eqb ew ed) (also (eqb fw fd) (also (etype_entries_allowed ew) (filetype_entries_allowed ew fw)))
