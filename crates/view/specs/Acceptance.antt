-- Must be believed. Documents 01 and 02, refusals 2 to 10 and 17 to 19: what a view is refused with, and when it is accepted.
use Rattle.std.specs.Prelude.{ℕ, Bool, true, not, List, ◌≡◌, eqb}
use Rattle.laws.specs.Checks.{also, either, check}
use Rattle.view.specs.Limits.{extent_allowed, displacement_allowed}
use Rattle.view.specs.Modes.{allows_writing}
use Rattle.view.specs.Types.{PaperView}
use Rattle.view.specs.Rules.{is_native, counts_allowed, entries_allowed, type_ordered, whole_groups, IsBuilt, view_holes_fit, NoClash}
use Rattle.view.specs.Parts.{group_matches, origin_allowed, deciding_group, clear}

-- the limits and rules for a mode, as the papers word them: one field for each of checks 3 to 7, one for 17 to 19, and one for each of 9 and 10
pub record IsAccepted (mode : ℕ) (v : PaperView) : Type 0 where
  pub displacement : displacement_allowed v.displacement ≡ true
  pub counts : counts_allowed v ≡ true
  pub extents : also (extent_allowed v.etype.extent) (extent_allowed v.filetype.extent) ≡ true
  pub entries : also (entries_allowed v.etype) (entries_allowed v.filetype) ≡ true
  pub ordered : also (type_ordered v.etype) (type_ordered v.filetype) ≡ true
  pub groups : IsBuilt v
  pub holes : view_holes_fit v ≡ true
  pub overlap : allows_writing mode ≡ true → NoClash v

-- refusals 3 to 10 in their order; in the place of 8 stand 17 and then, group by group, 18 before 19
unfoldable pub view_refusal : ℕ → PaperView → ℕ
view_refusal mode v =
    check (displacement_allowed v.displacement) 3
    (check (counts_allowed v) 4
    (check (also (extent_allowed v.etype.extent) (extent_allowed v.filetype.extent)) 5
    (check (also (entries_allowed v.etype) (entries_allowed v.filetype)) 6
    (check (also (type_ordered v.etype) (type_ordered v.filetype)) 7
    (check (whole_groups v) 17
    (check (group_matches v (deciding_group v)) 18
    (check (origin_allowed v (deciding_group v)) 19
    (check (view_holes_fit v) 9
    (check (either (not (allows_writing mode)) (clear v)) 10
    0)))))))))

-- and 2 before them
unfoldable pub set_refusal : ℕ → List ℕ → PaperView → ℕ
set_refusal mode representation v = check (is_native representation) 2 (view_refusal mode v)

-- the view keeps the limits and rules for this mode
unfoldable pub accepted : ℕ → PaperView → Bool
accepted mode v = eqb (view_refusal mode v) 0

-- every limit and rule but overlap's: accepted for reading. Each view that is accepted for some mode keeps these (`accepted_valid`)
pub record Valid (v : PaperView) : Type 0 where
  pub keeps : accepted 1 v ≡ true
