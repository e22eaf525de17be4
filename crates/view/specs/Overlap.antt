-- Must be believed. Document 02, order 3: what the overlap rule refuses and what it does not.
use Rattle.std.specs.Prelude.{ℕ, ◌+◌, ◌-◌, ◌≤◌, ◌<◌, true, ◌≡◌}
use Rattle.view.specs.Types.{PaperView, entries, width_at, displacement_at, extent_of}
use Rattle.view.specs.Rules.{Clash}
use Rattle.view.specs.Acceptance.{accepted}
use Rattle.view.specs.Owners.{Belongs}

-- some file byte belongs to two different pairs
pub record Shared (v : PaperView) : Type 0 where
  pub byte : ℕ
  pub x : ℕ
  pub j : ℕ
  pub y : ℕ
  pub k : ℕ
  pub one : Belongs v byte x j
  pub other : Belongs v byte y k
  pub different : x ≡ y → j ≡ k → ⊥

-- document 01's rule, which order 3 replaced: each filetype entry ends at or before the next one begins, and the last one ends at or before the first one's displacement plus F
pub record InOrder (v : PaperView) : Type 0 where
  pub next : (i : ℕ) → i + 1 < entries v.filetype → displacement_at v.filetype i + width_at v.filetype i ≤ displacement_at v.filetype (i + 1)
  pub tile : displacement_at v.filetype (entries v.filetype - 1) + width_at v.filetype (entries v.filetype - 1) ≤ displacement_at v.filetype 0 + extent_of v.filetype

-- bytes that clash share a file byte, so no weaker rule keeps one owner; and what document 01 accepted for writing is accepted
pub record ExactRule (v : PaperView) : Type 0 where
  pub shares : (i a k b : ℕ) → Clash v i a k b → Shared v
  pub keeps : (mode : ℕ) → InOrder v → accepted mode v ≡ true
