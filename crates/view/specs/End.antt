-- Must be believed. Document 01, "Where an offset lies": end of file.
use Rattle.std.specs.Prelude.{ℕ, ◌≤◌}
use Rattle.view.specs.Types.{PaperView}
use Rattle.view.specs.Places.{place}

-- k is the smallest offset such that no etype at k or later begins below the size, all whole numbers counted
pub record IsEnd (v : PaperView) (size k : ℕ) : Type 0 where
  pub past : (x : ℕ) → k ≤ x → size ≤ place v x
  pub smallest : (m : ℕ) → ((x : ℕ) → m ≤ x → size ≤ place v x) → k ≤ m
