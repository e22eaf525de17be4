-- Runs in turn: each ends at or before the next one begins, and the last one before the first one's beginning plus a tile.
use Prim.Native.Nat.{ℕ, zero, suc, ◌+◌, ◌-◌, ◌≤◌, ◌<◌}
use mathlib.Core.Path.{◌≡◌, sym}
use mathlib.Core.Logic.{⊎_elim}
use native.Mathlib.Nat.{add-zero, add-suc}
use native.Mathlib.Numerals.{add-one}
use native.Mathlib.Omega.{arith}
use Rattle.laws.proofs.Booleans.{lt_or_le}

-- n runs, run i of w i at d i, in a tile of f
pub record InTurn (d w : ℕ → ℕ) (n f : ℕ) : Type 0 where
  pub next : (i : ℕ) → i + 1 < n → d i + w i ≤ d (i + 1)
  pub tile : d (n - 1) + w (n - 1) ≤ d 0 + f

module _ (d w : ℕ → ℕ) (n f : ℕ) (o : InTurn d w n f) where
  -- a run ends before any later one begins
  later_begins : (i k : ℕ) → i + 1 + k < n → d i + w i ≤ d (i + 1 + k)
  later_begins i zero l = rw (add-zero (i + 1)) (o.next i (omega arith))
  later_begins i (suc k) l = rw (add-suc (i + 1) k, sym (add-one (i + 1 + k))) (omega (arith, later_begins i k (omega arith), o.next (i + 1 + k) (omega arith)))

  pub turn_later : (i k : ℕ) → i < k → k < n → d i + w i ≤ d k
  turn_later i k l h = let e : i + 1 + (k - (i + 1)) ≡ k = omega arith in rw e at (later_begins i (k - (i + 1)) (omega arith))

  -- and before the next tile's first
  pub turn_within : (i : ℕ) → i < n → d i + w i ≤ d 0 + f
  turn_within i l =
      ⊎_elim (λ h. omega (arith, turn_later i (n - 1) h (omega arith), o.tile))
      (λ h. let e : i ≡ n - 1 = omega arith in rw e o.tile)
      (lt_or_le i (n - 1))

  pub turn_lowest : (i : ℕ) → i < n → d 0 ≤ d i
  turn_lowest zero l = omega arith
  turn_lowest (suc i) l = omega (arith, turn_later 0 (suc i) (omega arith) l)
