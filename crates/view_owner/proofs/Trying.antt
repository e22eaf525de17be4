-- One entry tried: no step wraps, and each answer is what the definition says.
use Rattle.laws.proofs.Prelude.{ℕ, ◌+◌, ◌-◌, ◌*◌, ◌/◌, ◌%◌, ◌≤◌, ◌<◌, ◌≡◌, refl, arith, mul-le-mul, pos, w64, Fits, lt-ltb, le-ltb, le-leb, lt-leb, also_true, also_first, also_false, cond_yes, cond_no}
use Rattle.std.proofs.Common.{Option, Some, None}
use Rattle.view.specs.declared.Offset.{Offset}
use Rattle.view.specs.declared.Pair.{Pair}
use Rattle.view_owner.specs.Parts.{entry_owner, InstanceIn}

-- the product of tile and instances
before_small : (K tile : ℕ) → tile < 4294967296 → K ≤ 64 → tile * K ≤ 274877906944
before_small K tile l k = mul-le-mul {n₁ = tile} {m₁ = K} {n₂ = 4294967296} {m₂ = 64} (omega arith) k

pub before_fits : (K tile : ℕ) → tile < 4294967296 → K ≤ 64 → Fits w64 (tile * K)
before_fits K tile l k = record { fits = omega (arith, before_small K tile l k) }

module _ (F K : ℕ) (g a w packed b : ℕ) where
  -- the entry begins after the byte
  pub entry_after : b < a → None ≡ entry_owner F K g a w packed b
  unfolding entry_owner
  entry_after l = cond_no _ _ _ _ (also_first _ _ (lt-leb a b l)) refl

  -- the byte lies in the entry in no tile
  pub entry_beside : w ≤ (b - a) % F → None ≡ entry_owner F K g a w packed b
  unfolding entry_owner
  entry_beside l = cond_no _ _ _ _ (also_false _ _ (also_first _ _ (le-ltb _ _ l))) refl

  -- the offset is not allowed
  pub offset_past : 4294967296 ≤ (b - a) / F * K + g → None ≡ entry_owner F K g a w packed b
  unfolding entry_owner
  offset_past l = cond_no _ _ _ _ (also_false _ _ (also_false _ _ (le-ltb _ _ l))) refl

  -- the byte lies in the entry, at an allowed offset
  pub entry_hit : (x : Offset) → a ≤ b → (b - a) % F < w → (b - a) / F * K + g < 4294967296 → x.0 ≡ pos ((b - a) / F * K + g) → ◌≡◌ {A = Option Pair} (Some (record { offset = x; index = packed + (b - a) % F })) (entry_owner F K g a w packed b)
  unfolding entry_owner
  entry_hit x la lw lo e =
      cond_yes _ _ _ _ (also_true (le-leb _ _ la) (also_true (lt-ltb _ _ lw) (lt-ltb _ _ lo)))
      (λ i. Some (record { offset = record { 0 = e i }; index = packed + (b - a) % F }))

  module _ (k : InstanceIn F K g) where
    -- a tile with this number has no allowed offset, since it has an instance
    pub tile_past : 4294967296 ≤ (b - a) / F → None ≡ entry_owner F K g a w packed b
    tile_past l = offset_past (omega (arith, mul-le-mul {n₁ = 4294967296} {m₁ = 1} {n₂ = (b - a) / F} {m₂ = K} l (omega (arith, k.instance))))

    pub offset_fits : (b - a) / F < 4294967296 → Fits w64 ((b - a) / F * K + g)
    offset_fits l = record { fits = omega (arith, before_small K ((b - a) / F) l k.few, k.instance, k.few) }
