-- Laws of the ranges: what callers get of them, and how the code tests them.
use Rattle.laws.proofs.Prelude.{minus_negative, ℕ, suc, ◌+◌, ◌-◌, ◌*◌, ◌≤◌, ◌<◌, ◌≡◌, refl, sym, ap, ◌∙◌, Bool, true, false, not, true≢false, ⊎_elim, arith, mul-le-mul, ℤ, pos, negsuc, nat_abs, sub_ℕ, ◌+ℤ◌, ◌-ℤ◌, leb, lt_z, w64, Fits, SFits, to_z, of_z, to_z-of_z, rules, ltb-true, leb-true, le-ltb, lt-ltb, le-leb, lt-leb, not_both, lt_or_le, unflag_true}
use Rattle.std.proofs.Common.{Option, Some, None}
use Rattle.std.specs.Prelude.{unsigned_abs}
use Rattle.std.specs.Int.{FitsUnsigned}
use Rattle.std.proofs.lemmas.Int.{ints}
use Rattle.view.specs.Limits.{offset_allowed, pointer_allowed}
use Rattle.view.specs.Types.{whole}
use Rattle.handle.specs.Ranges.{target_allowed, access_allowed}
use Rattle.handle.specs.Parts.{target_at}

-- ---- for callers

-- a seek from 0 goes to its offset
pub zero_plus : (z : ℤ) → pos 0 +ℤ z ≡ z
zero_plus (pos n) = ap pos (omega arith)
zero_plus (negsuc n) = rw (lt-ltb 0 (suc n) (omega arith)) (ap negsuc (omega arith))

pub access_sum : (z : ℤ) (c : ℕ) → access_allowed z c ≡ true → whole z + c ≤ 4294967296
unfolding access_allowed whole
access_sum (pos o) c h = leb-true (o + c) 4294967296 h
access_sum (negsuc o) c h = not_both h refl

pub access_offset : (z : ℤ) (c : ℕ) → access_allowed z c ≡ true → 0 < c → offset_allowed z ≡ true
unfolding access_allowed offset_allowed
access_offset (pos o) c h l = lt-ltb o 4294967296 (omega (arith, leb-true (o + c) 4294967296 h))
access_offset (negsuc o) c h l = not_both h refl

-- an allowed pointer is a signed number
pub pointer_signed : (p : ℕ) → p ≤ 4294967296 → p < 9223372036854775808
pointer_signed p l = omega arith

-- ---- an offset, by the sign and against the last one

negative_offset : (z : ℤ) → lt_z z (pos 0) ≡ true → false ≡ offset_allowed z
unfolding offset_allowed
negative_offset (pos n) h = absurd (omega (arith, ltb-true n 0 h))
negative_offset (negsuc n) h = refl

last_offset : (z : ℤ) (n : ℕ) → n ≡ whole z → lt_z z (pos 0) ≡ false → leb n 4294967295 ≡ offset_allowed z
unfolding offset_allowed whole
last_offset (pos o) n e h =
    ⊎_elim
    (λ q. lt-leb n 4294967295 q ∙ sym (le-ltb o 4294967296 (omega arith)))
    (λ q. le-leb n 4294967295 q ∙ sym (lt-ltb o 4294967296 (omega arith)))
    (lt_or_le 4294967295 n)
last_offset (negsuc o) n e h = absurd (true≢false h)

-- ---- an access, by the sign and by what is left up to 2^32

negative_access : (z : ℤ) (c : ℕ) → lt_z z (pos 0) ≡ true → false ≡ access_allowed z c
unfolding access_allowed
negative_access (pos n) c h = absurd (omega (arith, ltb-true n 0 h))
negative_access (negsuc n) c h = refl

high_access : (z : ℤ) (c n : ℕ) → n ≡ whole z → 4294967296 < n → false ≡ access_allowed z c
unfolding access_allowed whole
high_access (pos o) c n e l = sym (lt-leb (o + c) 4294967296 (omega arith))
high_access (negsuc o) c n e l = refl

left_access : (z : ℤ) (c n : ℕ) → n ≡ whole z → lt_z z (pos 0) ≡ false → n ≤ 4294967296 → leb c (4294967296 - n) ≡ access_allowed z c
unfolding access_allowed whole
left_access (pos o) c n e h l =
    ⊎_elim
    (λ q. lt-leb c (4294967296 - n) q ∙ sym (lt-leb (o + c) 4294967296 (omega arith)))
    (λ q. le-leb c (4294967296 - n) q ∙ sym (le-leb (o + c) 4294967296 (omega arith)))
    (lt_or_le (4294967296 - n) c)
left_access (negsuc o) c n e h l = absurd (true≢false h)

-- the machine's reading of the offset's bits is the offset
module _ (z : ℤ) (c : ℕ) (f : SFits w64 z) where
  pub access_negative : lt_z (to_z w64 (of_z w64 z)) (pos 0) ≡ true → false ≡ access_allowed z c
  access_negative h = negative_access z c (rw (to_z-of_z f) at h)

  module _ (n : ℕ) (e : n ≡ whole (to_z w64 (of_z w64 z))) where
    pub access_high : 4294967296 < n → false ≡ access_allowed z c
    access_high l = high_access z c n (e ∙ ap whole (to_z-of_z f)) l

    pub access_left : lt_z (to_z w64 (of_z w64 z)) (pos 0) ≡ false → n ≤ 4294967296 → leb c (4294967296 - n) ≡ access_allowed z c
    access_left h l = left_access z c n (e ∙ ap whole (to_z-of_z f)) (rw (to_z-of_z f) at h) l

pub ruleset accessing = (rules, access_negative, access_high, access_left)

module _ (z : ℤ) (f : SFits w64 z) where
  pub offset_negative : lt_z (to_z w64 (of_z w64 z)) (pos 0) ≡ true → false ≡ offset_allowed z
  offset_negative h = negative_offset z (rw (to_z-of_z f) at h)

  pub offset_last : (n : ℕ) → n ≡ whole (to_z w64 (of_z w64 z)) → lt_z (to_z w64 (of_z w64 z)) (pos 0) ≡ false → leb n 4294967295 ≡ offset_allowed z
  offset_last n e h = last_offset z n (e ∙ ap whole (to_z-of_z f)) (rw (to_z-of_z f) at h)

pub ruleset standing = (rules, offset_negative, offset_last)

-- ---- a seek's target

-- ---- a seek's target, by whether the sum is one of 64 bits

none_fits : (t : ℤ) → (FitsUnsigned w64 t → ⊥) → None ≡ target_at t
unfolding target_at target_allowed pointer_allowed
none_fits (pos n) f = ⊎_elim
    (λ l. rw (lt-leb n 4294967296 l))
    (λ l. absurd (f (omega (arith, ints), omega (arith, ints))))
    (lt_or_le 4294967296 n)
none_fits (negsuc n) f = refl

high_fits : (t : ℤ) (p : ℕ) → FitsUnsigned w64 t → p ≡ unsigned_abs t → 4294967296 < p → None ≡ target_at t
unfolding target_at target_allowed pointer_allowed
high_fits (pos n) p f e l = rw (lt-leb n 4294967296 (omega arith))
high_fits (negsuc n) p f e l = refl

within_fits : (t : ℤ) (p : ℕ) → FitsUnsigned w64 t → p ≡ unsigned_abs t → p ≤ 4294967296 → Some p ≡ target_at t
unfolding target_at target_allowed pointer_allowed whole
within_fits (pos n) p f e l = rw (le-leb n 4294967296 (omega arith)) (ap Some e)
within_fits (negsuc n) p f e l = absurd (omega (arith, f.0))

-- the machine's reading of each number's bits is the number
module _ (o z : ℤ) (g : SFits w64 o) (f : SFits w64 z) (n : ℕ) (b : n ≡ whole (to_z w64 (of_z w64 o))) where
  sum_is : pos n +ℤ to_z w64 (of_z w64 z) ≡ pos (whole o) +ℤ z
  sum_is = ap (λ (x : ℤ). pos n +ℤ x) (to_z-of_z f) ∙ ap (λ (m : ℕ). pos m +ℤ z) (b ∙ ap whole (to_z-of_z g))

  pub sought_none : (FitsUnsigned w64 (pos n +ℤ to_z w64 (of_z w64 z)) → ⊥) → None ≡ target_at (pos (whole o) +ℤ z)
  sought_none k = none_fits _ (rw sum_is at k)

  module _ (p : ℕ) (k : FitsUnsigned w64 (pos n +ℤ to_z w64 (of_z w64 z)) × (p ≡ unsigned_abs (pos n +ℤ to_z w64 (of_z w64 z)))) where
    pub sought_high : 4294967296 < p → None ≡ target_at (pos (whole o) +ℤ z)
    sought_high l = let q = rw sum_is at k in high_fits _ p q.0 q.1 l

    pub sought_within : p ≤ 4294967296 → Some p ≡ target_at (pos (whole o) +ℤ z)
    sought_within l = let q = rw sum_is at k in within_fits _ p q.0 q.1 l

-- ---- products

-- check 12 bounds the count of an access
pub bytes_fit : (z : ℤ) (c s : ℕ) (t : Bool) → t ≡ access_allowed z c → not t ≡ false → s ≤ 64 → Fits w64 (c * s)
bytes_fit z c s t e n l =
    let m = mul-le-mul {n₁ = c} {m₁ = s} {n₂ = 4294967296} {m₂ = 64} (omega (arith, access_sum z c (unflag_true t _ e n))) l in
    record { fits = omega arith }

pub counts_fit : (n k : ℕ) → n ≤ 8 → k ≤ 64 → Fits w64 (k * n)
counts_fit n k a b = let m = mul-le-mul {n₁ = k} {m₁ = n} {n₂ = 64} {m₂ = 8} b a in record { fits = omega arith }
