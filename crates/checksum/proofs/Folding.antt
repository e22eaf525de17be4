-- A checksum is taken number by number, and no step wraps.
use Rattle.laws.proofs.Prelude.{ℕ, ◌+◌, ◌*◌, ◌/◌, ◌%◌, ◌≤◌, ◌<◌, ◌≡◌, refl, sym, ap, ◌∙◌, List, zero, suc, length, take, get_or, arith, mul-add-mod_self_right, add-one}
use lib.Seq.{take-length}
use Rattle.std.specs.List.{fold}
use Rattle.std.proofs.lemmas.List.Sums.{fold_more}
use Rattle.checksum.specs.Parts.{modulus, fed, checksum_of}

-- the remainder of s serves as well as s
pub feed_is : (s x : ℕ) → (s % modulus * 65599 + x % modulus + 1) % modulus ≡ fed s x
unfolding fed
feed_is s x =
    let e : s / 4294967291 * 65599 * 4294967291 + (s % 4294967291 * 65599 + x % 4294967291 + 1) ≡ s * 65599 + x % 4294967291 + 1 = omega arith in
    sym (mul-add-mod_self_right (s / 4294967291 * 65599) 4294967291 _) ∙ ap (λ (z : ℕ). z % 4294967291) e

-- the checksum of the codes of a list, as a fold of them
module _ {A : Type 0} (number : A → ℕ) (l : List A) (d : A) where
  first_folded : (i : ℕ) → i ≤ length l → fold (λ s x. fed s (number x)) 7 (take i l) ≡ checksum_of (λ k. number (get_or l k d)) i
  unfolding checksum_of
  first_folded zero h = refl
  first_folded (suc i) h =
      let b : i < length l = omega arith in
      let m = fold_more (λ s x. fed s (number x)) 7 l i d b in
      let r = first_folded i (omega arith) in
      rw (← add-one i) (cc)

  pub folded : fold (λ s x. fed s (number x)) 7 l ≡ checksum_of (λ k. number (get_or l k d)) (length l)
  folded = ap (fold (λ s x. fed s (number x)) 7) (sym (take-length l)) ∙ first_folded (length l) (omega arith)
