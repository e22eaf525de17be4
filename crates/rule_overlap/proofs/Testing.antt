-- What the tests of this crate say of keys.
use Rattle.laws.proofs.Prelude.{ℕ, ◌+◌, ◌-◌, ◌/◌, ◌%◌, ◌≤◌, ◌<◌, ◌≡◌, sym, ◌∙◌, Bool, true, false, List, arith, length, get_or, take, get_or-take, length-take-le, leb, le-leb, lt-leb, also_yes, also_no, nth, all, all_intro, all_fails, all_at, iff, least_false, least_false_is}
use Rattle.std.proofs.Common.{◌↔◌, IsTrue, EachIndex, Option, Some, None, MatchOption}
use Rattle.std.specs.List.{IsAllAdjacentAnswer}
use Rattle.std.specs.Option.{unwrap_or}
use Rattle.rule_overlap.specs.Parts.{keys_apart, key_clear, key_ends, keys_follow}

-- ---- a key against the earlier ones

module _ (f : ℕ) (keys : List ℕ) (i : ℕ) where
  pub wide_key : f < get_or keys i 0 % 16 → false ≡ key_clear f keys i
  unfolding key_clear
  wide_key l = also_no _ _ (lt-leb _ _ l)

  pub earlier_told : (t : Bool) → get_or keys i 0 % 16 ≤ f → i < length keys → (IsTrue t ↔ EachIndex (take i keys) (λ k. keys_apart f (get_or (take i keys) k 0) (get_or keys i 0) ≡ true)) → t ≡ key_clear f keys i
  unfolding key_clear
  earlier_told t s l h = also_yes _ _ _ (le-leb _ _ s) (iff _ _ (λ a. all_intro _ i (low a)) (λ a. h.1 (high a)))
    where
      long : length (take i keys) ≡ i
      long = length-take-le i keys (omega arith)

      low : t ≡ true → (k : ℕ) → k < i → keys_apart f (nth keys k) (nth keys i) ≡ true
      low a k b = rw (get_or-take i keys k 0 b) at (h.0 a k (rw long b))

      high : all (λ k. keys_apart f (nth keys k) (nth keys i)) i ≡ true → EachIndex (take i keys) (λ k. keys_apart f (get_or (take i keys) k 0) (get_or keys i 0) ≡ true)
      high a k b = let c : k < i = rw long at b in rw (get_or-take i keys k 0 c) (all_at _ i a k c)

-- what a search for the first that fails found
pub first_told : (p : ℕ → Bool) (n : ℕ) (r : Option ℕ) → MatchOption r ((k : ℕ) → 0 ≤ k → k < n → p k ≡ true) (λ i. (0 ≤ i) × (i < n) × (p i ≡ false) × ((k : ℕ) → 0 ≤ k → k < i → p k ≡ true)) → unwrap_or r n ≡ least_false p n
first_told p n None h = least_false_is p n n (omega arith) (λ k l. h k (omega arith) l) (λ l. absurd (omega arith))
first_told p n (Some i) h = least_false_is p n i (omega (arith, h.1)) (λ k l. h.3 k (omega arith) l) (λ l. h.2)

-- ---- keys in order

-- t says whether each key ends before the next one begins
module _ (keys : List ℕ) (f : ℕ) (t : Bool) (h : IsAllAdjacentAnswer (λ x y b. b ≡ leb (x / 16 + x % 16) (y / 16)) keys t) where
  ends_told : (r : Bool) → IsAllAdjacentAnswer (λ x y b. b ≡ leb (x / 16 + x % 16) (y / 16)) keys r → r ≡ all (key_ends keys) (length keys - 1)
  unfolding key_ends
  ends_told true a = sym (all_intro _ _ (λ k l. sym (a k 0 (omega arith))))
  ends_told false a = sym (all_fails _ _ a.0 (omega (arith, a.1)) (sym (a.2 0)))

  pub follow_closes : t ≡ true → (end begin : ℕ) → end ≡ get_or keys (length keys - 1) 0 / 16 + get_or keys (length keys - 1) 0 % 16 → begin ≡ get_or keys 0 0 / 16 → leb end (begin + f) ≡ keys_follow f keys
  unfolding keys_follow
  follow_closes a end begin e b = also_yes _ _ _ (sym (ends_told t h) ∙ a) (rw (e, b))

  pub follow_fails : t ≡ false → t ≡ keys_follow f keys
  unfolding keys_follow
  follow_fails a = a ∙ also_no _ _ (sym (ends_told t h) ∙ a)
