-- What the functions over the origins test: each instance, and one instance and the next.
use Rattle.laws.proofs.Prelude.{ℕ, ◌+◌, ◌-◌, ◌≤◌, ◌<◌, ◌≡◌, Bool, true, false, List, sym, arith, get_or, length, take, get_or-take, length-take-le, leb, le-leb, leb-true, nth, all, all_intro, all_fails, all_at, iff}
use Rattle.std.proofs.Common.{◌↔◌, IsTrue, EachIndex, Option, MatchOption, MatchBool, HoldsAt}
use Rattle.std.specs.Fn.{Called}
use Rattle.std.specs.Iterator.{YieldsThen}
use Rattle.std.specs.List.{range_with_len, FoldsTo, AllWithin}
use Rattle.std.specs.declared.ops.Range.{Range}
use Rattle.std.proofs.iter.Yields.{nat_range_steps}
use Rattle.std.proofs.lemmas.Iterator.{cases_from_all, YieldsList-from_range}
use Rattle.std.proofs.lemmas.List.FromFn.{length-range_with_len, get_or-range_with_len}
use Rattle.rule_instances.specs.Parts.{reach_at}
use denote.Param.Members.{Mut}

-- ---- origins

-- each origin in use is low enough where each instance ends within the limit
pub reach_answer : (ps : List ℕ) (k reach : ℕ) (t : Bool) → k ≤ length ps → reach ≤ 1048576 → (IsTrue t ↔ EachIndex (take k ps) (λ g. get_or (take k ps) g 0 ≤ 1048576 - reach)) → t ≡ all (reach_at ps reach) k
unfolding reach_at
reach_answer ps k reach t l r h = iff _ _ (λ a. all_intro _ k (low a)) (λ a. h.1 (high a))
  where
    low : IsTrue t → (g : ℕ) → g < k → leb (nth ps g + reach) 1048576 ≡ true
    low a g b =
        let q = h.0 a g (rw (length-take-le k ps l) b) in
        let c : nth ps g ≤ 1048576 - reach = rw (get_or-take k ps g 0 b) at q in
        le-leb _ _ (omega arith)

    high : all (λ g. leb (nth ps g + reach) 1048576) k ≡ true → EachIndex (take k ps) (λ g. get_or (take k ps) g 0 ≤ 1048576 - reach)
    high a g b =
        let c : g < k = rw (length-take-le k ps l) at b in
        rw (get_or-take k ps g 0 c) (omega (arith, leb-true _ _ (all_at _ k a g c)))

-- ---- from one instance to the next

module _ (p : ℕ → Bool) (n : ℕ) where
  told : (r : Bool) → MatchBool r (AllWithin (λ x. p x ≡ true) (range_with_len 0 n) 0 (length (range_with_len 0 n))) ((k : ℕ) × (k < length (range_with_len 0 n)) × HoldsAt (λ x. p x ≡ false) (range_with_len 0 n) k) → r ≡ all p n
  told true h =
      let at : (k : ℕ) → k < n → p k ≡ true = λ k l. let q : 0 + k ≡ k = omega arith in rw (get_or-range_with_len 0 n k 0 l, q) at (h k 0 (omega arith) (rw (length-range_with_len 0 n) l)) in
      sym (all_intro p n at)
  told false h =
      let l : h.0 < n = rw (length-range_with_len 0 n) at h.1 in
      let q : 0 + h.0 ≡ h.0 = omega arith in
      sym (all_fails p n h.0 l (rw (get_or-range_with_len 0 n h.0 0 l, q) at (h.2 0)))

  -- a test of each index of a range
  pub each_told : {F : Type 0} {g : Mut F (ℕ × Unit {0}) Bool} {s : Range ℕ} (u : Range ℕ) (f : F) (r : Bool) → s ≡ record { start = 0; end = n } → (xs : List ℕ) × (o : Option ℕ) × (j : F) × YieldsThen nat_range_steps s xs o u × FoldsTo (λ a x q. Called g a (x, tt) true q) f xs j × MatchOption o (r ≡ true) (λ x. (r ≡ false) × ((h : F) × Called g j (x, tt) false h)) → ((x : ℕ) (q : F) → Called g f (x, tt) true q → (q ≡ f) × (p x ≡ true)) → ((x : ℕ) (q : F) → Called g f (x, tt) false q → p x ≡ false) → r ≡ all p n
  each_told u f r e ran keeps breaks = told r (cases_from_all u f r (λ x. p x ≡ true) (λ x. p x ≡ false) ran (YieldsList-from_range 0 n n e (omega arith)) keeps breaks)
