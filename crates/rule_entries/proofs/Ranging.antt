-- A test of each index of a range.
use Rattle.laws.proofs.Prelude.{ℕ, ◌+◌, ◌<◌, ◌≡◌, Bool, true, false, sym, List, arith, length, all, all_intro, all_fails}
use Rattle.std.proofs.Common.{Option, MatchOption, MatchBool, HoldsAt}
use Rattle.std.specs.Fn.{Called}
use Rattle.std.specs.Iterator.{YieldsThen}
use Rattle.std.specs.List.{range_with_len, FoldsTo, AllWithin}
use Rattle.std.specs.declared.ops.Range.{Range}
use Rattle.std.proofs.iter.Yields.{nat_range_steps}
use Rattle.std.proofs.lemmas.Iterator.{cases_from_all, YieldsList-from_range}
use Rattle.std.proofs.lemmas.List.FromFn.{length-range_with_len, get_or-range_with_len}
use denote.Param.Members.{Mut}

module _ (p : ℕ → Bool) (n : ℕ) where
  told : (r : Bool) → MatchBool r (AllWithin (λ x. p x ≡ true) (range_with_len 0 n) 0 (length (range_with_len 0 n))) ((k : ℕ) × (k < length (range_with_len 0 n)) × HoldsAt (λ x. p x ≡ false) (range_with_len 0 n) k) → r ≡ all p n
  told true h =
      let at : (k : ℕ) → k < n → p k ≡ true = λ k l. let q : 0 + k ≡ k = omega arith in rw (get_or-range_with_len 0 n k 0 l, q) at (h k 0 (omega arith) (rw (length-range_with_len 0 n) l)) in
      sym (all_intro p n at)
  told false h =
      let l : h.0 < n = rw (length-range_with_len 0 n) at h.1 in
      let q : 0 + h.0 ≡ h.0 = omega arith in
      sym (all_fails p n h.0 l (rw (get_or-range_with_len 0 n h.0 0 l, q) at (h.2 0)))

  pub each_told : {F : Type 0} {g : Mut F (ℕ × Unit {0}) Bool} {s : Range ℕ} (u : Range ℕ) (f : F) (r : Bool) → s ≡ record { start = 0; end = n } → (xs : List ℕ) × (o : Option ℕ) × (j : F) × YieldsThen nat_range_steps s xs o u × FoldsTo (λ a x q. Called g a (x, tt) true q) f xs j × MatchOption o (r ≡ true) (λ x. (r ≡ false) × ((h : F) × Called g j (x, tt) false h)) → ((x : ℕ) (q : F) → Called g f (x, tt) true q → (q ≡ f) × (p x ≡ true)) → ((x : ℕ) (q : F) → Called g f (x, tt) false q → p x ≡ false) → r ≡ all p n
  each_told u f r e ran keeps breaks = told r (cases_from_all u f r (λ x. p x ≡ true) (λ x. p x ≡ false) ran (YieldsList-from_range 0 n n e (omega arith)) keeps breaks)
