-- The library's `all` over the numbers below n is the definition's `all`.
use Rattle.laws.proofs.Prelude.{ℕ, ◌<◌, ◌≡◌, Bool, true, false, List, ap, refl, sym, ◌∙◌, get_or, arith, iff, all, all_at, all_intro}
use denote.Param.Members.{Mut}
use Rattle.std.specs.Fn.{Called}
use Rattle.std.specs.Iterator.{YieldsThen}
use Rattle.std.specs.List.{list_all, range_with_len, FoldsTo}
use Rattle.std.specs.Option.{MatchOption}
use Rattle.std.specs.Prelude.{Option}
use Rattle.std.specs.declared.ops.Range.{Range}
use Rattle.std.proofs.iter.Yields.{nat_range_steps}
use Rattle.std.proofs.lemmas.Iterator.{YieldsList-from_range}
use Rattle.std.proofs.lemmas.Iterator.Search.{all_from_yields_List}
use Rattle.std.proofs.lemmas.List.Sums.{AllPass-from_list_all, list_all-from_AllPass}
use Rattle.std.proofs.lemmas.List.FromFn.{length-range_with_len, get_or-range_with_len}

module _ (p : ℕ → Bool) (n : ℕ) where
  element : (k d : ℕ) → k < n → get_or (range_with_len 0 n) k d ≡ k
  element k d l = omega (arith, get_or-range_with_len 0 n k d l)

  listed : list_all p (range_with_len 0 n) ≡ all p n
  listed =
      iff _ _ (λ e. all_intro p n (λ k l. ap p (sym (element k 0 l)) ∙ AllPass-from_list_all p (range_with_len 0 n) e k 0 (omega (arith, length-range_with_len 0 n))))
      (λ e. list_all-from_AllPass p (range_with_len 0 n) (λ k d l. let h : k < n = omega (arith, length-range_with_len 0 n) in ap p (element k d h) ∙ all_at p n e k h))

  pub all_in_range : {F : Type 0} {g : Mut F (ℕ × Unit {0}) Bool} (u : Range ℕ) (f : F) (r : Bool) → (xs : List ℕ) × (o : Option ℕ) × (j : F) × YieldsThen nat_range_steps (record { start = 0; end = n }) xs o u × FoldsTo (λ p x q. Called g p (x, tt) true q) f xs j × MatchOption o (r ≡ true) (λ x. (r ≡ false) × ((h : F) × Called g j (x, tt) false h)) → ((x : ℕ) (b : Bool) (q : F) → Called g f (x, tt) b q → (q ≡ f) × (b ≡ p x)) → r ≡ all p n
  all_in_range u f r ran calls = all_from_yields_List p u f r ran (YieldsList-from_range 0 n n refl (omega arith)) calls ∙ listed
