-- The overlap rule on keys is the rule on the entries that they are made of; and sorted keys keep it exactly if each ends before the next begins.
-- The second rests on what a permutation leaves: a statement about all pairs of a list, if it does not depend on their order.
use Rattle.laws.proofs.Prelude.{ℕ, ◌+◌, ◌-◌, ◌/◌, ◌%◌, ◌≤◌, ◌<◌, ◌≡◌, sym, ◌∙◌, Bool, true, List, ⊎_elim, arith, length, leb-true, le-leb, also_inv, also_true, either_inv, either_left, either_right, all, all_at, all_intro, all_same, least_false, least_false_same, nth, iff, lt_or_le, run_div, run_mod, InTurn, turn_later, turn_within, turn_lowest}
use Rattle.view.specs.Parts.{ends_before, clear_of, entry_clear}
use Rattle.sorting.specs.Parts.{Sorted}
use Rattle.sorting.proofs.Permuted.{permuted_length, permuted_back, permuted_all, permuted_pairs, rising_at}
use Rattle.rule_overlap.specs.Parts.{key_of, keys_apart, key_clear, key_ends, keys_follow, KeysValid}

-- ---- keys of entries

module _ (keys : List ℕ) (w d : ℕ → ℕ) (f n : ℕ) (is : (i : ℕ) → i < n → nth keys i ≡ key_of f (d i) (w i)) (small : (i : ℕ) → i < n → w i < 16) where
  key_begin : (i : ℕ) → i < n → nth keys i / 16 ≡ d i % f
  key_begin i l = rw (is i l) (run_div 16 (d i % f) (w i) (small i l))

  key_width : (i : ℕ) → i < n → nth keys i % 16 ≡ w i
  key_width i l = rw (is i l) (run_mod 16 (d i % f) (w i) (small i l))

  same_pair : (i k : ℕ) → i < n → k < n → keys_apart f (nth keys k) (nth keys i) ≡ clear_of f (d k % f) (w k) (d i % f) (w i)
  unfolding keys_apart
  same_pair i k l h = rw (key_begin i l, key_width i l, key_begin k h, key_width k h)

  same_clear : (i : ℕ) → i < n → key_clear f keys i ≡ entry_clear w d f i
  unfolding key_clear entry_clear
  same_clear i l =
      let e : all (λ k. keys_apart f (nth keys k) (nth keys i)) i ≡ all (λ k. clear_of f (d k % f) (w k) (d i % f) (w i)) i = all_same _ _ i (λ k h. same_pair i k l (omega arith)) in
      rw (key_width i l, e)

  pub keys_rule : all (key_clear f keys) n ≡ all (entry_clear w d f) n
  keys_rule = all_same _ _ n same_clear

  pub keys_first : least_false (key_clear f keys) n ≡ least_false (entry_clear w d f) n
  keys_first = least_false_same _ _ n same_clear

-- ---- sorted keys

apart_back : (f x y : ℕ) → keys_apart f x y ≡ true → keys_apart f y x ≡ true
unfolding keys_apart clear_of ends_before
apart_back f x y h = ⊎_elim (λ e. either_right _ _ e) (λ e. either_left _ _ e) (either_inv _ _ h)

-- of two keys that are apart the smaller ends before the other begins
in_order_law : (f x y : ℕ) → x ≤ y → 0 < y % 16 → keys_apart f x y ≡ true → (x / 16 + x % 16 ≤ y / 16) × (y / 16 + y % 16 ≤ x / 16 + f)
unfolding keys_apart clear_of ends_before
in_order_law f x y l s h =
    ⊎_elim
    (λ e. let g = also_inv _ _ e in (leb-true _ _ g.0, leb-true _ _ g.1))
    (λ e. let g : y / 16 + y % 16 ≤ x / 16 = leb-true _ _ (also_inv _ _ e).0 in absurd (omega arith))
    (either_inv _ _ h)

in_order_apart : (f x y : ℕ) → x / 16 + x % 16 ≤ y / 16 → y / 16 + y % 16 ≤ x / 16 + f → keys_apart f x y ≡ true
unfolding keys_apart clear_of ends_before
in_order_apart f x y a b = either_left _ _ (also_true (le-leb _ _ a) (le-leb _ _ b))

module _ (f : ℕ) (a : List ℕ) where
  -- no key clashes with itself or an earlier one: each pair is apart, and no key is wider than a tile
  pairs_of : all (key_clear f a) (length a) ≡ true → (i k : ℕ) → i < k → k < length a → keys_apart f (nth a i) (nth a k) ≡ true
  unfolding key_clear
  pairs_of h i k l m = all_at _ k (also_inv _ _ (all_at (key_clear f a) (length a) h k m)).1 i l

  widths_of_law : all (key_clear f a) (length a) ≡ true → (i : ℕ) → i < length a → nth a i % 16 ≤ f
  unfolding key_clear
  widths_of_law h i l = leb-true _ _ (also_inv _ _ (all_at (key_clear f a) (length a) h i l)).0

  of_pairs : ((i k : ℕ) → i < k → k < length a → keys_apart f (nth a i) (nth a k) ≡ true) → ((i : ℕ) → i < length a → nth a i % 16 ≤ f) → all (key_clear f a) (length a) ≡ true
  unfolding key_clear
  of_pairs p w = all_intro (key_clear f a) (length a) (λ i l. also_true (le-leb _ _ (w i l)) (all_intro _ i (λ k h. p k i h l)))

module _ (f : ℕ) (a b : List ℕ) (s : Sorted a b) (v : KeysValid a f) where
  same_length : length a ≡ length b
  same_length = permuted_length s.same

  some : 0 < length b
  some = omega (arith, v.some, same_length)

  width_some : (i : ℕ) → i < length b → 0 < nth b i % 16
  width_some = permuted_all (λ x. 0 < x % 16) s.same v.widths

  clear_follow : all (key_clear f a) (length a) ≡ true → keys_follow f b ≡ true
  unfolding keys_follow key_ends
  clear_follow h =
      also_true (all_intro _ (length b - 1) (λ i l. le-leb _ _ (pair i (i + 1) (omega arith) (omega arith)).0))
      (le-leb _ _ (⊎_elim (λ l. (pair 0 (length b - 1) l (omega (arith, some))).1) alone (lt_or_le 0 (length b - 1))))
    where
      pair : (i k : ℕ) → i < k → k < length b → (nth b i / 16 + nth b i % 16 ≤ nth b k / 16) × (nth b k / 16 + nth b k % 16 ≤ nth b i / 16 + f)
      pair i k l m = in_order_law f (nth b i) (nth b k) (rising_at b s.rises i k (omega arith) m) (width_some k m) (permuted_pairs (λ x y. keys_apart f x y ≡ true) (apart_back f) s.same (pairs_of f a h) i k l m)

      alone : length b - 1 ≤ 0 → nth b (length b - 1) / 16 + nth b (length b - 1) % 16 ≤ nth b 0 / 16 + f
      alone l = let e : length b - 1 ≡ 0 = omega arith in rw e (omega (arith, permuted_all (λ x. x % 16 ≤ f) s.same (widths_of_law f a h) 0 some))

  follow_turn : keys_follow f b ≡ true → InTurn (λ i. nth b i / 16) (λ i. nth b i % 16) (length b) f
  unfolding keys_follow key_ends
  follow_turn h = let g = also_inv _ _ h in record { next = λ i l. leb-true _ _ (all_at _ (length b - 1) g.0 i (omega arith)); tile = leb-true _ _ g.1 }

  follow_clear : keys_follow f b ≡ true → all (key_clear f a) (length a) ≡ true
  follow_clear h =
      of_pairs f a
      (permuted_pairs (λ x y. keys_apart f x y ≡ true) (apart_back f) (permuted_back s.same) (λ i k l m. in_order_apart f (nth b i) (nth b k) (later i k l m) (omega (arith, within k m, lowest i (omega arith)))))
      (permuted_all (λ x. x % 16 ≤ f) (permuted_back s.same) (λ i l. omega (arith, within i l, lowest i l)))
    where
      later : (i k : ℕ) → i < k → k < length b → nth b i / 16 + nth b i % 16 ≤ nth b k / 16
      later = turn_later (λ i. nth b i / 16) (λ i. nth b i % 16) (length b) f (follow_turn h)

      within : (i : ℕ) → i < length b → nth b i / 16 + nth b i % 16 ≤ nth b 0 / 16 + f
      within = turn_within (λ i. nth b i / 16) (λ i. nth b i % 16) (length b) f (follow_turn h)

      lowest : (i : ℕ) → i < length b → nth b 0 / 16 ≤ nth b i / 16
      lowest = turn_lowest (λ i. nth b i / 16) (λ i. nth b i % 16) (length b) f (follow_turn h)

  -- sorted keys keep the rule exactly if each ends before the next begins
  pub sorted_rule : keys_follow f b ≡ all (key_clear f a) (length a)
  sorted_rule = iff _ _ follow_clear clear_follow

  pub sorted_answer : (t : Bool) → t ≡ keys_follow f b → t ≡ all (key_clear f a) (length a)
  sorted_answer t h = h ∙ sorted_rule

  pub sorted_length : length b ≡ length a
  sorted_length = sym same_length
