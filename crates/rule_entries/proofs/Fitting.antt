-- What the searches of this crate find: the first entry out of order, and entries that end before the next ones begin.
use Rattle.laws.proofs.Prelude.{ℕ, ◌+◌, ◌-◌, ◌≤◌, ◌<◌, ◌≡◌, sym, ap, ◌∙◌, ⊎_elim, eq-or-lt_of_le, Bool, true, false, List, arith, length, take, get_or, get_or-take, length-take-le, leb, max, le-leb, lt-leb, le-ltb, lt-ltb, nth, all, all_at, all_below, all_fails, all_intro, all_same, iff, least_false, least_false_breaks, least_false_is}
use Rattle.std.proofs.Common.{Option, Some, None, MatchOption}
use Rattle.std.specs.Option.{unwrap_or}
use Rattle.view.specs.Parts.{in_order}
use Rattle.rule_entries.specs.Parts.{apart_at, apart_in}

-- ---- ordered

module _ (ds : List ℕ) where
  kept : (n : ℕ) → ((k : ℕ) → 1 ≤ k → k < n + 1 → get_or ds (k - 1) 0 ≤ get_or ds k 0) → (k : ℕ) → k < n → in_order (nth ds) k ≡ true
  kept n h k l = let q : k + 1 - 1 ≡ k = omega arith in le-leb _ _ (rw q at (h (k + 1) (omega arith) (omega arith)))

  -- what a search for the first entry below the one before it found
  pub first_below : (r : Option ℕ) → MatchOption r ((k : ℕ) → 1 ≤ k → k < length ds → get_or ds (k - 1) 0 ≤ get_or ds k 0) (λ i. (1 ≤ i) × (i < length ds) × (get_or ds i 0 < get_or ds (i - 1) 0) × ((k : ℕ) → 1 ≤ k → k < i → get_or ds (k - 1) 0 ≤ get_or ds k 0)) → unwrap_or r (max (length ds) 1) ≡ least_false (in_order (nth ds)) (length ds - 1) + 1
  first_below None h =
      let e = least_false_is (in_order (nth ds)) (length ds - 1) (length ds - 1) (omega arith) (kept (length ds - 1) (λ k a b. h k a (omega arith))) (λ l. absurd (omega arith)) in
      omega arith
  first_below (Some i) h =
      let q : i - 1 + 1 ≡ i = omega (arith, h.0) in
      let e = least_false_is (in_order (nth ds)) (length ds - 1) (i - 1) (omega (arith, h.1)) (kept (i - 1) (λ k a b. h.3 k a (omega arith))) (λ l. lt-leb _ _ (rw q h.2)) in
      omega arith

-- ---- entries apart: of the front of two lists, and of a filetype with the next tile

pub front_apart : (ws ds : List ℕ) (n : ℕ) (t : Bool) → t ≡ all (apart_at (take n ws) (take n ds)) (length (take n ws) - 1) → n ≤ length ws → n ≤ length ds → t ≡ all (apart_at ws ds) (n - 1)
unfolding apart_at
front_apart ws ds n t h l m =
    h ∙ rw (length-take-le n ws l)
    (all_same _ _ (n - 1) (λ i b. rw (get_or-take n ws i 0 (omega arith), get_or-take n ds i 0 (omega arith), get_or-take n ds (i + 1) 0 (omega arith))))

module _ (ws ds : List ℕ) (f : ℕ) (some : 0 < length ws) (t : Bool) (e : t ≡ all (apart_at ws ds) (length ws - 1)) where
  inner : (i : ℕ) → i < length ws - 1 → apart_in ws ds f i ≡ apart_at ws ds i
  unfolding apart_in apart_at
  inner i l = rw (lt-ltb (i + 1) (length ws) (omega arith))

  abbrev closes : Bool
  closes = leb (get_or ds (length ws - 1) 0 + get_or ws (length ws - 1) 0) (get_or ds 0 0 + f)

  last : apart_in ws ds f (length ws - 1) ≡ closes
  unfolding apart_in
  last = rw (le-ltb (length ws - 1 + 1) (length ws) (omega arith))

  each : t ≡ true → closes ≡ true → (i : ℕ) → i < length ws → apart_in ws ds f i ≡ true
  each h c i l = ⊎_elim (λ q. ap (apart_in ws ds f) q ∙ (last ∙ c)) (λ q. inner i q ∙ all_at (apart_at ws ds) (length ws - 1) (sym e ∙ h) i q) (eq-or-lt_of_le {n = i} {m = length ws - 1} (omega arith))

  -- the last entry decides where the others are apart
  pub tile_closes : t ≡ true → closes ≡ all (apart_in ws ds f) (length ws)
  tile_closes h = iff _ _ (λ c. all_intro _ _ (each h c)) (λ a. sym last ∙ all_at _ _ a (length ws - 1) (omega arith))

  pub tile_fails : t ≡ false → t ≡ all (apart_in ws ds f) (length ws)
  tile_fails h =
      let l = all_below _ _ (sym e ∙ h) in
      let i = least_false (apart_at ws ds) (length ws - 1) in
      h ∙ sym (all_fails _ _ i (omega arith) (inner i l ∙ least_false_breaks _ _ l))
