-- The overlap rule: the definition that computes it has the property of order 3, and no view has the property without it; so has the entry that 10 names.
-- On numbers first: two runs of bytes in tiles of f bytes clash exactly if the test of their places modulo f fails.
use Rattle.laws.proofs.Prelude.{ℕ, zero, suc, ◌+◌, ◌-◌, ◌*◌, ◌/◌, ◌%◌, ◌≤◌, ◌<◌, ◌≡◌, refl, sym, ap, subst, Bool, true, false, inl, inr, ⊎_elim, arith, div-add-mod', mod-lt, add-mul, mul-le-mul_right, one-mul, lt-ltb, le-ltb, leb, leb-true, le-leb, also, also_true, also_inv, either, either_inv, either_left, either_right, all_at, all_intro, all_fails, all_below, IsFirst, first_false, first_one, not_both, lt_or_le, times_more, not_true_false, not_false_true, iff, InTurn, turn_later, turn_within, turn_lowest}
use Rattle.view.specs.Types.{PaperView, entries, width_at, displacement_at, extent_of}
use Rattle.view.specs.Rules.{DifferByMultiple, Clash, NoClash}
use Rattle.view.specs.Named.{BreaksOverlap}
use Rattle.view.specs.Overlap.{InOrder}
use Rattle.view.specs.Parts.{ends_before, clear_of, entry_clear, clear, overlap_entry, next_begins, entry_apart, apart}

-- ---- multiples of f

pub differ_sym : (f p q : ℕ) → DifferByMultiple f p q → DifferByMultiple f q p
differ_sym f p q d = record { times = d.times; differ = ⊎_elim (λ h. inr h) (λ h. inl h) d.differ }

-- numbers that differ by a multiple of f do not differ by 1 to f - 1
far : (f a b u t : ℕ) → a * f + u ≡ b * f + t → u < t → t < u + f → ⊥
far f a b u t e l h =
    ⊎_elim (λ q. omega (arith, mul-le-mul_right {m = b + 1} {n = a} f (omega arith), times_more b f))
    (λ q. omega (arith, mul-le-mul_right {m = a} {n = b} f q))
    (lt_or_le b a)

-- two numbers with one remainder
near : (f a b u : ℕ) → DifferByMultiple f (a * f + u) (b * f + u)
near f a b u =
    ⊎_elim
    (λ h. let q : b - a + a ≡ b = omega arith in record { times = b - a; differ = inr (omega (arith, add-mul (b - a) a f, ap (λ (x : ℕ). x * f) q)) })
    (λ h. let q : a - b + b ≡ a = omega arith in record { times = a - b; differ = inl (omega (arith, add-mul (a - b) b f, ap (λ (x : ℕ). x * f) q)) })
    (lt_or_le a b)

-- ---- two runs of bytes: w at p and x at q

module _ (f p w q x : ℕ) where
  ends_first : leb (p % f + w) (q % f) ≡ true → leb (q % f + x) (p % f + f) ≡ true → (a b s t : ℕ) → a < w → b < x → s * f + (p % f + a) ≡ t * f + (q % f + b) → ⊥
  ends_first l r a b s t la lb e =
      let h = leb-true (p % f + w) (q % f) l in
      let g = leb-true (q % f + x) (p % f + f) r in
      far f s t (p % f + a) (q % f + b) e (omega arith) (omega arith)

module _ (f p w q x : ℕ) where
  apart_in_law : clear_of f (p % f) w (q % f) x ≡ true → (a b s t : ℕ) → a < w → b < x → s * f + (p % f + a) ≡ t * f + (q % f + b) → ⊥
  unfolding clear_of ends_before
  apart_in_law h a b s t la lb e =
      ⊎_elim (λ c. let d = also_inv _ _ c in ends_first f p w q x d.0 d.1 a b s t la lb e)
      (λ c. let d = also_inv _ _ c in ends_first f q x p w d.0 d.1 b a t s lb la (sym e))
      (either_inv _ _ h)

  -- runs that pass the test have no bytes that clash
  clear_none : clear_of f (p % f) w (q % f) x ≡ true → (a b : ℕ) → a < w → b < x → DifferByMultiple f (p + a) (q + b) → ⊥
  clear_none h a b la lb d =
      let ep = div-add-mod' p f in
      let eq = div-add-mod' q f in
      ⊎_elim
      (λ e. apart_in_law h a b (p / f) (q / f + d.times) la lb (omega (arith, e, add-mul (q / f) d.times f)))
      (λ e. apart_in_law h a b (p / f + d.times) (q / f) la lb (omega (arith, e, add-mul (p / f) d.times f)))
      d.differ

-- and bytes of runs that fail it do
pub record Meeting (f p w q x : ℕ) : Type 0 where
  pub a : ℕ
  pub b : ℕ
  pub first : a < w
  pub second : b < x
  pub places : DifferByMultiple f (p + a) (q + b)

meeting_sym : (f p w q x : ℕ) → Meeting f p w q x → Meeting f q x p w
meeting_sym f p w q x m = record { a = m.b; b = m.a; first = m.second; second = m.first; places = differ_sym f (p + m.a) (q + m.b) m.places }

module _ (f p w q x : ℕ) (some : 0 < f) (sw : 0 < w) (sx : 0 < x) where
  -- the run at p reaches the one at q
  reaches : p % f ≤ q % f → q % f < p % f + w → Meeting f p w q x
  reaches l h =
      let ep = div-add-mod' p f in
      let eq = div-add-mod' q f in
      let m = near f (p / f) (q / f) (q % f) in
      let u : p / f * f + q % f ≡ p + (q % f - p % f) = omega arith in
      let t : q / f * f + q % f ≡ q + 0 = omega arith in
      record { a = q % f - p % f; b = 0; first = omega arith; second = sx; places = rw (sym u, sym t) m }

  -- the run at q reaches the one at p in the next tile
  reaches_next : p % f ≤ q % f → p % f + f < q % f + x → Meeting f p w q x
  reaches_next l h =
      let ep = div-add-mod' p f in
      let eq = div-add-mod' q f in
      let lq = mod-lt q {m = f} some in
      let m = near f (p / f) (q / f + 1) (p % f) in
      let u : p / f * f + p % f ≡ p + 0 = omega arith in
      let t : (q / f + 1) * f + p % f ≡ q + (p % f + f - q % f) = omega (arith, times_more (q / f) f) in
      record { a = 0; b = p % f + f - q % f; first = sw; second = omega arith; places = rw (sym u, sym t) m }

  meets_after : p % f ≤ q % f → also (leb (p % f + w) (q % f)) (leb (q % f + x) (p % f + f)) ≡ false → Meeting f p w q x
  meets_after l h =
      ⊎_elim (λ s. reaches l s)
      (λ s. ⊎_elim (λ t. reaches_next l t) (λ t. not_both (also_true (le-leb _ _ s) (le-leb _ _ t)) h) (lt_or_le (p % f + f) (q % f + x)))
      (lt_or_le (q % f) (p % f + w))

either_fails : (a b : Bool) → either a b ≡ false → (a ≡ false) × (b ≡ false)
either_fails a b h = (not_true_false a (λ t. not_both (either_left a b t) h), not_true_false b (λ t. not_both (either_right a b t) h))

module _ (f p w q x : ℕ) (some : 0 < f) (sw : 0 < w) (sx : 0 < x) where
  clash_found : clear_of f (p % f) w (q % f) x ≡ false → Meeting f p w q x
  unfolding clear_of ends_before
  clash_found h =
      let g = either_fails _ _ h in
      ⊎_elim (λ l. meeting_sym f q x p w (meets_after f q x p w some sx sw (omega arith) g.1))
      (λ l. meets_after f p w q x some sw sx l g.0)
      (lt_or_le (q % f) (p % f))

-- ---- entries

-- what checks 5 and 6 leave: tiles and entries have bytes
pub record Spaced (v : PaperView) : Type 0 where
  pub extent : 0 < extent_of v.filetype
  pub widths : (i : ℕ) → i < entries v.filetype → 0 < width_at v.filetype i

pub clash_sym : (v : PaperView) (i a k b : ℕ) → Clash v i a k b → Clash v k b i a
clash_sym v i a k b c = record {
  first = c.second;
  second = c.first;
  different = λ p q. c.different (sym p) (sym q);
  places = differ_sym _ _ _ c.places;
}

module _ (v : PaperView) where
  -- an entry wider than F clashes with itself
  wide : (i : ℕ) → i < entries v.filetype → 0 < extent_of v.filetype → extent_of v.filetype < width_at v.filetype i → BreaksOverlap v i
  wide i l some h = (
    i,
    (
      extent_of v.filetype,
      (
        0,
        (
          omega arith,
          record {
            first = (l, h);
            second = (l, omega arith);
            different = λ _ e. omega (arith, some, e);
            places = record { times = 1; differ = inl (omega (arith, one-mul (extent_of v.filetype))) };
          },
        ),
      ),
    ),
  )

  -- one that is not does not
  alone : (i a b : ℕ) → width_at v.filetype i ≤ extent_of v.filetype → Clash v i a i b → ⊥
  alone i a b n c = ⊎_elim (λ e. no a b c.places.times c.first.1 (λ q. c.different refl q) (omega (arith, e))) (λ e. no b a c.places.times c.second.1 (λ q. c.different refl (sym q)) (omega (arith, e))) c.places.differ
    where
      no : (r s m : ℕ) → r < width_at v.filetype i → (r ≡ s → ⊥) → r ≡ s + m * extent_of v.filetype → ⊥
      no r s zero l d e = d (omega (arith, e))
      no r s (suc m) l d e = omega (arith, e, times_more m (extent_of v.filetype), ap (λ (x : ℕ). x * extent_of v.filetype) (suc_is m))
        where
          suc_is : (m : ℕ) → suc m ≡ m + 1
          suc_is m = omega arith

  breaks : Spaced v → (i : ℕ) → i < entries v.filetype → entry_clear (width_at v.filetype) (displacement_at v.filetype) (extent_of v.filetype) i ≡ false → BreaksOverlap v i
  unfolding entry_clear
  breaks s i l h =
      ⊎_elim (λ w. wide i l s.extent w)
      (λ w. meets (first_false _ i (all_below _ i (not_true_false _ (λ t. not_both (also_true (le-leb _ _ w) t) h)))))
      (lt_or_le (extent_of v.filetype) (width_at v.filetype i))
    where
      meets : {k : ℕ} → IsFirst (λ k. clear_of (extent_of v.filetype) (displacement_at v.filetype k % extent_of v.filetype) (width_at v.filetype k) (displacement_at v.filetype i % extent_of v.filetype) (width_at v.filetype i) ≡ false) i k → BreaksOverlap v i
      meets {k} f =
          let m = clash_found (extent_of v.filetype) (displacement_at v.filetype k) (width_at v.filetype k) (displacement_at v.filetype i) (width_at v.filetype i) s.extent (s.widths k (omega (arith, f.below))) (s.widths i l) f.here in (
            k,
            (
              m.b,
              (
                m.a,
                (
                  omega (arith, f.below),
                  record {
                    first = (l, m.second);
                    second = (omega (arith, f.below), m.first);
                    different = λ e _. omega (arith, f.below, e);
                    places = differ_sym _ _ _ m.places;
                  },
                ),
              ),
            ),
          )

  keeps : (i : ℕ) → entry_clear (width_at v.filetype) (displacement_at v.filetype) (extent_of v.filetype) i ≡ true → BreaksOverlap v i → ⊥
  unfolding entry_clear
  keeps i h (k, (a, (b, (l, c)))) =
      let p = also_inv _ _ h in
      ⊎_elim
      (λ e. clear_none (extent_of v.filetype) (displacement_at v.filetype k) (width_at v.filetype k) (displacement_at v.filetype i) (width_at v.filetype i) (all_at _ i p.1 k e) b a c.second.1 c.first.1 (differ_sym _ _ _ c.places))
      (λ e. let q : k ≡ i = omega arith in alone i a b (leb-true _ _ p.0) (subst (λ (z : ℕ). Clash v i a z b) q c))
      (lt_or_le k i)

  -- ---- the rule, and the entry named

  pub clear_is : clear v ≡ true → NoClash v
  unfolding clear
  clear_is h = record { never = λ i a k b c. ⊎_elim (λ l. keeps k (all_at _ _ h k c.second.0) (i, (b, (a, (omega arith, clash_sym v i a k b c))))) (λ l. keeps i (all_at _ _ h i c.first.0) (k, (a, (b, (l, c))))) (lt_or_le i k) }

  pub clear_only : Spaced v → NoClash v → clear v ≡ true
  unfolding clear
  clear_only s n = all_intro _ (entries v.filetype) (λ i l. not_false_true _ (λ h. never (breaks s i l h)))
    where
      never : {i : ℕ} → BreaksOverlap v i → ⊥
      never {i} (k, (a, (b, (_, c)))) = n.never i a k b c

  pub overlap_is : Spaced v → clear v ≡ false → IsFirst (BreaksOverlap v) (entries v.filetype) (overlap_entry v)
  unfolding clear overlap_entry
  overlap_is s h =
      let f = first_false (entry_clear (width_at v.filetype) (displacement_at v.filetype) (extent_of v.filetype)) (entries v.filetype) (all_below _ _ h) in
      record { below = f.below; here = breaks s _ f.below f.here; earlier = λ k l b. keeps k (not_false_true _ (f.earlier k l)) b }

  pub overlap_only : Spaced v → (i : ℕ) → IsFirst (BreaksOverlap v) (entries v.filetype) i → i ≡ overlap_entry v
  unfolding clear
  overlap_only s i f = first_one (BreaksOverlap v) (entries v.filetype) i (overlap_entry v) f (overlap_is s (all_fails _ _ i f.below (not_true_false _ (λ h. keeps i h f.here))))

-- ---- tiles in order have no bytes that clash

module _ (v : PaperView) (o : InOrder v) where
  turn : InTurn (displacement_at v.filetype) (width_at v.filetype) (entries v.filetype) (extent_of v.filetype)
  turn = record { next = o.next; tile = o.tile }

  abbrev later : (i k : ℕ) → i < k → k < entries v.filetype → displacement_at v.filetype i + width_at v.filetype i ≤ displacement_at v.filetype k
  later = turn_later (displacement_at v.filetype) (width_at v.filetype) (entries v.filetype) (extent_of v.filetype) turn

  abbrev within : (i : ℕ) → i < entries v.filetype → displacement_at v.filetype i + width_at v.filetype i ≤ displacement_at v.filetype 0 + extent_of v.filetype
  within = turn_within (displacement_at v.filetype) (width_at v.filetype) (entries v.filetype) (extent_of v.filetype) turn

  abbrev first_lowest : (i : ℕ) → i < entries v.filetype → displacement_at v.filetype 0 ≤ displacement_at v.filetype i
  first_lowest = turn_lowest (displacement_at v.filetype) (width_at v.filetype) (entries v.filetype) (extent_of v.filetype) turn

  -- a byte of a later entry does not clash
  later_clear : (i a k b : ℕ) → i < k → Clash v i a k b → ⊥
  later_clear i a k b l c =
      let h = later i k l c.second.0 in
      let g = within k c.second.0 in
      let m = first_lowest i c.first.0 in
      let p = displacement_at v.filetype i + a in
      let q = displacement_at v.filetype k + b in
      ⊎_elim (λ e. far (extent_of v.filetype) 0 c.places.times p q (omega (arith, e)) (omega (arith, c.first.1)) (omega (arith, c.second.1)))
      (λ e. far (extent_of v.filetype) c.places.times 0 p q (omega (arith, e)) (omega (arith, c.first.1)) (omega (arith, c.second.1)))
      c.places.differ

  pub in_order_clear : NoClash v
  in_order_clear = record { never = λ i a k b c. ⊎_elim (λ l. later_clear i a k b l c) (λ l. ⊎_elim (λ h. later_clear k b i a h (clash_sym v i a k b c)) (λ h. let q : k ≡ i = omega arith in alone v i a b (narrow_in i c.first.0) (subst (λ (z : ℕ). Clash v i a z b) q c)) (lt_or_le k i)) (lt_or_le i k) }
    where
      narrow_in : (i : ℕ) → i < entries v.filetype → width_at v.filetype i ≤ extent_of v.filetype
      narrow_in i l = omega (arith, within i l, first_lowest i l)

-- the walk finds them
module _ (v : PaperView) (some : 0 < entries v.filetype) (h : apart v ≡ true) where
  walked : (i : ℕ) → i < entries v.filetype → displacement_at v.filetype i + width_at v.filetype i ≤ next_begins v i
  unfolding apart entry_apart
  walked i l = leb-true (displacement_at v.filetype i + width_at v.filetype i) (next_begins v i) (all_at (entry_apart v) (entries v.filetype) h i l)

  pub apart_in_order : InOrder v
  unfolding next_begins
  apart_in_order = record {
    next = λ i l. rw (lt-ltb (i + 1) (entries v.filetype) l) at (walked i (omega arith));
    tile = rw (le-ltb (entries v.filetype - 1 + 1) (entries v.filetype) (omega arith)) at (walked (entries v.filetype - 1) (omega arith));
  }

apart_clear : (v : PaperView) → Spaced v → 0 < entries v.filetype → apart v ≡ true → clear v ≡ true
apart_clear v s some h = clear_only v s (in_order_clear v (apart_in_order v some h))

-- so the walk may be asked first
pub apart_or_clear : (v : PaperView) → Spaced v → 0 < entries v.filetype → either (apart v) (clear v) ≡ clear v
apart_or_clear v s some = iff _ _ (λ h. ⊎_elim (λ a. apart_clear v s some a) (λ c. c) (either_inv _ _ h)) (λ c. either_right _ _ c)
