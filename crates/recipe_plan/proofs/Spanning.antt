-- The least and the greatest of the first numbers of a list, found one after another.
use Rattle.laws.proofs.Prelude.{ℕ, ◌+◌, ◌≤◌, ◌<◌, min, max, ◌≡◌, refl, ◌⊎◌, inl, inr, ⊎_elim, List, arith, nth, lt_or_le}
use Rattle.recipe_types.specs.Parts.{Spans}

pub span_one : (l : List ℕ) → Spans l 1 (nth l 0) (nth l 0)
span_one l = record {
  within = λ k h. let e : k ≡ 0 = omega arith in rw e (omega arith, omega arith);
  low_at = 0;
  low_in = omega arith;
  low_is = refl;
  high_at = 0;
  high_in = omega arith;
  high_is = refl;
}

-- the least with one more number, and the greatest
pub record Lesser (l : List ℕ) (k low low' : ℕ) : Type 0 where
  pub below : low' ≤ low
  pub here : low' ≤ nth l k
  pub one : (low' ≡ low) ⊎ (low' ≡ nth l k)

lesser_is : (l : List ℕ) (k low : ℕ) → Lesser l k low (min low (nth l k))
lesser_is l k low = record { below = omega arith; here = omega arith; one = ⊎_elim (λ h. inl (omega arith)) (λ h. inr (omega arith)) (lt_or_le low (nth l k)) }

pub record Greater (l : List ℕ) (k high high' : ℕ) : Type 0 where
  pub above : high ≤ high'
  pub here : nth l k ≤ high'
  pub one : (high' ≡ high) ⊎ (high' ≡ nth l k)

greater_is : (l : List ℕ) (k high : ℕ) → Greater l k high (max high (nth l k))
greater_is l k high = record { above = omega arith; here = omega arith; one = ⊎_elim (λ h. inr (omega arith)) (λ h. inl (omega arith)) (lt_or_le high (nth l k)) }

-- which number it is
pub record At (l : List ℕ) (n x : ℕ) : Type 0 where
  pub at : ℕ
  pub inside : at < n
  pub is : nth l at ≡ x

low_at : (l : List ℕ) (k low high low' : ℕ) → Spans l k low high → Lesser l k low low' → At l (k + 1) low'
low_at l k low high low' s m = ⊎_elim (λ e. record { at = s.low_at; inside = let q = s.low_in in omega arith; is = rw e s.low_is }) (λ e. record { at = k; inside = omega arith; is = rw e }) m.one

high_at : (l : List ℕ) (k low high high' : ℕ) → Spans l k low high → Greater l k high high' → At l (k + 1) high'
high_at l k low high high' s m = ⊎_elim (λ e. record { at = s.high_at; inside = let q = s.high_in in omega arith; is = rw e s.high_is }) (λ e. record { at = k; inside = omega arith; is = rw e }) m.one

pub span_more : (l : List ℕ) (k low high low' high' : ℕ) → Spans l k low high → low' ≡ min low (nth l k) → high' ≡ max high (nth l k) → Spans l (k + 1) low' high'
span_more l k low high low' high' s e f =
    let m : Lesser l k low low' = rw e (lesser_is l k low) in
    let g : Greater l k high high' = rw f (greater_is l k high) in
    let a = low_at l k low high low' s m in
    let b = high_at l k low high high' s g in
    record {
      within = λ j h. ⊎_elim (λ q. let w = s.within j q in (let x = w.0 in let y = m.below in omega arith, let x = w.1 in let y = g.above in omega arith)) (λ q. let e : j ≡ k = omega arith in rw e (m.here, g.here)) (lt_or_le j k);
      low_at = a.at;
      low_in = a.inside;
      low_is = a.is;
      high_at = b.at;
      high_in = b.inside;
      high_is = b.is;
    }

pub span_end : (l : List ℕ) (k n low high : ℕ) → Spans l k low high → k ≤ n → n ≤ k → Spans l n low high
span_end l k n low high s h g = let e : k ≡ n = omega arith in rw e at s
