-- What an etype's lists add up to, entry by entry, and that no sum of it wraps.
use Rattle.laws.proofs.Prelude.{ℕ, ◌+◌, ◌*◌, ◌≤◌, ◌<◌, ◌≡◌, refl, ap, ◌∙◌, List, arith, mul-le-mul, get_or, w64, Fits, total, nth, Highest, highest_end, total_more, total_most}
use Rattle.view.specs.Parts.{EntriesValid, WidthsValid, entry_end, reach_of, size_of}

-- ---- the data size

-- i of n entries are summed up
pub record Summed (ws : List ℕ) (n i s : ℕ) : Type 0 where
  pub reached : i ≤ n
  pub is : s ≡ total (nth ws) i

module _ (n : ℕ) (ws : List ℕ) where
  pub summed_none : Summed ws n 0 0
  unfolding total
  summed_none = record { reached = omega arith; is = refl }

  module _ (i s : ℕ) (h : Summed ws n i s) where
    pub summed_more : i < n → Summed ws n (i + 1) (s + get_or ws i 0)
    summed_more l = record { reached = omega arith; is = omega (arith, total_more (nth ws) i, h.is) }

    pub summed_end : n ≤ i → s ≡ size_of n ws
    unfolding size_of
    summed_end l = h.is ∙ ap (total (nth ws)) (omega (arith, h.reached))

  pub widths_valid : (ds : List ℕ) → EntriesValid n ws ds → WidthsValid n ws
  widths_valid ds k = record { few = k.few; small = λ i l. omega (arith, k.ends i l) }

  module _ (k : WidthsValid n ws) where
    pub entry_held : (i : ℕ) → i < n → i < 8
    entry_held i l = omega (arith, k.few)

    pub entry_scaled : (i : ℕ) → i < n → Fits w64 (i * 8)
    entry_scaled i l = record { fits = omega (arith, k.few) }

    sum_small : (i s : ℕ) → Summed ws n i s → s ≤ 8388608
    sum_small i s h =
        let m = total_most (nth ws) i 1048576 (λ j l. k.small j (omega (arith, h.reached))) in
        let b = mul-le-mul {n₁ = i} {m₁ = 1048576} {n₂ = 8} {m₂ = 1048576} (omega (arith, h.reached, k.few)) (omega arith) in
        omega (arith, h.is)

    pub sum_fits : (i s : ℕ) → Summed ws n i s → i < n → Fits w64 (s + get_or ws i 0)
    sum_fits i s h l = record { fits = omega (arith, sum_small i s h, k.small i l) }

-- ---- the reach of the entries

pub end_fits : (n : ℕ) (ws ds : List ℕ) (i : ℕ) → EntriesValid n ws ds → i < n → Fits w64 (get_or ds i 0 + get_or ws i 0)
end_fits n ws ds i k l = record { fits = omega (arith, k.ends i l) }

pub reach_is : (n : ℕ) (ws ds : List ℕ) (i m : ℕ) → Highest (entry_end ws ds) i n m → n ≤ i → m ≡ reach_of ws ds n
unfolding reach_of
reach_is n ws ds i m h l = highest_end (entry_end ws ds) i n m h l
