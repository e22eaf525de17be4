-- The packed data of an etype: which entry holds a packed byte, and where it lies.
use Rattle.laws.proofs.Prelude.{ℕ, ◌+◌, ◌-◌, ◌≤◌, ◌<◌, ◌≡◌, refl, sym, ap, ⊎_elim, arith, eq-zero-or-pos, eq-or-lt_of_le, leb, leb-true, leb-false, le-leb, lt-leb, total, least_false, least_false_le, least_false_keeps, least_false_breaks, least_false_is, total_part, total_more}
use Rattle.view.specs.Types.{PaperType, entries, width_at, displacement_at}
use Rattle.view.specs.Places.{packed_before, entry_of, data_at}

module _ (t : PaperType) where
  pub packed_none : packed_before t 0 ≡ 0
  unfolding packed_before total
  packed_none = refl

  pub packed_more : (i : ℕ) → packed_before t (i + 1) ≡ packed_before t i + width_at t i
  unfolding packed_before
  packed_more i = total_more (width_at t) i

  pub packed_part : (i n : ℕ) → i < n → packed_before t i + width_at t i ≤ packed_before t n
  unfolding packed_before
  packed_part i n l = total_part (width_at t) i n l

  -- packed byte j lies in the entry that holds it
  module _ (j : ℕ) (l : j < packed_before t (entries t)) where
    pub entry_below : entry_of t j < entries t
    unfolding entry_of
    entry_below = ⊎_elim (λ e. absurd (none e)) (λ q. q) (eq-or-lt_of_le (least_false_le _ (entries t)))
      where
        none : least_false (λ i. leb (packed_before t (i + 1)) j) (entries t) ≡ entries t → ⊥
        none e = ⊎_elim (λ z. omega (arith, l, ap (packed_before t) z, packed_none)) (λ p. last p) (eq-zero-or-pos (entries t))
          where
            last : 0 < entries t → ⊥
            last p =
                let n : entries t - 1 + 1 ≡ entries t = omega arith in
                let k = least_false_keeps (λ i. leb (packed_before t (i + 1)) j) (entries t) (entries t - 1) (omega arith) in
                omega (arith, l, leb-true (packed_before t (entries t - 1 + 1)) j k, ap (packed_before t) n)

    ends_after : j < packed_before t (entry_of t j + 1)
    unfolding entry_of
    ends_after = leb-false (packed_before t (entry_of t j + 1)) j (least_false_breaks (λ i. leb (packed_before t (i + 1)) j) (entries t) entry_below)

    pub entry_ends : j < packed_before t (entry_of t j) + width_at t (entry_of t j)
    entry_ends = omega (arith, packed_more (entry_of t j), ends_after)

    begins_before : 0 < entry_of t j → packed_before t (entry_of t j - 1 + 1) ≤ j
    unfolding entry_of
    begins_before p = leb-true (packed_before t (entry_of t j - 1 + 1)) j (least_false_keeps (λ i. leb (packed_before t (i + 1)) j) (entries t) (entry_of t j - 1) (omega arith))

    pub entry_begins : packed_before t (entry_of t j) ≤ j
    entry_begins =
        ⊎_elim (λ z. omega (arith, ap (packed_before t) z, packed_none))
        (λ p. let n : entry_of t j - 1 + 1 ≡ entry_of t j = omega arith in omega (arith, begins_before p, ap (packed_before t) n))
        (eq-zero-or-pos (entry_of t j))

  -- byte r of entry e is held by entry e
  module _ (e r : ℕ) (le : e < entries t) (lr : r < width_at t e) where
    pub entry_run : entry_of t (packed_before t e + r) ≡ e
    unfolding entry_of
    entry_run = sym (least_false_is (λ i. leb (packed_before t (i + 1)) (packed_before t e + r)) (entries t) e (omega arith)
        (λ k l. le-leb (packed_before t (k + 1)) (packed_before t e + r) (omega (arith, packed_more k, packed_part k e l)))
        (λ l. lt-leb (packed_before t (e + 1)) (packed_before t e + r) (omega (arith, packed_more e))))

    pub data_run : data_at t (packed_before t e + r) ≡ displacement_at t e + r
    unfolding data_at
    data_run = rw entry_run (omega arith)
