-- The entries of one instance tried in turn: no sum wraps, and the packed bytes before each are summed up.
use Rattle.laws.proofs.Prelude.{ℕ, ◌+◌, ◌≤◌, ◌<◌, ◌≡◌, refl, ap, ◌∙◌, List, arith, mul-le-mul, get_or, w64, Fits, total, nth, total_more, total_most}
use Rattle.std.proofs.Common.{Option, Some, None}
use Rattle.view.specs.declared.Pair.{Pair}
use Rattle.view_owner.specs.Parts.{entry_owner, owner_at, instance_owner, InstanceValid}
use Rattle.view_owner.proofs.Firsts.{Missed, missed_none, missed_more, missed_stop, missed_end}

-- the entries before entry i are tried
pub record Tried (n : ℕ) (ws ds : List ℕ) (F K : ℕ) (g a b i packed : ℕ) : Type 0 where
  pub missed : Missed (owner_at ws ds F K g a b) i n
  pub sum : packed ≡ total (nth ws) i

module _ (n : ℕ) (ws ds : List ℕ) (F K : ℕ) (g a b : ℕ) where
  pub tried_none : Tried n ws ds F K g a b 0 0
  unfolding total
  tried_none = record { missed = missed_none (owner_at ws ds F K g a b) n; sum = refl }

  module _ (i packed : ℕ) (t : Tried n ws ds F K g a b i packed) where
    pub tried_end : n ≤ i → None ≡ instance_owner n ws ds F K g a b
    unfolding instance_owner
    tried_end l = missed_end (owner_at ws ds F K g a b) n i t.missed l

    -- what the next entry answers
    module _ (l : i < n) (r : Option Pair) (h : r ≡ entry_owner F K g (a + get_or ds i 0) (get_or ws i 0) packed b) where
      answered : r ≡ owner_at ws ds F K g a b i
      unfolding owner_at
      answered = h ∙ ap (λ (p : ℕ). entry_owner F K g (a + nth ds i) (nth ws i) p b) t.sum

      pub tried_more : r ≡ None → Tried n ws ds F K g a b (i + 1) (packed + get_or ws i 0)
      tried_more q = record {
        missed = missed_more (owner_at ws ds F K g a b) n i t.missed l r answered q;
        sum = omega (arith, total_more (nth ws) i, t.sum);
      }

      pub tried_stop : (p : Pair) → r ≡ Some p → Some p ≡ instance_owner n ws ds F K g a b
      unfolding instance_owner
      tried_stop p q = missed_stop (owner_at ws ds F K g a b) n i t.missed l r answered p q

  module _ (k : InstanceValid n ws ds F K g a) where
    pub start_fits : (i : ℕ) → i < n → Fits w64 (a + get_or ds i 0)
    start_fits i l = record { fits = omega (arith, k.begins, k.ends i l) }

    module _ (i packed : ℕ) (t : Tried n ws ds F K g a b i packed) (l : i < n) where
      sum_small : packed ≤ 8388608
      sum_small =
          let m = total_most (nth ws) i 1048576 (λ j q. omega (arith, k.ends j (omega arith))) in
          let c = mul-le-mul {n₁ = i} {m₁ = 1048576} {n₂ = 8} {m₂ = 1048576} (omega (arith, k.entries_few)) (omega arith) in
          omega (arith, t.sum)

      pub packed_fits : Fits w64 (packed + get_or ws i 0)
      packed_fits = record { fits = omega (arith, sum_small, k.ends i l) }

      pub data_small : packed + get_or ws i 0 < 18446744073709551616
      data_small = omega (arith, sum_small, k.ends i l)
