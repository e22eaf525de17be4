-- End of file: the greatest over the instances is the smallest offset such that no etype at it or later begins below the size, and nothing else is.
use Rattle.laws.proofs.Prelude.{ℕ, ◌+◌, ◌-◌, ◌*◌, ◌/◌, ◌%◌, ◌≤◌, ◌<◌, ◌≡◌, ⊎_elim, arith, div-add-mod', mod-lt, le-div_iff_mul-le, mul-le-mul_right, div-mul-le_self, le_antisymm, lt-ltb, le-ltb, greatest, lt_or_le, run_div, run_mod, greatest_above, greatest_one}
use Rattle.view.specs.Types.{PaperView, extent_of, whole}
use Rattle.view.specs.Rules.{instances, origin}
use Rattle.view.specs.Acceptance.{Valid}
use Rattle.view.specs.Places.{place}
use Rattle.view.specs.End.{IsEnd}
use Rattle.view.specs.Parts.{end_from, end_of_file}
use Rattle.view.proofs.Accepted.{Facts, facts, instances_some}

module _ (v : PaperView) (f : Facts v) (size : ℕ) where
  -- where instance i of the first tile begins, and one past the last offset of its kind that begins below the size
  start : ℕ → ℕ
  start i = whole v.displacement + origin v i

  end_at : ℕ → ℕ
  end_at i = end_from (whole v.displacement + origin v i) size (extent_of v.filetype) (instances v) i

  -- an offset that begins below the size is before the end of its instance
  counted : (x : ℕ) → place v x < size → x < end_at (x % instances v)
  unfolding place end_at end_from
  counted x h =
      let s = whole v.displacement + origin v (x % instances v) in
      let e : 0 < extent_of v.filetype = omega (arith, f.file_extent.0) in
      let q : x / instances v ≤ (size - (whole v.displacement + origin v (x % instances v)) - 1) / extent_of v.filetype = (le-div_iff_mul-le e).1 (omega arith) in
      rw (lt-ltb (whole v.displacement + origin v (x % instances v)) size (omega arith))
      (omega (arith, div-add-mod' x (instances v), mul-le-mul_right (instances v) q))

  -- the last offset before it begins below the size
  last_begins : (i : ℕ) → i < instances v → 0 < end_at i → place v (end_at i - 1) < size
  unfolding place end_at end_from
  last_begins i l h = ⊎_elim some (λ q. absurd (omega (arith, rw (le-ltb (whole v.displacement + origin v i) size q) at h))) (lt_or_le (whole v.displacement + origin v i) size)
    where
      some : whole v.displacement + origin v i < size → place v (end_at i - 1) < size
      some q =
          let t = (size - (whole v.displacement + origin v i) - 1) / extent_of v.filetype in
          let e : t * instances v + i + 1 - 1 ≡ t * instances v + i = omega arith in
          rw (lt-ltb (whole v.displacement + origin v i) size q, e, run_div (instances v) t i l, run_mod (instances v) t i l)
          (omega (arith, div-mul-le_self (size - (whole v.displacement + origin v i) - 1) (extent_of v.filetype)))

  past_end : (x : ℕ) → end_of_file v size ≤ x → size ≤ place v x
  unfolding end_of_file end_at
  past_end x h =
      ⊎_elim (λ q. absurd (omega (arith, counted x q, greatest_above end_at (instances v) (x % instances v) (mod-lt x {m = instances v} (instances_some v f))))) (λ q. q)
      (lt_or_le (place v x) size)

  -- the greatest, if above 0, is the end of some instance
  last_of_all : 0 < end_of_file v size → place v (end_of_file v size - 1) < size
  unfolding end_of_file end_at
  last_of_all h =
      let g = greatest_one end_at (instances v) h in
      let e : end_at g.0 ≡ greatest end_at (instances v) = g.1.1 in
      rw (← e) (last_begins g.0 g.1.0 (omega arith))

  smallest_end : (m : ℕ) → ((x : ℕ) → m ≤ x → size ≤ place v x) → end_of_file v size ≤ m
  smallest_end m h = ⊎_elim (λ q. absurd (omega (arith, last_of_all (omega arith), h (end_of_file v size - 1) (omega arith)))) (λ q. q) (lt_or_le m (end_of_file v size))

pub end_is : (v : PaperView) (size : ℕ) → Valid v → IsEnd v size (end_of_file v size)
end_is v size k = record { past = past_end v (facts v k) size; smallest = smallest_end v (facts v k) size }

pub end_only : (v : PaperView) (size k : ℕ) → Valid v → IsEnd v size k → k ≡ end_of_file v size
end_only v size k h e = le_antisymm (e.smallest (end_of_file v size) (end_is v size h).past) ((end_is v size h).smallest k e.past)
