-- Places put into a list run by run: what a run adds, the runs of blocks of equal length, and a vector.
use Rattle.laws.proofs.Prelude.{ℕ, ◌+◌, ◌-◌, ◌*◌, ◌≤◌, ◌<◌, ◌≡◌, refl, sym, ap, ◌∙◌, subst, ⊎_elim, List, add-zero, div-eq_of_lt, mod-eq_of_lt, arith, length, mul-le-mul, ℤ, pos, sub_ℕ, w64, to_z, nth, set, length-set, lt_or_le, run_div, run_mod, times_more}
use lib.IntN.{*ℤ_comm, zero-*ℤ}
use Rattle.recipe_types.specs.Parts.{Places}
use Rattle.recipe_types.proofs.Integers.{pos_is, sub_is, same_is, sum_is, times_is, is_equal, sub_pos}
use Rattle.std.proofs.lemmas.List.{get_or-set_same, get_or-set_other}
use Rattle.recipe_steps.specs.Parts.{vector_place, Run, Put, BlocksReady, VectorReady}
use Rattle.recipe_steps.specs.declared.StepNumbers.{StepNumbers}

-- ---- a run

module _ (at n start : ℕ) (l l' : List ℕ) (r : Run at start n l l') (place : ℕ → ℤ) (p : Places place at l) (small : start + n ≤ 2147483648) (same : (j : ℕ) → j < n → place (at + j) ≡ sub_ℕ (start + j) 1073741824) where
  pub run_places : Places place (at + n) l'
  run_places = record {
    is = λ k b.
        ⊎_elim
        (λ h. p.is k h ∙ ap (λ (x : ℕ). sub_ℕ x 1073741824) (sym (r.kept k h)))
        (λ h. let q : at + (k - at) ≡ k = omega arith in subst (λ (x : ℕ). place x ≡ sub_ℕ (nth l' x) 1073741824) q (same (k - at) (omega arith) ∙ ap (λ (x : ℕ). sub_ℕ x 1073741824) (sym (r.put (k - at) (omega arith)))))
        (lt_or_le k at);
    small = λ k b.
        ⊎_elim
        (λ h. omega (arith, p.small k h, r.kept k h))
        (λ h. let q : at + (k - at) ≡ k = omega arith in omega (arith, ap (nth l') q, r.put (k - at) (omega arith)))
        (lt_or_le k at);
  }

  pub run_put : (l₀ : List ℕ) → length l ≡ length l₀ → Put place (at + n) l₀ l'
  run_put l₀ long = record { places = run_places; length_stays = r.length_stays ∙ long }

pub put_none : (place : ℕ → ℤ) (l : List ℕ) → Put place 0 l l
put_none place l = record { places = record { is = λ k b. absurd (omega arith); small = λ k b. absurd (omega arith) }; length_stays = refl }

-- ---- blocks of equal length

module _ (count each stride i : ℕ) (b : BlocksReady count each stride) (l : i < count) where
  few_blocks : count ≤ 256
  few_blocks = omega (arith, b.few, mul-le-mul {n₁ = count} {m₁ = 1} {n₂ = count} {m₂ = each} (omega arith) b.some)

  end_in : i * each + each ≤ 256
  end_in = omega (arith, b.few, times_more i each, mul-le-mul {n₁ = i + 1} {m₁ = each} {n₂ = count} {m₂ = each} (omega arith) (omega arith))

  -- where block i begins, from below and from above
  pub start_low : i * 1073741824 ≤ 1073741824 + i * stride
  start_low = omega (arith, few_blocks, mul-le-mul {n₁ = 1073741824} {m₁ = i} {n₂ = stride + 1048576} {m₂ = i} b.low (omega arith))

  start_high : i * stride ≤ i * 1073741824 + 1048576 * i
  start_high = omega (arith, mul-le-mul {n₁ = stride} {m₁ = i} {n₂ = 1073741824 + 1048576} {m₂ = i} b.high (omega arith))

  -- where copy j of the block lies
  block_place_law : (j : ℕ) → j < each → vector_place each (sub_ℕ stride 1073741824) (i * each + j) ≡ sub_ℕ (1073741824 + i * stride - i * 1073741824 + j) 1073741824
  unfolding vector_place
  block_place_law j h =
      rw (run_div each i j h, run_mod each i j h)
      (is_equal
      (sum_is (same_is (*ℤ_comm (pos i) (sub_ℕ stride 1073741824)) (times_is i (sub_is stride 1073741824))) (pos_is j))
      (sub_is (1073741824 + i * stride - i * 1073741824 + j) 1073741824)
      (omega (arith, start_low)))

  pub block_put : (l₀ out out' : List ℕ) → Put (vector_place each (sub_ℕ stride 1073741824)) (i * each) l₀ out → Run (i * each) (1073741824 + i * stride - i * 1073741824) each out out' → Put (vector_place each (sub_ℕ stride 1073741824)) ((i + 1) * each) l₀ out'
  block_put l₀ out out' p r =
      rw (times_more i each)
      (run_put (i * each) each (1073741824 + i * stride - i * 1073741824) out out' r (vector_place each (sub_ℕ stride 1073741824)) p.places (omega (arith, few_blocks, end_in, start_high)) block_place_law l₀ p.length_stays)

-- ---- one place

module _ (place : ℕ → ℤ) (k v : ℕ) (l₀ l : List ℕ) (p : Put place k l₀ l) where
  pub one_put : k < length l → v < 2147483648 → place k ≡ sub_ℕ v 1073741824 → Put place (k + 1) l₀ (set l k v)
  one_put room small e = run_put k 1 v l (set l k v) run place p.places (omega arith) same l₀ p.length_stays
    where
      run : Run k v 1 l (set l k v)
      run = record {
        put = λ j b. let q : j ≡ 0 = omega arith in rw (q, add-zero k, add-zero v) (get_or-set_same l k v 0 room);
        kept = λ j b. get_or-set_other l k j v 0 (λ q. omega arith);
        kept_behind = λ j b. get_or-set_other l k j v 0 (λ q. omega arith);
        length_stays = length-set l k v;
      }

      same : (j : ℕ) → j < 1 → place (k + j) ≡ sub_ℕ (v + j) 1073741824
      same j b = let q : j ≡ 0 = omega arith in rw (q, add-zero k, add-zero v) e

-- ---- a vector

-- one block: its copies lie one after another, whatever the stride
module _ (s : StepNumbers) (v : VectorReady s) (one : s.a ≡ 1) where
  few_copies : s.b ≤ 256
  few_copies = omega (arith, rw one at v.few)

  first_block : (j : ℕ) → j < s.b → vector_place s.b (to_z w64 s.c) (0 + j) ≡ sub_ℕ (1073741824 + j) 1073741824
  unfolding vector_place
  first_block j b =
      let h : 0 + j < s.b = omega arith in
      rw (div-eq_of_lt h, mod-eq_of_lt h, zero-*ℤ (to_z w64 s.c)) (sym (sub_pos (1073741824 + j) 1073741824 (0 + (0 + j)) (omega arith)))

  pub vector_one : (out out' : List ℕ) → Run 0 1073741824 s.b out out' → Put (vector_place s.b (to_z w64 s.c)) (s.a * s.b) out out'
  vector_one out out' r =
      let q : s.a * s.b ≡ 0 + s.b = rw one (omega arith) in
      rw q (run_put 0 s.b 1073741824 out out' r (vector_place s.b (to_z w64 s.c)) (put_none _ out).places (omega (arith, few_copies)) first_block out refl)
