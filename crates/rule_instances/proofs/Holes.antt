-- Holes, as the loop passes them: the first, those between instances, the last.
use Rattle.laws.proofs.Prelude.{ℕ, zero, suc, ◌+◌, ◌-◌, ◌%◌, ◌≤◌, ◌<◌, ◌≡◌, sym, ap, ◌∙◌, Bool, true, false, List, ⊎_elim, arith, get_or, eqb, lt-ltb, le-ltb, eq-eqb, ne_eqb, all, least_false, nth, lt_or_le, all_same, Passed, passed_none, passed_more, passed_stop, passed_end, passed_fails, passed_holds}
use Rattle.view.specs.Rules.{hole}
use Rattle.view.specs.Parts.{holes_fit}
use Rattle.rule_instances.specs.Parts.{hole_fits}

-- ---- holes: the first, one between two instances, and the last

module _ (ps : List ℕ) (k e f : ℕ) where
  pub hole_first : get_or ps 0 0 % e ≡ 0 → hole_fits ps k e f 0 ≡ true
  unfolding hole_fits hole
  hole_first z = eq-eqb _ 0 z

  pub hole_first_no : (get_or ps 0 0 % e ≡ 0 → ⊥) → hole_fits ps k e f 0 ≡ false
  unfolding hole_fits hole
  hole_first_no z = ne_eqb _ 0 z

  hole_at : (i : ℕ) → 0 < i → i < k → hole (nth ps) k e f i ≡ nth ps i - nth ps (i - 1) - e
  unfolding hole
  hole_at zero p l = absurd (omega arith)
  hole_at (suc i) p l = let q : suc i - 1 ≡ i = omega arith in rw (lt-ltb (suc i) k l, q)

  hole_end : (i : ℕ) → 0 < i → i ≡ k → hole (nth ps) k e f i ≡ f - nth ps (k - 1) - e
  unfolding hole
  hole_end zero p l = absurd (omega arith)
  hole_end (suc i) p l = let q : k - 1 ≡ i = omega arith in rw (le-ltb (suc i) k (omega arith), q)

  -- a hole between two instances fits where the gap test of their step says so
  pub hole_between : (i step : ℕ) (t v : Bool) → 1 ≤ i → i < k → step ≡ get_or ps i 0 - get_or ps (i - 1) 0 → t ≡ eqb ((step - e) % e) 0 → t ≡ v → hole_fits ps k e f i ≡ v
  unfolding hole_fits
  hole_between i step t v p l s q z = ap (λ (x : ℕ). eqb (x % e) 0) (hole_at i (omega arith) l ∙ sym (ap (λ (x : ℕ). x - e) s)) ∙ (sym q ∙ z)

  pub hole_found : (i : ℕ) → Passed (hole_fits ps k e f) i (k + 1) → i < k → hole_fits ps k e f i ≡ false → i ≡ least_false (hole_fits ps k e f) (k + 1)
  hole_found i s l h = passed_stop (hole_fits ps k e f) i (k + 1) s (omega arith) h

  pub hole_found_first : hole_fits ps k e f 0 ≡ false → 0 ≡ least_false (hole_fits ps k e f) (k + 1)
  hole_found_first h = passed_stop (hole_fits ps k e f) 0 (k + 1) (passed_none _ (k + 1)) (omega arith) h

  pub holes_passed : 0 < k → hole_fits ps k e f 0 ≡ true → Passed (hole_fits ps k e f) 1 (k + 1)
  holes_passed l h = passed_more (hole_fits ps k e f) 0 (k + 1) (passed_none _ (k + 1)) (omega arith) h

  pub holes_more : (i : ℕ) → Passed (hole_fits ps k e f) i (k + 1) → i < k → hole_fits ps k e f i ≡ true → Passed (hole_fits ps k e f) (i + 1) (k + 1)
  holes_more i s l h = passed_more (hole_fits ps k e f) i (k + 1) s (omega arith) h

  -- the last hole, of which t says whether it fits
  module _ (i rest : ℕ) (t : Bool) (s : Passed (hole_fits ps k e f) i (k + 1)) (p : 1 ≤ i) (a : i ≤ k) (b : k ≤ i) (r : rest ≡ f - get_or ps (k - 1) 0) (q : t ≡ eqb ((rest - e) % e) 0) where
    last_is : hole_fits ps k e f i ≡ t
    unfolding hole_fits
    last_is = ap (λ (x : ℕ). eqb (x % e) 0) (hole_end i (omega arith) (omega arith) ∙ sym (ap (λ (x : ℕ). x - e) r)) ∙ sym q

    pub hole_found_last : t ≡ false → k ≡ least_false (hole_fits ps k e f) (k + 1)
    hole_found_last z = let c : i ≡ k = omega arith in sym c ∙ passed_stop _ i (k + 1) s (omega arith) (last_is ∙ z)

    pub holes_none : t ≡ true → k + 1 ≡ least_false (hole_fits ps k e f) (k + 1)
    holes_none z =
        let c : i ≡ k = omega arith in
        let m = passed_more _ i (k + 1) s (omega arith) (last_is ∙ z) in
        ap (λ (x : ℕ). x + 1) (sym c) ∙ passed_end _ (i + 1) (k + 1) m (omega arith)

    -- it decides
    pub holes_last : t ≡ holes_fit (nth ps) k e f
    unfolding holes_fit hole_fits
    holes_last = ends t last_is
      where
        ends : (v : Bool) → hole_fits ps k e f i ≡ v → v ≡ all (λ x. eqb (hole (nth ps) k e f x % e) 0) (k + 1)
        ends true z = passed_holds _ (i + 1) (k + 1) (passed_more _ i (k + 1) s (omega arith) z) (omega arith)
        ends false z = passed_fails _ i (k + 1) s (omega arith) z

  pub holes_fail : (i : ℕ) → Passed (hole_fits ps k e f) i (k + 1) → i < k → hole_fits ps k e f i ≡ false → false ≡ holes_fit (nth ps) k e f
  unfolding holes_fit hole_fits
  holes_fail i s l h = passed_fails _ i (k + 1) s (omega arith) h

  pub holes_fail_first : 0 < k → hole_fits ps k e f 0 ≡ false → false ≡ holes_fit (nth ps) k e f
  unfolding holes_fit hole_fits
  holes_fail_first l h = passed_fails _ 0 (k + 1) (passed_none _ (k + 1)) (omega arith) h

-- ---- holes depend on the origins in use alone

pub hole_same : (p q : ℕ → ℕ) (k e f : ℕ) → 0 < k → ((g : ℕ) → g < k → p g ≡ q g) → (i : ℕ) → i < k + 1 → hole p k e f i ≡ hole q k e f i
unfolding hole
hole_same p q k e f s h zero l = h 0 s
hole_same p q k e f s h (suc i) l = ⊎_elim (λ b. rw (lt-ltb (suc i) k b, h (suc i) b, h i (omega arith))) (λ b. rw (le-ltb (suc i) k b, h i (omega arith))) (lt_or_le (suc i) k)

pub holes_same : (p q : ℕ → ℕ) (k e f : ℕ) → 0 < k → ((g : ℕ) → g < k → p g ≡ q g) → holes_fit p k e f ≡ holes_fit q k e f
unfolding holes_fit
holes_same p q k e f s h = all_same _ _ (k + 1) (λ i l. rw (hole_same p q k e f s h i l))
