-- The numbers of what a step makes: its extent by the kind of the step, and all of them where the limits are kept.
use Rattle.laws.proofs.Prelude.{ℕ, ◌+◌, ◌-◌, ◌*◌, ◌≤◌, ◌≡◌, ◌≢◌, sym, ap, ◌∙◌, Bool, true, false, cond, ⊎_elim, List, arith, leb, eqb, leb-true, also_true, within_yes, within_inv, either, Fits, w64, mul-le-mul, lt_or_le, within, ◌⊎◌, inl, inr}
use Rattle.std.specs.Prelude.{Some, None}
use Rattle.recipe_types.specs.declared.Shape.{Shape}
use Rattle.recipe_types.specs.Typemaps.{product}
use Rattle.recipe_types.specs.Recipes.{dimension_at}
use Rattle.recipe_types.specs.Parts.{bias, max_place, copies_of, step_near, Capped, entries_fit, extent_got, limits_by, shape_made}
use Rattle.recipe_steps.specs.declared.StepNumbers.{StepNumbers}
use Rattle.recipe_steps.specs.Parts.{step_by}
use Rattle.recipe_steps.proofs.Naming.{sets_is}
use Rattle.recipe_steps.proofs.Steps.{kind_1, kind_2, kind_3, kind_4}
use Rattle.recipe_plan.specs.declared.Span.{Span}
use Rattle.recipe_plan.specs.Parts.{MakingReady}

-- ---- the extent

-- an array that is near has the size that was counted
pub size_is : (items : List ℕ) (s : StepNumbers) (t : Shape) (span : Span) (size : ℕ) → s.kind ≡ 4 → MakingReady items s t span → Capped 1048576 (product (λ i. (dimension_at items (s.a + i)).size) s.b) size → (size ≤ 1048576) × (size ≡ product (λ i. (dimension_at items (s.a + i)).size) s.b)
unfolding step_near
size_is items s t span size k h c =
    let n : leb (product (λ i. (dimension_at items (s.a + i)).size) s.b) max_place ≡ true = rw (kind_4 items s k) at h.near in
    let m = leb-true (product (λ i. (dimension_at items (s.a + i)).size) s.b) max_place n in
    ⊎_elim (λ l. absurd (let q = c.above l in omega arith)) (λ l. (l, c.same l)) (lt_or_le 1048576 size)

pub array_fits : (items : List ℕ) (s : StepNumbers) (t : Shape) (span : Span) (size : ℕ) → s.kind ≡ 4 → MakingReady items s t span → Capped 1048576 (product (λ i. (dimension_at items (s.a + i)).size) s.b) size → Fits w64 (size * t.extent)
array_fits items s t span size k h c = record { fits = let q = (size_is items s t span size k h c).0 in let b = mul-le-mul {n₁ = size} {m₁ = t.extent} {n₂ = 1048576} {m₂ = 1048576} q h.extent in omega arith }

pub extent_array : (items : List ℕ) (s : StepNumbers) (t : Shape) (span : Span) (size : ℕ) → s.kind ≡ 4 → MakingReady items s t span → Capped 1048576 (product (λ i. (dimension_at items (s.a + i)).size) s.b) size → size * t.extent ≡ extent_got (step_by items s) t span.low span.high
unfolding extent_got
extent_array items s t span size k h c = rw (kind_4 items s k) (ap (λ n. n * t.extent) (size_is items s t span size k h c).1)

-- one of the first three kinds
first_kinds : (k : ℕ) → within 1 5 k ≡ true → k ≢ 5 → k ≢ 4 → (k ≡ 1) ⊎ ((k ≡ 2) ⊎ (k ≡ 3))
first_kinds k w e f =
    let b = within_inv 1 5 k w in
    let low = b.0 in
    let high = b.1 in
    ⊎_elim (λ l. ⊎_elim (λ m. inl (omega arith)) (λ m. inr (⊎_elim (λ n. inl (omega arith)) (λ n. inr (omega arith)) (lt_or_le k 3))) (lt_or_le k 2)) (λ l. absurd (⊎_elim (λ m. f (omega arith)) (λ m. e (omega arith)) (lt_or_le k 5))) (lt_or_le k 4)

pub extent_copies : (items : List ℕ) (s : StepNumbers) (t : Shape) (span : Span) → MakingReady items s t span → s.kind ≢ 5 → s.kind ≢ 4 → (span.high + 1 - span.low) * t.extent ≡ extent_got (step_by items s) t span.low span.high
unfolding extent_got
extent_copies items s t span h e f =
    ⊎_elim (λ k. rw (kind_1 items s k)) (λ r. ⊎_elim (λ k. rw (kind_2 items s k)) (λ k. rw (kind_3 items s k)) r) (first_kinds s.kind h.sound.kind e f)

-- ---- the limits, and the numbers

-- what the limits say of a type whose entries and extent keep them
module _ (items : List ℕ) (s : StepNumbers) (t : Shape) (span : Span) (n x : ℕ) (fit b : Bool) (fits : fit ≡ entries_fit t span.low span.high) (passed : fit ≡ true) (is : x ≡ extent_got (step_by items s) t span.low span.high) (l : 1 ≤ x) (u : x ≤ 1048576) (copied : n ≡ copies_of (step_by items s) * t.entries) (bounds : b ≡ either (eqb s.kind 4) (eqb s.kind 5)) where
  made : (base : ℕ) → base ≡ cond b (t.least + span.low * t.extent - bias * t.extent) t.base → Some (record { entries = n; extent = x; least = t.least + span.low * t.extent - bias * t.extent; end = t.end + span.high * t.extent - bias * t.extent; base = base }) ≡ cond (limits_by (step_by items s) t span.low span.high) (Some (shape_made (step_by items s) t span.low span.high)) None
  unfolding limits_by shape_made
  made base e =
      let k : limits_by (step_by items s) t span.low span.high ≡ true = also_true (sym fits ∙ passed) (rw is at (within_yes 1 1048576 x l u)) in
      rw (k, copied, e ∙ ap (λ q. cond q (t.least + span.low * t.extent - bias * t.extent) t.base) (bounds ∙ sets_is items s), is)

  -- by whether the step sets the bounds
  pub made_bounded : b ≡ true → Some (record { entries = n; extent = x; least = t.least + span.low * t.extent - bias * t.extent; end = t.end + span.high * t.extent - bias * t.extent; base = t.least + span.low * t.extent - bias * t.extent }) ≡ cond (limits_by (step_by items s) t span.low span.high) (Some (shape_made (step_by items s) t span.low span.high)) None
  made_bounded e = made _ (rw e)

  pub made_free : b ≡ false → Some (record { entries = n; extent = x; least = t.least + span.low * t.extent - bias * t.extent; end = t.end + span.high * t.extent - bias * t.extent; base = t.base }) ≡ cond (limits_by (step_by items s) t span.low span.high) (Some (shape_made (step_by items s) t span.low span.high)) None
  made_free e = made _ (rw e)
