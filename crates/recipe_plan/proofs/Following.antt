-- Checks 27 to 31 of a step, followed from what the code finds one after another.
use Rattle.std.specs.Prelude.{Option, Some, None, Result, Ok, Err, IsErrAnd}
use Rattle.std.specs.Option.{ok_or}
use Rattle.laws.proofs.Prelude.{ℕ, ◌*◌, ◌≤◌, ◌<◌, ◌≡◌, sym, ap, ◌∙◌, Bool, true, false, cond, List, arith, leb, leb-true, leb-false, mul-le-mul}
use Rattle.recipe_types.specs.declared.Shape.{Shape}
use Rattle.recipe_types.specs.Recipes.{recipe_of}
use Rattle.recipe_types.specs.Parts.{copies_of, step_near, shape_named}
use Rattle.recipe_types.proofs.Shapes.{far_limits}
use Rattle.recipe_steps.specs.declared.StepNumbers.{StepNumbers}
use Rattle.recipe_steps.specs.Parts.{numbers_at, step_by}
use Rattle.recipe_plan.specs.declared.Refusal.{Refusal}
use Rattle.recipe_plan.specs.declared.Refusal.TheVariants.{Entries}
use Rattle.recipe_plan.specs.Parts.{recipe_refusal_number, recipe_refusal_in, Table, sound_refusal, Judged, Facing, PutAsked, StepPut}
use Rattle.recipe_plan.proofs.Judging.{standing, refused_sound, refused_many, refused_limit, put_asked, step_put}
use Rattle.recipe_plan.proofs.Refusing.{refusal_some, passed_on, missing, present}

-- ---- checks 27 to 29

module _ (steps items : List ℕ) (i : ℕ) (s : StepNumbers) (q : Result Unit Refusal) (e : s ≡ numbers_at steps i) (h : recipe_refusal_in q ≡ sound_refusal items s i) where
  pub sound_refused : (rows places : List ℕ) (refusal : Refusal) (answer : Result Unit Refusal) → q ≡ Err refusal → IsErrAnd answer (λ y. y ≡ refusal) → Judged (recipe_of steps items) i rows places (recipe_refusal_in answer)
  sound_refused rows places refusal answer w l =
      let is : recipe_refusal_in answer ≡ recipe_refusal_number refusal = passed_on answer refusal l in
      refused_sound steps items rows places i (recipe_refusal_in answer) s e (is ∙ sym (ap recipe_refusal_in w) ∙ h) (λ z. refusal_some refusal (sym is ∙ z))

  pub sound_passed : (u : Unit) → q ≡ Ok u → sound_refusal items (numbers_at steps i) i ≡ 0
  sound_passed u w = rw (sym e) (sym h ∙ ap recipe_refusal_in w)

-- ---- checks 30 and 31

module _ (steps items rows places : List ℕ) (i : ℕ) (s : StepNumbers) (below : Shape) (t : Table (recipe_of steps items) rows places i) (l : i < 32) (h : sound_refusal items (numbers_at steps i) i ≡ 0) (e : s ≡ numbers_at steps i) (b : below ≡ shape_named rows s.source s.name) where
  facing : Facing steps items rows places i s below
  facing = record { table = t; step = l; numbers = e; sound = h; below_is = b }

  pub judge_some : 1 ≤ below.entries
  judge_some = (standing steps items rows places i s below facing).known.some

  pub judge_few : below.entries ≤ 256
  judge_few = (standing steps items rows places i s below facing).known.few

  module _ (o : Option ℕ) (r : Result ℕ Refusal) (c : o ≡ cond (leb (copies_of (step_by items s) * below.entries) 256) (Some (copies_of (step_by items s))) None) (k : r ≡ ok_or o Entries) where
    -- too many entries
    pub judge_entries : (e : Refusal) (answer : Result Unit Refusal) → r ≡ Err e → IsErrAnd answer (λ y. y ≡ e) → Judged (recipe_of steps items) i rows places (recipe_refusal_in answer)
    judge_entries e answer w l =
        let b = missing (leb (copies_of (step_by items s) * below.entries) 256) _ o r Entries e c k w in
        let is : recipe_refusal_in answer ≡ 30 = passed_on answer e l ∙ ap recipe_refusal_number b.1 in
        rw is (refused_many steps items rows places i s below facing rows places (leb-false _ 256 b.0))

    module _ (n : ℕ) (w : r ≡ Ok n) where
      copies : n ≡ copies_of (step_by items s)
      copies = (present (leb (copies_of (step_by items s) * below.entries) 256) _ n o r Entries c k w).1

      few : copies_of (step_by items s) * below.entries ≤ 256
      few = leb-true _ 256 (present (leb (copies_of (step_by items s) * below.entries) 256) _ n o r Entries c k w).0

      pub judge_near : copies_of (step_by items s) ≤ 256
      judge_near =
          let m = few in
          let one = mul-le-mul {n₁ = copies_of (step_by items s)} {m₁ = 1} {n₂ = copies_of (step_by items s)} {m₂ = below.entries} (omega arith) judge_some in
          omega arith

      pub judge_far : (near : Bool) → near ≡ step_near (step_by items s) → near ≡ false → Judged (recipe_of steps items) i rows places 31
      judge_far near e z =
          let g = standing steps items rows places i s below facing in
          refused_limit steps items i s below g rows places few (far_limits (step_by items s) g.old below g.known g.sound.zeros g.sound.dimensions (sym e ∙ z))

      pub judge_asked : (near : Bool) → near ≡ step_near (step_by items s) → near ≡ true → PutAsked items s i n below rows places
      judge_asked near e z = put_asked steps items rows places i n s below facing few copies (sym e ∙ z)

      pub judge_put : (rows' places' : List ℕ) (refusal : ℕ) → StepPut items s i n below rows places rows' places' refusal → Judged (recipe_of steps items) i rows' places' refusal
      judge_put rows' places' refusal = step_put steps items rows places i n s below rows' places' refusal facing few copies
