-- What stands behind an answer that is a refusal: the value that was missing, and the refusal that `?` passes on.
use Rattle.std.specs.Prelude.{Option, Some, None, Result, Ok, Err, IsErrAnd}
use Rattle.std.specs.Option.{ok_or}
use Rattle.laws.proofs.Prelude.{◌≡◌, ◌≢◌, arith, refl, sym, ap, ◌∙◌, Bool, true, false, cond}
use Rattle.recipe_plan.specs.declared.Refusal.{Refusal}
use Rattle.recipe_plan.specs.declared.Refusal.TheVariants.{Steps, Name, Zero, Dimensions, Entries, Limits, LowerBound, Room}
use Rattle.recipe_plan.specs.Parts.{recipe_refusal_number, recipe_refusal_in}

-- no refusal has the number 0
pub refusal_some : (e : Refusal) → recipe_refusal_number e ≢ 0
refusal_some Steps z = omega arith
refusal_some Name z = omega arith
refusal_some Zero z = omega arith
refusal_some Dimensions z = omega arith
refusal_some Entries z = omega arith
refusal_some Limits z = omega arith
refusal_some LowerBound z = omega arith
refusal_some Room z = omega arith

-- `?` passes a refusal on as it is
pub passed_on : {A : Type 0} (r : Result A Refusal) (e : Refusal) → IsErrAnd r (λ y. y ≡ e) → recipe_refusal_in r ≡ recipe_refusal_number e
passed_on (Ok x) e h = absurd h
passed_on (Err y) e h = ap recipe_refusal_number h

-- a value that there is under a condition, with a refusal in its place where it is missing
pub missing : {A : Type 0} (b : Bool) (x : A) (o : Option A) (r : Result A Refusal) (d e : Refusal) → o ≡ cond b (Some x) None → r ≡ ok_or o d → r ≡ Err e → (b ≡ false) × (e ≡ d)
missing true x o r d e p q w = let h : Ok x ≡ Err e = sym (q ∙ rw p) ∙ w in cc
missing false x o r d e p q w = let h : Err d ≡ Err e = sym (q ∙ rw p) ∙ w in (refl, cc)

pub present : {A : Type 0} (b : Bool) (x y : A) (o : Option A) (r : Result A Refusal) (d : Refusal) → o ≡ cond b (Some x) None → r ≡ ok_or o d → r ≡ Ok y → (b ≡ true) × (y ≡ x)
present true x y o r d p q w = let h : Ok x ≡ Ok y = sym (q ∙ rw p) ∙ w in (refl, cc)
present false x y o r d p q w = let h : Err d ≡ Ok y = sym (q ∙ rw p) ∙ w in cc
