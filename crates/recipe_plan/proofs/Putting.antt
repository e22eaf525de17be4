-- A step put into the table: its row and its places, each a part of a list that is lent and comes back.
use mathlib.Core.List.{List, ◌++◌}
use Rattle.std.specs.Prelude.{Option, Some, None, Result, Ok, Err, IsErrAnd}
use Rattle.std.specs.Option.{ok_or}
use Rattle.laws.proofs.Prelude.{ℕ, ◌+◌, ◌-◌, ◌*◌, ◌<◌, ◌≡◌, refl, ap, ◌∙◌, true, cond, arith, length, nth, take, drop, check_yes, check_no, add-zero}
use Rattle.recipe_types.specs.declared.Shape.{Shape}
use Rattle.recipe_types.specs.Parts.{shape_at, Spans, limits_by, shape_made}
use Rattle.recipe_steps.specs.declared.StepNumbers.{StepNumbers}
use Rattle.recipe_steps.specs.Parts.{step_by, PlacesPut}
use Rattle.recipe_plan.specs.declared.Span.{Span}
use Rattle.recipe_plan.specs.declared.Refusal.{Refusal}
use Rattle.recipe_plan.specs.declared.Refusal.TheVariants.{Limits}
use Rattle.recipe_plan.specs.Parts.{recipe_refusal_number, recipe_refusal_in, row_numbers, PutAsked, StepPut}
use Rattle.recipe_plan.proofs.Middle.{mid_before, mid_at, mid_length, mid_lent}
use Rattle.recipe_plan.proofs.Refusing.{passed_on, missing, present}

-- the part of the places that is lent
pub places_lent : (items : List ℕ) (s : StepNumbers) (i n : ℕ) (below : Shape) (rows places : List ℕ) → PutAsked items s i n below rows places → length (take (256 * i + 256 - 256 * i) (drop (256 * i) places)) ≡ 256
places_lent items s i n below rows places h =
    let w : 256 * i + 256 - 256 * i ≡ 256 = omega arith in
    rw w (mid_lent places (256 * i) 256 (let l = h.places_long in let q = h.step in omega arith))

module _ (items : List ℕ) (s : StepNumbers) (i n : ℕ) (below : Shape) (rows places : List ℕ) (span : Span) (made : Option Shape) (r : Result Shape Refusal) (h : PutAsked items s i n below rows places) (m : made ≡ cond (limits_by (step_by items s) below span.low span.high) (Some (shape_made (step_by items s) below span.low span.high)) None) (k : r ≡ ok_or made Limits) where
  -- it breaks a limit
  pub put_broken : (before part : List ℕ) (rows' places' : List ℕ) (e : Refusal) (answer : Result Unit Refusal) → PlacesPut items s before part → Spans part n span.low span.high → r ≡ Err e → IsErrAnd answer (λ y. y ≡ e) → StepPut items s i n below rows places rows' places' (recipe_refusal_in answer)
  put_broken before part rows' places' e answer p q w l =
      let b = missing _ _ made r Limits e m k w in
      let is : recipe_refusal_in answer ≡ 31 = passed_on answer e l ∙ ap recipe_refusal_number b.1 in
      record {
        part = part;
        span = span;
        put = p.places;
        spans = rw h.copies at q;
        answer = check_no _ 31 0 _ b.0 is;
        row = λ z. absurd (omega arith);
      }

  -- it keeps the limits
  pub put_kept : (part row numbers : List ℕ) (shape : Shape) → PlacesPut items s (take (256 * i + 256 - 256 * i) (drop (256 * i) places)) part → Spans part n span.low span.high → r ≡ Ok shape → row ≡ numbers → numbers ≡ row_numbers n s shape → StepPut items s i n below rows places (take (8 * i) rows ++ (row ++ drop (8 * i + 8 - 8 * i) (drop (8 * i) rows))) (take (256 * i) places ++ (part ++ drop (256 * i + 256 - 256 * i) (drop (256 * i) places))) 0
  unfolding shape_at
  put_kept part row numbers shape p q w f e =
      let b : (limits_by (step_by items s) below span.low span.high ≡ true) × (shape ≡ shape_made (step_by items s) below span.low span.high) = present _ _ shape made r Limits m k w in
      let rl = h.rows_long in
      let ql = h.places_long in
      let st = h.step in
      let few = h.placeable.few in
      let cs = h.copies in
      let lp = places_lent items s i n below rows places h in
      let is : row ≡ row_numbers n s shape = f ∙ e in
      let kr : length row ≡ 8 = ap length is in
      let kp : length part ≡ 256 = p.length_stays ∙ lp in
      let at : (c : ℕ) (l : c < 8) → nth (take (8 * i) rows ++ (row ++ drop (8 * i + 8 - 8 * i) (drop (8 * i) rows))) (8 * i + c) ≡ nth (row_numbers n s shape) c = (λ c l. mid_at rows row _ (8 * i) c (omega arith) (omega arith) ∙ ap (λ t. nth t c) is) in
      record {
        part = part;
        span = span;
        put = p.places;
        spans = rw h.copies at q;
        answer = check_yes _ 31 0 0 b.0 refl;
        row = λ y. record {
          rows_long = mid_length rows row (8 * i) (8 * i + 8 - 8 * i) (omega arith) (omega arith) ∙ rl;
          places_long = mid_length places part (256 * i) (256 * i + 256 - 256 * i) (omega arith) (omega arith) ∙ ql;
          copies = (rw (add-zero (8 * i)) at (at 0 (omega arith)));
          source = at 1 (omega arith);
          name = at 2 (omega arith);
          shape = rw (at 3 (omega arith), at 4 (omega arith), at 5 (omega arith), at 6 (omega arith), at 7 (omega arith)) b.1;
          places_are = λ q l. mid_at places part _ (256 * i) q (omega arith) (omega arith);
          rows_before = λ j l. mid_before rows row _ (8 * i) j (omega arith) l;
          places_before = λ j l. mid_before places part _ (256 * i) j (omega arith) l;
        };
      }
