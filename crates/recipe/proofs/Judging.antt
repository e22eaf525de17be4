-- The steps judged in order: the first that is refused, and what with.
use mathlib.Core.List.{List}
use Rattle.std.specs.Prelude.{Some, None, Result, Ok, Err, IsErrAnd, MatchResult}
use Rattle.laws.proofs.Prelude.{ℕ, suc, ◌-◌, ◌/◌, ◌%◌, ◌≤◌, ◌<◌, ◌≡◌, ◌≢◌, refl, sym, ap, ◌∙◌, Bool, true, false, ⊎_elim, arith, length, eqb, ltb, eq-eqb, ne_eqb, lt-ltb, le-ltb, also, also_inv, also_true, also_first, also_false, within, within_inv, check, check_yes, check_no, cond_yes, cond_no, least_false_is, lt_or_le, eq_or_ne}
use Rattle.recipe_types.specs.declared.Shape.{Shape}
use Rattle.recipe_types.specs.Typemaps.{Typemap}
use Rattle.recipe_types.specs.Recipes.{Recipe, recipe_step, step_type, names, none_zero, dimensions_allowed, entry_count_allowed, limits_kept, room, last_refusal, step_refusal, step_count, steps_allowed, first_bad, recipe_refusal}
use Rattle.recipe_types.specs.Parts.{Known, shape_at}
use Rattle.recipe_types.proofs.Shapes.{known_lower}
use Rattle.recipe_plan.specs.declared.Refusal.{Refusal}
use Rattle.recipe_plan.specs.declared.Refusal.TheVariants.{Steps}
use Rattle.recipe_plan.specs.Parts.{recipe_refusal_number, recipe_refusal_in, Table, inner_refusal, Judged}
use Rattle.recipe_plan.proofs.Refusing.{refusal_some}
use Rattle.recipe.specs.declared.Fault.{Fault}
use Rattle.recipe.specs.Flattening.{faulty_step}
use Rattle.recipe.specs.Parts.{last_by, judged_refusal, judged_step, AllJudged}

-- ---- checks 27 to 31, and those of the last step after them

pub five : (a b c d e : Bool) → ℕ → ℕ
five a b c d e x = check a 27 (check b 28 (check c 29 (check d 30 (check e 31 x))))

five_stops : (a b c d e : Bool) (x : ℕ) → five a b c d e 0 ≢ 0 → five a b c d e x ≡ five a b c d e 0
unfolding five check
five_stops false b c d e x n = refl
five_stops true false c d e x n = refl
five_stops true true false d e x n = refl
five_stops true true true false e x n = refl
five_stops true true true true false x n = refl
five_stops true true true true true x n = absurd (n refl)

pub five_passes : (a b c d e : Bool) (x : ℕ) → five a b c d e 0 ≡ 0 → five a b c d e x ≡ x
unfolding five check
five_passes false b c d e x n = absurd (omega arith)
five_passes true false c d e x n = absurd (omega arith)
five_passes true true false d e x n = absurd (omega arith)
five_passes true true true false e x n = absurd (omega arith)
five_passes true true true true false x n = absurd (omega arith)
five_passes true true true true true x n = refl

-- ---- the fault of a step: its refusal, and its number

abbrev pub FaultOf : Result Unit Refusal → Result Unit Fault → ℕ → Type 0
FaultOf q m i = MatchResult q (λ x. m ≡ Ok x) (λ e. IsErrAnd m (λ f. f ≡ record { refusal = e; step = Some i }))

fault_number : (q : Result Unit Refusal) (m : Result Unit Fault) (i : ℕ) → FaultOf q m i → judged_refusal m ≡ recipe_refusal_in q
fault_number (Ok x) m i h = ap judged_refusal h
fault_number (Err e) (Ok y) i h = absurd h
fault_number (Err e) (Err f) i h = ap (λ f. recipe_refusal_number f.refusal) h

fault_none : (q : Result Unit Refusal) (m : Result Unit Fault) (i : ℕ) → FaultOf q m i → recipe_refusal_in q ≡ 0 → judged_step m ≡ None
fault_none (Ok x) m i h z = ap judged_step h
fault_none (Err e) m i h z = absurd (refusal_some e z)

fault_step : (q : Result Unit Refusal) (m : Result Unit Fault) (i : ℕ) → FaultOf q m i → recipe_refusal_in q ≢ 0 → judged_step m ≡ Some i
fault_step (Ok x) m i h n = absurd (n refl)
fault_step (Err e) (Ok y) i h n = absurd h
fault_step (Err e) (Err f) i h n = ap (λ f. f.step) h

-- `?` passes it on as it is
fault_passed : (a : Result Unit Fault) (f : Fault) → IsErrAnd a (λ y. y ≡ f) → a ≡ Err f
fault_passed (Ok x) f h = absurd h
fault_passed (Err y) f h = ap (λ y. Err y) h

module _ (r : Recipe) (ws ds : ℕ) where
  -- a step that these checks refuse
  pub step_refused : (i : ℕ) → inner_refusal r i ≢ 0 → step_refusal r ws ds i ≡ inner_refusal r i
  unfolding inner_refusal step_refusal five
  step_refused i n = five_stops (names r i) (none_zero (recipe_step r i)) (dimensions_allowed (recipe_step r i)) (entry_count_allowed (step_type r i)) (limits_kept (step_type r i)) _ n

  -- a step that passes them, and is not the last, and one that is
  step_passes : (i : ℕ) → inner_refusal r i ≡ 0 → suc i ≢ step_count r → step_refusal r ws ds i ≡ 0
  unfolding inner_refusal step_refusal five
  step_passes i z n = five_passes (names r i) (none_zero (recipe_step r i)) (dimensions_allowed (recipe_step r i)) (entry_count_allowed (step_type r i)) (limits_kept (step_type r i)) _ z ∙ sym (cond_no (eqb (suc i) (step_count r)) _ 0 0 (ne_eqb (suc i) (step_count r) n) refl)

  pub step_last : (i : ℕ) → inner_refusal r i ≡ 0 → suc i ≡ step_count r → step_refusal r ws ds i ≡ last_refusal (step_type r i) ws ds
  unfolding inner_refusal step_refusal five
  step_last i z e = five_passes (names r i) (none_zero (recipe_step r i)) (dimensions_allowed (recipe_step r i)) (entry_count_allowed (step_type r i)) (limits_kept (step_type r i)) _ z ∙ sym (cond_yes (eqb (suc i) (step_count r)) (last_refusal (step_type r i) ws ds) 0 _ (eq-eqb (suc i) (step_count r) e) refl)

  -- ---- the first step that is refused

  bad_is : (i : ℕ) → i < step_count r → ((k : ℕ) → k < i → step_refusal r ws ds k ≡ 0) → step_refusal r ws ds i ≢ 0 → i ≡ first_bad r ws ds
  unfolding first_bad
  bad_is i l before n = least_false_is (λ k. eqb (step_refusal r ws ds k) 0) (step_count r) i (omega arith) (λ k b. eq-eqb (step_refusal r ws ds k) 0 (before k b)) (λ b. ne_eqb (step_refusal r ws ds i) 0 n)

  bad_none : ((k : ℕ) → k < step_count r → step_refusal r ws ds k ≡ 0) → step_count r ≡ first_bad r ws ds
  unfolding first_bad
  bad_none each = least_false_is (λ k. eqb (step_refusal r ws ds k) 0) (step_count r) (step_count r) (omega arith) (λ k b. eq-eqb (step_refusal r ws ds k) 0 (each k b)) (λ b. absurd (omega arith))

  -- what the recipe is refused with, and which step it names
  refused_at : (i refusal : ℕ) → steps_allowed r ≡ true → i < step_count r → i ≡ first_bad r ws ds → refusal ≡ step_refusal r ws ds i → refusal ≡ recipe_refusal r ws ds
  unfolding recipe_refusal
  refused_at i refusal a l e h = check_yes (steps_allowed r) 26 _ refusal a (cond_yes (ltb (first_bad r ws ds) (step_count r)) _ 0 refusal (lt-ltb (first_bad r ws ds) (step_count r) (rw e at l)) (rw e at h))

  faulty_at : (i : ℕ) → steps_allowed r ≡ true → i < step_count r → i ≡ first_bad r ws ds → Some i ≡ faulty_step r ws ds
  unfolding faulty_step
  faulty_at i a l e = cond_yes _ (Some (first_bad r ws ds)) None (Some i) (also_true a (lt-ltb (first_bad r ws ds) (step_count r) (rw e at l))) (ap (λ k. Some k) e)

  granted_all : steps_allowed r ≡ true → step_count r ≡ first_bad r ws ds → 0 ≡ recipe_refusal r ws ds
  unfolding recipe_refusal
  granted_all a e = check_yes (steps_allowed r) 26 _ 0 a (cond_no (ltb (first_bad r ws ds) (step_count r)) _ 0 0 (le-ltb (first_bad r ws ds) (step_count r) (omega arith)) refl)

  faulty_none : step_count r ≡ first_bad r ws ds → None ≡ faulty_step r ws ds
  unfolding faulty_step
  faulty_none e = cond_no _ (Some (first_bad r ws ds)) None None (also_false (steps_allowed r) _ (le-ltb (first_bad r ws ds) (step_count r) (omega arith))) refl

  faulty_count : steps_allowed r ≡ false → None ≡ faulty_step r ws ds
  unfolding faulty_step
  faulty_count e = cond_no _ (Some (first_bad r ws ds)) None None (also_first (steps_allowed r) (ltb (first_bad r ws ds) (step_count r)) e) refl

  -- ---- while the steps are judged: those before i passed, and are in the table

  pub record Judging (rows places : List ℕ) (i n : ℕ) : Type 0 where
    pub table : Table r rows places i
    pub count : n ≡ step_count r
    pub allowed : steps_allowed r ≡ true
    pub passed : (k : ℕ) → k < i → inner_refusal r k ≡ 0
    pub reached : i ≤ n

  -- no step yet
  pub judging_none : (rows places : List ℕ) (b : Bool) → length rows ≡ 256 → length places ≡ 8192 → b ≡ also (eqb (length r.steps % 6) 0) (within 1 32 (length r.steps / 6)) → b ≡ true → Judging rows places 0 (length r.steps / 6)
  unfolding step_count steps_allowed
  judging_none rows places b lr lp e a = record {
    table = record { rows_long = lr; places_long = lp; each = λ i l. absurd (omega arith) };
    count = refl;
    allowed = sym e ∙ a;
    passed = λ k l. absurd (omega arith);
    reached = omega arith;
  }

  -- 1 to 32 steps
  pub count_are : (n : ℕ) → n ≡ step_count r → steps_allowed r ≡ true → (1 ≤ n) × (n ≤ 32)
  unfolding steps_allowed
  count_are n e a = rw e (within_inv 1 32 (step_count r) (also_inv _ _ a).1)

  pub judging_below : (rows places : List ℕ) (i n : ℕ) → Judging rows places i n → i < n → i < 32
  judging_below rows places i n j l = let c = (count_are n j.count j.allowed).1 in omega arith

  before_zero : (rows places : List ℕ) (i n : ℕ) → Judging rows places i n → i < n → (k : ℕ) → k < i → step_refusal r ws ds k ≡ 0
  before_zero rows places i n j l k b = step_passes k (j.passed k b) (λ e. let c = j.count in omega arith)

  -- the next step is refused
  pub judging_stop : (rows places rows' places' : List ℕ) (i n : ℕ) (q : Result Unit Refusal) (m : Result Unit Fault) (f : Fault) (a : Result Unit Fault) → Judging rows places i n → i < n → Judged r i rows' places' (recipe_refusal_in q) → FaultOf q m i → m ≡ Err f → IsErrAnd a (λ y. y ≡ f) → AllJudged r ws ds rows' places' a
  judging_stop rows places rows' places' i n q m f a j l d g w h =
      let same : a ≡ m = fault_passed a f h ∙ sym w in
      let number = fault_number q m i g in
      let z : recipe_refusal_in q ≢ 0 = (λ z. refusal_some f.refusal (sym (ap judged_refusal w) ∙ number ∙ z)) in
      let below : i < step_count r = rw j.count at l in
      let is : recipe_refusal_in q ≡ step_refusal r ws ds i = d.answer ∙ sym (step_refused i (λ e. z (d.answer ∙ e))) in
      let bad = bad_is i below (before_zero rows places i n j l) (λ e. z (is ∙ e)) in
      rw same (record {
        answer = number ∙ refused_at i (recipe_refusal_in q) j.allowed below bad is;
        step = fault_step q m i g z ∙ faulty_at i j.allowed below bad;
        table = λ e. absurd (z (sym number ∙ e));
      })

  -- ---- the last step

  -- checks 32 and 33 on its numbers
  last_is : (t : Typemap) (s : Shape) → Known t s → last_by s ws ds ≡ last_refusal t ws ds
  unfolding last_by last_refusal room
  last_is t s k = rw (known_lower t s k, k.counted)

  pub judging_end : (rows places : List ℕ) (i n : ℕ) (q : Result Unit Refusal) (a : Result Unit Fault) → Judging rows places i n → n ≤ i → recipe_refusal_in q ≡ last_by (shape_at rows (n - 1)) ws ds → FaultOf q a (n - 1) → AllJudged r ws ds rows places a
  judging_end rows places i n q a j l h g =
      let c = count_are n j.count j.allowed in
      let some = c.0 in
      let reach = j.reached in
      let number = fault_number q a (n - 1) g in
      let last : suc (n - 1) ≡ step_count r = (let q = j.count in omega arith) in
      let below : n - 1 < step_count r = (let q = j.count in omega arith) in
      let known = (j.table.each (n - 1) (omega arith)).known in
      let is : recipe_refusal_in q ≡ step_refusal r ws ds (n - 1) = h ∙ last_is (step_type r (n - 1)) (shape_at rows (n - 1)) known ∙ sym (step_last (n - 1) (j.passed (n - 1) (omega arith)) last) in
      let before : (k : ℕ) → k < n - 1 → step_refusal r ws ds k ≡ 0 = (λ k b. step_passes k (j.passed k (omega arith)) (λ q. let w = j.count in omega arith)) in
      ⊎_elim
      (λ z. let none = bad_none (λ k b. ⊎_elim (λ q. before k q) (λ q. let w : k ≡ n - 1 = (let v = j.count in omega arith) in rw w (sym is ∙ z)) (lt_or_le k (n - 1))) in record {
        answer = number ∙ z ∙ granted_all j.allowed none;
        step = fault_none q a (n - 1) g z ∙ faulty_none none;
        table = λ e. let w : i ≡ step_count r = (let v = j.count in omega arith) in rw (sym w) j.table;
      })
      (λ z. let bad = bad_is (n - 1) below before (λ e. z (is ∙ e)) in record {
        answer = number ∙ refused_at (n - 1) (recipe_refusal_in q) j.allowed below bad is;
        step = fault_step q a (n - 1) g z ∙ faulty_at (n - 1) j.allowed below bad;
        table = λ e. absurd (z (sym number ∙ e));
      })
      (eq_or_ne (recipe_refusal_in q) 0)

  -- a wrong number of steps
  pub judged_count : (rows places : List ℕ) (b : Bool) → b ≡ also (eqb (length r.steps % 6) 0) (within 1 32 (length r.steps / 6)) → b ≡ false → AllJudged r ws ds rows places (Err (record { refusal = Steps; step = None }))
  unfolding recipe_refusal steps_allowed step_count
  judged_count rows places b e k =
      let f : steps_allowed r ≡ false = sym e ∙ k in
      record {
        answer = check_no (steps_allowed r) 26 _ 26 f refl;
        step = faulty_count f;
        table = λ q. absurd (omega arith);
      }

  -- there is a last step
  pub judging_some : (rows places : List ℕ) (i n : ℕ) → Judging rows places i n → 1 ≤ n
  judging_some rows places i n j = (count_are n j.count j.allowed).0

  pub judging_last : (rows places : List ℕ) (i n : ℕ) → Judging rows places i n → n - 1 < 32
  judging_last rows places i n j = let c = (count_are n j.count j.allowed).1 in omega arith
