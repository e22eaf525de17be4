-- Flattening a recipe: one that is granted has room, and its table, placed without a shift, is its typemap.
use mathlib.Core.List.{List, [], ◌∷◌, map}
use lib.IntN.{+ℤ_idr}
use Rattle.std.specs.Prelude.{Result, Ok, Err}
use Rattle.laws.proofs.Prelude.{ℕ, suc, ◌-◌, ◌/◌, ◌≤◌, ◌<◌, ◌≡◌, ◌≢◌, refl, sym, ap, ◌∙◌, true, true≢false, ⊎_elim, arith, length, eqb, leb, ltb, leb-true, eqb-true, eq-eqb, lt-ltb, also_inv, check_inv, cond_yes, granted_yes, granted_no, least_false_breaks, least_false_keeps, not_both, lt_or_le, eq_or_ne, pos, ℤ, negsuc, within_inv, w64, SFits, to_z, to_z_pos}
use Rattle.view.specs.Limits.{extent_allowed}
use Rattle.recipe_types.specs.declared.Shape.{Shape}
use Rattle.recipe_types.specs.Typemaps.{Entry, Typemap, extent, widths, displacements}
use Rattle.recipe_types.specs.Recipes.{Recipe, recipe_of, step_type, limits_kept, last_refusal, room, step_refusal, step_count, steps_allowed, first_bad, recipe_refusal, meaning, over}
use Rattle.recipe_types.specs.Parts.{Known, shape_at}
use Rattle.recipe_types.proofs.Building.{meaning_is}
use Rattle.recipe_types.proofs.Shapes.{known_extent}
use Rattle.recipe_types.proofs.Integers.{sub_pos}
use Rattle.recipe_place.specs.Parts.{plan_of, PlaceAsked, widths_of, displacements_of, Placed}
use Rattle.recipe_plan.specs.Parts.{recipe_refusal_number, inner_refusal}
use Rattle.recipe_plan.proofs.Refusing.{refusal_some}
use Rattle.recipe.specs.declared.Fault.{Fault}
use Rattle.recipe.specs.Flattening.{flatten_answer, FlattenDone}
use Rattle.recipe.specs.Parts.{judged_refusal, AllJudged}
use Rattle.recipe.proofs.Judging.{step_refused, step_last, count_are}
use Rattle.recipe.proofs.Planning.{table_plan, table_entries}

-- ---- a recipe that is granted

-- the first step that is refused is refused
broken : (r : Recipe) (ws ds : ℕ) → first_bad r ws ds < step_count r → step_refusal r ws ds (first_bad r ws ds) ≡ 0 → ⊥
unfolding first_bad
broken r ws ds b e = not_both (eq-eqb (step_refusal r ws ds (first_bad r ws ds)) 0 e) (least_false_breaks (λ i. eqb (step_refusal r ws ds i) 0) (step_count r) b)

-- those before it are not
none_bad : (r : Recipe) (ws ds k : ℕ) → k < first_bad r ws ds → step_refusal r ws ds k ≡ 0
unfolding first_bad
none_bad r ws ds k l = eqb-true (step_refusal r ws ds k) 0 (least_false_keeps (λ i. eqb (step_refusal r ws ds i) 0) (step_count r) k l)

-- it has steps, and none is refused
granted_count : (r : Recipe) (ws ds : ℕ) → recipe_refusal r ws ds ≡ 0 → steps_allowed r ≡ true
unfolding recipe_refusal
granted_count r ws ds z = (check_inv (steps_allowed r) 26 _ (omega arith) z).0

granted_step : (r : Recipe) (ws ds : ℕ) → recipe_refusal r ws ds ≡ 0 → (k : ℕ) → k < step_count r → step_refusal r ws ds k ≡ 0
unfolding recipe_refusal
granted_step r ws ds z k l =
    let c = (check_inv (steps_allowed r) 26 _ (omega arith) z).1 in
    ⊎_elim
    (λ b. absurd (broken r ws ds b (cond_yes (ltb (first_bad r ws ds) (step_count r)) (step_refusal r ws ds (first_bad r ws ds)) 0 (step_refusal r ws ds (first_bad r ws ds)) (lt-ltb (first_bad r ws ds) (step_count r) b) refl ∙ c)))
    (λ b. none_bad r ws ds k (omega arith))
    (lt_or_le (first_bad r ws ds) (step_count r))

-- its last step passes checks 27 to 31
granted_inner : (r : Recipe) (ws ds : ℕ) → recipe_refusal r ws ds ≡ 0 → inner_refusal r (step_count r - 1) ≡ 0
granted_inner r ws ds z =
    let c = count_are r ws ds (step_count r) refl (granted_count r ws ds z) in
    let some = c.0 in
    let e = granted_step r ws ds z (step_count r - 1) (omega arith) in
    ⊎_elim (λ q. q) (λ q. absurd (q (sym (step_refused r ws ds (step_count r - 1) q) ∙ e))) (eq_or_ne (inner_refusal r (step_count r - 1)) 0)

-- the room for the entries
last_room : (t : Typemap) (ws ds : ℕ) → last_refusal t ws ds ≡ 0 → (length t.entries ≤ ws) × (length t.entries ≤ ds)
unfolding last_refusal room
last_room t ws ds z =
    let a = (check_inv _ 32 _ (omega arith) z).1 in
    let b = also_inv (leb (length t.entries) ws) (leb (length t.entries) ds) (check_inv _ 33 0 (omega arith) a).0 in
    (leb-true (length t.entries) ws b.0, leb-true (length t.entries) ds b.1)

granted_room : (r : Recipe) (ws ds : ℕ) → recipe_refusal r ws ds ≡ 0 → (length (step_type r (step_count r - 1)).entries ≤ ws) × (length (step_type r (step_count r - 1)).entries ≤ ds)
granted_room r ws ds z =
    let c = count_are r ws ds (step_count r) refl (granted_count r ws ds z) in
    let some = c.0 in
    let e = granted_step r ws ds z (step_count r - 1) (omega arith) in
    let inner = granted_inner r ws ds z in
    last_room (step_type r (step_count r - 1)) ws ds (sym (step_last r ws ds (step_count r - 1) inner (omega arith)) ∙ e)

inner_limits : (r : Recipe) (i : ℕ) → inner_refusal r i ≡ 0 → extent_allowed (extent (step_type r i)) ≡ true
unfolding inner_refusal limits_kept
inner_limits r i z =
    let a = (check_inv _ 27 _ (omega arith) z).1 in
    let b = (check_inv _ 28 _ (omega arith) a).1 in
    let c = (check_inv _ 29 _ (omega arith) b).1 in
    let d = (check_inv _ 30 _ (omega arith) c).1 in
    (also_inv _ _ (check_inv _ 31 0 (omega arith) d).0).1

allowed_fits : (x : ℤ) → extent_allowed x ≡ true → SFits w64 x
unfolding extent_allowed
allowed_fits (pos n) e = record { sfits = let b = (within_inv 1 1048576 n e).1 in omega arith }
allowed_fits (negsuc n) e = absurd (true≢false (sym e))

-- the extent of what a granted recipe means is a signed number of 64 bits
pub granted_fits : (r : Recipe) (ws ds : ℕ) → recipe_refusal r ws ds ≡ 0 → SFits w64 (extent (meaning r))
granted_fits r ws ds z =
    let c = count_are r ws ds (step_count r) refl (granted_count r ws ds z) in
    rw (meaning_is r c.0) (allowed_fits (extent (step_type r (step_count r - 1))) (inner_limits r (step_count r - 1) (granted_inner r ws ds z)))

-- ---- what placing the last step asks

module _ (steps items : List ℕ) (ws ds : ℕ) (rows places : List ℕ) (j : Result Unit Fault) (a : AllJudged (recipe_of steps items) ws ds rows places j) (u : Unit) (ok : j ≡ Ok u) where
  z : judged_refusal j ≡ 0
  z = ap judged_refusal ok

  whole : recipe_refusal (recipe_of steps items) ws ds ≡ 0
  whole = sym a.answer ∙ z

  steps_are : (1 ≤ step_count (recipe_of steps items)) × (step_count (recipe_of steps items) ≤ 32)
  steps_are = count_are (recipe_of steps items) ws ds (step_count (recipe_of steps items)) refl (granted_count (recipe_of steps items) ws ds whole)

  known : Known (step_type (recipe_of steps items) (step_count (recipe_of steps items) - 1)) (shape_at rows (step_count (recipe_of steps items) - 1))
  known = ((a.table z).each (step_count (recipe_of steps items) - 1) (let q = steps_are.0 in omega arith)).known

  pub flatten_some : 1 ≤ length steps / 6
  unfolding step_count
  flatten_some = steps_are.0

  pub flatten_last : length steps / 6 - 1 < 32
  unfolding step_count
  flatten_last = let q = steps_are.1 in omega arith

  pub flatten_rows : length rows ≡ 256
  flatten_rows = (a.table z).rows_long

  pub flatten_asked : PlaceAsked rows places (length steps / 6 - 1) 1048576 ws ds
  unfolding step_count
  flatten_asked =
      let n = step_count (recipe_of steps items) in
      let one = steps_are.0 in
      let most = steps_are.1 in
      let r = granted_room (recipe_of steps items) ws ds whole in
      let w = r.0 in
      let d = r.1 in
      let c = known.counted in
      let e : suc (n - 1) ≡ n = omega arith in
      let end = known.end_few in
      record {
        plan = rw e (table_plan steps items rows places n (a.table z) most);
        above = omega arith;
        below = omega arith;
        widths_long = omega arith;
        displacements_long = omega arith;
      }

  pub flatten_extent : (s : Shape) → s ≡ shape_at rows (length steps / 6 - 1) → s.extent < 9223372036854775808
  unfolding step_count
  flatten_extent s e = let q = known.extent_few in rw e (omega arith)

  last_means : meaning (recipe_of steps items) ≡ step_type (recipe_of steps items) (step_count (recipe_of steps items) - 1)
  last_means = meaning_is (recipe_of steps items) steps_are.0

  entries_are : plan_of rows places (step_count (recipe_of steps items) - 1) ≡ (meaning (recipe_of steps items)).entries
  entries_are = table_entries steps items rows places (step_count (recipe_of steps items)) (step_count (recipe_of steps items) - 1) (a.table z) steps_are.1 (let q = steps_are.0 in omega arith) ∙ ap (λ t. t.entries) (sym last_means)

-- ---- the lists, and the answer

unshifted : (l : List Entry) → displacements_of l 1048576 ≡ map (λ e. e.displacement) l
unfolding displacements_of
unshifted [] = refl
unshifted (e ∷ l) = rw (sub_pos 1048576 1048576 0 refl, +ℤ_idr e.displacement) (ap (λ r. e.displacement ∷ r) (unshifted l))

pub flatten_done : (steps items : List ℕ) (ws ws' : List ℕ) (ds ds' : List ℤ) (rows places : List ℕ) (j : Result Unit Fault) (u : Unit) (s : Shape) → AllJudged (recipe_of steps items) (length ws) (length ds) rows places j → j ≡ Ok u → Placed (plan_of rows places (length steps / 6 - 1)) 1048576 ws ws' ds ds' → s ≡ shape_at rows (length steps / 6 - 1) → FlattenDone (recipe_of steps items) ws ws' ds ds' (record { refusal = 0; entries = s.entries; extent = to_z w64 s.extent })
unfolding step_count flatten_answer widths displacements widths_of
flatten_done steps items ws ws' ds ds' rows places j u s a ok p e =
    let r = recipe_of steps items in
    let k = known steps items (length ws) (length ds) rows places j a u ok in
    let m = last_means steps items (length ws) (length ds) rows places j a u ok in
    let q = whole steps items (length ws) (length ds) rows places j a u ok in
    let l = entries_are steps items (length ws) (length ds) rows places j a u ok in
    let count : s.entries ≡ length (meaning r).entries = ap (λ t. t.entries) e ∙ sym k.counted ∙ ap (λ t. length t.entries) (sym m) in
    let small : s.extent < 9223372036854775808 = flatten_extent steps items (length ws) (length ds) rows places j a u ok s e in
    let ext : to_z w64 s.extent ≡ extent (meaning r) = to_z_pos w64 small ∙ ap (λ t. pos t.extent) e ∙ sym (known_extent _ _ k) ∙ ap extent (sym m) in
    record {
      answer = rw (q, granted_yes 0 (length (meaning r).entries) 0 refl, granted_yes 0 (extent (meaning r)) (pos 0) refl, count, ext);
      widths_after = p.widths ∙ ap (λ t. over (map (λ n. n.width) t) ws) l ∙ sym (granted_yes 0 (over (widths (meaning r)) ws) ws refl);
      displacements_after = p.displacements ∙ ap (λ t. over t ds) (unshifted (plan_of rows places (length steps / 6 - 1)) ∙ ap (map (λ n. n.displacement)) l) ∙ sym (granted_yes 0 (over (displacements (meaning r)) ds) ds refl);
    }

-- a refusal: its number, and nothing else
pub flatten_refused : (r : Recipe) (ws : List ℕ) (ds : List ℤ) (rows places : List ℕ) (j : Result Unit Fault) (f : Fault) (n : ℕ) → AllJudged r (length ws) (length ds) rows places j → j ≡ Err f → n ≡ recipe_refusal_number f.refusal → FlattenDone r ws ws ds ds (record { refusal = n; entries = 0; extent = pos 0 })
unfolding flatten_answer
flatten_refused r ws ds rows places j f n a w e =
    let z : n ≢ 0 = (λ z. refusal_some f.refusal (sym e ∙ z)) in
    let is : recipe_refusal r (length ws) (length ds) ≡ n = sym a.answer ∙ ap judged_refusal w ∙ sym e in
    record {
      answer = rw (is, granted_no n (length (meaning r).entries) 0 z, granted_no n (extent (meaning r)) (pos 0) z);
      widths_after = sym (granted_no n (over (widths (meaning r)) ws) ws z);
      displacements_after = sym (granted_no n (over (displacements (meaning r)) ds) ds z);
    }
