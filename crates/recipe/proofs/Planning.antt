-- The table of a recipe's steps can be placed, and stands for the entries of the types that the steps mean.
use mathlib.Core.List.{List, map}
use lib.IntN.{◌*ℤ◌}
use Rattle.laws.proofs.Prelude.{ℕ, zero, suc, ◌+◌, ◌*◌, ◌≤◌, ◌<◌, ◌≡◌, ◌≢◌, refl, sym, ap, ◌∙◌, true, ⊎_elim, arith, nth, drop, get_or-drop, eqb-true, either_inv, eq-or-lt_of_le, eq_or_ne, sub_ℕ}
use Rattle.view.specs.Limits.{width_allowed}
use Rattle.recipe_types.specs.declared.Shape.{Shape}
use Rattle.recipe_types.specs.Typemaps.{Typemap, extent, basic, shifted}
use Rattle.recipe_types.specs.Recipes.{Recipe, recipe_of, step_number, recipe_step, step_type, construct}
use Rattle.recipe_types.specs.Parts.{bias, copies_of, place_of, Places, Known, shape_at, shape_below, shape_named, basic_shape}
use Rattle.recipe_types.proofs.Building.{construct_entries, entry_count, joined_same, type_is_basic, type_is_step}
use Rattle.recipe_types.proofs.Shapes.{basic_known, known_extent, copy_within}
use Rattle.recipe_steps.specs.Parts.{numbers_at}
use Rattle.recipe_place.specs.Parts.{plan_copies, basic_copies, row_of, plan_of, RowKept, Plan}
use Rattle.recipe_place.proofs.Plans.{plan_basic, plan_step}
use Rattle.recipe_plan.specs.Parts.{StepKnown, Table}
use Rattle.recipe_plan.proofs.Judging.{Standing, standing, sound_are, names_are}

-- ---- a step of the table

-- a shorter table
table_shorter : (r : Recipe) (rows places : List ℕ) (n i : ℕ) → Table r rows places n → i ≤ n → Table r rows places i
table_shorter r rows places n i t h = record { rows_long = t.rows_long; places_long = t.places_long; each = λ j l. t.each j (omega arith) }

-- what the row names is what the step names
row_names : (steps items rows places : List ℕ) (i : ℕ) → StepKnown (recipe_of steps items) rows places i → shape_below rows i ≡ shape_named rows (numbers_at steps i).source (numbers_at steps i).name
unfolding shape_below numbers_at step_number
row_names steps items rows places i k = rw (k.source, k.name)

step_standing : (steps items rows places : List ℕ) (n i : ℕ) → Table (recipe_of steps items) rows places n → n ≤ 32 → i < n → Standing steps items i (numbers_at steps i) (shape_below rows i)
step_standing steps items rows places n i t h l =
    let k = t.each i l in
    standing steps items rows places i (numbers_at steps i) (shape_below rows i) (record {
      table = table_shorter (recipe_of steps items) rows places n i t (omega arith);
      step = omega arith;
      numbers = refl;
      sound = k.sound;
      below_is = row_names steps items rows places i k;
    })

-- a width is at most 8
width_small : (w : ℕ) → width_allowed w ≡ true → w ≤ 8
unfolding width_allowed
width_small w e =
    ⊎_elim (λ a. let q = eqb-true w 1 a in omega arith) (λ r. ⊎_elim (λ a. let q = eqb-true w 2 a in omega arith) (λ s. ⊎_elim (λ a. let q = eqb-true w 4 a in omega arith) (λ a. let q = eqb-true w 8 a in omega arith) (either_inv _ _ s)) (either_inv _ _ r)) (either_inv _ _ e)

-- its places as a list of their own
step_places : (r : Recipe) (rows places : List ℕ) (i : ℕ) → StepKnown r rows places i → Places (place_of (recipe_step r i)) (copies_of (recipe_step r i)) (drop (256 * i) places)
step_places r rows places i k = record {
  is = λ q b. k.places_are q b ∙ ap (λ z. sub_ℕ z bias) (sym (get_or-drop (256 * i) places q 0));
  small = λ q b. rw (get_or-drop (256 * i) places q 0) (k.small q b);
}

-- ---- the table can be placed

-- by the step's numbers, as its row has them
row_earlier : (steps items rows places : List ℕ) (i : ℕ) → StepKnown (recipe_of steps items) rows places i → nth rows (8 * i + 1) ≢ 1 → nth rows (8 * i + 2) < i
unfolding numbers_at step_number
row_earlier steps items rows places i k n =
    ⊎_elim (λ b. absurd (n (k.source ∙ b.0))) (λ b. rw k.name b.1) (names_are (numbers_at steps i) i (sound_are items (numbers_at steps i) i k.sound).0).1

row_width : (steps items rows places : List ℕ) (i : ℕ) → StepKnown (recipe_of steps items) rows places i → nth rows (8 * i + 1) ≡ 1 → nth rows (8 * i + 2) ≤ 8
unfolding numbers_at step_number
row_width steps items rows places i k e =
    ⊎_elim (λ b. rw k.name (width_small (numbers_at steps i).name b.1)) (λ b. absurd (let q = b.0 in let w = k.source in omega arith)) (names_are (numbers_at steps i) i (sound_are items (numbers_at steps i) i k.sound).0).1

row_kept : (steps items rows places : List ℕ) (n i : ℕ) → Table (recipe_of steps items) rows places n → n ≤ 32 → i < n → RowKept rows places i
row_kept steps items rows places n i t h l =
    let r = recipe_of steps items in
    let k = t.each i l in
    let g = step_standing steps items rows places n i t h l in
    let type : step_type r i ≡ construct (recipe_step r i) g.old = g.type_same ∙ ap (λ s. construct s g.old) g.step_same in
    let known : Known (construct (recipe_step r i) g.old) (shape_at rows i) = rw type at k.known in
    let count : (shape_at rows i).entries ≡ copies_of (recipe_step r i) * (shape_below rows i).entries = sym known.counted ∙ entry_count (recipe_step r i) g.old ∙ ap (λ m. copies_of (recipe_step r i) * m) g.known.counted in
    let c = k.copies in
    let at : (q : ℕ) → q < copies_of (recipe_step r i) → (bias * (shape_below rows i).extent + (shape_at rows i).least ≤ (shape_below rows i).least + nth places (256 * i + q) * (shape_below rows i).extent) × ((shape_below rows i).end + nth places (256 * i + q) * (shape_below rows i).extent ≤ (shape_at rows i).end + bias * (shape_below rows i).extent) = (λ q b. rw (get_or-drop (256 * i) places q 0) at (copy_within (recipe_step r i) g.old (shape_below rows i) (shape_at rows i) (drop (256 * i) places) q g.known known (step_places r rows places i k) b)) in
    record {
      earlier = row_earlier steps items rows places i k;
      width = row_width steps items rows places i k;
      copies = rw c k.few;
      counted = count ∙ ap (λ m. m * (shape_below rows i).entries) (sym c);
      few = k.known.few;
      extent = k.known.extent_few;
      least = k.known.least_few;
      end = k.known.end_few;
      small = λ q b. k.small q (rw c at b);
      above = λ q b. (at q (rw c at b)).0;
      below = λ q b. (at q (rw c at b)).1;
    }

pub table_plan : (steps items rows places : List ℕ) (n : ℕ) → Table (recipe_of steps items) rows places n → n ≤ 32 → Plan rows places n
table_plan steps items rows places n t h = record {
  rows_long = t.rows_long;
  places_long = t.places_long;
  steps = h;
  row = λ i l. row_kept steps items rows places n i t h l;
}

-- ---- it stands for the entries of the types

-- copies by the table are the copies that the constructor makes
same_copies : (r : Recipe) (rows places : List ℕ) (i : ℕ) (old : Typemap) (below : Shape) → StepKnown r rows places i → Known old below → step_type r i ≡ construct (recipe_step r i) old → plan_copies places i below.extent old.entries (nth rows (8 * i)) ≡ (step_type r i).entries
unfolding plan_copies
same_copies r rows places i old below k known e =
    rw k.copies (joined_same _ (λ q. map (shifted (place_of (recipe_step r i) q *ℤ extent old)) old.entries) (copies_of (recipe_step r i)) (λ q b. ap (λ z. map (shifted z) old.entries) (rw (known_extent old below known, k.places_are q b)))
    ∙ sym (construct_entries (recipe_step r i) old) ∙ ap (λ t. t.entries) (sym e))

-- of a step that names a basic width, and of one that names an earlier step
basic_entries : (steps items rows places : List ℕ) (i : ℕ) → StepKnown (recipe_of steps items) rows places i → nth rows (8 * i + 1) ≡ 1 → basic_copies (row_of rows i) places i ≡ (step_type (recipe_of steps items) i).entries
unfolding basic_copies row_of basic_shape numbers_at step_number
basic_entries steps items rows places i k e =
    let r = recipe_of steps items in
    let w = nth rows (8 * i + 2) in
    ⊎_elim
    (λ b. same_copies r rows places i (basic w) (basic_shape w) k (basic_known w (basic_shape w) (rw k.name b.1) (record { entries = refl; extent = refl; least = refl; end = refl; base = refl })) (type_is_basic r i (sym k.source ∙ e) ∙ rw k.name))
    (λ b. absurd (let q = b.0 in let s = k.source in omega arith))
    (names_are (numbers_at steps i) i (sound_are items (numbers_at steps i) i k.sound).0).1

step_entries : (steps items rows places : List ℕ) (n i : ℕ) → Table (recipe_of steps items) rows places n → n ≤ 32 → i < n → nth rows (8 * i + 1) ≢ 1 → plan_copies places i (shape_at rows (nth rows (8 * i + 2))).extent (step_type (recipe_of steps items) (nth rows (8 * i + 2))).entries (nth rows (8 * i)) ≡ (step_type (recipe_of steps items) i).entries
unfolding numbers_at step_number
step_entries steps items rows places n i t h l e =
    let r = recipe_of steps items in
    let k = t.each i l in
    let early = row_earlier steps items rows places i k e in
    ⊎_elim
    (λ b. absurd (e (k.source ∙ b.0)))
    (λ b. same_copies r rows places i (step_type r (nth rows (8 * i + 2))) (shape_at rows (nth rows (8 * i + 2))) k (t.each (nth rows (8 * i + 2)) (omega arith)).known (type_is_step r i b.0 (rw k.name at early) ∙ rw k.name))
    (names_are (numbers_at steps i) i (sound_are items (numbers_at steps i) i k.sound).0).1

-- the entries of a step, if the steps before it have theirs
entries_here : (steps items rows places : List ℕ) (n i : ℕ) → Table (recipe_of steps items) rows places n → n ≤ 32 → i < n → ((k : ℕ) → k < i → plan_of rows places k ≡ (step_type (recipe_of steps items) k).entries) → plan_of rows places i ≡ (step_type (recipe_of steps items) i).entries
unfolding numbers_at step_number
entries_here steps items rows places n i t h l before =
    let r = recipe_of steps items in
    let k = t.each i l in
    ⊎_elim
    (λ e. sym (plan_basic rows places i e) ∙ basic_entries steps items rows places i k e)
    (λ e. sym (plan_step rows places i e (row_earlier steps items rows places i k e)) ∙ rw (before (nth rows (8 * i + 2)) (row_earlier steps items rows places i k e)) (step_entries steps items rows places n i t h l e))
    (eq_or_ne (nth rows (8 * i + 1)) 1)

all_entries : (steps items rows places : List ℕ) (n : ℕ) → Table (recipe_of steps items) rows places n → n ≤ 32 → (m : ℕ) → m ≤ n → (i : ℕ) → i < m → plan_of rows places i ≡ (step_type (recipe_of steps items) i).entries
all_entries steps items rows places n t h zero g i l = absurd (omega arith)
all_entries steps items rows places n t h (suc m) g i l =
    let before = all_entries steps items rows places n t h m (omega arith) in
    ⊎_elim (λ e. rw e (entries_here steps items rows places n m t h (omega arith) before)) (λ q. before i q) (eq-or-lt_of_le {n = i} {m = m} (omega arith))

pub table_entries : (steps items rows places : List ℕ) (n i : ℕ) → Table (recipe_of steps items) rows places n → n ≤ 32 → i < n → plan_of rows places i ≡ (step_type (recipe_of steps items) i).entries
table_entries steps items rows places n i t h l = all_entries steps items rows places n t h n (omega arith) i l
