-- A step that names an earlier one: what the call for each copy asks, and what both lists hold after k of them.
use Rattle.laws.proofs.Prelude.{ℕ, suc, ◌+◌, ◌-◌, ◌*◌, ◌≤◌, ◌<◌, ◌≡◌, ◌≢◌, refl, sym, ap, ◌∙◌, List, ◌++◌, arith, length, length-drop, nth, take, drop, ℤ, eq-eqb, ne_eqb, mul-le-mul, length-take-le}
use Rattle.recipe_types.specs.declared.Shape.{Shape}
use Rattle.recipe_types.specs.Parts.{bias, max_place, shape_at, shape_below, shape_named, basic_shape}
use Rattle.recipe_place.specs.declared.Row.{Row}
use Rattle.recipe_place.specs.Parts.{row_of, plan_of, basic_copies, copy_shift, CopyFits, BasicFits, Plan, PlaceAsked, Placed}
use Rattle.recipe_place.proofs.Plans.{plan_basic, plan_step, plan_length}
use Rattle.recipe_place.proofs.Placing.{Copying, placed_none, placed_part, placed_widths, placed_displacements}

-- ---- a table

below_basic : (rows : List ℕ) (i : ℕ) → nth rows (8 * i + 1) ≡ 1 → shape_below rows i ≡ basic_shape (nth rows (8 * i + 2))
unfolding shape_below shape_named
below_basic rows i e = rw (eq-eqb (nth rows (8 * i + 1)) 1 e)

below_step : (rows : List ℕ) (i : ℕ) → nth rows (8 * i + 1) ≢ 1 → shape_below rows i ≡ shape_at rows (nth rows (8 * i + 2))
unfolding shape_below shape_named
below_step rows i e = rw (ne_eqb (nth rows (8 * i + 1)) 1 e)

-- a shorter table
plan_shorter : (rows places : List ℕ) (n m : ℕ) → Plan rows places n → m ≤ n → Plan rows places m
plan_shorter rows places n m p h = record {
  rows_long = p.rows_long;
  places_long = p.places_long;
  steps = let s = p.steps in omega arith;
  row = λ i l. p.row i (omega arith);
}

-- ---- what a step asks

pub step_below : (rows places : List ℕ) (i shift widths displacements : ℕ) → PlaceAsked rows places i shift widths displacements → i < 32
step_below rows places i shift widths displacements h = let s = h.plan.steps in omega arith

-- a step that names a basic width
pub basic_of : (rows places : List ℕ) (i shift widths displacements : ℕ) (row : Row) → PlaceAsked rows places i shift widths displacements → row ≡ row_of rows i → row.source ≡ 1 → BasicFits row places i shift widths displacements
unfolding row_of basic_shape
basic_of rows places i shift widths displacements row h e s =
    let kept = h.plan.row i (omega arith) in
    let source : nth rows (8 * i + 1) ≡ 1 = rw e at s in
    rw e (record {
      places_long = h.plan.places_long;
      step = step_below rows places i shift widths displacements h;
      few = kept.copies;
      width = kept.width source;
      shift_small = let b = h.below in omega arith;
      small = kept.small;
      above = λ k l. let a = rw (below_basic rows i source) at (kept.above k l) in let b = h.above in omega arith;
      below = λ k l. let a = rw (below_basic rows i source) at (kept.below k l) in let b = h.below in omega arith;
      widths_long = let n = rw (below_basic rows i source) at kept.counted in let w = h.widths_long in omega arith;
      displacements_long = let n = rw (below_basic rows i source) at kept.counted in let w = h.displacements_long in omega arith;
    })

pub placed_basic : (rows places : List ℕ) (i shift : ℕ) (row : Row) (ws ws' : List ℕ) (ds ds' : List ℤ) → row ≡ row_of rows i → row.source ≡ 1 → Placed (basic_copies row places i) shift ws ws' ds ds' → Placed (plan_of rows places i) shift ws ws' ds ds'
unfolding row_of
placed_basic rows places i shift row ws ws' ds ds' e s p = rw (sym (plan_basic rows places i (rw e at s))) (rw e at p)

-- ---- a step that names an earlier one

-- the lists while its n copies of `step` are placed
pub record Descending (rows places : List ℕ) (i shift n step : ℕ) (below : Shape) (k : ℕ) (ws₀ ws : List ℕ) (ds₀ ds : List ℤ) : Type 0 where
  pub asked : PlaceAsked rows places i shift (length ws₀) (length ds₀)
  pub copies_are : n ≡ nth rows (8 * i)
  pub named : nth rows (8 * i + 1) ≢ 1
  pub step_is : step ≡ nth rows (8 * i + 2)
  pub below_same : below ≡ shape_at rows step
  pub copying : Copying places i below.extent (plan_of rows places step) shift n k ws₀ ws ds₀ ds

-- it stands before the one that names it, and the numbers of its type are those that the row keeps
pub named_earlier : (rows places : List ℕ) (i shift widths displacements : ℕ) (row : Row) → PlaceAsked rows places i shift widths displacements → row ≡ row_of rows i → row.source ≢ 1 → row.name < i
unfolding row_of
named_earlier rows places i shift widths displacements row h e s = rw e ((h.plan.row i (omega arith)).earlier (rw e at s))

pub named_row : (rows places : List ℕ) (i shift widths displacements : ℕ) (row : Row) → PlaceAsked rows places i shift widths displacements → row ≡ row_of rows i → row.source ≢ 1 → row.name < 32
named_row rows places i shift widths displacements row h e s =
    let a = named_earlier rows places i shift widths displacements row h e s in
    let b = step_below rows places i shift widths displacements h in
    omega arith

-- what the row of the step keeps of the copies, and of the entries
pub record Kept (places : List ℕ) (i n : ℕ) (below here : Shape) : Type 0 where
  pub few : n ≤ 256
  pub counted : here.entries ≡ n * below.entries
  pub entries_few : here.entries ≤ 256
  pub extent : below.extent ≤ max_place
  pub least : below.least ≤ max_place
  pub small : (k : ℕ) → k < n → nth places (256 * i + k) ≤ 2147483648
  pub above : (k : ℕ) → k < n → bias * below.extent + here.least ≤ below.least + nth places (256 * i + k) * below.extent
  pub below' : (k : ℕ) → k < n → below.end + nth places (256 * i + k) * below.extent ≤ here.end + bias * below.extent

room : (n k m : ℕ) → k < n → k * m + m ≤ n * m
room n k m l = let b = mul-le-mul {n₁ = k + 1} {m₁ = m} {n₂ = n} {m₂ = m} (omega arith) (omega arith) in omega arith

-- the length of a part that is lent
part_length : {A : Type 0} (l : List A) (at : ℕ) → at ≤ length l → length (take (length l - at) (drop at l)) ≡ length l - at
part_length l at h = length-take-le (length l - at) (drop at l) (rw (length-drop at l) (omega arith))

-- ---- the needs of the walk over its copies

pub descend_none : (rows places : List ℕ) (i shift : ℕ) (row : Row) (below : Shape) (ws : List ℕ) (ds : List ℤ) → PlaceAsked rows places i shift (length ws) (length ds) → row ≡ row_of rows i → row.source ≢ 1 → below ≡ shape_at rows row.name → Descending rows places i shift row.copies row.name below 0 ws ws ds ds
unfolding row_of
descend_none rows places i shift row below ws ds h e s b =
    let kept = h.plan.row i (omega arith) in
    let source : nth rows (8 * i + 1) ≢ 1 = rw e at s in
    let early = kept.earlier source in
    let long : length (plan_of rows places (nth rows (8 * i + 2))) ≡ (shape_at rows (nth rows (8 * i + 2))).entries = plan_length rows places (suc i) h.plan (nth rows (8 * i + 2)) (omega arith) in
    let n = rw (below_step rows i source) at kept.counted in
    let w = h.widths_long in
    let d = h.displacements_long in
    record {
      asked = h;
      copies_are = ap (λ r. r.copies) e;
      named = source;
      step_is = ap (λ r. r.name) e;
      below_same = b;
      copying = record {
        done = omega arith;
        widths_room = rw (e, long) (omega arith);
        displacements_room = rw (e, long) (omega arith);
        placed = placed_none places i below.extent (plan_of rows places row.name) shift ws ds;
        widths_long = refl;
        displacements_long = refl;
      };
    }

module _ (rows places : List ℕ) (i shift n step : ℕ) (below : Shape) (k : ℕ) (ws₀ ws : List ℕ) (ds₀ ds : List ℤ) (g : Descending rows places i shift n step below k ws₀ ws ds₀ ds) where
  early : step < i
  early = rw g.step_is ((g.asked.plan.row i (omega arith)).earlier g.named)

  kept : Kept places i n below (shape_at rows i)
  kept =
      let kept = g.asked.plan.row i (omega arith) in
      let shape : shape_below rows i ≡ below = below_step rows i g.named ∙ rw (g.below_same, g.step_is) in
      let child = g.asked.plan.row (nth rows (8 * i + 2)) (let q = kept.earlier g.named in omega arith) in
      rw g.copies_are (record {
        few = kept.copies;
        counted = rw shape at kept.counted;
        entries_few = kept.few;
        extent = rw (g.below_same, g.step_is) child.extent;
        least = rw (g.below_same, g.step_is) child.least;
        small = kept.small;
        above = rw shape at kept.above;
        below' = rw shape at kept.below;
      })

  -- how many entries a copy has
  child_length : length (plan_of rows places step) ≡ below.entries
  child_length =
      let e = early in
      plan_length rows places (suc i) g.asked.plan step (omega arith) ∙ ap (λ s. s.entries) (sym g.below_same)

  -- the step that is named has a smaller number
  pub descend_falls : (t : ℕ) → i ≡ t → step < t
  descend_falls t e = let a = early in omega arith

  -- all copies are placed
  pub descend_end : n ≤ k → Placed (plan_of rows places i) shift ws₀ ws ds₀ ds
  descend_end l =
      let kept = g.asked.plan.row i (omega arith) in
      let d = g.copying.done in
      let e : k ≡ n = omega arith in
      rw (sym (plan_step rows places i g.named (kept.earlier g.named))) (rw (e, g.below_same, g.step_is, g.copies_are) at g.copying.placed)

  module _ (l : k < n) where
    pub descend_fits : CopyFits places i k shift below.extent
    descend_fits = record {
      places_long = g.asked.plan.places_long;
      step = step_below rows places i shift (length ws₀) (length ds₀) g.asked;
      copy = let f = kept.few in omega arith;
      shift_small = let b = g.asked.below in omega arith;
      extent_small = kept.extent;
      place_small = kept.small k l;
      not_below = let a = kept.above k l in let b = g.asked.above in let c = kept.least in omega arith;
    }

    -- the next copy begins in the lists
    pub descend_in_widths : k * below.entries ≤ length ws
    descend_in_widths =
        let a = room n k below.entries l in
        let b = kept.counted in
        let c = g.asked.widths_long in
        let d = g.copying.widths_long in
        omega arith

    pub descend_in_displacements : k * below.entries ≤ length ds
    descend_in_displacements =
        let a = room n k below.entries l in
        let b = kept.counted in
        let c = g.asked.displacements_long in
        let d = g.copying.displacements_long in
        omega arith

    module _ (to : ℕ) (e : to ≡ copy_shift places i k shift below.extent) where
      -- what the call for the next copy asks
      pub descend_asked : PlaceAsked rows places step to (length (take (length ws - k * below.entries) (drop (k * below.entries) ws))) (length (take (length ds - k * below.entries) (drop (k * below.entries) ds)))
      unfolding copy_shift
      descend_asked =
          let before = early in
          let r = room n k below.entries l in
          let m = kept.counted in
          let f = kept.least in
          let a = kept.above k l in
          let b = kept.below' k l in
          let a' = g.asked.above in
          let b' = g.asked.below in
          let lw = part_length ws (k * below.entries) descend_in_widths in
          let ld = part_length ds (k * below.entries) descend_in_displacements in
          let cw = g.asked.widths_long in
          let cd = g.asked.displacements_long in
          let dw = g.copying.widths_long in
          let dd = g.copying.displacements_long in
          record {
            plan = plan_shorter rows places (suc i) (suc step) g.asked.plan (omega arith);
            above = rw (sym g.below_same) (omega arith);
            below = rw (sym g.below_same) (omega arith);
            widths_long = rw (sym g.below_same) (omega arith);
            displacements_long = rw (sym g.below_same) (omega arith);
          }

      -- the lists after the next copy
      pub descend_more : (wp : List ℕ) (dp : List ℤ) → Placed (plan_of rows places step) to (take (length ws - k * below.entries) (drop (k * below.entries) ws)) wp (take (length ds - k * below.entries) (drop (k * below.entries) ds)) dp → Descending rows places i shift n step below (k + 1) ws₀ (take (k * below.entries) ws ++ (wp ++ drop (length ws - k * below.entries) (drop (k * below.entries) ws))) ds₀ (take (k * below.entries) ds ++ (dp ++ drop (length ds - k * below.entries) (drop (k * below.entries) ds)))
      descend_more wp dp p =
          let m = child_length in
          let r = room n k (length (plan_of rows places step)) l in
          let wr = g.copying.widths_room in
          let dr = g.copying.displacements_room in
          let at : k * below.entries ≡ k * length (plan_of rows places step) = rw m in
          let new = placed_part places i below.extent (plan_of rows places step) k shift (k * below.entries) ws₀ ws ds₀ ds wp dp g.copying.placed at (omega arith) (omega arith) descend_fits.not_below (rw e at p) in
          record {
            asked = g.asked;
            copies_are = g.copies_are;
            named = g.named;
            step_is = g.step_is;
            below_same = g.below_same;
            copying = record {
              done = omega arith;
              widths_room = wr;
              displacements_room = dr;
              placed = new;
              widths_long = placed_widths places i below.extent (plan_of rows places step) shift (k + 1) ws₀ _ ds₀ _ new (omega arith);
              displacements_long = placed_displacements places i below.extent (plan_of rows places step) shift (k + 1) ws₀ _ ds₀ _ new (omega arith);
            };
          }
