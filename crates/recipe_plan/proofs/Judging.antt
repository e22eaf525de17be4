-- Judging a step: what its checks say of the type that it means, and the table with its row.
use mathlib.Core.List.{List, [], ◌∷◌, map}
use Rattle.laws.proofs.Prelude.{ℕ, ◌+◌, ◌*◌, ◌≤◌, ◌<◌, ◌≡◌, ◌≢◌, refl, sym, ap, ◌∙◌, Bool, true, false, ◌⊎◌, inl, inr, ⊎_elim, within, arith, length, nth, eqb, eqb-true, lt-leb, le-leb, ltb-true, also_inv, either_inv, check, check_yes, check_no, check_inv, mul-le-mul, lt_or_le, pos, sub_ℕ}
use Rattle.view.specs.Limits.{width_allowed}
use Rattle.recipe_types.specs.declared.Shape.{Shape}
use Rattle.recipe_types.specs.Typemaps.{Entry, Typemap, end_of, basic}
use Rattle.recipe_types.specs.Recipes.{Recipe, recipe_of, step_number, recipe_step, construct, step_type, names, none_zero, dimensions_allowed, entry_count_allowed, limits_kept}
use Rattle.recipe_types.specs.Parts.{bias, copies_of, step_near, limits_by, Known, Above, Each, Some, more, here, later, shape_at, basic_shape, shape_named, Nameable, Basic}
use Rattle.recipe_types.proofs.Integers.{pos_is, sum_is, is_once, same_is}
use Rattle.recipe_types.proofs.Building.{type_is_basic, type_is_step, entry_count, copies_some}
use Rattle.recipe_types.proofs.Shapes.{basic_known, limits_judged, known_made}
use Rattle.recipe_steps.specs.declared.StepNumbers.{StepNumbers}
use Rattle.recipe_steps.specs.Parts.{numbers_at, step_by, names_by, Sound}
use Rattle.recipe_steps.proofs.Steps.{names_is, step_is}
use Rattle.recipe_plan.specs.declared.Span.{Span}
use Rattle.recipe_plan.specs.Parts.{StepKnown, sound_refusal, inner_refusal, Judged, Facing, PutAsked, RowPut, StepPut}

-- ---- the least displacement is at most the greatest end

order_at : (l : List Entry) (x y : ℕ) → Some (λ z. z ≡ pos x) (map (λ e. e.displacement) l) → Each (λ z. Above z (pos y)) (map end_of l) → x ≤ y
unfolding end_of
order_at (a ∷ l) x y (here e) (more h _) =
    let d = sum_is (sum_is (same_is e (pos_is x)) (pos_is a.width)) (pos_is h.by) in
    let q = is_once (pos_is y) (same_is h.is d) in
    omega arith
order_at (a ∷ l) x y (later s) (more _ e) = order_at l x y s e
order_at [] x y x4 _ = elim x4 [ ]

known_order : (t : Typemap) (s : Shape) → Known t s → s.least ≤ s.end
known_order t s k = order_at t.entries s.least s.end k.low.some k.high.each

-- ---- the step, and the type that it names

-- what a step that passed checks 27 to 29 stands for
pub record Standing (steps items : List ℕ) (i : ℕ) (s : StepNumbers) (below : Shape) : Type 0 where
  pub sound : Sound items s
  pub names : names (recipe_of steps items) i ≡ true
  pub step_same : step_by items s ≡ recipe_step (recipe_of steps items) i
  pub old : Typemap
  pub known : Known old below
  pub type_same : step_type (recipe_of steps items) i ≡ construct (step_by items s) old

-- the three checks
pub sound_are : (items : List ℕ) (s : StepNumbers) (i : ℕ) → sound_refusal items s i ≡ 0 → (names_by s i ≡ true) × (none_zero (step_by items s) ≡ true) × (dimensions_allowed (step_by items s) ≡ true)
unfolding sound_refusal
sound_are items s i e =
    let a = check_inv (names_by s i) 27 _ (omega arith) e in
    let b = check_inv (none_zero (step_by items s)) 28 _ (omega arith) a.1 in
    let c = check_inv (dimensions_allowed (step_by items s)) 29 _ (omega arith) b.1 in
    (a.0, b.0, c.0)

-- what a step names
pub names_are : (s : StepNumbers) (i : ℕ) → names_by s i ≡ true → (within 1 5 s.kind ≡ true) × (((s.source ≡ 1) × (width_allowed s.name ≡ true)) ⊎ ((s.source ≡ 2) × (s.name < i)))
unfolding names_by
names_are s i e =
    let a = also_inv (within 1 5 s.kind) _ e in
    (a.0, ⊎_elim (λ l. let b = also_inv (eqb s.source 1) _ l in inl (eqb-true s.source 1 b.0, b.1)) (λ l. let b = also_inv (eqb s.source 2) _ l in inr (eqb-true s.source 2 b.0, ltb-true s.name i b.1)) (either_inv _ _ a.1))

basic_below : (rows : List ℕ) (source name : ℕ) (below : Shape) → below ≡ shape_named rows source name → source ≡ 1 → Basic name below
unfolding shape_named basic_shape
basic_below rows source name below e s =
    let q : below ≡ basic_shape name = e ∙ rw s in
    record { entries = ap (λ t. t.entries) q; extent = ap (λ t. t.extent) q; least = ap (λ t. t.least) q; end = ap (λ t. t.end) q; base = ap (λ t. t.base) q }

step_below : (rows : List ℕ) (source name : ℕ) (below : Shape) → below ≡ shape_named rows source name → source ≡ 2 → below ≡ shape_at rows name
unfolding shape_named
step_below rows source name below e s = e ∙ rw s

pub standing : (steps items rows places : List ℕ) (i : ℕ) (s : StepNumbers) (below : Shape) → Facing steps items rows places i s below → Standing steps items i s below
unfolding numbers_at step_number
standing steps items rows places i s below f =
    let r = recipe_of steps items in
    let c = sound_are items s i (rw f.numbers f.sound) in
    let n = names_are s i c.0 in
    let same : step_by items s ≡ recipe_step r i = ap (step_by items) f.numbers ∙ step_is r i in
    let ok : names r i ≡ true = sym (names_is r i) ∙ ap (λ q. names_by q i) (sym f.numbers) ∙ c.0 in
    let src : s.source ≡ step_number r i 1 = ap (λ q. q.source) f.numbers in
    let nam : s.name ≡ step_number r i 2 = ap (λ q. q.name) f.numbers in
    let snd : Sound items s = record { kind = n.0; zeros = c.1; dimensions = c.2 } in
    ⊎_elim
    (λ b. record {
      sound = snd;
      names = ok;
      step_same = same;
      old = basic s.name;
      known = basic_known s.name below b.1 (basic_below rows s.source s.name below f.below_is b.0);
      type_same = type_is_basic r i (sym src ∙ b.0) ∙ rw (same, nam);
    })
    (λ b. record {
      sound = snd;
      names = ok;
      step_same = same;
      old = step_type r s.name;
      known = rw (step_below rows s.source s.name below f.below_is b.0) (f.table.each s.name b.1).known;
      type_same = type_is_step r i (sym src ∙ b.0) (rw nam at b.1) ∙ rw (same, nam);
    })
    n.1

-- ---- the refusals

-- a chain that stops before its end answers as a longer one does
chain_stops : (a b c : Bool) (rest : ℕ) → check a 27 (check b 28 (check c 29 0)) ≢ 0 → check a 27 (check b 28 (check c 29 0)) ≡ check a 27 (check b 28 (check c 29 rest))
unfolding check
chain_stops true true true rest n = absurd (n refl)
chain_stops true true false rest n = refl
chain_stops true false c rest n = refl
chain_stops false b c rest n = refl

-- a refusal of an earlier check
judged_refused : (r : Recipe) (i : ℕ) (rows places : List ℕ) (refusal : ℕ) → refusal ≡ inner_refusal r i → refusal ≢ 0 → Judged r i rows places refusal
judged_refused r i rows places refusal e n = record { answer = e; table = λ z. absurd (n z) }

pub refused_sound : (steps items rows places : List ℕ) (i refusal : ℕ) (s : StepNumbers) → s ≡ numbers_at steps i → refusal ≡ sound_refusal items s i → refusal ≢ 0 → Judged (recipe_of steps items) i rows places refusal
unfolding sound_refusal inner_refusal
refused_sound steps items rows places i refusal s e h n =
    let r = recipe_of steps items in
    let a : names_by s i ≡ names r i = ap (λ q. names_by q i) e ∙ names_is r i in
    let b : step_by items s ≡ recipe_step r i = ap (step_by items) e ∙ step_is r i in
    let q : refusal ≡ check (names r i) 27 (check (none_zero (recipe_step r i)) 28 (check (dimensions_allowed (recipe_step r i)) 29 0)) = h ∙ rw (a, b) in
    judged_refused r i rows places refusal (q ∙ chain_stops (names r i) (none_zero (recipe_step r i)) (dimensions_allowed (recipe_step r i)) _ (λ z. n (q ∙ z))) n

-- the checks of the type
inner_is : (steps items : List ℕ) (i : ℕ) (s : StepNumbers) (below : Shape) (g : Standing steps items i s below) → check (entry_count_allowed (construct (step_by items s) g.old)) 30 (check (limits_kept (construct (step_by items s) g.old)) 31 0) ≡ inner_refusal (recipe_of steps items) i
unfolding inner_refusal
inner_is steps items i s below g =
    check_yes _ 27 _ _ g.names (check_yes _ 28 _ _ (rw (sym g.step_same) g.sound.zeros) (check_yes _ 29 _ _ (rw (sym g.step_same) g.sound.dimensions) (rw g.type_same)))

-- how many entries
entries_are : (steps items : List ℕ) (i : ℕ) (s : StepNumbers) (below : Shape) (g : Standing steps items i s below) → length (construct (step_by items s) g.old).entries ≡ copies_of (step_by items s) * below.entries
entries_are steps items i s below g = entry_count (step_by items s) g.old ∙ ap (λ m. copies_of (step_by items s) * m) g.known.counted

pub refused_many : (steps items rows places : List ℕ) (i : ℕ) (s : StepNumbers) (below : Shape) → Facing steps items rows places i s below → (rows' places' : List ℕ) → 256 < copies_of (step_by items s) * below.entries → Judged (recipe_of steps items) i rows' places' 30
unfolding entry_count_allowed
refused_many steps items rows places i s below f rows' places' h =
    let g = standing steps items rows places i s below f in
    let e = entries_are steps items i s below g in
    judged_refused (recipe_of steps items) i rows' places' 30 (check_no _ 30 _ 30 (lt-leb (length (construct (step_by items s) g.old).entries) 256 (omega arith)) refl ∙ inner_is steps items i s below g) (λ z. omega arith)

-- a limit
pub refused_limit : (steps items : List ℕ) (i : ℕ) (s : StepNumbers) (below : Shape) (g : Standing steps items i s below) (rows places : List ℕ) → copies_of (step_by items s) * below.entries ≤ 256 → limits_kept (construct (step_by items s) g.old) ≡ false → Judged (recipe_of steps items) i rows places 31
unfolding entry_count_allowed
refused_limit steps items i s below g rows places m l =
    let e = entries_are steps items i s below g in
    judged_refused (recipe_of steps items) i rows places 31 (check_yes _ 30 _ 31 (le-leb (length (construct (step_by items s) g.old).entries) 256 (omega arith)) (check_no _ 31 _ 31 l refl) ∙ inner_is steps items i s below g) (λ z. omega arith)

-- ---- a step in the table

pub either_way : (b : Bool) → (b ≡ true) ⊎ (b ≡ false)
either_way true = inl refl
either_way false = inr refl

pub sound_some : (items : List ℕ) (s : StepNumbers) → Sound items s → 1 ≤ copies_of (step_by items s)
sound_some items s h = copies_some (step_by items s) h.zeros

-- the step by the numbers that were read
pub sound_of : (steps items : List ℕ) (i : ℕ) (s : StepNumbers) → s ≡ numbers_at steps i → sound_refusal items (numbers_at steps i) i ≡ 0 → Sound items s
sound_of steps items i s e h =
    let c = sound_are items s i (rw e h) in
    record { kind = (names_are s i c.0).0; zeros = c.1; dimensions = c.2 }

pub nameable : (steps items : List ℕ) (i : ℕ) (s : StepNumbers) → s ≡ numbers_at steps i → sound_refusal items (numbers_at steps i) i ≡ 0 → i < 32 → Nameable s.source s.name
nameable steps items i s e h l =
    let c = sound_are items s i (rw e h) in
    record { earlier = λ n. ⊎_elim (λ b. absurd (n b.0)) (λ b. let q = b.1 in omega arith) (names_are s i c.0).1 }

-- its copies are few and near
pub put_asked : (steps items rows places : List ℕ) (i n : ℕ) (s : StepNumbers) (below : Shape) → Facing steps items rows places i s below → copies_of (step_by items s) * below.entries ≤ 256 → n ≡ copies_of (step_by items s) → step_near (step_by items s) ≡ true → PutAsked items s i n below rows places
put_asked steps items rows places i n s below f few e near =
    let g = standing steps items rows places i s below f in
    let known = g.known in
    let some = copies_some (step_by items s) g.sound.zeros in
    let one = mul-le-mul {n₁ = copies_of (step_by items s)} {m₁ = 1} {n₂ = copies_of (step_by items s)} {m₂ = below.entries} (omega arith) known.some in
    record {
      placeable = record { sound = g.sound; few = omega arith; near = near };
      copies = e;
      some = rw e some;
      below_some = known.some;
      entries = rw e few;
      extent = known.extent_few;
      least = known.least_few;
      end = known.end_few;
      least_end = known_order g.old below known;
      step = f.step;
      rows_long = f.table.rows_long;
      places_long = f.table.places_long;
    }

-- check 31
limits_are : (steps items rows places : List ℕ) (i n : ℕ) (s : StepNumbers) (below : Shape) (rows' places' : List ℕ) (refusal : ℕ) (f : Facing steps items rows places i s below) (p : StepPut items s i n below rows places rows' places' refusal) → limits_kept (construct (step_by items s) (standing steps items rows places i s below f).old) ≡ limits_by (step_by items s) below p.span.low p.span.high
limits_are steps items rows places i n s below rows' places' refusal f p =
    let g = standing steps items rows places i s below f in
    limits_judged (step_by items s) g.old below p.part p.span.low p.span.high g.known g.sound.zeros p.put p.spans

-- the rows of the steps before stay what they are
row_stays : (r : Recipe) (items : List ℕ) (s : StepNumbers) (i n : ℕ) (below : Shape) (part : List ℕ) (span : Span) (rows places rows' places' : List ℕ) (j : ℕ) → RowPut items s i n below part span rows places rows' places' → j < i → StepKnown r rows places j → StepKnown r rows' places' j
unfolding shape_at
row_stays r items s i n below part span rows places rows' places' j p l k =
    let at : (c : ℕ) → c < 8 → nth rows' (8 * j + c) ≡ nth rows (8 * j + c) = λ c b. p.rows_before (8 * j + c) (omega arith) in
    let few = k.few in
    let known = k.known in
    record {
      sound = k.sound;
      copies = p.rows_before (8 * j) (omega arith) ∙ k.copies;
      few = few;
      source = at 1 (omega arith) ∙ k.source;
      name = at 2 (omega arith) ∙ k.name;
      known = rw (at 3 (omega arith), at 4 (omega arith), at 5 (omega arith), at 6 (omega arith), at 7 (omega arith)) known;
      places_are = λ q b. k.places_are q b ∙ ap (λ z. sub_ℕ z bias) (sym (p.places_before (256 * j + q) (omega arith)));
      small = λ q b. rw (p.places_before (256 * j + q) (omega arith)) (k.small q b);
    }

-- it keeps the limits, and the table has it
pub step_kept : (steps items rows places : List ℕ) (i n : ℕ) (s : StepNumbers) (below : Shape) (rows' places' : List ℕ) (refusal : ℕ) → Facing steps items rows places i s below → copies_of (step_by items s) * below.entries ≤ 256 → n ≡ copies_of (step_by items s) → (p : StepPut items s i n below rows places rows' places' refusal) → limits_by (step_by items s) below p.span.low p.span.high ≡ true → refusal ≡ 0 → Judged (recipe_of steps items) i rows' places' refusal
unfolding entry_count_allowed numbers_at step_number
step_kept steps items rows places i n s below rows' places' refusal f few copies p kept z =
    let r = recipe_of steps items in
    let g = standing steps items rows places i s below f in
    let put = p.row z in
    let one = mul-le-mul {n₁ = copies_of (step_by items s)} {m₁ = 1} {n₂ = copies_of (step_by items s)} {m₂ = below.entries} (omega arith) g.known.some in
    let e = entries_are steps items i s below g in
    let made = known_made (step_by items s) g.old below p.part p.span.low p.span.high g.known g.sound.zeros p.put p.spans kept few in
    let here : StepKnown r rows' places' i = record {
      sound = f.sound;
      copies = put.copies ∙ copies ∙ ap copies_of g.step_same;
      few = rw (sym g.step_same) (omega arith);
      source = put.source ∙ ap (λ q. q.source) f.numbers;
      name = put.name ∙ ap (λ q. q.name) f.numbers;
      known = rw (g.type_same, put.shape) made;
      places_are = λ q b. let b' : q < copies_of (step_by items s) = rw g.step_same b in rw (sym g.step_same, put.places_are q (omega arith)) (p.put.is q b');
      small = λ q b. let b' : q < copies_of (step_by items s) = rw g.step_same b in rw (put.places_are q (omega arith)) (p.put.small q b');
    } in
    record {
      answer = check_yes _ 30 _ refusal (le-leb (length (construct (step_by items s) g.old).entries) 256 (omega arith)) (check_yes _ 31 _ refusal (limits_are steps items rows places i n s below rows' places' refusal f p ∙ kept) z) ∙ inner_is steps items i s below g;
      table = λ _. record {
        rows_long = put.rows_long;
        places_long = put.places_long;
        each = λ j l. ⊎_elim (λ q. row_stays r items s i n below p.part p.span rows places rows' places' j put q (f.table.each j q)) (λ q. let w : j ≡ i = omega arith in rw w here) (lt_or_le j i);
      };
    }

-- it keeps the limits, or breaks one
pub step_put : (steps items rows places : List ℕ) (i n : ℕ) (s : StepNumbers) (below : Shape) (rows' places' : List ℕ) (refusal : ℕ) → Facing steps items rows places i s below → copies_of (step_by items s) * below.entries ≤ 256 → n ≡ copies_of (step_by items s) → StepPut items s i n below rows places rows' places' refusal → Judged (recipe_of steps items) i rows' places' refusal
step_put steps items rows places i n s below rows' places' refusal f few e p =
    let g = standing steps items rows places i s below f in
    let limits = limits_by (step_by items s) below p.span.low p.span.high in
    ⊎_elim
    (λ k. step_kept steps items rows places i n s below rows' places' refusal f few e p k (p.answer ∙ sym (check_yes limits 31 0 0 k refl)))
    (λ k. rw (p.answer ∙ sym (check_no limits 31 0 31 k refl)) (refused_limit steps items i s below g rows' places' few (limits_are steps items rows places i n s below rows' places' refusal f p ∙ k)))
    (either_way limits)
