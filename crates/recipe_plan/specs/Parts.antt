-- Need not be believed. The table of the steps that were judged, and what judging a step asks and answers.
use Rattle.std.specs.Prelude.{ℕ, suc, ◌+◌, ◌*◌, ◌≤◌, ◌<◌, true, List, [], ◌∷◌, ◌≡◌, length, Result, Ok, Err}
use Rattle.std.proofs.Math.IntN.{sub_ℕ}
use Rattle.laws.specs.Checks.{check}
use Rattle.laws.specs.Lists.{nth}
use Rattle.recipe_types.specs.declared.Shape.{Shape}
use Rattle.recipe_types.specs.Recipes.{Recipe, recipe_of, step_number, recipe_step, step_type, names, none_zero, dimensions_allowed, entry_count_allowed, limits_kept}
use Rattle.recipe_types.specs.Parts.{copies_of, place_of, step_near, max_place, bias, Places, Known, Spans, shape_at, shape_named, limits_by, shape_made}
use Rattle.recipe_steps.specs.declared.StepNumbers.{StepNumbers}
use Rattle.recipe_steps.specs.Parts.{numbers_at, step_by, names_by, Sound, Placeable}
use Rattle.recipe_plan.specs.declared.Span.{Span}
use Rattle.recipe_plan.specs.declared.Refusal.{Refusal}
use Rattle.recipe_plan.specs.declared.Refusal.TheVariants.{Steps, Name, Zero, Dimensions, Entries, Limits, LowerBound, Room}

-- docs/recipes.md's number of a refusal
abbrev pub recipe_refusal_number : Refusal → ℕ
recipe_refusal_number Steps = 26
recipe_refusal_number Name = 27
recipe_refusal_number Zero = 28
recipe_refusal_number Dimensions = 29
recipe_refusal_number Entries = 30
recipe_refusal_number Limits = 31
recipe_refusal_number LowerBound = 32
recipe_refusal_number Room = 33

-- the number of the refusal in an answer, 0 if it is granted
abbrev pub recipe_refusal_in : {A : Type 0} → Result A Refusal → ℕ
recipe_refusal_in (Ok _) = 0
recipe_refusal_in (Err refusal) = recipe_refusal_number refusal

-- checks 27 to 29, by its numbers
unfoldable pub sound_refusal : List ℕ → StepNumbers → ℕ → ℕ
sound_refusal items s i =
    check (names_by s i) 27
    (check (none_zero (step_by items s)) 28
    (check (dimensions_allowed (step_by items s)) 29 0))

-- ---- the table

-- the row and the places of step i
pub record StepKnown (r : Recipe) (rows places : List ℕ) (i : ℕ) : Type 0 where
  pub sound : sound_refusal r.items (numbers_at r.steps i) i ≡ 0
  pub copies : nth rows (8 * i) ≡ copies_of (recipe_step r i)
  pub few : copies_of (recipe_step r i) ≤ 256
  pub source : nth rows (8 * i + 1) ≡ step_number r i 1
  pub name : nth rows (8 * i + 2) ≡ step_number r i 2
  pub known : Known (step_type r i) (shape_at rows i)
  pub places_are : (k : ℕ) → k < copies_of (recipe_step r i) → place_of (recipe_step r i) k ≡ sub_ℕ (nth places (256 * i + k)) bias
  pub small : (k : ℕ) → k < copies_of (recipe_step r i) → nth places (256 * i + k) ≤ 2147483648

-- those of the first n steps
pub record Table (r : Recipe) (rows places : List ℕ) (n : ℕ) : Type 0 where
  pub rows_long : length rows ≡ 256
  pub places_long : length places ≡ 8192
  pub each : (i : ℕ) → i < n → StepKnown r rows places i

-- ---- the numbers of what a step makes

-- the numbers that it is made from are small
pub record MakingReady (items : List ℕ) (s : StepNumbers) (t : Shape) (span : Span) : Type 0 where
  pub sound : Sound items s
  pub near : step_near (step_by items s) ≡ true
  pub extent : t.extent ≤ max_place
  pub least : t.least ≤ max_place
  pub end : t.end ≤ max_place
  pub least_end : t.least ≤ t.end
  pub order : span.low ≤ span.high
  pub small : span.high ≤ 2147483648

-- ---- the row of a step

abbrev pub row_numbers : ℕ → StepNumbers → Shape → List ℕ
row_numbers n s t = n ∷ s.source ∷ s.name ∷ t.entries ∷ t.extent ∷ t.least ∷ t.end ∷ t.base ∷ []

-- ---- a step in the table

-- the step makes n copies of a type of these numbers, few and near
pub record PutAsked (items : List ℕ) (s : StepNumbers) (i n : ℕ) (below : Shape) (rows places : List ℕ) : Type 0 where
  pub placeable : Placeable items s
  pub copies : n ≡ copies_of (step_by items s)
  pub some : 1 ≤ n
  pub below_some : 1 ≤ below.entries
  pub entries : n * below.entries ≤ 256
  pub extent : below.extent ≤ max_place
  pub least : below.least ≤ max_place
  pub end : below.end ≤ max_place
  pub least_end : below.least ≤ below.end
  pub step : i < 32
  pub rows_long : length rows ≡ 256
  pub places_long : length places ≡ 8192

-- the row and the places of step i, and those before it as they were
pub record RowPut (items : List ℕ) (s : StepNumbers) (i n : ℕ) (below : Shape) (part : List ℕ) (span : Span) (rows places rows' places' : List ℕ) : Type 0 where
  pub rows_long : length rows' ≡ 256
  pub places_long : length places' ≡ 8192
  pub copies : nth rows' (8 * i) ≡ n
  pub source : nth rows' (8 * i + 1) ≡ s.source
  pub name : nth rows' (8 * i + 2) ≡ s.name
  pub shape : shape_at rows' i ≡ shape_made (step_by items s) below span.low span.high
  pub places_are : (k : ℕ) → k < n → nth places' (256 * i + k) ≡ nth part k
  pub rows_before : (j : ℕ) → j < 8 * i → nth rows' j ≡ nth rows j
  pub places_before : (j : ℕ) → j < 256 * i → nth places' j ≡ nth places j

-- the places of its copies, check 31 of it, and the table if it is granted
pub record StepPut (items : List ℕ) (s : StepNumbers) (i n : ℕ) (below : Shape) (rows places rows' places' : List ℕ) (refusal : ℕ) : Type 0 where
  pub part : List ℕ
  pub span : Span
  pub put : Places (place_of (step_by items s)) (copies_of (step_by items s)) part
  pub spans : Spans part (copies_of (step_by items s)) span.low span.high
  pub answer : refusal ≡ check (limits_by (step_by items s) below span.low span.high) 31 0
  pub row : refusal ≡ 0 → RowPut items s i n below part span rows places rows' places'

-- ---- judging a step

-- checks 27 to 31
unfoldable pub inner_refusal : Recipe → ℕ → ℕ
inner_refusal r i =
    check (names r i) 27
    (check (none_zero (recipe_step r i)) 28
    (check (dimensions_allowed (recipe_step r i)) 29
    (check (entry_count_allowed (step_type r i)) 30
    (check (limits_kept (step_type r i)) 31 0))))

-- the answer, and the table with the step if it is granted
pub record Judged (r : Recipe) (i : ℕ) (rows places : List ℕ) (refusal : ℕ) : Type 0 where
  pub answer : refusal ≡ inner_refusal r i
  pub table : refusal ≡ 0 → Table r rows places (suc i)

-- what judging step i finds before it: the table of the steps before, and the numbers of the step and of the type that it names
pub record Facing (steps items rows places : List ℕ) (i : ℕ) (s : StepNumbers) (below : Shape) : Type 0 where
  pub table : Table (recipe_of steps items) rows places i
  pub step : i < 32
  pub numbers : s ≡ numbers_at steps i
  pub sound : sound_refusal items (numbers_at steps i) i ≡ 0
  pub below_is : below ≡ shape_named rows s.source s.name
