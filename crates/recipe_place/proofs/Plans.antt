-- The entries that a table stands for: those of a step are copies of those of what it names, as many as its row says.
use mathlib.Core.List.{List}
use lib.ListN.{length-map}
use Rattle.laws.proofs.Prelude.{ℕ, zero, suc, ◌+◌, ◌*◌, ◌≤◌, ◌<◌, ◌≡◌, ◌≢◌, ⊎_elim, refl, sym, ap, ◌∙◌, arith, length, nth, eq-eqb, ne_eqb, eq-or-lt_of_le, eq_or_ne}
use Rattle.recipe_types.specs.Typemaps.{Entry, basic}
use Rattle.recipe_types.specs.Parts.{shape_at, shape_below, shape_named, basic_shape}
use Rattle.recipe_types.proofs.Building.{length_joined}
use Rattle.recipe_place.specs.Parts.{row_of, plan_named, plan_copies, basic_copies, plan_before, plan_of, RowKept, Plan}

-- among the entries of the first n steps, those of an earlier step are its own
pub plan_before_law : (rows places : List ℕ) (n k : ℕ) → k < n → plan_before rows places n k ≡ plan_of rows places k
unfolding plan_before plan_of
plan_before_law rows places zero k l = absurd (omega arith)
plan_before_law rows places (suc n) k l =
    ⊎_elim (λ e. rw e) (λ q. rw (ne_eqb k n (λ e. omega arith)) (plan_before_law rows places n k q)) (eq-or-lt_of_le {n = k} {m = n} (omega arith))

plan_is : (rows places : List ℕ) (i : ℕ) → plan_of rows places i ≡ plan_copies places i (shape_below rows i).extent (plan_named rows (plan_before rows places i) i) (nth rows (8 * i))
unfolding plan_before plan_of
plan_is rows places i = rw (eq-eqb i i refl)

-- of a step that names a basic width
pub plan_basic : (rows places : List ℕ) (i : ℕ) → nth rows (8 * i + 1) ≡ 1 → basic_copies (row_of rows i) places i ≡ plan_of rows places i
unfolding plan_named row_of basic_copies shape_below shape_named basic_shape
plan_basic rows places i e = sym (plan_is rows places i ∙ rw (eq-eqb (nth rows (8 * i + 1)) 1 e))

-- of a step that names an earlier one
pub plan_step : (rows places : List ℕ) (i : ℕ) → nth rows (8 * i + 1) ≢ 1 → nth rows (8 * i + 2) < i → plan_copies places i (shape_at rows (nth rows (8 * i + 2))).extent (plan_of rows places (nth rows (8 * i + 2))) (nth rows (8 * i)) ≡ plan_of rows places i
unfolding plan_named shape_below shape_named
plan_step rows places i e l = sym (plan_is rows places i ∙ rw (ne_eqb (nth rows (8 * i + 1)) 1 e, plan_before_law rows places i (nth rows (8 * i + 2)) l))

-- how many copies have how many entries
pub copies_length : (places : List ℕ) (i extent : ℕ) (l : List Entry) (n : ℕ) → length (plan_copies places i extent l n) ≡ n * length l
unfolding plan_copies
copies_length places i extent l n = length_joined _ (length l) n (λ k h. length-map l _)

-- a step has as many entries as its row says, if the steps before it have
length_here : (rows places : List ℕ) (m : ℕ) → RowKept rows places m → ((k : ℕ) → k < m → length (plan_of rows places k) ≡ (shape_at rows k).entries) → length (plan_of rows places m) ≡ (shape_at rows m).entries
unfolding shape_below shape_named basic_shape basic_copies row_of basic
length_here rows places m kept before =
    ⊎_elim
    (λ e. ap length (sym (plan_basic rows places m e)) ∙ copies_length places m _ _ _ ∙ sym (kept.counted ∙ rw (eq-eqb (nth rows (8 * m + 1)) 1 e)))
    (λ e. ap length (sym (plan_step rows places m e (kept.earlier e))) ∙ copies_length places m _ _ _ ∙ rw (before (nth rows (8 * m + 2)) (kept.earlier e)) (sym (kept.counted ∙ rw (ne_eqb (nth rows (8 * m + 1)) 1 e))))
    (eq_or_ne (nth rows (8 * m + 1)) 1)

lengths : (rows places : List ℕ) (n : ℕ) → Plan rows places n → (m : ℕ) → m ≤ n → (i : ℕ) → i < m → length (plan_of rows places i) ≡ (shape_at rows i).entries
lengths rows places n p zero h i l = absurd (omega arith)
lengths rows places n p (suc m) h i l =
    let before = lengths rows places n p m (omega arith) in
    ⊎_elim (λ e. rw e (length_here rows places m (p.row m (omega arith)) before)) (λ q. before i q) (eq-or-lt_of_le {n = i} {m = m} (omega arith))

pub plan_length : (rows places : List ℕ) (n : ℕ) → Plan rows places n → (i : ℕ) → i < n → length (plan_of rows places i) ≡ (shape_at rows i).entries
plan_length rows places n p i l = lengths rows places n p n (omega arith) i l
