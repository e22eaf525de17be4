-- What an accepted view keeps: the rules one by one, and the same as facts on numbers.
use Rattle.laws.proofs.Prelude.{ℕ, ◌+◌, ◌*◌, ◌≤◌, ◌<◌, ◌≡◌, refl, ap, true, not, ⊎_elim, arith, le_of_mul-le-mul_right, eq-zero-or-pos, zero-mul, get_or, ℤ, pos, negsuc, lit<, leb-true, eqb-true, eq-eqb, either, check_inv, check_zero, also_true, also_inv, either_inv, either_right, within_inv, not_both, all_at, run_below}
use Rattle.view.specs.Limits.{width_allowed, etype_entries_allowed, filetype_entries_allowed, entry_displacement_allowed, extent_allowed, displacement_allowed}
use Rattle.view.specs.Types.{PaperType, PaperView, entries, width_at, displacement_at, extent_of, whole}
use Rattle.view.specs.Rules.{paired, entry_allowed, entries_allowed, type_ordered, instances, origin, hole_allowed, view_holes_fit}
use Rattle.view.specs.Parts.{built, holes_fit, clear}
use Rattle.view.specs.Acceptance.{view_refusal, accepted, Valid}
use Rattle.view.specs.Modes.{allows_writing}
use Rattle.view.proofs.Groups.{built_checks, built_parts, built_groups, group_entry}
use Rattle.view.proofs.Clashing.{Spaced}

-- ---- the rules one by one

-- the holes, over the origins as an index function
pub holes_are : (v : PaperView) → view_holes_fit v ≡ holes_fit (origin v) (instances v) (extent_of v.etype) (extent_of v.filetype)
unfolding view_holes_fit hole_allowed holes_fit
holes_are v = refl

pub record Rules (mode : ℕ) (v : PaperView) : Type 0 where
  pub displacement : displacement_allowed v.displacement ≡ true
  pub etype_paired : paired v.etype ≡ true
  pub filetype_paired : paired v.filetype ≡ true
  pub etype_entries : etype_entries_allowed (entries v.etype) ≡ true
  pub filetype_entries : filetype_entries_allowed (entries v.etype) (entries v.filetype) ≡ true
  pub etype_extent : extent_allowed v.etype.extent ≡ true
  pub filetype_extent : extent_allowed v.filetype.extent ≡ true
  pub etype_allowed : entries_allowed v.etype ≡ true
  pub filetype_allowed : entries_allowed v.filetype ≡ true
  pub etype_ordered : type_ordered v.etype ≡ true
  pub filetype_ordered : type_ordered v.filetype ≡ true
  pub is_built : built v ≡ true
  pub holes : view_holes_fit v ≡ true
  pub overlap : either (not (allows_writing mode)) (clear v) ≡ true

pub refusal_rules : (mode : ℕ) (v : PaperView) → view_refusal mode v ≡ 0 → Rules mode v
unfolding view_refusal
refusal_rules mode v e =
    let c3 = check_inv _ _ _ (lit< tt) e in
    let c4 = check_inv _ _ _ (lit< tt) c3.1 in
    let c5 = check_inv _ _ _ (lit< tt) c4.1 in
    let c6 = check_inv _ _ _ (lit< tt) c5.1 in
    let c7 = check_inv _ _ _ (lit< tt) c6.1 in
    let c17 = check_inv _ _ _ (lit< tt) c7.1 in
    let c18 = check_inv _ _ _ (lit< tt) c17.1 in
    let c19 = check_inv _ _ _ (lit< tt) c18.1 in
    let c9 = check_inv _ _ _ (lit< tt) c19.1 in
    let c10 = check_inv _ _ _ (lit< tt) c9.1 in
    let l1 = also_inv _ _ c4.0 in
    let l2 = also_inv _ _ l1.1 in
    let l3 = also_inv _ _ l2.1 in
    let x = also_inv _ _ c5.0 in
    let a = also_inv _ _ c6.0 in
    let o = also_inv _ _ c7.0 in
    record {
      displacement = c3.0;
      etype_paired = l1.0;
      filetype_paired = l2.0;
      etype_entries = l3.0;
      filetype_entries = l3.1;
      etype_extent = x.0;
      filetype_extent = x.1;
      etype_allowed = a.0;
      filetype_allowed = a.1;
      etype_ordered = o.0;
      filetype_ordered = o.1;
      is_built = built_checks v c17.0 c18.0 c19.0;
      holes = c9.0;
      overlap = c10.0;
    }

pub rules : (mode : ℕ) (v : PaperView) → accepted mode v ≡ true → Rules mode v
unfolding accepted
rules mode v h = refusal_rules mode v (eqb-true (view_refusal mode v) 0 h)

pub rules_accept : (mode : ℕ) (v : PaperView) → Rules mode v → accepted mode v ≡ true
unfolding accepted view_refusal
rules_accept mode v r =
    eq-eqb _ 0
    (check_zero 3 r.displacement
    (check_zero 4 (also_true r.etype_paired (also_true r.filetype_paired (also_true r.etype_entries r.filetype_entries)))
    (check_zero 5 (also_true r.etype_extent r.filetype_extent)
    (check_zero 6 (also_true r.etype_allowed r.filetype_allowed)
    (check_zero 7 (also_true r.etype_ordered r.filetype_ordered)
    (let b = built_parts v r.is_built in
    check_zero 17 b.0 (check_zero 18 b.1 (check_zero 19 b.2 (check_zero 9 r.holes (check_zero 10 r.overlap refl))))))))))

-- the rules for one mode are those for another, but for overlap's
for_mode : (mode other : ℕ) (v : PaperView) → Rules mode v → either (not (allows_writing other)) (clear v) ≡ true → Rules other v
for_mode mode other v r o = record {
  displacement = r.displacement;
  etype_paired = r.etype_paired;
  filetype_paired = r.filetype_paired;
  etype_entries = r.etype_entries;
  filetype_entries = r.filetype_entries;
  etype_extent = r.etype_extent;
  filetype_extent = r.filetype_extent;
  etype_allowed = r.etype_allowed;
  filetype_allowed = r.filetype_allowed;
  etype_ordered = r.etype_ordered;
  filetype_ordered = r.filetype_ordered;
  is_built = r.is_built;
  holes = r.holes;
  overlap = o;
}

reading_only : (v : PaperView) → either (not (allows_writing 1)) (clear v) ≡ true
unfolding either allows_writing
reading_only v = refl

-- a view that is accepted for some mode keeps all but overlap's rule
pub rules_valid : (mode : ℕ) (v : PaperView) → Rules mode v → Valid v
rules_valid mode v r = record { keeps = rules_accept 1 v (for_mode mode 1 v r (reading_only v)) }

pub accepted_valid : (mode : ℕ) (v : PaperView) → accepted mode v ≡ true → Valid v
accepted_valid mode v h = rules_valid mode v (rules mode v h)

-- and with overlap's rule it is accepted for any mode
pub valid_clear : (mode : ℕ) (v : PaperView) → Valid v → clear v ≡ true → accepted mode v ≡ true
valid_clear mode v k c = rules_accept mode v (for_mode 1 mode v (rules 1 v k.keeps) (either_right (not (allows_writing mode)) (clear v) c))

-- one that is accepted for writing keeps overlap's too
pub writing_clear : (mode : ℕ) (v : PaperView) → accepted mode v ≡ true → allows_writing mode ≡ true → clear v ≡ true
writing_clear mode v h w = ⊎_elim (λ n. absurd (no n)) (λ a. a) (either_inv _ _ (rules mode v h).overlap)
  where
    no : not (allows_writing mode) ≡ true → ⊥
    no n = not_both (rw w at n) refl

-- ---- the same as facts on numbers

displacement_small : (z : ℤ) → displacement_allowed z ≡ true → whole z ≤ 1099511627776
unfolding displacement_allowed whole
displacement_small (pos d) h = leb-true d _ h
displacement_small (negsuc d) h = omega arith

pub extent_small : (z : ℤ) → extent_allowed z ≡ true → (1 ≤ whole z) × (whole z ≤ 1048576)
unfolding extent_allowed whole
extent_small (pos x) h = within_inv 1 1048576 x h
extent_small (negsuc x) h = not_both h refl

entry_ends : (w : ℕ) (z : ℤ) → entry_displacement_allowed w z ≡ true → whole z + w ≤ 1048576
unfolding entry_displacement_allowed whole
entry_ends w (pos d) h = leb-true (d + w) _ h
entry_ends w (negsuc d) h = not_both h refl

-- an entry of a type whose entries are allowed
pub type_entry : (t : PaperType) → entries_allowed t ≡ true → (i : ℕ) → i < entries t → (width_allowed (width_at t i) ≡ true) × (displacement_at t i + width_at t i ≤ 1048576)
unfolding entries_allowed entry_allowed displacement_at
type_entry t h i l =
    let a = also_inv _ _ (all_at _ (entries t) h i l) in
    (a.0, entry_ends (width_at t i) (get_or t.displacements i (pos 0)) a.1)

pub width_small : (w : ℕ) → width_allowed w ≡ true → (1 ≤ w) × (w ≤ 8)
unfolding width_allowed
width_small w h =
    ⊎_elim (λ e. let q = eqb-true w 1 e in (omega arith, omega arith))
    (λ r. ⊎_elim (λ e. let q = eqb-true w 2 e in (omega arith, omega arith))
    (λ s. ⊎_elim (λ e. let q = eqb-true w 4 e in (omega arith, omega arith)) (λ e. let q = eqb-true w 8 e in (omega arith, omega arith)) (either_inv _ _ s))
    (either_inv _ _ r))
    (either_inv _ _ h)

-- a filetype that passes checks 5 and 6 has bytes in its tiles and entries
pub spaced : (v : PaperView) → extent_allowed v.filetype.extent ≡ true → entries_allowed v.filetype ≡ true → Spaced v
unfolding extent_of
spaced v x a = record {
  extent = omega (arith, (extent_small v.filetype.extent x).0);
  widths = λ i l. omega (arith, (width_small (width_at v.filetype i) (type_entry v.filetype a i l).0).0);
}

pub record Facts (v : PaperView) : Type 0 where
  pub start : whole v.displacement ≤ 1099511627776
  pub some : 0 < entries v.etype
  pub few : entries v.etype ≤ 8
  pub file_some : 0 < entries v.filetype
  pub file_few : entries v.filetype ≤ 64 * entries v.etype
  pub extent : (1 ≤ extent_of v.etype) × (extent_of v.etype ≤ 1048576)
  pub file_extent : (1 ≤ extent_of v.filetype) × (extent_of v.filetype ≤ 1048576)
  pub allowed : (i : ℕ) → i < entries v.etype → width_allowed (width_at v.etype i) ≡ true
  pub width : (i : ℕ) → i < entries v.etype → (1 ≤ width_at v.etype i) × (width_at v.etype i ≤ 8)
  pub ends : (i : ℕ) → i < entries v.etype → displacement_at v.etype i + width_at v.etype i ≤ 1048576
  pub file_ends : (i : ℕ) → i < entries v.filetype → displacement_at v.filetype i + width_at v.filetype i ≤ 1048576
  -- the instances make up the filetype
  pub groups : instances v * entries v.etype ≡ entries v.filetype
  -- entry e of instance g is the etype's, shifted by the origin
  pub group_width_law : (g e : ℕ) → g < instances v → e < entries v.etype → width_at v.filetype (g * entries v.etype + e) ≡ width_at v.etype e
  pub group_displacement_law : (g e : ℕ) → g < instances v → e < entries v.etype → displacement_at v.filetype (g * entries v.etype + e) ≡ displacement_at v.etype e + origin v g

-- ---- the facts

module _ (v : PaperView) (r : Rules 1 v) where
  counts : (0 < entries v.etype) × (entries v.etype ≤ 8)
  unfolding etype_entries_allowed
  counts = let a = within_inv 1 8 (entries v.etype) r.etype_entries in (omega (arith, a.0), a.1)

  file_counts : (0 < entries v.filetype) × (entries v.filetype ≤ 64 * entries v.etype)
  unfolding filetype_entries_allowed
  file_counts =
      let a = also_inv _ _ r.filetype_entries in
      let b = within_inv 1 256 (entries v.filetype) a.0 in
      (omega (arith, b.0), leb-true _ _ a.1)

  extents : ((1 ≤ extent_of v.etype) × (extent_of v.etype ≤ 1048576)) × ((1 ≤ extent_of v.filetype) × (extent_of v.filetype ≤ 1048576))
  unfolding extent_of
  extents = (extent_small v.etype.extent r.etype_extent, extent_small v.filetype.extent r.filetype_extent)

  pub rules_facts : Facts v
  rules_facts = record {
    start = displacement_small v.displacement r.displacement;
    some = counts.0;
    few = counts.1;
    file_some = file_counts.0;
    file_few = file_counts.1;
    extent = extents.0;
    file_extent = extents.1;
    allowed = λ i l. (type_entry v.etype r.etype_allowed i l).0;
    width = λ i l. width_small (width_at v.etype i) (type_entry v.etype r.etype_allowed i l).0;
    ends = λ i l. (type_entry v.etype r.etype_allowed i l).1;
    file_ends = λ i l. (type_entry v.filetype r.filetype_allowed i l).1;
    groups = built_groups v r.is_built;
    group_width_law = λ g e lg le. (group_entry v r.is_built g e lg le).0;
    group_displacement_law = λ g e lg le. (group_entry v r.is_built g e lg le).1;
  }

pub facts : (v : PaperView) → Valid v → Facts v
facts v k = rules_facts v (rules 1 v k.keeps)

-- ---- what follows of the instances

module _ (v : PaperView) (f : Facts v) where
  pub instances_some : 0 < instances v
  instances_some = ⊎_elim (λ z. absurd (omega (arith, f.file_some, f.groups, ap (λ (x : ℕ). x * entries v.etype) z, zero-mul (entries v.etype)))) (λ p. p) (eq-zero-or-pos (instances v))

  pub instances_few : instances v ≤ 64
  instances_few = le_of_mul-le-mul_right {k = entries v.etype} (omega (arith, f.file_few, f.groups)) f.some

  pub origin_small : (g : ℕ) → g < instances v → origin v g + displacement_at v.etype 0 < 1048576
  origin_small g l =
      let w : 1 ≤ width_at v.etype 0 = (f.width 0 f.some).0 in
      let b = run_below (instances v) (entries v.etype) g 0 l f.some in
      omega (arith, f.group_displacement_law g 0 l f.some, f.group_width_law g 0 l f.some, f.file_ends (g * entries v.etype + 0) (omega (arith, b, f.groups)))
