-- The groups of a filetype: the tests of them say what the paper says, and nothing else passes them.
use Rattle.laws.proofs.Prelude.{ℕ, ◌+◌, ◌-◌, ◌*◌, ◌/◌, ◌%◌, ◌<◌, ◌≡◌, sym, ap, ◌∙◌, true, ⊎_elim, arith, div-add-mod', mod-lt, eq-zero-or-pos, zero-mul, mul-mod_left, mul-div_cancel, add-zero, leb-true, le-leb, eqb-true, eq-eqb, also_true, also_inv, all_at, all_intro, least_false, least_false_le, ends_holds, runs_below}
use Rattle.view.specs.Types.{PaperView, entries, width_at, displacement_at}
use Rattle.view.specs.Rules.{whole_groups, instances, origin, IsBuilt}
use Rattle.view.specs.Parts.{entry_matches, group_matches, origin_allowed, group_built, deciding_group, built}

-- checks 17, 18 and 19 together
pub built_checks : (v : PaperView) → whole_groups v ≡ true → group_matches v (deciding_group v) ≡ true → origin_allowed v (deciding_group v) ≡ true → built v ≡ true
unfolding built
built_checks v a b c = also_true a (also_true b c)

pub built_parts : (v : PaperView) → built v ≡ true → (whole_groups v ≡ true) × (group_matches v (deciding_group v) ≡ true) × (origin_allowed v (deciding_group v) ≡ true)
unfolding built
built_parts v h = let a = also_inv _ _ h in let b = also_inv _ _ a.1 in (a.0, b.0, b.1)

-- whole groups make up the filetype
pub groups_whole : (v : PaperView) → whole_groups v ≡ true → instances v * entries v.etype ≡ entries v.filetype
unfolding whole_groups instances
groups_whole v h = omega (arith, div-add-mod' (entries v.filetype) (entries v.etype), eqb-true (entries v.filetype % entries v.etype) 0 h)

pub groups_some : (v : PaperView) → whole_groups v ≡ true → 0 < entries v.filetype → 0 < instances v
groups_some v h more = ⊎_elim (λ z. absurd (omega (arith, more, groups_whole v h, ap (λ (x : ℕ). x * entries v.etype) z, zero-mul (entries v.etype)))) (λ p. p) (eq-zero-or-pos (instances v))

pub built_groups : (v : PaperView) → built v ≡ true → instances v * entries v.etype ≡ entries v.filetype
built_groups v h = groups_whole v (built_parts v h).0

-- where the deciding group is built of the etype, every group is
pub built_group : (v : PaperView) → built v ≡ true → (g : ℕ) → g < instances v → (group_matches v g ≡ true) × (origin_allowed v g ≡ true)
unfolding deciding_group group_built
built_group v h g l =
    let b = built_parts v h in
    also_inv _ _ (ends_holds (group_built v) (instances v) (also_true b.1 b.2) g l)

-- the entry of a group that matches
pub match_entry : (v : PaperView) (g : ℕ) → group_matches v g ≡ true → (e : ℕ) → e < entries v.etype → (width_at v.filetype (g * entries v.etype + e) ≡ width_at v.etype e) × (displacement_at v.filetype (g * entries v.etype + e) + displacement_at v.etype 0 ≡ displacement_at v.filetype (g * entries v.etype) + displacement_at v.etype e)
unfolding group_matches entry_matches
match_entry v g h e l =
    let a = also_inv _ _ (all_at (entry_matches v g) (entries v.etype) h e l) in
    (eqb-true _ _ a.0, eqb-true _ _ a.1)

module _ (v : PaperView) (h : built v ≡ true) (g e : ℕ) (lg : g < instances v) (le : e < entries v.etype) where
  pub group_entry : (width_at v.filetype (g * entries v.etype + e) ≡ width_at v.etype e) × (displacement_at v.filetype (g * entries v.etype + e) ≡ displacement_at v.etype e + origin v g)
  unfolding origin origin_allowed
  group_entry =
      let b = built_group v h g lg in
      let m = match_entry v g b.0 e le in
      (m.0, omega (arith, m.1, leb-true (displacement_at v.etype 0) (displacement_at v.filetype (g * entries v.etype)) b.1))

-- the checks of the groups say what the paper says of them, and nothing else passes them; the shift is the origin
pub built_is : (v : PaperView) → built v ≡ true → IsBuilt v
built_is v h = record {
  groups = instances v;
  whole_groups_law = built_groups v h;
  shift = origin v;
  widths = λ g e lg le. (group_entry v h g e lg le).0;
  displacements = λ g e lg le. (group_entry v h g e lg le).1;
}

-- entry i of a filetype that is built of the etype, by its group
pub built_entry : (v : PaperView) → built v ≡ true → (some : 0 < entries v.etype) (i : ℕ) → i < entries v.filetype → (width_at v.filetype i ≡ width_at v.etype (i % entries v.etype)) × (displacement_at v.filetype i ≡ displacement_at v.etype (i % entries v.etype) + origin v (i / entries v.etype))
built_entry v h some i l =
    let g = runs_below (instances v) (entries v.etype) i some (omega (arith, built_groups v h)) in
    let a = group_entry v h (i / entries v.etype) (i % entries v.etype) g (mod-lt i {m = entries v.etype} some) in
    let q = div-add-mod' i (entries v.etype) in
    (ap (width_at v.filetype) (sym q) ∙ a.0, ap (displacement_at v.filetype) (sym q) ∙ a.1)

module _ (v : PaperView) (some : 0 < entries v.etype) (b : IsBuilt v) where
  groups_are : b.groups ≡ instances v
  unfolding instances
  groups_are = sym (ap (λ (z : ℕ). z / entries v.etype) (sym b.whole_groups_law) ∙ mul-div_cancel b.groups some)

  group_first : (g : ℕ) → g < b.groups → displacement_at v.filetype (g * entries v.etype) ≡ displacement_at v.etype 0 + b.shift g
  group_first g l = ap (displacement_at v.filetype) (sym (add-zero (g * entries v.etype))) ∙ b.displacements g 0 l some

  group_is_built : (g : ℕ) → g < instances v → group_built v g ≡ true
  unfolding group_built group_matches entry_matches origin_allowed
  group_is_built g l =
      let k : g < b.groups = omega (arith, groups_are) in
      also_true
      (all_intro (entry_matches v g) (entries v.etype) (λ e le.
      let s : displacement_at v.filetype (g * entries v.etype + e) + displacement_at v.etype 0 ≡ displacement_at v.filetype (g * entries v.etype) + displacement_at v.etype e = omega (arith, b.displacements g e k le, group_first g k) in
      also_true (eq-eqb _ _ (b.widths g e k le)) (eq-eqb _ _ s)))
      (le-leb (displacement_at v.etype 0) _ (omega (arith, group_first g k)))

  pub built_only : 0 < entries v.filetype → built v ≡ true
  unfolding built whole_groups deciding_group group_built
  built_only more =
      let w = eq-eqb _ 0 (ap (λ (z : ℕ). z % entries v.etype) (sym b.whole_groups_law) ∙ mul-mod_left b.groups (entries v.etype)) in
      let k = groups_some v w more in
      let d = also_inv _ _ (group_is_built (least_false (group_built v) (instances v - 1)) (omega (arith, least_false_le (group_built v) (instances v - 1)))) in
      also_true w (also_true d.0 d.1)
