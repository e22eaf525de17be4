-- What a refused set names is what order 1 says: for each refusal number but 10, which is in Clashing.antt, the definition that computes the entry has the property, and no other entry has it.
use Rattle.laws.proofs.Prelude.{ℕ, ◌+◌, ◌-◌, ◌*◌, ◌≤◌, ◌<◌, ◌≡◌, refl, sym, ap, ◌∙◌, true, false, inl, inr, ⊎_elim, arith, mul-le-mul_right, leb, leb-true, leb-false, eqb-true, eq-eqb, le-leb, lt-leb, lt-ltb, le-ltb, also_true, also_inv, also_first, also_false, least_false, IsFirst, not_both, eq_or_ne, lt_or_le, all_at, all_intro, all_below, all_fails, all_reaches, ends_first, least_false_le, least_false_keeps, first_one, first_false, first_found, not_false_true, not_true_false, times_more}
use Rattle.view.specs.Types.{PaperType, PaperView, entries, width_at, displacement_at}
use Rattle.view.specs.Rules.{entry_allowed, entries_allowed, type_ordered, whole_groups, instances, hole_allowed, view_holes_fit}
use Rattle.view.specs.Named.{BreaksLimits, BreaksOrder, Differs, OriginBelow, BreaksHoles, BuiltBefore, FirstDiffering, FirstBelow}
use Rattle.view.specs.Parts.{entry_matches, group_matches, origin_allowed, group_built, deciding_group, limits_entry, order_entry, differing_entry, below_entry, hole_names, hole_entry}

-- ---- 6

module _ (t : PaperType) where
  pub limits_is : entries_allowed t ≡ false → IsFirst (BreaksLimits t) (entries t) (limits_entry t)
  unfolding limits_entry entries_allowed
  limits_is h = first_false (entry_allowed t) (entries t) (all_below (entry_allowed t) (entries t) h)

  pub limits_none : entries_allowed t ≡ true → (entries t ≤ limits_entry t) × ((k : ℕ) → k < entries t → BreaksLimits t k → ⊥)
  unfolding limits_entry entries_allowed
  limits_none h = (all_reaches (entry_allowed t) (entries t) h, λ k l b. not_both (all_at (entry_allowed t) (entries t) h k l) b)

  pub limits_only : (i : ℕ) → IsFirst (BreaksLimits t) (entries t) i → i ≡ limits_entry t
  unfolding limits_entry
  limits_only i f = first_found (entry_allowed t) (entries t) i f

  -- ---- 7

  -- entry i + 1 lies below entry i, or it does not
  order_broken : (i : ℕ) → leb (displacement_at t i) (displacement_at t (i + 1)) ≡ false → BreaksOrder t (i + 1)
  order_broken i h = let q : i + 1 - 1 ≡ i = omega arith in (omega arith, rw q (leb-false (displacement_at t i) (displacement_at t (i + 1)) h))

  order_kept : (k : ℕ) → BreaksOrder t k → leb (displacement_at t (k - 1)) (displacement_at t (k - 1 + 1)) ≡ true → ⊥
  order_kept k b h = let q : k - 1 + 1 ≡ k = omega (arith, b.0) in omega (arith, b.1, leb-true (displacement_at t (k - 1)) (displacement_at t (k - 1 + 1)) h, ap (displacement_at t) q)

  pub order_is : type_ordered t ≡ false → IsFirst (BreaksOrder t) (entries t) (order_entry t)
  unfolding order_entry type_ordered
  order_is h =
      let f = first_false (λ i. leb (displacement_at t i) (displacement_at t (i + 1))) (entries t - 1) (all_below _ (entries t - 1) h) in
      record {
        below = omega (arith, f.below);
        here = order_broken _ f.here;
        earlier = λ k l b. order_kept k b (not_false_true _ (f.earlier (k - 1) (omega (arith, b.0))));
      }

  pub order_none : type_ordered t ≡ true → (entries t ≤ order_entry t) × ((k : ℕ) → k < entries t → BreaksOrder t k → ⊥)
  unfolding order_entry type_ordered
  order_none h = (omega (arith, all_reaches (λ i. leb (displacement_at t i) (displacement_at t (i + 1))) (entries t - 1) h), λ k l b. order_kept k b (all_at _ (entries t - 1) h (k - 1) (omega (arith, b.0))))

  pub order_only : (i : ℕ) → IsFirst (BreaksOrder t) (entries t) i → i ≡ order_entry t
  unfolding type_ordered
  order_only i f = first_one (BreaksOrder t) (entries t) i (order_entry t) f (order_is (all_fails _ (entries t - 1) (i - 1) (omega (arith, f.here.0, f.below)) fails))
    where
      fails : leb (displacement_at t (i - 1)) (displacement_at t (i - 1 + 1)) ≡ false
      fails = let q : i - 1 + 1 ≡ i = omega (arith, f.here.0) in rw q (lt-leb _ _ f.here.1)

-- ---- 18 and 19

module _ (v : PaperView) where
  -- an entry differs exactly if the test of it fails
  differs : (g e : ℕ) → entry_matches v g e ≡ false → Differs v g e
  unfolding entry_matches
  differs g e h =
      ⊎_elim
      (λ w. ⊎_elim (λ s. not_both (also_true (eq-eqb _ _ w) (eq-eqb _ _ s)) h) (λ s. inr s) (eq_or_ne (displacement_at v.filetype (g * entries v.etype + e) + displacement_at v.etype 0) (displacement_at v.filetype (g * entries v.etype) + displacement_at v.etype e)))
      (λ w. inl w) (eq_or_ne (width_at v.filetype (g * entries v.etype + e)) (width_at v.etype e))

  same : (g e : ℕ) → entry_matches v g e ≡ true → Differs v g e → ⊥
  unfolding entry_matches
  same g e h d = let a = also_inv _ _ h in ⊎_elim (λ w. w (eqb-true _ _ a.0)) (λ s. s (eqb-true _ _ a.1)) d

  unmatched : (g e : ℕ) → Differs v g e → entry_matches v g e ≡ false
  unmatched g e d = not_true_false (entry_matches v g e) (λ h. same g e h d)

  matched : (g e : ℕ) → (Differs v g e → ⊥) → entry_matches v g e ≡ true
  matched g e n = not_false_true (entry_matches v g e) (λ h. n (differs g e h))

  group_same : (g : ℕ) → group_matches v g ≡ true → (e : ℕ) → e < entries v.etype → Differs v g e → ⊥
  unfolding group_matches
  group_same g h e l d = same g e (all_at (entry_matches v g) (entries v.etype) h e l) d

  group_matched_law : (g : ℕ) → ((e : ℕ) → e < entries v.etype → Differs v g e → ⊥) → group_matches v g ≡ true
  unfolding group_matches
  group_matched_law g n = all_intro (entry_matches v g) (entries v.etype) (λ e l. matched g e (n e l))

  not_below : (g : ℕ) → origin_allowed v g ≡ true → OriginBelow v g → ⊥
  unfolding origin_allowed
  not_below g h b = omega (arith, b, leb-true (displacement_at v.etype 0) (displacement_at v.filetype (g * entries v.etype)) h)

  at_least : (g : ℕ) → (OriginBelow v g → ⊥) → origin_allowed v g ≡ true
  unfolding origin_allowed
  at_least g n = ⊎_elim (λ l. absurd (n l)) (λ l. le-leb _ _ l) (lt_or_le (displacement_at v.filetype (g * entries v.etype)) (displacement_at v.etype 0))

  below_zero : (g : ℕ) → origin_allowed v g ≡ false → OriginBelow v g
  unfolding origin_allowed
  below_zero g h = leb-false _ _ h

  -- the groups before the deciding one are built
  module _ (more : 0 < instances v) (whole : whole_groups v ≡ true) where
    deciding_inside : deciding_group v < instances v
    unfolding deciding_group
    deciding_inside = omega (arith, least_false_le (group_built v) (instances v - 1))

    deciding_before : BuiltBefore v (deciding_group v)
    unfolding deciding_group group_built
    deciding_before = record {
      same = λ h e l le d. group_same h (also_inv _ _ (least_false_keeps (group_built v) (instances v - 1) h l)).0 e le d;
      shifted = λ h l b. not_below h (also_inv _ _ (least_false_keeps (group_built v) (instances v - 1) h l)).1 b;
    }

    pub differing_is : group_matches v (deciding_group v) ≡ false → FirstDiffering v (differing_entry v)
    unfolding differing_entry group_matches
    differing_is h =
        let f = first_false (entry_matches v (deciding_group v)) (entries v.etype) (all_below _ (entries v.etype) h) in
        record {
          group = deciding_group v;
          entry = least_false (entry_matches v (deciding_group v)) (entries v.etype);
          number = refl;
          inside = deciding_inside;
          whole = whole;
          first = record { below = f.below; here = differs _ _ f.here; earlier = λ k l d. f.earlier k l (unmatched _ k d) };
          before = deciding_before;
        }

    pub below_is : group_matches v (deciding_group v) ≡ true → origin_allowed v (deciding_group v) ≡ false → FirstBelow v (below_entry v)
    unfolding below_entry
    below_is m h = record { group = deciding_group v; number = refl; inside = deciding_inside; whole = whole; below = below_zero _ h; same = group_same _ m; before = deciding_before }

  -- the first group with a fault decides
  deciding_is : (g : ℕ) → BuiltBefore v g → g < instances v → group_built v g ≡ false → deciding_group v ≡ g
  unfolding deciding_group group_built
  deciding_is g s l h = ends_first (group_built v) (instances v) g (λ k b. also_true (group_matched_law k (λ e le d. s.same k e b le d)) (at_least k (s.shifted k b))) l h

  module _ (i : ℕ) (f : FirstDiffering v i) where
    unlike : group_matches v f.group ≡ false
    unfolding group_matches
    unlike = all_fails (entry_matches v f.group) (entries v.etype) f.entry f.first.below (unmatched _ _ f.first.here)

    differing_decides : deciding_group v ≡ f.group
    unfolding group_built
    differing_decides = deciding_is f.group f.before f.inside (also_first _ _ unlike)

    differing_found : f.entry ≡ least_false (entry_matches v (deciding_group v)) (entries v.etype)
    differing_found =
        first_found (entry_matches v f.group) (entries v.etype) f.entry (record { below = f.first.below; here = unmatched _ _ f.first.here; earlier = λ k l e. f.first.earlier k l (differs _ k e) })
        ∙ ap (λ (g : ℕ). least_false (entry_matches v g) (entries v.etype)) (sym differing_decides)

    -- and check 18 fails
    pub differing_only : (i ≡ differing_entry v) × (group_matches v (deciding_group v) ≡ false)
    unfolding differing_entry
    differing_only = (f.number ∙ (λ j. sym differing_decides j * entries v.etype + differing_found j), ap (group_matches v) differing_decides ∙ unlike)

  module _ (i : ℕ) (f : FirstBelow v i) where
    low : origin_allowed v f.group ≡ false
    unfolding origin_allowed
    low = lt-leb _ _ f.below

    below_decides : deciding_group v ≡ f.group
    unfolding group_built
    below_decides = deciding_is f.group f.before f.inside (also_false _ _ low)

    -- and check 18 passes, check 19 fails
    pub below_only : (i ≡ below_entry v) × ((group_matches v (deciding_group v) ≡ true) × (origin_allowed v (deciding_group v) ≡ false))
    unfolding below_entry
    below_only = (f.number ∙ ap (λ (g : ℕ). g * entries v.etype) (sym below_decides), (ap (group_matches v) below_decides ∙ group_matched_law f.group f.same, ap (origin_allowed v) below_decides ∙ low))

-- ---- 9, where the groups are whole

module _ (v : PaperView) (some : 0 < entries v.etype) (more : 0 < instances v) (groups : instances v * entries v.etype ≡ entries v.filetype) where
  group_below : (g h : ℕ) → g < h → g * entries v.etype + entries v.etype ≤ h * entries v.etype
  group_below g h l = omega (arith, times_more g (entries v.etype), mul-le-mul_right {m = g + 1} {n = h} (entries v.etype) (omega arith))

  group_before : (g h : ℕ) → g * entries v.etype < h * entries v.etype → g < h
  group_before g h l = ⊎_elim (λ q. q) (λ q. absurd (omega (arith, mul-le-mul_right {m = h} {n = g} (entries v.etype) q))) (lt_or_le g h)

  -- hole h is the first that is no multiple of E
  module _ (h : ℕ) (f : IsFirst (λ i. hole_allowed v i ≡ false) (instances v + 1) h) where
    hole_inner : h < instances v → IsFirst (BreaksHoles v) (entries v.filetype) (h * entries v.etype)
    hole_inner l = record {
      below = omega (arith, group_below h (instances v) l, groups);
      here = inl (h, (l, refl, f.here));
      earlier = λ k b d. ⊎_elim (λ x. f.earlier x.0 (group_before x.0 h (omega (arith, x.1.1))) x.1.2) (λ x. omega (arith, x.0, group_below h (instances v) l, groups)) d;
    }

    hole_final : h ≡ instances v → IsFirst (BreaksHoles v) (entries v.filetype) (entries v.filetype - 1)
    hole_final e =
        let some_entries : 0 < entries v.filetype = omega (arith, group_below 0 (instances v) more, groups) in
        record {
          below = omega arith;
          here = inr (omega arith, ap (hole_allowed v) (sym e) ∙ f.here);
          earlier = λ k b d. ⊎_elim (λ x. f.earlier x.0 (omega (arith, x.1.0)) x.1.2) (λ x. omega (arith, x.0)) d;
        }

    hole_named : IsFirst (BreaksHoles v) (entries v.filetype) (hole_names (instances v) (entries v.etype) (entries v.filetype) h)
    unfolding hole_names
    hole_named = ⊎_elim (λ l. rw (lt-ltb h (instances v) l) (hole_inner l)) (λ l. rw (le-ltb h (instances v) l) (hole_final (omega (arith, f.below)))) (lt_or_le h (instances v))

  pub holes_is : view_holes_fit v ≡ false → IsFirst (BreaksHoles v) (entries v.filetype) (hole_entry v)
  unfolding hole_entry view_holes_fit
  holes_is h = hole_named _ (first_false (hole_allowed v) (instances v + 1) (all_below (hole_allowed v) (instances v + 1) h))

  holes_fail : (i : ℕ) → BreaksHoles v i → view_holes_fit v ≡ false
  unfolding view_holes_fit
  holes_fail i b = ⊎_elim (λ x. all_fails (hole_allowed v) (instances v + 1) x.0 (omega (arith, x.1.0)) x.1.2) (λ x. all_fails (hole_allowed v) (instances v + 1) (instances v) (omega arith) x.1) b

  pub holes_only : (i : ℕ) → IsFirst (BreaksHoles v) (entries v.filetype) i → i ≡ hole_entry v
  holes_only i f = first_one (BreaksHoles v) (entries v.filetype) i (hole_entry v) f (holes_is (holes_fail i f.here))
