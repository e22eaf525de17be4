-- What a refused set names, by its refusal number: each number is given only where its check fails and the earlier ones pass, so the entry that is named has the property of that number.
-- Rests on the theorems about single rules (FirstEntry.antt, Clashing.antt).
use Rattle.laws.proofs.Prelude.{ℕ, ◌≤◌, ◌<◌, ◌≡◌, ◌≢◌, refl, sym, ap, ◌∙◌, subst, Bool, true, false, not, inl, inr, eqb, ne_eqb, eq-eqb, lt-ltb, le-ltb, also, either, check, IsFirst, not_both, check_past, check_here, check_zero, also_inv, either_right}
use Rattle.view.specs.declared.Named.{Named}
use Rattle.view.specs.declared.Named.TheVariants.{Nothing}
use Rattle.view.specs.Types.{PaperType, PaperView, entries}
use Rattle.view.specs.Modes.{allows_writing}
use Rattle.view.specs.Rules.{counts_allowed, entries_allowed, type_ordered, whole_groups, IsBuilt, view_holes_fit}
use Rattle.view.specs.Named.{named_numbers, BreaksLimits, BreaksOrder, BreaksHoles, BreaksOverlap, FirstOfBoth, FirstOfFiletype, FirstDiffering, FirstBelow, Names}
use Rattle.view.specs.Parts.{Fault, group_matches, origin_allowed, deciding_group, limits_entry, order_entry, of_both, clear, named_by, fault_of, fault_by}
use Rattle.view.specs.Acceptance.{view_refusal, accepted, Valid}
use Rattle.view.proofs.Groups.{groups_whole, groups_some, built_checks, built_is}
use Rattle.view.proofs.Exactly.{counts_some}
use Rattle.view.proofs.FirstEntry.{limits_is, limits_none, order_is, order_none, differing_is, below_is, holes_is}
use Rattle.view.proofs.Clashing.{Spaced, overlap_is}
use Rattle.view.proofs.Accepted.{spaced}

-- ---- what the chain says of each number

module _ (mode : ℕ) (v : PaperView) where
  -- the chain from each of its checks on
  abbrev from10 : ℕ
  from10 = check (either (not (allows_writing mode)) (clear v)) 10 0

  abbrev from9 : ℕ
  from9 = check (view_holes_fit v) 9 from10

  abbrev from19 : ℕ
  from19 = check (origin_allowed v (deciding_group v)) 19 from9

  abbrev from18 : ℕ
  from18 = check (group_matches v (deciding_group v)) 18 from19

  abbrev from17 : ℕ
  from17 = check (whole_groups v) 17 from18

  abbrev from7 : ℕ
  from7 = check (also (type_ordered v.etype) (type_ordered v.filetype)) 7 from17

  abbrev from6 : ℕ
  from6 = check (also (entries_allowed v.etype) (entries_allowed v.filetype)) 6 from7

  -- a later check gives no earlier number
  never10 : (j : ℕ) → eqb 0 j ≡ false → eqb 10 j ≡ false → from10 ≡ j → ⊥
  never10 j z a e = not_both (eq-eqb 0 j (check_past _ 10 0 j a e).1) z

  never9 : (j : ℕ) → eqb 0 j ≡ false → eqb 10 j ≡ false → eqb 9 j ≡ false → from9 ≡ j → ⊥
  never9 j z a b e = never10 j z a (check_past _ 9 from10 j b e).1

  never18 : (j : ℕ) → eqb 0 j ≡ false → eqb 10 j ≡ false → eqb 9 j ≡ false → eqb 19 j ≡ false → eqb 18 j ≡ false → from18 ≡ j → ⊥
  never18 j z a b c d e = never9 j z a b (check_past _ 19 from9 j c (check_past _ 18 from19 j d e).1).1

  never17 : (j : ℕ) → eqb 0 j ≡ false → eqb 10 j ≡ false → eqb 9 j ≡ false → eqb 19 j ≡ false → eqb 18 j ≡ false → eqb 17 j ≡ false → from17 ≡ j → ⊥
  never17 j z a b c d f e = never18 j z a b c d (check_past _ 17 from18 j f e).1

  -- check 6 is reached: check 4 passes
  reached6 : (j : ℕ) → eqb 3 j ≡ false → eqb 4 j ≡ false → eqb 5 j ≡ false → view_refusal mode v ≡ j → (counts_allowed v ≡ true) × (from6 ≡ j)
  unfolding view_refusal
  reached6 j a b c e =
      let c3 = check_past _ 3 _ j a e in
      let c4 = check_past _ 4 _ j b c3.1 in
      let c5 = check_past _ 5 from6 j c c4.1 in
      (c4.0, c5.1)

  -- check 17 is reached, and passed
  reached18 : (j : ℕ) → eqb 3 j ≡ false → eqb 4 j ≡ false → eqb 5 j ≡ false → eqb 6 j ≡ false → eqb 7 j ≡ false → eqb 17 j ≡ false → view_refusal mode v ≡ j → (counts_allowed v ≡ true) × ((whole_groups v ≡ true) × (from18 ≡ j))
  reached18 j a b c d f g e =
      let r = reached6 j a b c e in
      let w = check_past _ 17 from18 j g (check_past _ 7 from17 j f (check_past _ 6 from7 j d r.1).1).1 in
      (r.0, w)

  pub fails_6 : view_refusal mode v ≡ 6 → also (entries_allowed v.etype) (entries_allowed v.filetype) ≡ false
  fails_6 e = check_here _ from7 6 (reached6 6 refl refl refl e).1 (λ z. never17 6 refl refl refl refl refl refl (check_past _ 7 from17 6 refl z).1)

  pub fails_7 : view_refusal mode v ≡ 7 → also (type_ordered v.etype) (type_ordered v.filetype) ≡ false
  fails_7 e = check_here _ from17 7 (check_past _ 6 from7 7 refl (reached6 7 refl refl refl e).1).1 (never17 7 refl refl refl refl refl refl)

  pub fails_18 : view_refusal mode v ≡ 18 → (counts_allowed v ≡ true) × ((whole_groups v ≡ true) × (group_matches v (deciding_group v) ≡ false))
  fails_18 e =
      let r = reached18 18 refl refl refl refl refl refl e in
      (r.0, (r.1.0, check_here _ from19 18 r.1.1 (λ z. never9 18 refl refl refl (check_past _ 19 from9 18 refl z).1)))

  pub fails_19 : view_refusal mode v ≡ 19 → (counts_allowed v ≡ true) × ((whole_groups v ≡ true) × ((group_matches v (deciding_group v) ≡ true) × (origin_allowed v (deciding_group v) ≡ false)))
  fails_19 e =
      let r = reached18 19 refl refl refl refl refl refl e in
      let m = check_past _ 18 from19 19 refl r.1.1 in
      (r.0, (r.1.0, (m.0, check_here _ from9 19 m.1 (never9 19 refl refl refl))))

  -- the checks up to 19 pass
  reached9 : (j : ℕ) → eqb 18 j ≡ false → eqb 19 j ≡ false → from18 ≡ j → from9 ≡ j
  reached9 j a b e = (check_past _ 19 from9 j b (check_past _ 18 from19 j a e).1).1

  pub fails_9 : view_refusal mode v ≡ 9 → (counts_allowed v ≡ true) × ((whole_groups v ≡ true) × (view_holes_fit v ≡ false))
  fails_9 e =
      let r = reached18 9 refl refl refl refl refl refl e in
      (r.0, (r.1.0, check_here _ from10 9 (reached9 9 refl refl r.1.1) (never10 9 refl refl)))

  pub fails_10 : view_refusal mode v ≡ 10 → clear v ≡ false
  fails_10 e =
      let r = reached18 10 refl refl refl refl refl refl e in
      let x = check_past _ 9 from10 10 refl (reached9 10 refl refl r.1.1) in
      unless (not (allows_writing mode)) (clear v) (check_here _ 0 10 x.1 (λ z. not_both (eq-eqb 0 10 z) refl))
    where
      unless : (a b : Bool) → either a b ≡ false → b ≡ false
      unless a true h = not_both (either_right a true refl) h
      unless a false h = refl

  -- where 10 is given, checks 5 and 6 pass
  spaced_10 : view_refusal mode v ≡ 10 → Spaced v
  unfolding view_refusal
  spaced_10 e =
      let c5 = check_past _ 5 from6 10 refl (check_past _ 4 _ 10 refl (check_past _ 3 _ 10 refl e).1).1 in
      spaced v (also_inv _ _ c5.0).1 (also_inv _ _ (check_past _ 6 from7 10 refl c5.1).0).1

  -- and all others but 10
  pub valid_10 : view_refusal mode v ≡ 10 → Valid v
  unfolding accepted view_refusal either allows_writing
  valid_10 e =
      let c3 = check_past _ 3 _ 10 refl e in
      let c4 = check_past _ 4 _ 10 refl c3.1 in
      let c5 = check_past _ 5 from6 10 refl c4.1 in
      let c6 = check_past _ 6 from7 10 refl c5.1 in
      let c7 = check_past _ 7 from17 10 refl c6.1 in
      let c17 = check_past _ 17 from18 10 refl c7.1 in
      let c18 = check_past _ 18 from19 10 refl c17.1 in
      let c19 = check_past _ 19 from9 10 refl c18.1 in
      let c9 = check_past _ 9 from10 10 refl c19.1 in
      record {
        keeps = eq-eqb (view_refusal 1 v) 0
            (check_zero 3 c3.0 (check_zero 4 c4.0 (check_zero 5 c5.0 (check_zero 6 c6.0 (check_zero 7 c7.0
            (check_zero 17 c17.0 (check_zero 18 c18.0 (check_zero 19 c19.0 (check_zero 9 c9.0 (check_zero 10 refl refl))))))))));
      }

  -- 17 is given only where the groups are not whole; after 19 the filetype is built of the etype
  pub fails_17 : view_refusal mode v ≡ 17 → whole_groups v ≡ false
  fails_17 e = check_here _ from18 17 (check_past _ 7 from17 17 refl (check_past _ 6 from7 17 refl (reached6 17 refl refl refl e).1).1).1 (never18 17 refl refl refl refl refl)

  built_after : (j : ℕ) → eqb 18 j ≡ false → eqb 19 j ≡ false → whole_groups v ≡ true → from18 ≡ j → IsBuilt v
  built_after j a b w e =
      let m = check_past _ 18 from19 j a e in
      built_is v (built_checks v w m.0 (check_past _ 19 from9 j b m.1).0)

  pub built_9 : view_refusal mode v ≡ 9 → IsBuilt v
  built_9 e = let r = reached18 9 refl refl refl refl refl refl e in built_after 9 refl refl r.1.0 r.1.1

  pub built_10 : view_refusal mode v ≡ 10 → IsBuilt v
  built_10 e = let r = reached18 10 refl refl refl refl refl refl e in built_after 10 refl refl r.1.0 r.1.1

  -- 8 is given no more
  pub never_8 : view_refusal mode v ≡ 8 → ⊥
  never_8 e = never17 8 refl refl refl refl refl refl (check_past _ 7 from17 8 refl (check_past _ 6 from7 8 refl (reached6 8 refl refl refl e).1).1).1

-- ---- the entry that is named

module _ (v : PaperView) (entry : PaperType → ℕ) (breaks : PaperType → ℕ → Type 0) (kept : PaperType → Bool) (is : (t : PaperType) → kept t ≡ false → IsFirst (breaks t) (entries t) (entry t)) (none : (t : PaperType) → kept t ≡ true → (entries t ≤ entry t) × ((k : ℕ) → k < entries t → breaks t k → ⊥)) where
  both_named : (a b : Bool) → kept v.etype ≡ a → kept v.filetype ≡ b → also a b ≡ false → FirstOfBoth v breaks (named_numbers (of_both entry v))
  unfolding of_both named_numbers also
  both_named false b p q h = let f = is v.etype p in inl (rw (lt-ltb (entry v.etype) (entries v.etype) f.below) (refl, f))
  both_named true b p q h = let n = none v.etype p in inr (rw (le-ltb (entry v.etype) (entries v.etype) n.0) (refl, (n.1, is v.filetype (q ∙ h))))

module _ (mode : ℕ) (v : PaperView) where
  names_6 : view_refusal mode v ≡ 6 → FirstOfBoth v BreaksLimits (named_numbers (named_by v 6))
  unfolding named_by
  names_6 e = both_named v limits_entry BreaksLimits entries_allowed limits_is limits_none _ _ refl refl (fails_6 mode v e)

  names_7 : view_refusal mode v ≡ 7 → FirstOfBoth v BreaksOrder (named_numbers (named_by v 7))
  unfolding named_by
  names_7 e = both_named v order_entry BreaksOrder type_ordered order_is order_none _ _ refl refl (fails_7 mode v e)

  names_18 : view_refusal mode v ≡ 18 → ((named_numbers (named_by v 18)).kind ≡ 2) × FirstDiffering v (named_numbers (named_by v 18)).entry
  unfolding named_by named_numbers
  names_18 e = let f = fails_18 mode v e in (refl, differing_is v (groups_some v f.1.0 (counts_some v f.0).1) f.1.0 f.1.1)

  names_19 : view_refusal mode v ≡ 19 → ((named_numbers (named_by v 19)).kind ≡ 2) × FirstBelow v (named_numbers (named_by v 19)).entry
  unfolding named_by named_numbers
  names_19 e = let f = fails_19 mode v e in (refl, below_is v (groups_some v f.1.0 (counts_some v f.0).1) f.1.0 f.1.1.0 f.1.1.1)

  names_9 : view_refusal mode v ≡ 9 → FirstOfFiletype v (BreaksHoles v) (named_numbers (named_by v 9))
  unfolding named_by named_numbers
  names_9 e =
      let f = fails_9 mode v e in
      let c = counts_some v f.0 in
      (refl, holes_is v c.0 (groups_some v f.1.0 c.1) (groups_whole v f.1.0) f.1.1)

  names_10 : view_refusal mode v ≡ 10 → FirstOfFiletype v (BreaksOverlap v) (named_numbers (named_by v 10))
  unfolding named_by named_numbers
  names_10 e = (refl, overlap_is v (spaced_10 mode v e) (fails_10 mode v e))

  -- any other number names nothing
  names_none : (n : ℕ) → n ≢ 6 → n ≢ 7 → n ≢ 18 → n ≢ 19 → n ≢ 9 → n ≢ 10 → named_numbers (named_by v n) ≡ named_numbers Nothing
  unfolding named_by
  names_none n a b c d e f = rw (ne_eqb n 6 a, ne_eqb n 7 b, ne_eqb n 18 c, ne_eqb n 19 d, ne_eqb n 9 e, ne_eqb n 10 f)

  -- a number that is the view's unless it is 1 or 2 names what order 1 says
  module _ (n : ℕ) (given : (j : ℕ) → eqb 1 j ≡ false → eqb 2 j ≡ false → n ≡ j → view_refusal mode v ≡ j) where
    pub named_is : Names v n (named_numbers (named_by v n))
    named_is = record {
      limits = λ q. subst (λ (x : ℕ). FirstOfBoth v BreaksLimits (named_numbers (named_by v x))) (sym q) (names_6 (given 6 refl refl q));
      order = λ q. subst (λ (x : ℕ). FirstOfBoth v BreaksOrder (named_numbers (named_by v x))) (sym q) (names_7 (given 7 refl refl q));
      differs = λ q. subst (λ (x : ℕ). ((named_numbers (named_by v x)).kind ≡ 2) × FirstDiffering v (named_numbers (named_by v x)).entry) (sym q) (names_18 (given 18 refl refl q));
      below = λ q. subst (λ (x : ℕ). ((named_numbers (named_by v x)).kind ≡ 2) × FirstBelow v (named_numbers (named_by v x)).entry) (sym q) (names_19 (given 19 refl refl q));
      holes = λ q. subst (λ (x : ℕ). FirstOfFiletype v (BreaksHoles v) (named_numbers (named_by v x))) (sym q) (names_9 (given 9 refl refl q));
      overlap = λ q. subst (λ (x : ℕ). FirstOfFiletype v (BreaksOverlap v) (named_numbers (named_by v x))) (sym q) (names_10 (given 10 refl refl q));
      nothing = names_none n;
    }

-- ---- a refusal number with what it names, as the functions answer it

pub fault_by_law : (names : ℕ → Named) (k n : ℕ) (x : Named) (r : Fault) → r ≡ fault_of k x → x ≡ names k → k ≡ n → r ≡ fault_by names n
unfolding fault_by
fault_by_law names k n x r e s q = e ∙ ap (fault_of k) s ∙ ap (λ (j : ℕ). fault_of j (names j)) q
