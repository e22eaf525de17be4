-- The checks from 7 on on the records: each function's refusal number follows its chain, and what it names is what the chain's number names.
use Rattle.laws.proofs.Prelude.{ℕ, ◌+◌, ◌-◌, ◌*◌, ◌/◌, ◌%◌, ◌^◌, ◌≤◌, ◌<◌, ◌≡◌, refl, sym, ap, ◌∙◌, Bool, true, false, not, List, ⊎_elim, arith, div-add-mod', eq-zero-or-pos, zero-mul, mul-le-mul_right, length, take, w64, Fits, get_or-take, length-take-le, eq-eqb, ne_eqb, lt-ltb, le-ltb, also, check, check_step, nth, all, least_false, least_false_le, least_false_same, either_left, either_right, either_no, lt_or_le, check_yes, check_no, check_zero, check_inv, lit<, also_true, upto}
use Rattle.laws.proofs.Searching.{all_yes, all_no}
use Rattle.view.specs.declared.Named.{Named}
use Rattle.view.specs.declared.Named.TheVariants.{Nothing, EtypeEntry, FiletypeEntry}
use Rattle.view.specs.declared.Numbers.{Numbers}
use Rattle.view.specs.declared.View.{View}
use Rattle.view.specs.Modes.{allows_writing}
use Rattle.view.specs.Parts.{Fault, in_order, ordered, holes_fit, hole_names, entry_clear, fault_of, fault_by}
use Rattle.view.proofs.Telling.{fault_by_law}
use Rattle.rule_entries.specs.Parts.{apart_in}
use Rattle.rule_instances.specs.Parts.{hole_fits}
use Rattle.rule_groups.specs.Parts.{GroupNumbers, first_group_fault, group_matches_at, origin_at, deciding}
use Rattle.rule_set.specs.Parts.{tiles_refusal, tile_names, tiles_fault, TilesReady, groups_refusal, groups_names, groups_fault, shapes_refusal, order_names, shape_names, shapes_fault, ShapesReady}

-- ---- order: n displacements d, of which r is the first below the one before it, or a number past the last

module _ (d : ℕ → ℕ) (n r : ℕ) (some : 0 < n) (e : r ≡ least_false (in_order d) (n - 1) + 1) where
  first_yes : n ≤ r → ordered d n ≡ true
  unfolding ordered all
  first_yes l = eq-eqb (least_false (in_order d) (n - 1)) (n - 1) (omega (arith, least_false_le (in_order d) (n - 1)))

  first_no : r < n → ordered d n ≡ false
  unfolding ordered all
  first_no l = ne_eqb (least_false (in_order d) (n - 1)) (n - 1) (λ q. omega arith)

-- the etype's displacements in use
module _ (ds : List ℕ) (n r : ℕ) (e : r ≡ least_false (in_order (nth (take n ds))) (length (take n ds) - 1) + 1) (long : length ds ≡ 8) (few : n ≤ 8) where
  found : r ≡ least_false (in_order (nth ds)) (n - 1) + 1
  found =
      e ∙ ap (λ (z : ℕ). least_false (in_order (nth (take n ds))) (z - 1) + 1) (length-take-le n ds (upto ds n 8 long few))
      ∙ ap (λ (z : ℕ). z + 1) (least_false_same (in_order (nth (take n ds))) (in_order (nth ds)) (n - 1) (λ i l. rw (get_or-take n ds i 0 (omega arith), get_or-take n ds (i + 1) 0 (omega arith))))

  pub etype_ordered : 0 < n → n ≤ r → ordered (nth ds) n ≡ true
  etype_ordered some l = first_yes (nth ds) n r some found l

  pub etype_falls : 0 < n → r < n → ordered (nth ds) n ≡ false
  etype_falls some l = first_no (nth ds) n r some found l

-- the filetype's
module _ (fw ds : List ℕ) (r : ℕ) (e : r ≡ least_false (in_order (nth ds)) (length ds - 1) + 1) (pairs : length ds ≡ length fw) (some : 0 < length fw) where
  pub filetype_ordered : length ds ≤ r → ordered (nth ds) (length ds) ≡ true
  filetype_ordered l = first_yes (nth ds) (length ds) r (omega arith) e l

  pub filetype_falls : r < length ds → ordered (nth ds) (length ds) ≡ false
  filetype_falls l = first_no (nth ds) (length ds) r (omega arith) e l

-- the entry that is named
module _ (w : View) (fw fd : List ℕ) (r : ℕ) (e : r ≡ least_false (in_order (nth (take w.numbers.etype.entries w.displacements))) (length (take w.numbers.etype.entries w.displacements) - 1) + 1) (long : length w.displacements ≡ 8) (few : w.numbers.etype.entries ≤ 8) where
  pub etype_names : r < w.numbers.etype.entries → EtypeEntry r ≡ shape_names w fw fd 7
  unfolding shape_names order_names
  etype_names l = rw (sym (found w.displacements w.numbers.etype.entries r e long few), lt-ltb r w.numbers.etype.entries l)

  pub filetype_names : (q : ℕ) → q ≡ least_false (in_order (nth fd)) (length fd - 1) + 1 → w.numbers.etype.entries ≤ r → FiletypeEntry q ≡ shape_names w fw fd 7
  unfolding shape_names order_names
  filetype_names q f l = rw (sym (found w.displacements w.numbers.etype.entries r e long few), sym f, le-ltb r w.numbers.etype.entries l)

-- ---- whole groups

module _ (w : View) (fw fd : List ℕ) (s : ShapesReady w fw fd) (whole : length fw % w.numbers.etype.entries ≡ 0) where
  instances_all : w.numbers.filetype.instances * w.numbers.etype.entries ≡ length fw
  instances_all = omega (arith, ap (λ (z : ℕ). z * w.numbers.etype.entries) (s.groups ∙ ap (λ (z : ℕ). z / w.numbers.etype.entries) s.pairs), div-add-mod' (length fw) w.numbers.etype.entries, whole)

  instances_some : 0 < w.numbers.filetype.instances
  instances_some = ⊎_elim (λ z. absurd (omega (arith, s.some, instances_all, ap (λ (x : ℕ). x * w.numbers.etype.entries) z, zero-mul w.numbers.etype.entries))) (λ p. p) (eq-zero-or-pos w.numbers.filetype.instances)

  pub tiles_ready : TilesReady w.numbers fw fd
  tiles_ready = record {
    some = instances_some;
    few = s.few;
    extent = s.extent;
    groups = instances_all;
    lists = record { some = s.some; pairs = s.pairs; ends = s.ends; extent = s.file_extent };
    keyed = record { some = s.some; few = s.file_few; pairs = s.pairs; some_extent = s.file_some; extent = s.file_extent; displacements = λ i l. omega (arith, s.ends i l); widths = s.widths };
  }

-- ---- holes: h is the first that does not fit

module _ (v : Numbers) (ps fw fd : List ℕ) (h : ℕ) (e : h ≡ least_false (hole_fits ps v.filetype.instances v.etype.extent v.filetype.extent) (v.filetype.instances + 1)) where
  holes_no : h ≤ v.filetype.instances → holes_fit (nth ps) v.filetype.instances v.etype.extent v.filetype.extent ≡ false
  unfolding holes_fit hole_fits all
  holes_no l = ne_eqb _ (v.filetype.instances + 1) (λ q. omega (arith, e ∙ q))

  holes_yes : v.filetype.instances < h → holes_fit (nth ps) v.filetype.instances v.etype.extent v.filetype.extent ≡ true
  unfolding holes_fit hole_fits all
  holes_yes l = eq-eqb _ (v.filetype.instances + 1) (sym e ∙ omega (arith, e, least_false_le (hole_fits ps v.filetype.instances v.etype.extent v.filetype.extent) (v.filetype.instances + 1)))

  hole_names_law : FiletypeEntry (hole_names v.filetype.instances v.etype.entries (length fw) h) ≡ tile_names v ps fw fd 9
  unfolding tile_names
  hole_names_law = ap (λ (z : ℕ). FiletypeEntry (hole_names v.filetype.instances v.etype.entries (length fw) z)) e

  module _ (mode : ℕ) (r : Fault) where
    pub inner_hole : h < v.filetype.instances → r ≡ fault_of 9 (FiletypeEntry (h * v.etype.entries)) → r ≡ tiles_fault mode v ps fw fd
    unfolding tiles_fault tiles_refusal hole_names
    inner_hole l q =
        let named : FiletypeEntry (h * v.etype.entries) ≡ tile_names v ps fw fd 9 = rw (lt-ltb h v.filetype.instances l) at hole_names_law in
        fault_by_law (tile_names v ps fw fd) 9 _ _ r q named (check_no _ 9 _ 9 (holes_no (omega arith)) refl)

    pub final_hole : h ≡ v.filetype.instances → r ≡ fault_of 9 (FiletypeEntry (length fw - 1)) → r ≡ tiles_fault mode v ps fw fd
    unfolding tiles_fault tiles_refusal hole_names
    final_hole l q =
        let named : FiletypeEntry (length fw - 1) ≡ tile_names v ps fw fd 9 = rw (le-ltb h v.filetype.instances (omega arith)) at hole_names_law in
        fault_by_law (tile_names v ps fw fd) 9 _ _ r q named (check_no _ 9 _ 9 (holes_no (omega arith)) refl)

    -- no hole is refused; overlap is asked where the mode allows writing
    module _ (low : v.filetype.instances ≤ h) (other : h ≡ v.filetype.instances → ⊥) (t : Bool) (w : t ≡ allows_writing mode) where
      past : v.filetype.instances < h
      past = ⊎_elim (λ l. absurd (other (omega arith))) (λ l. omega arith) (lt_or_le h (v.filetype.instances + 1))

      pub overlap_unasked : not t ≡ true → r ≡ fault_of 0 Nothing → r ≡ tiles_fault mode v ps fw fd
      unfolding tiles_fault tiles_refusal tile_names
      overlap_unasked m q =
          fault_by_law (tile_names v ps fw fd) 0 _ Nothing r q refl (check_yes _ 9 _ 0 (holes_yes past) (check_yes _ 10 0 0 (either_left (not (allows_writing mode)) _ (ap not (sym w) ∙ m)) refl))

      module _ (m : not t ≡ false) (walked : Bool) (a : walked ≡ all (apart_in fw fd v.filetype.extent) (length fw)) where
        -- tiles are in order
        pub tiles_apart : walked ≡ true → r ≡ fault_of 0 Nothing → r ≡ tiles_fault mode v ps fw fd
        unfolding tiles_fault tiles_refusal tile_names
        tiles_apart y q =
            fault_by_law (tile_names v ps fw fd) 0 _ Nothing r q refl
            (check_yes _ 9 _ 0 (holes_yes past) (check_yes _ 10 0 0 (either_right (not (allows_writing mode)) _ (either_left _ _ (sym a ∙ y))) refl))

        -- they are not: i is the first entry that clashes
        module _ (n : walked ≡ false) (i : ℕ) (f : i ≡ least_false (entry_clear (nth fw) (nth fd) v.filetype.extent) (length fw)) where
          pub overlap_found : i < length fw → r ≡ fault_of 10 (FiletypeEntry i) → r ≡ tiles_fault mode v ps fw fd
          unfolding tiles_fault tiles_refusal tile_names
          overlap_found l q =
              fault_by_law (tile_names v ps fw fd) 10 _ _ r q (ap FiletypeEntry f)
              (check_yes _ 9 _ 10 (holes_yes past) (check_no _ 10 0 10 (either_no (not (allows_writing mode)) _ (ap not (sym w) ∙ m) (either_no _ _ (sym a ∙ n) (all_no _ (length fw) i f (λ e. omega (arith, l, e))))) refl))

          pub overlap_none : length fw ≤ i → r ≡ fault_of 0 Nothing → r ≡ tiles_fault mode v ps fw fd
          unfolding tiles_fault tiles_refusal tile_names
          overlap_none l q =
              fault_by_law (tile_names v ps fw fd) 0 _ Nothing r q refl
              (check_yes _ 9 _ 0 (holes_yes past) (check_yes _ 10 0 0 (either_right (not (allows_writing mode)) _ (either_right _ _ (all_yes _ (length fw) i f (omega (arith, l, f, least_false_le (entry_clear (nth fw) (nth fd) v.filetype.extent) (length fw)))))) refl))

-- the hole's group begins at a number that fits
pub hole_begins : (v : Numbers) (fw fd : List ℕ) (h : ℕ) → TilesReady v fw fd → h < v.filetype.instances → length fw < 2 ^ 64 → Fits w64 (h * v.etype.entries)
hole_begins v fw fd h s l b = record { fits = omega (arith, s.groups, mul-le-mul_right {m = h} {n = v.filetype.instances} v.etype.entries (omega arith)) }

-- ---- whole groups, then group by group

module _ (w : View) (fw fd : List ℕ) (mode : ℕ) (r : Fault) where
  pub not_whole : (length fw % w.numbers.etype.entries ≡ 0 → ⊥) → r ≡ fault_of 17 Nothing → r ≡ groups_fault w fw fd mode
  unfolding groups_fault groups_refusal groups_names tile_names
  not_whole h q = fault_by_law (groups_names w fw fd) 17 _ Nothing r q refl (check_no _ 17 _ 17 (ne_eqb _ 0 h) refl)

  module _ (whole : length fw % w.numbers.etype.entries ≡ 0) (f : GroupNumbers) (e : f ≡ first_group_fault w.widths w.displacements w.numbers.etype.entries fw fd) where
    -- the two tests of the deciding group
    abbrev matched : Bool
    matched = group_matches_at w.widths w.displacements w.numbers.etype.entries fw fd (deciding w.widths w.displacements w.numbers.etype.entries fw fd)

    abbrev shifted : Bool
    shifted = origin_at w.widths w.displacements w.numbers.etype.entries fw fd (deciding w.widths w.displacements w.numbers.etype.entries fw fd)

    number_is : f.refusal ≡ check matched 18 (check shifted 19 0)
    unfolding first_group_fault
    number_is = ap (λ x. x.refusal) e

    module _ (q : r ≡ fault_of f.refusal (FiletypeEntry f.entry)) where
      -- 18, or 19 if the group matches
      by_18 : matched ≡ false → r ≡ groups_fault w fw fd mode
      unfolding groups_fault groups_refusal groups_names
      by_18 a =
          let number = number_is ∙ sym (check_no matched 18 (check shifted 19 0) 18 a refl) in
          fault_by_law (groups_names w fw fd) 18 _ _ r (q ∙ ap (λ (n : ℕ). fault_of n (FiletypeEntry f.entry)) number) (ap (λ x. FiletypeEntry x.entry) e) (check_yes _ 17 _ 18 (eq-eqb _ 0 whole) (check_no _ 18 _ 18 a refl))

      by_19 : matched ≡ true → shifted ≡ false → r ≡ groups_fault w fw fd mode
      unfolding groups_fault groups_refusal groups_names
      by_19 a b =
          let number = number_is ∙ sym (check_yes matched 18 (check shifted 19 0) 19 a (check_no shifted 19 0 19 b refl)) in
          fault_by_law (groups_names w fw fd) 19 _ _ r (q ∙ ap (λ (n : ℕ). fault_of n (FiletypeEntry f.entry)) number) (ap (λ x. FiletypeEntry x.entry) e) (check_yes _ 17 _ 19 (eq-eqb _ 0 whole) (check_yes _ 18 _ 19 a (check_no _ 19 _ 19 b refl)))

      pub group_refused : (f.refusal ≡ 0 → ⊥) → r ≡ groups_fault w fw fd mode
      group_refused z = cases matched shifted refl refl
        where
          cases : (a b : Bool) → matched ≡ a → shifted ≡ b → r ≡ groups_fault w fw fd mode
          cases false b p o = by_18 p
          cases true false p o = by_19 p o
          cases true true p o = absurd (z (number_is ∙ check_zero 18 p (check_zero 19 o refl)))

    -- the numbers of checks 9 and 10 name the same in both
    tiles_name : fault_by (tile_names w.numbers w.origins fw fd) (tiles_refusal mode w.numbers w.origins fw fd) ≡ fault_by (groups_names w fw fd) (tiles_refusal mode w.numbers w.origins fw fd)
    unfolding fault_by groups_names tiles_refusal
    tiles_name =
        let f = fault_by (tile_names w.numbers w.origins fw fd) in
        let g = fault_by (groups_names w fw fd) in
        check_step f g _ _ 9 _ _ refl (λ z. refl) (λ z. check_step f g _ _ 10 _ _ refl (λ y. refl) (λ y. refl))

    pub groups_passed : f.refusal ≡ 0 → r ≡ tiles_fault mode w.numbers w.origins fw fd → r ≡ groups_fault w fw fd mode
    unfolding groups_fault groups_refusal tiles_fault
    groups_passed z q =
        let a = check_inv matched 18 (check shifted 19 0) (lit< tt) (sym number_is ∙ z) in
        let b = check_inv shifted 19 0 (lit< tt) a.1 in
        q ∙ tiles_name ∙ ap (fault_by (groups_names w fw fd)) (check_yes _ 17 _ _ (eq-eqb _ 0 whole) (check_yes _ 18 _ _ a.0 (check_yes _ 19 _ _ b.0 refl)))

-- ---- order, then the groups

module _ (w : View) (fw fd : List ℕ) (mode : ℕ) (r : Fault) where
  pub order_fails : (x : Named) → r ≡ fault_of 7 x → x ≡ shape_names w fw fd 7 → also (ordered (nth w.displacements) w.numbers.etype.entries) (ordered (nth fd) (length fd)) ≡ false → r ≡ shapes_fault w fw fd mode
  unfolding shapes_fault shapes_refusal
  order_fails x q n h = fault_by_law (shape_names w fw fd) 7 _ x r q n (check_no _ 7 _ 7 h refl)

  groups_name : fault_by (groups_names w fw fd) (groups_refusal w fw fd mode) ≡ fault_by (shape_names w fw fd) (groups_refusal w fw fd mode)
  unfolding fault_by shape_names groups_refusal tiles_refusal
  groups_name =
      let f = fault_by (groups_names w fw fd) in
      let g = fault_by (shape_names w fw fd) in
      check_step f g _ _ 17 _ _ refl (λ z. refl) (λ z. check_step f g _ _ 18 _ _ refl (λ y. refl) (λ y. check_step f g _ _ 19 _ _ refl (λ x. refl) (λ x. check_step f g _ _ 9 _ _ refl (λ u. refl) (λ u. check_step f g _ _ 10 _ _ refl (λ t. refl) (λ t. refl)))))

  pub order_passed : ordered (nth w.displacements) w.numbers.etype.entries ≡ true → ordered (nth fd) (length fd) ≡ true → r ≡ groups_fault w fw fd mode → r ≡ shapes_fault w fw fd mode
  unfolding shapes_fault shapes_refusal groups_fault
  order_passed a b q = q ∙ groups_name ∙ ap (fault_by (shape_names w fw fd)) (check_yes _ 7 _ _ (also_true a b) refl)

-- ---- what the check looks among at the goals of each function

pub ruleset tiles = (hole_begins, inner_hole, final_hole, overlap_unasked, tiles_apart, overlap_found, overlap_none)

pub ruleset groups = (tiles_ready, not_whole, group_refused, groups_passed)

pub ruleset orders = (etype_falls, etype_names, filetype_falls, filetype_names, etype_ordered, filetype_ordered, order_fails, order_passed)
