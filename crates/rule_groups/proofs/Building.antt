-- How the record of a view is built of lent lists, and how its groups are tested.
use Rattle.laws.proofs.Prelude.{ℕ, ◌+◌, ◌-◌, ◌*◌, ◌/◌, ◌^◌, ◌≤◌, ◌<◌, ◌≡◌, refl, sym, ap, ◌∙◌, true, false, List, ⊎_elim, arith, div-add-mod', eq-zero-or-pos, zero-mul, length, get_or, replicate, length-replicate, drop, length-drop, ext_get_or, ◌++◌, length_store, front_at, front_past, lt_or_le, get_or-drop, ℤ, pos, mag, w64, to_z, of_z, hbits, to_z-of_z, sfits_of, leb, le-leb, lt-leb, all, least_false, check, nth, front, also_true, also_inv, also_first, also_false, check_yes, check_no, check_zero, Passed, passed_more, passed_stop, passed_holds, all_fails, ends_first, ends_last}
use Rattle.std.proofs.Common.{length-append}
use Rattle.std.proofs.Math.ListN.{get_or-append}
use Rattle.std.proofs.Math.Seq.{get_or-append_right}
use Rattle.view.specs.declared.View.{View}
use Rattle.view.specs.declared.Numbers.{Numbers}
use Rattle.view.specs.Types.{whole}
use Rattle.rule_groups.specs.Parts.{whole_at, matches_at, group_matches_at, origin_at, group_fits, deciding, first_group_fault, GroupsReady, group_origin, view_record, GroupNumbers, Recordable}

-- ---- copies

pub whole_read : (ds : List ℤ) (i d : ℕ) → mag (get_or ds i (pos 0)) < 2 ^ hbits w64 → d ≡ whole (to_z w64 (of_z w64 (get_or ds i (pos 0)))) → d ≡ whole_at ds i
unfolding whole_at
whole_read ds i d m e = e ∙ ap whole (to_z-of_z {w = w64} {z = get_or ds i (pos 0)} (sfits_of m))

-- ---- groups

module _ (n : ℕ) (fw fd : List ℕ) (r : GroupsReady n fw fd) where
  -- the groups make up the filetype
  groups_all : length fw / n * n ≡ length fw
  groups_all = omega (arith, div-add-mod' (length fw) n, r.whole)

  pub ready_groups : 0 < length fw / n
  ready_groups = ⊎_elim (λ z. absurd (omega (arith, r.more, groups_all, ap (λ (x : ℕ). x * n) z, zero-mul n))) (λ p. p) (eq-zero-or-pos (length fw / n))

module _ (ws ds : List ℕ) (n : ℕ) (fw fd : List ℕ) where
  -- the groups before g fit
  module _ (g : ℕ) (s : Passed (group_fits ws ds n fw fd) g (length fw / n)) where
    pub fault_none : 0 < length fw / n → length fw / n ≤ g → ◌≡◌ {A = GroupNumbers} (record { refusal = 0; entry = 0 }) (first_group_fault ws ds n fw fd)
    unfolding first_group_fault deciding group_fits
    fault_none p l =
        let d = ends_last (group_fits ws ds n fw fd) (length fw / n) (λ k b. s.keeps k (omega arith)) in
        let f = also_inv _ _ (s.keeps (length fw / n - 1) (omega arith)) in
        let last = length fw / n - 1 in
        let named : check (group_matches_at ws ds n fw fd last) (last * n + least_false (matches_at ws ds n fw fd last) n) (check (origin_at ws ds n fw fd last) (last * n) 0) ≡ 0 = check_zero _ f.0 (check_zero _ f.1 refl) in
        rw d (λ i. record { refusal = sym (check_zero 18 f.0 (check_zero 19 f.1 refl)) i; entry = sym named i })

    module _ (l : g < length fw / n) where
      pub fault_entry : (e : ℕ) → Passed (matches_at ws ds n fw fd g) e n → e < n → matches_at ws ds n fw fd g e ≡ false → ◌≡◌ {A = GroupNumbers} (record { refusal = 18; entry = g * n + e }) (first_group_fault ws ds n fw fd)
      unfolding first_group_fault deciding group_fits group_matches_at
      fault_entry e m b h =
          let a : all (matches_at ws ds n fw fd g) n ≡ false = all_fails (matches_at ws ds n fw fd g) n e b h in
          let d = ends_first (group_fits ws ds n fw fd) (length fw / n) g s.keeps l (also_first _ _ a) in
          let q = ap (λ (z : ℕ). g * n + z) (passed_stop (matches_at ws ds n fw fd g) e n m b h) in
          let number : 18 ≡ check (all (matches_at ws ds n fw fd g) n) 18 (check (origin_at ws ds n fw fd g) 19 0) = check_no _ 18 _ 18 a refl in
          let named : g * n + e ≡ check (all (matches_at ws ds n fw fd g) n) (g * n + least_false (matches_at ws ds n fw fd g) n) (check (origin_at ws ds n fw fd g) (g * n) 0) = check_no _ _ _ _ a q in
          rw d (λ i. record { refusal = number i; entry = named i })

      module _ (e : ℕ) (m : Passed (matches_at ws ds n fw fd g) e n) (b : n ≤ e) where
        all_match : all (matches_at ws ds n fw fd g) n ≡ true
        all_match = sym (passed_holds (matches_at ws ds n fw fd g) e n m b)

        pub fault_origin : get_or fd (g * n) 0 < get_or ds 0 0 → ◌≡◌ {A = GroupNumbers} (record { refusal = 19; entry = g * n }) (first_group_fault ws ds n fw fd)
        unfolding first_group_fault deciding group_fits group_matches_at origin_at
        fault_origin h =
            let o = lt-leb (get_or ds 0 0) (get_or fd (g * n) 0) h in
            let d = ends_first (group_fits ws ds n fw fd) (length fw / n) g s.keeps l (also_false _ _ o) in
            let number : 19 ≡ check (all (matches_at ws ds n fw fd g) n) 18 (check (leb (get_or ds 0 0) (get_or fd (g * n) 0)) 19 0) = check_yes _ 18 _ 19 all_match (check_no _ 19 0 19 o refl) in
            let named : g * n ≡ check (all (matches_at ws ds n fw fd g) n) (g * n + least_false (matches_at ws ds n fw fd g) n) (check (leb (get_or ds 0 0) (get_or fd (g * n) 0)) (g * n) 0) = check_yes _ _ _ (g * n) all_match (check_no _ (g * n) 0 (g * n) o refl) in
            rw d (λ i. record { refusal = number i; entry = named i })

        pub group_fits_on : get_or ds 0 0 ≤ get_or fd (g * n) 0 → Passed (group_fits ws ds n fw fd) (g + 1) (length fw / n)
        unfolding group_fits group_matches_at origin_at
        group_fits_on h = passed_more _ g (length fw / n) s l (also_true all_match (le-leb _ _ h))

-- what the check looks among at the goals of the search over groups and entries
pub ruleset groups = (passed_more, ready_groups, fault_none, fault_entry, fault_origin)

-- ---- the record

-- a list copied to the front of another
copied : (ws l : List ℕ) → length ws ≤ length l → ws ++ drop (length ws) l ≡ front (nth ws) (length ws) l
copied ws l h =
    ext_get_or 0 (ws ++ drop (length ws) l) (front (nth ws) (length ws) l) (omega (arith, length-append ws (drop (length ws) l), length-drop (length ws) l, length_store (λ i. i) (nth ws) (length ws) l)) same
  where
    same : (i : ℕ) → i < length (ws ++ drop (length ws) l) → nth (ws ++ drop (length ws) l) i ≡ nth (front (nth ws) (length ws) l) i
    same i b =
        ⊎_elim (λ k. get_or-append ws (drop (length ws) l) 0 i k ∙ sym (front_at (nth ws) (length ws) l 0 i k (omega arith)))
        (λ k. get_or-append_right ws (drop (length ws) l) i 0 k ∙ get_or-drop (length ws) l (i - length ws) 0 ∙ ap (λ (n : ℕ). get_or l n 0) (omega arith) ∙ sym (front_past (nth ws) (length ws) l 0 i k)) (lt_or_le i (length ws))

pub view_made : (v : Numbers) (ew : List ℕ) (ed : List ℤ) (fd : List ℕ) → Recordable ew ed fd → (ws ds ps : List ℕ) → ws ≡ ew → ds ≡ front (whole_at ed) (length ed) (replicate 8 0) → ps ≡ front (group_origin fd (length ew) (get_or ds 0 0)) (length fd / length ew) (replicate 64 0) → ◌≡◌ {A = View} (record { numbers = v; widths = ws ++ drop (length ew) (replicate 8 0); displacements = ds; origins = ps }) (view_record v ew ed fd)
unfolding view_record
view_made v ew ed fd r ws ds ps p q o =
    let w : ws ++ drop (length ew) (replicate 8 0) ≡ front (nth ew) (length ew) (replicate 8 0) = rw p (copied ew (replicate 8 0) (omega (arith, r.few, length-replicate {A = ℕ} 8 0))) in
    let s = o ∙ ap (λ (l : List ℕ). front (group_origin fd (length ew) (nth l 0)) (length fd / length ew) (replicate 64 0)) q in
    λ i. record { numbers = v; widths = w i; displacements = q i; origins = s i }
