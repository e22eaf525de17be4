-- What the searches of this crate find, and what the flags of checks 3 to 5 say of the lent numbers.
use Rattle.laws.proofs.Prelude.{ℕ, ◌≤◌, ◌<◌, ◌≡◌, refl, sym, ap, ◌∙◌, Bool, true, false, not, cond, ltb, eqb, List, arith, length, get_or, ℤ, pos, w64, SFits, to_z, of_z, to_z-of_z, eqb-true, eq-eqb, ne_eqb, lt-ltb, le-ltb, ltb-true, also, all, least_false, nth, least_false_le, least_false_keeps, least_false_breaks, iff, all_at, ext_get_or, also_inv, unflag_true, unflag_false}
use Rattle.std.specs.Str.{bytes_eq}
use Rattle.std.specs.List.{position, position_or_len, zip}
use Rattle.std.specs.Prelude.{Some, None}
use Rattle.std.proofs.lemmas.Slice.Eq.{bytes_eq-Decides}
use Rattle.std.proofs.lemmas.Slice.Zip.{length-zip, get_or-zip}
use Rattle.std.proofs.lemmas.List.Sums.{position_or_len_is}
use Rattle.view.specs.Limits.{extent_allowed, displacement_allowed}
use borrow.Author.Tests.{ltb-false}
use Rattle.view.specs.declared.Named.TheVariants.{EtypeEntry, FiletypeEntry}
use Rattle.view.specs.Types.{entries, width_at, view_of_lists}
use Rattle.view.specs.Parts.{limits_entry, of_both, named_by}
use Rattle.view.specs.Rules.{native_name, is_native, entry_allowed, entries_allowed}
use Rattle.rule_limits.specs.Parts.{lengths_allowed, signed_entry_fits}
use Rattle.rule_lists.specs.Parts.{type_of_lists}

-- ---- the representation

-- equal bytes, as the library compares two lists
pub native_same : (r : List ℕ) (t : Bool) → t ≡ bytes_eq r native_name → t ≡ is_native r
unfolding is_native native_name also all least_false
native_same r t e = e ∙ iff _ _ (λ h. holds ((bytes_eq-Decides r native_name).0 h)) (λ h. (bytes_eq-Decides r native_name).1 (same h))
  where
    holds : r ≡ native_name → is_native r ≡ true
    holds q = rw q

    same : is_native r ≡ true → r ≡ native_name
    same h = let p = also_inv _ _ h in ext_get_or 0 r native_name (eqb-true (length r) 6 p.0) (λ i l. eqb-true _ _ (all_at (λ k. eqb (nth r k) (nth native_name k)) 6 p.1 i (omega (arith, eqb-true (length r) 6 p.0))))

-- ---- entries: the first that is not allowed, searched in both lists at once

module _ (ws : List ℕ) (ds : List ℤ) (x : ℤ) (pairs : length ds ≡ length ws) where
  abbrev breaks : ℕ × ℤ → Bool
  breaks e = not (signed_entry_fits e.0 e.1)

  zipped : length (zip ws ds) ≡ length ws
  zipped = omega (arith, length-zip ws ds)

  breaks_at : (i : ℕ) → i < length ws → breaks (get_or (zip ws ds) i (0, pos 0)) ≡ not (entry_allowed (type_of_lists ws ds x) i)
  unfolding signed_entry_fits entry_allowed width_at
  breaks_at i l = ap breaks (get_or-zip ws ds i (0, pos 0) l (omega arith))

  place : position_or_len breaks (zip ws ds) ≡ limits_entry (type_of_lists ws ds x)
  unfolding limits_entry entries
  place =
      let t = type_of_lists ws ds x in
      position_or_len_is breaks (zip ws ds) (least_false (entry_allowed t) (length ws)) (0, pos 0)
      (omega (arith, zipped, least_false_le (entry_allowed t) (length ws)))
      (λ k l. breaks_at k (omega (arith, least_false_le (entry_allowed t) (length ws))) ∙ ap not (least_false_keeps (entry_allowed t) (length ws) k l))
      (λ l. let h : least_false (entry_allowed t) (length ws) < length ws = omega (arith, zipped) in breaks_at _ h ∙ ap not (least_false_breaks (entry_allowed t) (length ws) h))

  searched : position breaks (zip ws ds) ≡ cond (ltb (limits_entry (type_of_lists ws ds x)) (length ws)) (Some (limits_entry (type_of_lists ws ds x))) None
  searched = rw (place, zipped)

  pub entry_found : (i : ℕ) → Some i ≡ position breaks (zip ws ds) → (i ≡ limits_entry (type_of_lists ws ds x)) × (i < length ws) × (entries_allowed (type_of_lists ws ds x) ≡ false)
  unfolding entries_allowed all limits_entry entries
  entry_found i e = cases (ltb (limits_entry (type_of_lists ws ds x)) (length ws)) refl
    where
      cases : (b : Bool) → ltb (limits_entry (type_of_lists ws ds x)) (length ws) ≡ b → (i ≡ limits_entry (type_of_lists ws ds x)) × (i < length ws) × (entries_allowed (type_of_lists ws ds x) ≡ false)
      cases true q =
          let f : Some i ≡ Some (limits_entry (type_of_lists ws ds x)) = e ∙ searched ∙ ap (λ b. cond b (Some (limits_entry (type_of_lists ws ds x))) None) q in
          let p : i ≡ limits_entry (type_of_lists ws ds x) = cc in
          let l = ltb-true _ _ q in
          (p, omega (arith, p, l), ne_eqb _ _ (λ z. omega (arith, z, l)))
      cases false q = let f : Some i ≡ None = e ∙ searched ∙ ap (λ b. cond b (Some (limits_entry (type_of_lists ws ds x))) None) q in absurd (cc)

  pub none_found : None ≡ position breaks (zip ws ds) → (entries_allowed (type_of_lists ws ds x) ≡ true) × (length ws ≤ limits_entry (type_of_lists ws ds x))
  unfolding entries_allowed all limits_entry entries
  none_found e = cases (ltb (limits_entry (type_of_lists ws ds x)) (length ws)) refl
    where
      cases : (b : Bool) → ltb (limits_entry (type_of_lists ws ds x)) (length ws) ≡ b → (entries_allowed (type_of_lists ws ds x) ≡ true) × (length ws ≤ limits_entry (type_of_lists ws ds x))
      cases true q = let f : None ≡ Some (limits_entry (type_of_lists ws ds x)) = e ∙ searched ∙ ap (λ b. cond b (Some (limits_entry (type_of_lists ws ds x))) None) q in absurd (cc)
      cases false q = let l = ltb-false _ _ q in (eq-eqb _ _ (omega (arith, l, least_false_le (entry_allowed (type_of_lists ws ds x)) (length ws))), l)

-- ---- the flags of checks 3 to 5

pub displacement_yes : (z : ℤ) (t : Bool) → SFits w64 z → t ≡ displacement_allowed (to_z w64 (of_z w64 z)) → not t ≡ false → displacement_allowed z ≡ true
displacement_yes z t f e n = unflag_true t _ (e ∙ ap displacement_allowed (to_z-of_z f)) n

-- the extents of both types
module _ (x y : ℤ) (t : Bool) (f : SFits w64 x) (g : SFits w64 y) (e : t ≡ also (extent_allowed (to_z w64 (of_z w64 x))) (extent_allowed (to_z w64 (of_z w64 y)))) where
  both : t ≡ also (extent_allowed x) (extent_allowed y)
  both = e ∙ (λ i. also (extent_allowed (to_z-of_z f i)) (extent_allowed (to_z-of_z g i)))

  pub extents_yes : not t ≡ false → also (extent_allowed x) (extent_allowed y) ≡ true
  extents_yes n = unflag_true t _ both n

  pub extents_no : not t ≡ true → also (extent_allowed x) (extent_allowed y) ≡ false
  extents_no n = unflag_false t _ both n

-- what check 6 names
module _ (d : ℤ) (ew : List ℕ) (ed : List ℤ) (ex : ℤ) (fw : List ℕ) (fd : List ℤ) (fx : ℤ) (i : ℕ) where
  pub etype_named : i ≡ limits_entry (type_of_lists ew ed ex) → i < length ew → EtypeEntry i ≡ named_by (view_of_lists d ew ed ex fw fd fx) 6
  unfolding named_by of_both entries
  etype_named e l = rw (sym e, lt-ltb i (length ew) l)

  pub filetype_named : length ew ≤ limits_entry (type_of_lists ew ed ex) → i ≡ limits_entry (type_of_lists fw fd fx) → FiletypeEntry i ≡ named_by (view_of_lists d ew ed ex fw fd fx) 6
  unfolding named_by of_both entries
  filetype_named l e = rw (sym e, le-ltb (limits_entry (type_of_lists ew ed ex)) (length ew) l)

-- the lengths of each type's lists
module _ (a b c d : ℕ) (h : lengths_allowed a b c d ≡ true) where
  pub etype_pairs : b ≡ a
  unfolding lengths_allowed
  etype_pairs = sym (eqb-true a b (also_inv _ _ h).0)

  pub filetype_pairs : d ≡ c
  unfolding lengths_allowed
  filetype_pairs = sym (eqb-true c d (also_inv _ _ (also_inv _ _ h).1).0)
