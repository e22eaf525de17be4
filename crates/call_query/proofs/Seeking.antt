-- Seek: what its offset is added to, and the answer by where the target lies.
use Rattle.laws.proofs.Prelude.{ℕ, ◌≤◌, ◌<◌, ◌≡◌, refl, sym, ap, ◌∙◌, Bool, true, false, not, true≢false, cond, arith, ℤ, pos, ◌+ℤ◌, eqb, w64, SFits, to_z, of_z, to_z-of_z, eq-eqb, ne_eqb, le-leb, lt-leb, check_yes, check_no, cond_yes, cond_no, unflag_true, unflag_false}
use Rattle.std.proofs.Common.{Option, Some, None, Result, Ok, Err}
use Rattle.std.specs.Option.{ok_or}
use Rattle.std.specs.Prelude.{is_some}
use Rattle.std.specs.Option.{unwrap_or}
use Rattle.view.specs.declared.Offset.{Offset}
use Rattle.view.specs.declared.View.{View}
use Rattle.view.specs.declared.refusals.Refusal.{Refusal}
use Rattle.view.specs.declared.refusals.Refusal.TheVariants.{Handle, Whence, Range}
use Rattle.view.specs.Parts.{refusal_in, refusal_number, end_of_file}
use Rattle.view.specs.Types.{paper, whole}
use Rattle.view.specs.Acceptance.{Valid}
use Rattle.view_place.specs.Parts.{end_on}
use Rattle.view_place.proofs.Laid.{end_on_is}
use Rattle.handle.specs.declared.FileRecord.{FileRecord}
use Rattle.handle.specs.Ranges.{target_allowed}
use Rattle.handle.specs.Parts.{target_at, paper_handle}
use Rattle.handle.specs.Handles.{file_valid}
use Rattle.handle.proofs.Ranging.{zero_plus}
use Rattle.call_checks.specs.Refusals.{seek_target, seek_refusal}
use Rattle.call_query.specs.Parts.{base_on, Sought}
use Rattle.call_checks.proofs.Handles.{file_view, file_pointer}

-- ---- the base

module _ (pointer : ℕ) (v : View) (r : FileRecord) (whence : ℕ) where
  pub base_set : whence ≡ 0 → pos 0 ≡ pos (base_on pointer v r whence)
  unfolding base_on
  base_set e = ap pos (cond_yes _ _ _ 0 (eq-eqb whence 0 e) refl)

  pub base_current : whence ≡ 1 → (z : ℤ) → z ≡ pos pointer → z ≡ pos (base_on pointer v r whence)
  unfolding base_on
  base_current e z q = q ∙ ap pos (cond_no _ _ _ _ (ne_eqb whence 0 (λ n. omega (arith, e, n))) (cond_yes _ _ _ _ (eq-eqb whence 1 e) refl))

  pub base_end : (whence ≡ 0 → ⊥) → (whence ≡ 1 → ⊥) → (z : ℤ) → z ≡ pos (end_on v.numbers v.origins r.size) → z ≡ pos (base_on pointer v r whence)
  unfolding base_on
  base_end n m z q = q ∙ ap pos (cond_no _ _ _ _ (ne_eqb whence 0 n) (cond_no _ _ _ _ (ne_eqb whence 1 m) refl))

-- ---- the target

picked : (b c : Bool) (p e : ℕ) (z : ℤ) → cond b z (cond c (pos p +ℤ z) (pos e +ℤ z)) ≡ pos (cond b 0 (cond c p e)) +ℤ z
picked true c p e z = sym (zero_plus z)
picked false true p e z = refl
picked false false p e z = refl

-- whether a target is allowed, by what is made of it
none_is : (b : Bool) (n : ℕ) → None ≡ cond b (Some n) None → b ≡ false
none_is true n e = absurd (true≢false (ap is_some (sym e)))
none_is false n e = refl

some_is : (b : Bool) (n p : ℕ) → Some p ≡ cond b (Some n) None → (b ≡ true) × (p ≡ n)
some_is true n p e = (refl, ap (λ (o : Option ℕ). unwrap_or o 0) e)
some_is false n p e = absurd (true≢false (ap is_some e))

module _ (mode pointer : ℕ) (v : View) (len : ℕ) (r : FileRecord) (t : Bool) (k : t ≡ file_valid (paper_handle mode pointer v) len r) where
  module _ (n : not t ≡ false) where
    passed : file_valid (paper_handle mode pointer v) len r ≡ true
    passed = unflag_true t _ k n

    valid : Valid (paper v)
    valid = file_view (paper_handle mode pointer v) len r passed

    pub seek_pointer : pointer ≤ 4294967296
    seek_pointer = file_pointer (paper_handle mode pointer v) len r passed

  module _ (z : ℤ) (whence : ℕ) where
    target_is : Valid (paper v) → seek_target (paper_handle mode pointer v) r z whence ≡ pos (base_on pointer v r whence) +ℤ z
    unfolding seek_target base_on
    target_is q = rw (end_on_is v q r.size) (picked (eqb whence 0) (eqb whence 1) pointer (end_of_file (paper v) r.size) z)

    -- ---- the answer

    pub seek_handle : not t ≡ true → Sought (paper_handle mode pointer v) len r z whence (Err Handle)
    unfolding seek_refusal refusal_in refusal_number
    seek_handle m = record { refusal = check_no _ 1 _ 1 (unflag_false t _ k m) refl; pointer = tt }

    module _ (n : not t ≡ false) where
      pub seek_whence : 2 < whence → Sought (paper_handle mode pointer v) len r z whence (Err Whence)
      unfolding seek_refusal refusal_in refusal_number
      seek_whence l = record { refusal = check_yes _ 1 _ 15 (passed n) (check_no _ 15 _ 15 (lt-leb whence 2 l) refl); pointer = tt }

      module _ (l : whence ≤ 2) (w : SFits w64 z) (base : Offset) (b : base.0 ≡ pos (base_on pointer v r whence)) (g : Option ℕ) (a : g ≡ target_at (pos (whole base.0) +ℤ to_z w64 (of_z w64 z))) where
        goes : g ≡ target_at (seek_target (paper_handle mode pointer v) r z whence)
        unfolding whole
        goes = a ∙ ap target_at (ap (λ (x : ℤ). pos (whole base.0) +ℤ x) (to_z-of_z w) ∙ ap (λ (x : ℤ). pos (whole x) +ℤ z) b ∙ sym (target_is (valid n)))

        pub seek_range : g ≡ None → Sought (paper_handle mode pointer v) len r z whence (Err Range)
        unfolding seek_refusal refusal_in refusal_number target_at
        seek_range e = record { refusal = check_yes _ 1 _ 12 (passed n) (check_yes _ 15 _ 12 (le-leb whence 2 l) (check_no _ 12 _ 12 (none_is _ _ (sym e ∙ goes)) refl)); pointer = tt }

        pub seek_done : (p : ℕ) → g ≡ Some p → Sought (paper_handle mode pointer v) len r z whence (Ok p)
        unfolding seek_refusal refusal_in refusal_number target_at
        seek_done p e =
            let y = some_is _ _ p (sym e ∙ goes) in
            record { refusal = check_yes _ 1 _ 0 (passed n) (check_yes _ 15 _ 0 (le-leb whence 2 l) (check_yes _ 12 _ 0 y.0 refl)); pointer = y.1 }

      module _ (l : whence ≤ 2) (w : SFits w64 z) (base : Offset) (b : base.0 ≡ pos (base_on pointer v r whence)) where
        pub seek_answered : (g : Option ℕ) → g ≡ target_at (pos (whole base.0) +ℤ to_z w64 (of_z w64 z)) → (a : Result ℕ Refusal) → a ≡ ok_or g Range → Sought (paper_handle mode pointer v) len r z whence a
        seek_answered None e a q = rw q (seek_range l w base b None e refl)
        seek_answered (Some p) e a q = rw q (seek_done l w base b (Some p) e p refl)
