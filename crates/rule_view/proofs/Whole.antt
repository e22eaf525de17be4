-- The tests on the record make up document 01's rules on the view that it stands for.
use Rattle.laws.proofs.Prelude.{ℕ, ◌*◌, ◌≤◌, ◌<◌, ◌≡◌, sym, ap, ◌∙◌, Bool, true, not, ⊎_elim, arith, mul-le-mul_right, le_of_mul-le-mul_right, eq-zero-or-pos, zero-mul, leb, le-leb, leb-true, also, either, within, iff, also_inv, also_true, within_inv, within_yes, run_below}
use Rattle.view.specs.declared.View.{View}
use Rattle.view.specs.Limits.{filetype_entries_allowed, extent_allowed}
use Rattle.view.specs.Types.{paper, entries}
use Rattle.view.specs.Rules.{entries_allowed}
use Rattle.view.specs.Parts.{clear}
use Rattle.view.specs.Acceptance.{accepted}
use Rattle.view.specs.Modes.{allows_writing}
use Rattle.view.proofs.Paper.{paper_entries, paper_file_entries}
use Rattle.view.proofs.Accepted.{rules, rules_accept, spaced}
use Rattle.view.proofs.Clashing.{apart_or_clear}
use Rattle.rule_view.specs.Parts.{etype_accepted, filetype_accepted, shape_apart, view_accepted}
use Rattle.rule_view.proofs.Pieces.{etype_paired, filetype_paired, start_same, counts_same, extent_same, file_extent_same, entries_same, order_same}
use Rattle.rule_view.proofs.Instances.{allowed_reach, apart_same, order_step, reach_allowed, view_built, view_holes_same}

-- ---- entry counts

file_counts : (n k : ℕ) → 0 < n → filetype_entries_allowed n (k * n) ≡ also (within 1 64 k) (leb (k * n) 256)
unfolding filetype_entries_allowed
file_counts n k some = iff _ _ there back
  where
    there : also (within 1 256 (k * n)) (leb (k * n) (64 * n)) ≡ true → also (within 1 64 k) (leb (k * n) 256) ≡ true
    there h =
        let a = also_inv _ _ h in
        let b = within_inv 1 256 (k * n) a.0 in
        let c : k ≤ 64 = le_of_mul-le-mul_right {k = n} (leb-true _ _ a.1) some in
        let d : 1 ≤ k = ⊎_elim (λ z. absurd (omega (arith, b.0, ap (λ (x : ℕ). x * n) z, zero-mul n))) (λ p. p) (eq-zero-or-pos k) in
        also_true (within_yes 1 64 k d c) (le-leb _ _ b.1)

    back : also (within 1 64 k) (leb (k * n) 256) ≡ true → also (within 1 256 (k * n)) (leb (k * n) (64 * n)) ≡ true
    back h =
        let a = also_inv _ _ h in
        let b = within_inv 1 64 k a.0 in
        let c = run_below k n 0 0 (omega (arith, b.0)) some in
        let d : 1 ≤ k * n = omega arith in
        also_true (within_yes 1 256 (k * n) d (leb-true _ _ a.1)) (le-leb _ _ (mul-le-mul_right {m = k} {n = 64} n b.1))

-- ---- overlap: tiles in order, or no bytes that clash

overlap_same : (v : View) → 0 < v.numbers.etype.entries → 0 < v.numbers.filetype.instances → extent_allowed (paper v).filetype.extent ≡ true → entries_allowed (paper v).filetype ≡ true → either (shape_apart v) (clear (paper v)) ≡ clear (paper v)
overlap_same v some more x a =
    let n : 0 < entries (paper v).filetype = rw (paper_file_entries v) (omega (arith, run_below v.numbers.filetype.instances v.numbers.etype.entries 0 0 more some)) in
    ap (λ (z : Bool). either z (clear (paper v))) (sym (apart_same v some more)) ∙ apart_or_clear (paper v) (spaced (paper v) x a) n

-- ---- the whole

module _ (mode : ℕ) (v : View) where
  record_accepted : view_accepted mode v ≡ true → accepted mode (paper v) ≡ true
  unfolding view_accepted etype_accepted filetype_accepted
  record_accepted h =
      let a = also_inv _ _ h in
      let b = also_inv _ _ a.1 in
      let e1 = also_inv _ _ b.0 in
      let e2 = also_inv _ _ e1.1 in
      let e3 = also_inv _ _ e2.1 in
      let c = also_inv _ _ b.1 in
      let f1 = also_inv _ _ c.0 in
      let f2 = also_inv _ _ f1.1 in
      let f3 = also_inv _ _ f2.1 in
      let f4 = also_inv _ _ f3.1 in
      let f5 = also_inv _ _ f4.1 in
      let some : 0 < v.numbers.etype.entries = (within_inv 1 8 v.numbers.etype.entries e1.0).0 in
      let more : 0 < v.numbers.filetype.instances = (within_inv 1 64 v.numbers.filetype.instances f1.0).0 in
      rules_accept mode (paper v) (record {
        displacement = start_same v ∙ a.0;
        etype_paired = etype_paired v;
        filetype_paired = filetype_paired v;
        etype_entries = counts_same v ∙ e1.0;
        filetype_entries = rw (paper_entries v, paper_file_entries v) (file_counts v.numbers.etype.entries v.numbers.filetype.instances some ∙ also_true f1.0 f2.0);
        etype_extent = extent_same v ∙ e2.0;
        filetype_extent = file_extent_same v ∙ f3.0;
        etype_allowed = entries_same v ∙ e3.0;
        filetype_allowed = reach_allowed v some more e3.0 f4.0;
        etype_ordered = order_same v ∙ e3.1;
        filetype_ordered = order_step v some more e3.1 ∙ f5.0;
        is_built = view_built v some more;
        holes = view_holes_same v some more ∙ f5.1;
        overlap = sym (ap (λ (x : Bool). either (not (allows_writing mode)) x) (overlap_same v some more (file_extent_same v ∙ f3.0) (reach_allowed v some more e3.0 f4.0))) ∙ c.1;
      })

  accepted_record : accepted mode (paper v) ≡ true → view_accepted mode v ≡ true
  unfolding view_accepted etype_accepted filetype_accepted
  accepted_record h =
      let r = rules mode (paper v) h in
      let e1 = sym (counts_same v) ∙ r.etype_entries in
      let e3 = sym (entries_same v) ∙ r.etype_allowed in
      let o = sym (order_same v) ∙ r.etype_ordered in
      let some : 0 < v.numbers.etype.entries = (within_inv 1 8 v.numbers.etype.entries e1).0 in
      let f = also_inv _ _ (sym (file_counts v.numbers.etype.entries v.numbers.filetype.instances some) ∙ (rw (paper_entries v, paper_file_entries v) at r.filetype_entries)) in
      let more : 0 < v.numbers.filetype.instances = (within_inv 1 64 v.numbers.filetype.instances f.0).0 in
      also_true (sym (start_same v) ∙ r.displacement)
      (also_true (also_true e1 (also_true (sym (extent_same v) ∙ r.etype_extent) (also_true e3 o)))
      (also_true
      (also_true f.0 (also_true f.1 (also_true (sym (file_extent_same v) ∙ r.filetype_extent)
      (also_true (allowed_reach v some more e3 r.filetype_allowed)
      (also_true (sym (order_step v some more o) ∙ r.filetype_ordered) (sym (view_holes_same v some more) ∙ r.holes))))))
      (ap (λ (x : Bool). either (not (allows_writing mode)) x) (overlap_same v some more r.filetype_extent r.filetype_allowed) ∙ r.overlap)))

  pub held_accepted : view_accepted mode v ≡ accepted mode (paper v)
  held_accepted = iff _ _ record_accepted accepted_record

  pub keeps_by : (t : Bool) → t ≡ view_accepted mode v → t ≡ accepted mode (paper v)
  keeps_by t h = h ∙ held_accepted
