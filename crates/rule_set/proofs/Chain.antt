-- What checks 2 to 6 say of a set's chain: a refusal of theirs is the chain's, and what passing them leaves.
use Rattle.laws.proofs.Prelude.{ℕ, ◌≡◌, refl, sym, ◌∙◌, true, List, lit<, eqb-true, eq-eqb, check_inv, check_yes, also_inv, also_true}
use Rattle.view.specs.Types.{PaperView, entries}
use Rattle.view.specs.Rules.{is_native, paired}
use Rattle.view.specs.Acceptance.{view_refusal, set_refusal, accepted}
use Rattle.rule_limits.specs.Parts.{lengths_allowed}
use Rattle.rule_lists.specs.Parts.{limits_refusal}
use Rattle.rule_lists.proofs.Limiting.{up_to6, from7, chain_is, limits_pass, chain_begins}
use Rattle.rule_set.specs.Parts.{Limited}

pub limits_refused : (mode : ℕ) (r : List ℕ) (v : PaperView) (k : ℕ) → k ≡ limits_refusal r v → (k ≡ 0 → ⊥) → k ≡ set_refusal mode r v
limits_refused mode r v k e h =
    let q = e ∙ sym (chain_begins r v) in
    q ∙ sym ((limits_pass r v).stops (from7 mode v) (λ z. h (q ∙ z))) ∙ sym (chain_is mode r v)

-- a set that is not refused accepts the view
pub set_accepted : (mode : ℕ) (r : List ℕ) (v : PaperView) → set_refusal mode r v ≡ 0 → accepted mode v ≡ true
unfolding set_refusal accepted
set_accepted mode r v e = eq-eqb _ 0 (check_inv _ _ _ (lit< tt) e).1

-- ---- what checks 2 to 6 leave

module _ (r : List ℕ) (v : PaperView) (k : ℕ) (e : k ≡ limits_refusal r v) (z : k ≡ 0) where
  begins : up_to6 r v 0 ≡ 0
  begins = chain_begins r v ∙ sym e ∙ z

  -- the representation is `native`, so that the later checks decide
  pub limits_granted : (mode : ℕ) → view_refusal mode v ≡ set_refusal mode r v
  unfolding up_to6 set_refusal
  limits_granted mode = check_yes (is_native r) 2 (view_refusal mode v) (view_refusal mode v) (check_inv _ _ _ (lit< tt) begins).0 refl

  pub limited : Limited v
  unfolding up_to6 lengths_allowed
  limited =
      let c2 = check_inv _ _ _ (lit< tt) begins in
      let c3 = check_inv _ _ _ (lit< tt) c2.1 in
      let c4 = check_inv _ _ _ (lit< tt) c3.1 in
      let c5 = check_inv _ _ _ (lit< tt) c4.1 in
      let c6 = check_inv _ _ _ (lit< tt) c5.1 in
      let a = also_inv _ _ c4.0 in
      let b = also_inv _ _ a.1 in
      let c = also_inv _ _ b.1 in
      let x = also_inv _ _ c5.0 in
      let y = also_inv _ _ c6.0 in
      record {
        displacement = c3.0;
        etype_pairs = eqb-true _ _ a.0;
        filetype_pairs = eqb-true _ _ b.0;
        etype_count = c.0;
        filetype_count = c.1;
        etype_extent = x.0;
        filetype_extent = x.1;
        etype_entries = y.0;
        filetype_entries = y.1;
      }

-- and the chain from check 7 on
pub limited_chain : (mode : ℕ) (v : PaperView) → Limited v → from7 mode v ≡ view_refusal mode v
unfolding view_refusal from7 paired entries
limited_chain mode v lim =
    check_yes _ 3 _ _ lim.displacement
    (check_yes _ 4 _ _ (also_true (eq-eqb _ _ lim.etype_pairs) (also_true (eq-eqb _ _ lim.filetype_pairs) (also_true lim.etype_count lim.filetype_count)))
    (check_yes _ 5 _ _ (also_true lim.etype_extent lim.filetype_extent)
    (check_yes _ 6 _ _ (also_true lim.etype_entries lim.filetype_entries) refl)))
