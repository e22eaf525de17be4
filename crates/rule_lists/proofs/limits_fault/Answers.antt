-- `limits_fault` follows checks 2 to 6 in their order. Assumes nothing.
use Rattle.laws.proofs.Prelude.{refl, sym, ◌∙◌, check_yes, check_no, also_true, also_first, also_false, unflag_true}
use Rattle.view.specs.declared.refusals.Refusal.TheVariants.{Extent, Entry}
use Rattle.view.specs.Parts.{named_by, refusal_number}
use Rattle.rule_lists.specs.Parts.{limits_fault}
use Rattle.rule_lists.proofs.Limiting.{up_to6, chain_begins, from_entries}
use Rattle.rule_lists.proofs.Refusing.{refused_by, granted_by}
use Rattle.rule_lists.proofs.Lending.{displacement_yes, extents_yes, extents_no, entry_found, none_found, etype_named, filetype_named, etype_pairs, filetype_pairs}
use Rattle.rule_lists.proofs.limits_fault.Goals as goal

pub returns-then-not-extents_allowed : goal.returns-then-not-extents_allowed
unfolding limits_fault up_to6 named_by refusal_number
returns-then-not-extents_allowed c =
    refused_by _ _ Extent _ _ _ c.unnamed-then-not-extents_allowed.ensures refl
    (check_yes _ _ _ _ (search unflag_true) (check_yes _ _ _ _ (search displacement_yes) (check_yes _ _ _ _ (search unflag_true)
    (check_no _ _ _ _ (search extents_no) refl))) ∙ chain_begins _ _)

pub returns-in-Some : goal.returns-in-Some
unfolding limits_fault refusal_number
returns-in-Some c =
    let n = sym c.counts_allowed.ensures ∙ c.if-not-counts_allowed.false in
    let f = entry_found _ _ c.args.ex (etype_pairs _ _ _ _ n) _ c.in-Some.ensures in
    refused_by _ _ Entry _ _ _ c.of_etype.ensures (etype_named _ _ _ _ _ _ _ _ f.0 f.1)
    (from_entries _ _ _ (search unflag_true) (search displacement_yes) n (search extents_yes) (check_no _ _ _ _ (also_first _ _ f.2) refl))

pub returns-in-Some-first_not_allowed : goal.returns-in-Some-first_not_allowed
unfolding limits_fault refusal_number
returns-in-Some-first_not_allowed c =
    let n = sym c.counts_allowed.ensures ∙ c.if-not-counts_allowed.false in
    let e = none_found _ _ c.args.ex (etype_pairs _ _ _ _ n) (sym c.in_default.is ∙ c.first_not_allowed.ensures) in
    let f = entry_found _ _ c.args.fx (filetype_pairs _ _ _ _ n) _ c.in-Some-first_not_allowed.ensures in
    refused_by _ _ Entry _ _ _ c.of_filetype.ensures (filetype_named _ _ _ _ _ _ _ _ e.1 f.0)
    (from_entries _ _ _ (search unflag_true) (search displacement_yes) n (search extents_yes) (check_no _ _ _ _ (also_false _ _ f.2) refl))

pub returns : goal.returns
unfolding limits_fault named_by
returns c =
    let n = sym c.counts_allowed.ensures ∙ c.if-not-counts_allowed.false in
    let e = none_found _ _ c.args.ex (etype_pairs _ _ _ _ n) (sym c.in_default.is ∙ c.first_not_allowed.ensures) in
    let f = none_found _ _ c.args.fx (filetype_pairs _ _ _ _ n) (sym c.in_default-first_not_allowed.is ∙ c.first_not_allowed-2.ensures) in
    granted_by _ _ _ _ refl
    (from_entries _ _ _ (search unflag_true) (search displacement_yes) n (search extents_yes) (check_yes _ _ _ _ (also_true e.0 f.0) refl))
