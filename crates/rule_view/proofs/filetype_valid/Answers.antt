-- `filetype_valid` follows the definition along its tests; what each call requires follows from the etype's test and those before. Assumes nothing.
use Rattle.laws.proofs.Prelude.{arith, rules, sym, ◌∙◌}
use Rattle.std.proofs.Common.{tests}
use Rattle.std.proofs.lemmas.Grind.{common_steps}
use Rattle.rule_view.proofs.Chains.{etype_entries, etype_extent, etype_some, entries_fit_law, reach_small, last_in, last_small, first_small, reach_origins}
use Rattle.rule_view.proofs.filetype_valid.Goals as goal
use Rattle.rule_view.proofs.filetype_valid.Goals.{then-contains-2, else-contains-2}

pub overflow_sub-last : goal.overflow_sub-last
overflow_sub-last c = etype_some _ c.requires

pub overflow_mul-filetype : goal.overflow_mul-filetype
overflow_mul-filetype c = entries_fit_law _ c.requires _ (search (rules, tests))

pub reach-requires : goal.reach-requires
reach-requires c = etype_entries _ c.requires

pub instances_fit-requires : goal.instances_fit-requires
instances_fit-requires c = (grind (arith, common_steps), reach_small _ c.requires _ c.reach.ensures)

pub bounds-view-last : goal.bounds-view-last
bounds-view-last c = last_in _ c.requires

pub instances_step-requires : goal.instances_step-requires
instances_step-requires c = (
  elim c.if-contains-2.branch [
    | then-contains-2 w ↦ reach_origins _ _ w.reach.result (sym w.instances_fit.ensures ∙ (sym w.value-is ∙ c.if-instances_fit.true)) (grind (arith, common_steps)) (grind (arith, common_steps))
    | else-contains-2 w ↦ absurd (cc)
  ],
  last_small _ c.requires,
  first_small _ c.requires,
)

pub holes_fit-requires : goal.holes_fit-requires
holes_fit-requires c = (grind (arith, common_steps), grind (arith, common_steps), etype_extent _ c.requires)
