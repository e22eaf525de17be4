-- What a valid view says of the record that holds it: counts, extents and displacements within document 01's limits, and allowed widths.
use Rattle.laws.proofs.Prelude.{ℕ, ◌+◌, ◌≤◌, ◌<◌, ◌≡◌, sym, ap, ◌∙◌, true, arith, nth}
use Rattle.view.specs.declared.View.{View}
use Rattle.view.specs.Limits.{width_allowed}
use Rattle.view.specs.Types.{paper}
use Rattle.view.specs.Acceptance.{Valid}
use Rattle.view.proofs.Paper.{paper_start, paper_entries, paper_width, paper_displacement, paper_instances, paper_origin, paper_file_extent}
use Rattle.view.proofs.Accepted.{Facts, facts, instances_some, instances_few, origin_small}

module _ (v : View) (k : Valid (paper v)) where
  known : Facts (paper v)
  known = facts (paper v) k

  pub start_small : v.numbers.displacement ≤ 1099511627776
  start_small = omega (arith, paper_start v, known.start)

  pub some_entry : 0 < v.numbers.etype.entries
  some_entry = omega (arith, paper_entries v, known.some)

  pub few_entries : v.numbers.etype.entries ≤ 8
  few_entries = omega (arith, paper_entries v, known.few)

  pub record_allowed : (i : ℕ) → i < v.numbers.etype.entries → width_allowed (nth v.widths i) ≡ true
  record_allowed i l = ap width_allowed (sym (paper_width v i l)) ∙ known.allowed i (omega (arith, paper_entries v))

  pub record_entry : (i : ℕ) → i < v.numbers.etype.entries → nth v.displacements i + nth v.widths i ≤ 1048576
  record_entry i l = omega (arith, paper_displacement v i l, paper_width v i l, known.ends i (omega (arith, paper_entries v)))

  pub record_some : 0 < v.numbers.filetype.instances
  record_some = omega (arith, paper_instances v some_entry, instances_some (paper v) known)

  pub record_few : v.numbers.filetype.instances ≤ 64
  record_few = omega (arith, paper_instances v some_entry, instances_few (paper v) known)

  pub record_extent : 0 < v.numbers.filetype.extent
  record_extent = omega (arith, paper_file_extent v, known.file_extent.0)

  pub extent_small : v.numbers.filetype.extent ≤ 1048576
  extent_small = omega (arith, paper_file_extent v, known.file_extent.1)

  pub record_origin : (i : ℕ) → i < v.numbers.filetype.instances → nth v.origins i < 1048576
  record_origin i l = omega (arith, paper_origin v some_entry i l, origin_small (paper v) known i (omega (arith, paper_instances v some_entry)))
