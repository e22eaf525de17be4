-- Rules on the etype and on numbers alone, and entries that follow one another.
use Rattle.laws.proofs.Prelude.{ℕ, ◌+◌, ◌-◌, ◌*◌, ◌/◌, ◌%◌, ◌≤◌, ◌<◌, ◌≡◌, refl, sym, ◌∙◌, true, ⊎_elim, arith, mod-lt, leb, eq-eqb, within, all, nth, lt_or_le, all_same, run_below, run_div, run_mod, runs_below, next_in, next_over, times_more, length_tabulate}
use Rattle.view.specs.declared.View.{View}
use Rattle.view.specs.Limits.{etype_entries_allowed, entry_displacement_allowed, extent_allowed, displacement_allowed}
use Rattle.view.specs.Types.{paper, entries}
use Rattle.view.specs.Rules.{paired, entry_allowed, entries_allowed, type_ordered}
use Rattle.view.specs.Parts.{ordered}
use Rattle.view.proofs.Paper.{paper_entries, paper_width, paper_displacement_read, paper_displacement}
use Rattle.rule_limits.specs.Parts.{entry_fits}
use Rattle.rule_entries.specs.Parts.{entry_fits_at}

-- ---- rules that read only the etype, or only numbers

module _ (v : View) where
  pub etype_paired : paired (paper v).etype ≡ true
  unfolding paired paper
  etype_paired = eq-eqb _ _ (length_tabulate _ v.numbers.etype.entries ∙ sym (length_tabulate _ v.numbers.etype.entries))

  pub filetype_paired : paired (paper v).filetype ≡ true
  unfolding paired paper
  filetype_paired = eq-eqb _ _ (length_tabulate _ (v.numbers.filetype.instances * v.numbers.etype.entries) ∙ sym (length_tabulate _ (v.numbers.filetype.instances * v.numbers.etype.entries)))

  pub start_same : displacement_allowed (paper v).displacement ≡ leb v.numbers.displacement 1099511627776
  unfolding displacement_allowed paper
  start_same = refl

  pub counts_same : etype_entries_allowed (entries (paper v).etype) ≡ within 1 8 v.numbers.etype.entries
  unfolding etype_entries_allowed
  counts_same = rw (paper_entries v)

  pub extent_same : extent_allowed (paper v).etype.extent ≡ within 1 1048576 v.numbers.etype.extent
  unfolding extent_allowed paper
  extent_same = refl

  pub file_extent_same : extent_allowed (paper v).filetype.extent ≡ within 1 1048576 v.numbers.filetype.extent
  unfolding extent_allowed paper
  file_extent_same = refl

  pub entries_same : entries_allowed (paper v).etype ≡ all (entry_fits_at v.widths v.displacements) v.numbers.etype.entries
  unfolding entries_allowed entry_allowed entry_fits_at entry_fits entry_displacement_allowed
  entries_same =
      rw (paper_entries v)
      (all_same _ _ v.numbers.etype.entries (λ i l. rw (paper_width v i l, paper_displacement_read v i l)))

  pub order_same : type_ordered (paper v).etype ≡ ordered (nth v.displacements) v.numbers.etype.entries
  unfolding type_ordered ordered
  order_same =
      rw (paper_entries v)
      (all_same _ _ (v.numbers.etype.entries - 1) (λ i l. rw (paper_displacement v i (omega arith), paper_displacement v (i + 1) (omega arith))))

-- ---- entries that follow one another: inside an instance, and from one instance to the next

module _ (p t d : ℕ → ℕ) (n k : ℕ) (some : 0 < n) (more : 0 < k) where
  -- entry i reaches at most to the beginning of entry i + 1
  unfoldable pub Linked : ℕ → Type 0
  Linked i = p (i / n) + t (i % n) ≤ p ((i + 1) / n) + d ((i + 1) % n)

  pub inside : ((i : ℕ) → i < k * n - 1 → Linked i) → (e : ℕ) → e < n - 1 → t e ≤ d (e + 1)
  unfolding Linked
  inside h e l =
      let b = run_below k n 0 (e + 1) more (omega arith) in
      let a = h (0 * n + e) (omega arith) in
      let q : 0 * n + e + 1 ≡ 0 * n + (e + 1) = omega arith in
      omega (arith, rw (q, run_div n 0 e (omega arith), run_mod n 0 e (omega arith), run_div n 0 (e + 1) (omega arith), run_mod n 0 (e + 1) (omega arith)) at a)

  pub across : ((i : ℕ) → i < k * n - 1 → Linked i) → (g : ℕ) → g < k - 1 → p g + t (n - 1) ≤ p (g + 1) + d 0
  unfolding Linked
  across h g l =
      let b = run_below k n (g + 1) 0 (omega arith) some in
      let q : g * n + (n - 1) + 1 ≡ (g + 1) * n + 0 = omega (arith, times_more g n) in
      let a = h (g * n + (n - 1)) (omega arith) in
      rw (q, run_div n g (n - 1) (omega arith), run_mod n g (n - 1) (omega arith), run_div n (g + 1) 0 some, run_mod n (g + 1) 0 some) at a

  pub linked : ((e : ℕ) → e < n - 1 → t e ≤ d (e + 1)) → ((g : ℕ) → g < k - 1 → p g + t (n - 1) ≤ p (g + 1) + d 0) → (i : ℕ) → i < k * n - 1 → Linked i
  unfolding Linked
  linked f h i l = ⊎_elim same next (lt_or_le (i % n + 1) n)
    where
      same : i % n + 1 < n → Linked i
      same q = let r = next_in n i q in rw (r.0, r.1) (omega (arith, f (i % n) (omega arith)))

      next : n ≤ i % n + 1 → Linked i
      next q =
          let e : i % n + 1 ≡ n = omega (arith, mod-lt i {m = n} some) in
          let r = next_over n i some e in
          let b = runs_below k n (i + 1) some (omega arith) in
          let z : i % n ≡ n - 1 = omega arith in
          rw (r.0, r.1, z) (h (i / n) (omega (arith, r.0)))
