-- The view on paper that a view's record stands for, number by number.
use Rattle.laws.proofs.Prelude.{ℕ, ◌+◌, ◌*◌, ◌/◌, ◌%◌, ◌<◌, ◌≡◌, refl, ap, ◌∙◌, arith, mul-div_cancel, mul-mod_left, mod-lt, mul-lt-mul_of_pos_right, get_or, pos, nth, tabulate, runs_below, length_tabulate, tabulate_at, tabulate_same}
use Rattle.view.specs.declared.View.{View}
use Rattle.view.specs.Types.{paper, entries, width_at, displacement_at, extent_of, whole}
use Rattle.view.specs.Parts.{SameView}
use Rattle.view.specs.Rules.{instances, origin}
use Rattle.view.specs.Places.{place}

module _ (v : View) where
  pub paper_entries : entries (paper v).etype ≡ v.numbers.etype.entries
  unfolding paper entries
  paper_entries = length_tabulate _ v.numbers.etype.entries

  pub paper_file_entries : entries (paper v).filetype ≡ v.numbers.filetype.instances * v.numbers.etype.entries
  unfolding paper entries
  paper_file_entries = length_tabulate _ (v.numbers.filetype.instances * v.numbers.etype.entries)

  -- entry i of the etype
  module _ (i : ℕ) (l : i < v.numbers.etype.entries) where
    pub paper_width : width_at (paper v).etype i ≡ nth v.widths i
    unfolding paper width_at
    paper_width = tabulate_at _ v.numbers.etype.entries i 0 l

    pub paper_displacement_read : get_or (paper v).etype.displacements i (pos 0) ≡ pos (nth v.displacements i)
    unfolding paper
    paper_displacement_read = tabulate_at _ v.numbers.etype.entries i (pos 0) l

    pub paper_displacement : displacement_at (paper v).etype i ≡ nth v.displacements i
    unfolding displacement_at whole
    paper_displacement = ap whole paper_displacement_read

  -- entry i of the filetype
  module _ (i : ℕ) (l : i < v.numbers.filetype.instances * v.numbers.etype.entries) where
    pub paper_file_width : width_at (paper v).filetype i ≡ nth v.widths (i % v.numbers.etype.entries)
    unfolding paper width_at
    paper_file_width = tabulate_at _ (v.numbers.filetype.instances * v.numbers.etype.entries) i 0 l

    pub paper_file_displacement_read : get_or (paper v).filetype.displacements i (pos 0) ≡ pos (nth v.origins (i / v.numbers.etype.entries) + nth v.displacements (i % v.numbers.etype.entries))
    unfolding paper
    paper_file_displacement_read = tabulate_at _ (v.numbers.filetype.instances * v.numbers.etype.entries) i (pos 0) l

    pub paper_file_displacement : displacement_at (paper v).filetype i ≡ nth v.origins (i / v.numbers.etype.entries) + nth v.displacements (i % v.numbers.etype.entries)
    unfolding displacement_at whole
    paper_file_displacement = ap whole paper_file_displacement_read

  pub paper_extent : extent_of (paper v).etype ≡ v.numbers.etype.extent
  unfolding paper extent_of whole
  paper_extent = refl

  pub paper_file_extent : extent_of (paper v).filetype ≡ v.numbers.filetype.extent
  unfolding paper extent_of whole
  paper_file_extent = refl

  pub paper_start : whole (paper v).displacement ≡ v.numbers.displacement
  unfolding paper whole
  paper_start = refl

  -- instances, origins and places, where the etype has an entry
  module _ (some : 0 < v.numbers.etype.entries) where
    pub paper_instances : instances (paper v) ≡ v.numbers.filetype.instances
    unfolding instances
    paper_instances = rw (paper_entries, paper_file_entries) (mul-div_cancel v.numbers.filetype.instances some)

    pub paper_origin : (g : ℕ) → g < v.numbers.filetype.instances → origin (paper v) g ≡ nth v.origins g
    unfolding origin
    paper_origin g l =
        let b : g * v.numbers.etype.entries < v.numbers.filetype.instances * v.numbers.etype.entries = mul-lt-mul_of_pos_right l some in
        rw (paper_entries, paper_displacement 0 some, paper_file_displacement (g * v.numbers.etype.entries) b, mul-div_cancel g some, mul-mod_left g v.numbers.etype.entries) (omega arith)

    pub paper_place : 0 < v.numbers.filetype.instances → (o : ℕ) → place (paper v) o ≡ v.numbers.displacement + o / v.numbers.filetype.instances * v.numbers.filetype.extent + nth v.origins (o % v.numbers.filetype.instances)
    unfolding place
    paper_place h o = rw (paper_instances, paper_start, paper_file_extent, paper_origin (o % v.numbers.filetype.instances) (mod-lt o {m = v.numbers.filetype.instances} h))

-- records that agree in the places in use hold the same view: what the other places hold plays no part
module _ (v w : View) (start : v.numbers.displacement ≡ w.numbers.displacement) (count : v.numbers.etype.entries ≡ w.numbers.etype.entries) (more : v.numbers.filetype.instances ≡ w.numbers.filetype.instances) (extent : v.numbers.etype.extent ≡ w.numbers.etype.extent) (file_extent : v.numbers.filetype.extent ≡ w.numbers.filetype.extent) (some : 0 < v.numbers.etype.entries) (ws : (i : ℕ) → i < v.numbers.etype.entries → nth v.widths i ≡ nth w.widths i) (ds : (i : ℕ) → i < v.numbers.etype.entries → nth v.displacements i ≡ nth w.displacements i) (ps : (i : ℕ) → i < v.numbers.filetype.instances → nth v.origins i ≡ nth w.origins i) where
  pub in_use_same : SameView v w
  unfolding SameView paper
  in_use_same =
      let n = v.numbers.etype.entries in
      let k = v.numbers.filetype.instances in
      let a = tabulate_same (λ i. nth v.widths i) (λ i. nth w.widths i) n ws ∙ ap (tabulate (λ i. nth w.widths i)) count in
      let b = tabulate_same (λ i. pos (nth v.displacements i)) (λ i. pos (nth w.displacements i)) n (λ i l. ap pos (ds i l)) ∙ ap (tabulate (λ i. pos (nth w.displacements i))) count in
      let c = tabulate_same (λ i. nth v.widths (i % v.numbers.etype.entries)) (λ i. nth w.widths (i % v.numbers.etype.entries)) (k * n) (λ i l. ws (i % v.numbers.etype.entries) (mod-lt i {m = v.numbers.etype.entries} some)) in
      let d = tabulate_same (λ i. pos (nth v.origins (i / v.numbers.etype.entries) + nth v.displacements (i % v.numbers.etype.entries))) (λ i. pos (nth w.origins (i / v.numbers.etype.entries) + nth w.displacements (i % v.numbers.etype.entries))) (k * n) (λ i l. ap pos (omega (arith, ps (i / v.numbers.etype.entries) (runs_below v.numbers.filetype.instances v.numbers.etype.entries i some l), ds (i % v.numbers.etype.entries) (mod-lt i {m = v.numbers.etype.entries} some)))) in
      let c2 = c ∙ (λ j. tabulate (λ i. nth w.widths (i % count j)) (more j * count j)) in
      let d2 = d ∙ (λ j. tabulate (λ i. pos (nth w.origins (i / count j) + nth w.displacements (i % count j))) (more j * count j)) in
      λ j. record {
        displacement = pos (start j);
        etype = record { widths = a j; displacements = b j; extent = pos (extent j) };
        filetype = record { widths = c2 j; displacements = d2 j; extent = pos (file_extent j) };
      }
