-- The typemaps that the lists of a valid view's record make are those of the view on paper.
use Rattle.laws.proofs.Prelude.{ℕ, ◌+◌, ◌*◌, ◌≤◌, ◌≡◌, refl, sym, ap, ◌∙◌, List, arith, mod-eq_of_lt, div-eq_of_lt, one-mul, replicate, ℤ, pos, front, run_below, run_div, run_mod, store_same}
use Rattle.view.specs.declared.View.{View}
use Rattle.view.specs.Types.{paper, entries, width_at, displacement_at}
use Rattle.view.specs.Acceptance.{Valid}
use Rattle.view.proofs.Paper.{paper_entries, paper_file_entries, paper_width, paper_displacement, paper_file_width, paper_file_displacement}
use Rattle.view.proofs.Accepted.{facts}
use Rattle.view.proofs.Held.{some_entry, few_entries, record_entry, record_few}
use Rattle.view_typemap.specs.Parts.{group_width, group_displacement, Room, Signed}

-- ---- what the loops ask

module _ (v : View) (valid : Valid (paper v)) where
  pub etype_room : (len : ℕ) → entries (paper v).etype ≤ len → Room v.numbers.etype.entries 1 len
  etype_room len l = record {
    some = some_entry v valid;
    few = few_entries v valid;
    groups = omega arith;
    room = omega (arith, paper_entries v, one-mul v.numbers.etype.entries);
  }

  pub filetype_room : (len : ℕ) → entries (paper v).filetype ≤ len → Room v.numbers.etype.entries v.numbers.filetype.instances len
  filetype_room len l = record {
    some = some_entry v valid;
    few = few_entries v valid;
    groups = record_few v valid;
    room = omega (arith, paper_file_entries v);
  }

  pub etype_signed : Signed (replicate 64 0) v.displacements v.numbers.etype.entries 1
  etype_signed = record {
    small = λ g e lg le.
        let z : g ≡ 0 = omega arith in
        rw z (omega (arith, record_entry v valid e le));
  }

  pub filetype_signed : Signed v.origins v.displacements v.numbers.etype.entries v.numbers.filetype.instances
  filetype_signed = record {
    small = λ g e lg le.
        let n = v.numbers.etype.entries in
        let b = run_below v.numbers.filetype.instances n g e lg le in
        let d = rw (run_div n g e le, run_mod n g e le) at (paper_file_displacement v (g * n + e) b) in
        omega (arith, (facts (paper v) valid).file_ends (g * n + e) (omega (arith, paper_file_entries v)));
  }

-- ---- what they store

module _ (v : View) (valid : Valid (paper v)) where
  pub etype_widths_are : (l l' : List ℕ) → l' ≡ front (group_width v.widths v.numbers.etype.entries) (1 * v.numbers.etype.entries) l → l' ≡ front (width_at (paper v).etype) (entries (paper v).etype) l
  unfolding group_width
  etype_widths_are l l' q =
      rw (paper_entries v) (rw (one-mul v.numbers.etype.entries) at q ∙ store_same _ _ _ _ v.numbers.etype.entries l (λ i h. refl) (λ i h. rw (mod-eq_of_lt h) (sym (paper_width v i h))))

  pub etype_displacements_are : (l l' : List ℤ) → l' ≡ front (group_displacement (replicate 64 0) v.displacements v.numbers.etype.entries) (1 * v.numbers.etype.entries) l → l' ≡ front (λ i. pos (displacement_at (paper v).etype i)) (entries (paper v).etype) l
  unfolding group_displacement
  etype_displacements_are l l' q =
      rw (paper_entries v) (rw (one-mul v.numbers.etype.entries) at q ∙ store_same _ _ _ _ v.numbers.etype.entries l (λ i h. refl) (λ i h. rw (mod-eq_of_lt h, div-eq_of_lt h) (ap pos (omega (arith, paper_displacement v i h)))))

  pub filetype_widths_are : (l l' : List ℕ) → l' ≡ front (group_width v.widths v.numbers.etype.entries) (v.numbers.filetype.instances * v.numbers.etype.entries) l → l' ≡ front (width_at (paper v).filetype) (entries (paper v).filetype) l
  unfolding group_width
  filetype_widths_are l l' q = rw (paper_file_entries v) (q ∙ store_same _ _ _ _ (v.numbers.filetype.instances * v.numbers.etype.entries) l (λ i h. refl) (λ i h. sym (paper_file_width v i h)))

  pub filetype_displacements_are : (l l' : List ℤ) → l' ≡ front (group_displacement v.origins v.displacements v.numbers.etype.entries) (v.numbers.filetype.instances * v.numbers.etype.entries) l → l' ≡ front (λ i. pos (displacement_at (paper v).filetype i)) (entries (paper v).filetype) l
  unfolding group_displacement
  filetype_displacements_are l l' q = rw (paper_file_entries v) (q ∙ store_same _ _ _ _ (v.numbers.filetype.instances * v.numbers.etype.entries) l (λ i h. refl) (λ i h. ap pos (sym (paper_file_displacement v i h))))
