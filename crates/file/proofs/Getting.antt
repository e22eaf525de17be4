-- Giving back: the answer, from the refusal number that was found and the lists that were filled.
use Rattle.laws.proofs.Prelude.{ℕ, ◌*◌, ◌≡◌, sym, ◌∙◌, ap, List, arith, mul-le-mul, ℤ, lit<, w64, Fits, granted, check_inv, granted_no}
use Rattle.view.specs.declared.View.{View}
use Rattle.view.specs.declared.refusals.Refusal.{Refusal}
use Rattle.view.specs.Parts.{refusal_in, refusal_number}
use Rattle.view.proofs.Numbered.{refused_some}
use Rattle.view.specs.Types.{typemaps, paper, entries, extent_of, whole}
use Rattle.view.specs.Acceptance.{Valid}
use Rattle.view.proofs.Paper.{paper_entries, paper_file_entries, paper_extent, paper_file_extent, paper_start}
use Rattle.view.proofs.Held.{few_entries, record_few}
use Rattle.view_typemap.specs.Parts.{widths_filled, displacements_filled}
use Rattle.call_checks.specs.Refusals.{get_view_refusal}
use Rattle.call_checks.proofs.Handles.{held_view}
use Rattle.call_query.specs.Parts.{ListsGot}
use Rattle.handle.specs.Handles.{PaperHandle}
use Rattle.file.specs.declared.Handle.{Handle}
use Rattle.file.specs.declared.TypeShape.{TypeShape}
use Rattle.file.specs.declared.GetViewAnswer.{GetViewAnswer}
use Rattle.file.specs.Handles.{on_paper, view_of}
use Rattle.file.specs.Parts.{get_view_as, get_view_answer, shape_got, GetViewDone}

pub entries_fit_law : (v : View) → Valid (paper v) → Fits w64 (v.numbers.filetype.instances * v.numbers.etype.entries)
entries_fit_law v k =
    let m = mul-le-mul {n₁ = v.numbers.filetype.instances} {m₁ = v.numbers.etype.entries} {n₂ = 64} {m₂ = 8} (record_few v k) (few_entries v k) in
    record { fits = omega arith }

-- ---- the answer

module _ (h : Handle) (s f : TypeShape) where
  given_zeros : (n : ℕ) → (n ≡ 0 → ⊥) → (s.entries ≡ 0) × (s.extent ≡ 0) → (f.entries ≡ 0) × (f.extent ≡ 0) → record { refusal = n; count = 0; handle = h; displacement = 0; etype = s; filetype = f } ≡ get_view_as n h
  unfolding get_view_as shape_got
  given_zeros n z a b = λ i. record {
    refusal = n;
    count = 0;
    handle = h;
    displacement = sym (granted_no n (whole (view_of h).displacement) 0 z) i;
    etype = record { entries = (a.0 ∙ sym (granted_no n (entries (view_of h).etype) 0 z)) i; extent = (a.1 ∙ sym (granted_no n (extent_of (view_of h).etype) 0 z)) i };
    filetype = record { entries = (b.0 ∙ sym (granted_no n (entries (view_of h).filetype) 0 z)) i; extent = (b.1 ∙ sym (granted_no n (extent_of (view_of h).filetype) 0 z)) i };
  }

  pub given_none : (e : Refusal) (n : ℕ) → n ≡ refusal_number e → (s.entries ≡ 0) × (s.extent ≡ 0) → (f.entries ≡ 0) × (f.extent ≡ 0) → record { refusal = n; count = 0; handle = h; displacement = 0; etype = s; filetype = f } ≡ get_view_as (refusal_number e) h
  unfolding refusal_in
  given_none e n q a b = ap (λ (x : ℕ). record { refusal = x; count = 0; handle = h; displacement = 0; etype = s; filetype = f }) q ∙ given_zeros (refusal_number e) (refused_some ℕ e) a b

  pub given_view : (s.entries ≡ h.view.numbers.etype.entries) × (s.extent ≡ h.view.numbers.etype.extent) → (f.entries ≡ h.view.numbers.filetype.instances * h.view.numbers.etype.entries) × (f.extent ≡ h.view.numbers.filetype.extent) → record { refusal = 0; count = 0; handle = h; displacement = h.view.numbers.displacement; etype = s; filetype = f } ≡ get_view_as 0 h
  unfolding get_view_as shape_got granted
  given_view a b = λ i. record {
    refusal = 0;
    count = 0;
    handle = h;
    displacement = sym (paper_start h.view) i;
    etype = record { entries = (a.0 ∙ sym (paper_entries h.view)) i; extent = (a.1 ∙ sym (paper_extent h.view)) i };
    filetype = record { entries = (b.0 ∙ sym (paper_file_entries h.view)) i; extent = (b.1 ∙ sym (paper_file_extent h.view)) i };
  }

module _ (h : Handle) (ew ew' : List ℕ) (ed ed' : List ℤ) (fw fw' : List ℕ) (fd fd' : List ℤ) (k : PaperHandle) (l : k ≡ on_paper h) (n : ℕ) (got : ListsGot k ew ew' ed ed' fw fw' fd fd' n) where
  g : ListsGot (on_paper h) ew ew' ed ed' fw fw' fd fd' n
  g = rw l at got

  module _ (z : n ≡ 0) where
    pub give_valid : Valid (paper h.view)
    unfolding get_view_refusal
    give_valid = held_view (on_paper h) (check_inv _ 1 _ (lit< tt) (sym g.refusal ∙ z)).0

  pub gave : (r : GetViewAnswer) → r ≡ get_view_as n h → GetViewDone h (typemaps ew ed fw fd) (typemaps ew' ed' fw' fd') r
  unfolding get_view_answer get_view_as
  gave r q =
      let number : n ≡ r.refusal = sym (ap (λ (z : GetViewAnswer). z.refusal) q) in
      record {
        answer = q ∙ ap (λ (z : ℕ). get_view_as z h) g.refusal;
        etype_widths = g.etype_widths ∙ ap (λ (z : ℕ). widths_filled z (view_of h).etype ew) number;
        etype_displacements = g.etype_displacements ∙ ap (λ (z : ℕ). displacements_filled z (view_of h).etype ed) number;
        filetype_widths = g.filetype_widths ∙ ap (λ (z : ℕ). widths_filled z (view_of h).filetype fw) number;
        filetype_displacements = g.filetype_displacements ∙ ap (λ (z : ℕ). displacements_filled z (view_of h).filetype fd) number;
      }
