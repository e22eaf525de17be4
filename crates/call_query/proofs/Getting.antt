-- Giving back: what its checks leave for the function that fills the lists, and the lists after it.
use Rattle.laws.proofs.Prelude.{ℕ, ◌≤◌, ◌≡◌, refl, sym, Bool, true, false, not, List, length, ℤ, leb, lit<, leb-true, also, granted, also_inv, check_yes, check_no, check_inv, unflag_true, unflag_false}
use Rattle.view.specs.declared.View.{View}
use Rattle.view.specs.Types.{paper, entries}
use Rattle.view.specs.Acceptance.{Valid}
use Rattle.view.proofs.Held.{few_entries, record_few}
use Rattle.view.proofs.Paper.{paper_entries, paper_file_entries}
use Rattle.view_typemap.specs.Parts.{Ready, TypemapsFilled, widths_filled, displacements_filled}
use Rattle.handle.specs.Parts.{lists_long, paper_handle}
use Rattle.handle.specs.Handles.{PaperHandle, handle_valid}
use Rattle.call_checks.specs.Refusals.{get_view_refusal}
use Rattle.call_checks.proofs.Handles.{held_view}
use Rattle.call_query.specs.Parts.{ListsGot}

-- the lists of a giving back that is granted have room
pub give_ready : (h : PaperHandle) (ew : List ℕ) (ed : List ℤ) (fw : List ℕ) (fd : List ℤ) → get_view_refusal h (length ew) (length ed) (length fw) (length fd) ≡ 0 → Ready h.view ew ed fw fd
unfolding get_view_refusal
give_ready h ew ed fw fd z =
    let c1 = check_inv _ 1 _ (lit< tt) z in
    let a = also_inv _ _ (check_inv _ 13 _ (lit< tt) c1.1).0 in
    let b = also_inv _ _ a.1 in
    let c = also_inv _ _ b.1 in
    record { valid = held_view h c1.0; etype_widths = leb-true _ _ a.0; etype_displacements = leb-true _ _ b.0; filetype_widths = leb-true _ _ c.0; filetype_displacements = leb-true _ _ c.1 }

module _ (mode pointer : ℕ) (v : View) (t : Bool) (k : t ≡ handle_valid (paper_handle mode pointer v)) where
  module _ (n : not t ≡ false) where
    valid : Valid (paper v)
    valid = held_view (paper_handle mode pointer v) (unflag_true t _ k n)

    pub got_entries : v.numbers.etype.entries ≤ 8
    got_entries = few_entries v valid

    pub got_instances : v.numbers.filetype.instances ≤ 64
    got_instances = record_few v valid

  module _ (ew : List ℕ) (ed : List ℤ) (fw : List ℕ) (fd : List ℤ) where
    pub got_handle : not t ≡ true → ListsGot (paper_handle mode pointer v) ew ew ed ed fw fw fd fd 1
    unfolding get_view_refusal widths_filled displacements_filled granted
    got_handle m = record { refusal = check_no _ 1 _ 1 (unflag_false t _ k m) refl; etype_widths = refl; etype_displacements = refl; filetype_widths = refl; filetype_displacements = refl }

    module _ (n : not t ≡ false) (u : Bool) (a : u ≡ lists_long v.numbers.etype.entries v.numbers.filetype.instances (length ew) (length ed) (length fw) (length fd)) where
      -- check 13, on the record
      long : u ≡ also (leb (entries (paper v).etype) (length ew)) (also (leb (entries (paper v).etype) (length ed)) (also (leb (entries (paper v).filetype) (length fw)) (leb (entries (paper v).filetype) (length fd))))
      unfolding lists_long
      long = rw (paper_entries v, paper_file_entries v) a

      pub got_short : not u ≡ true → ListsGot (paper_handle mode pointer v) ew ew ed ed fw fw fd fd 13
      unfolding get_view_refusal widths_filled displacements_filled granted
      got_short m = record { refusal = check_yes _ 1 _ 13 (unflag_true t _ k n) (check_no _ 13 _ 13 (unflag_false u _ long m) refl); etype_widths = refl; etype_displacements = refl; filetype_widths = refl; filetype_displacements = refl }

      module _ (m : not u ≡ false) where
        got_granted : 0 ≡ get_view_refusal (paper_handle mode pointer v) (length ew) (length ed) (length fw) (length fd)
        unfolding get_view_refusal
        got_granted = check_yes _ 1 _ 0 (unflag_true t _ k n) (check_yes _ 13 _ 0 (unflag_true u _ long m) refl)

        pub got_ready : Ready (paper v) ew ed fw fd
        got_ready = give_ready (paper_handle mode pointer v) ew ed fw fd (sym got_granted)

        pub got_filled : (ew' : List ℕ) (ed' : List ℤ) (fw' : List ℕ) (fd' : List ℤ) → TypemapsFilled (paper v) ew ew' ed ed' fw fw' fd fd' → ListsGot (paper_handle mode pointer v) ew ew' ed ed' fw fw' fd fd' 0
        unfolding widths_filled displacements_filled granted
        got_filled ew' ed' fw' fd' g = record { refusal = got_granted; etype_widths = g.etype_widths; etype_displacements = g.etype_displacements; filetype_widths = g.filetype_widths; filetype_displacements = g.filetype_displacements }
