-- Giving back: each lent list begins with the list of the view's type, and the rest of it stays.
-- Rests on `give_ready`, that the lists of a granted giving back have room, and on the rules of an accepted view, whose displacements are not negative.
use Rattle.laws.proofs.Prelude.{ℕ, ◌-◌, ◌≤◌, ◌≡◌, refl, sym, ap, ◌∙◌, true, List, arith, length, take, drop, length-drop, ℤ, pos, ext_get_or, get_or-drop, front, front_past, length_store, take_front, check_inv, granted_yes, granted_no}
use Rattle.view.specs.Types.{PaperType, PaperView, Typemaps, entries, width_at, displacement_at, extent_of, whole}
use Rattle.view.specs.Limits.{extent_allowed}
use Rattle.view.specs.Rules.{entries_allowed, paired}
use Rattle.view.proofs.Accepted.{Rules, rules}
use Rattle.view.proofs.Holding.{type_whole, same_length, displacement_whole, extent_whole}
use Rattle.view_typemap.specs.Parts.{Ready, widths_filled, displacements_filled}
use Rattle.handle.specs.Handles.{handle_valid}
use Rattle.call_checks.specs.Refusals.{get_view_refusal}
use Rattle.call_checks.proofs.Handles.{held_accepts}
use Rattle.call_query.proofs.Getting.{give_ready}
use Rattle.file.specs.declared.Handle.{Handle}
use Rattle.file.specs.declared.TypeShape.{TypeShape}
use Rattle.file.specs.declared.GetViewAnswer.{GetViewAnswer}
use Rattle.file.specs.Handles.{on_paper, view_of}
use Rattle.file.specs.Parts.{shape_got, get_view_as, get_view_answer, GetViewDone}
use Rattle.claim_calls.specs.Calls.{IsFilled, IsGot, ViewGot}

-- what is stored at the front of a list leaves the rest
drop_front : {A : Type 0} (d : A) (value : ℕ → A) (n : ℕ) (l : List A) → drop n (front value n l) ≡ drop n l
drop_front d value n l =
    let s = front value n l in
    ext_get_or d (drop n s) (drop n l)
    (length-drop n s ∙ ap (λ (k : ℕ). k - n) (length_store (λ i. i) value n l) ∙ sym (length-drop n l))
    (λ i q. get_or-drop n s i d ∙ front_past value n l d _ (omega arith) ∙ sym (get_or-drop n l i d))

-- ---- a list of widths and one of displacements, after a call that was granted

module _ (t : PaperType) (n : ℕ) (z : n ≡ 0) where
  pub widths_filled_law : (ws ws' : List ℕ) → ws' ≡ widths_filled n t ws → entries t ≤ length ws → IsFilled t.widths ws ws'
  unfolding widths_filled entries width_at
  widths_filled_law ws ws' e l =
      let q = e ∙ granted_yes n _ ws z in
      record {
        got = ap (take (length t.widths)) q ∙ take_front 0 t.widths ws _ l (λ i b. refl);
        rest = ap (drop (length t.widths)) q ∙ drop_front 0 _ (length t.widths) ws;
      }

  pub displacements_filled_law : entries_allowed t ≡ true → paired t ≡ true → (ds ds' : List ℤ) → ds' ≡ displacements_filled n t ds → entries t ≤ length ds → IsFilled t.displacements ds ds'
  unfolding displacements_filled
  displacements_filled_law allowed even ds ds' e l =
      let m = same_length t even in
      let q = e ∙ granted_yes n _ ds z ∙ ap (λ (k : ℕ). front (λ i. pos (displacement_at t i)) k ds) (sym m) in
      record {
        got = ap (take (length t.displacements)) q ∙ take_front (pos 0) t.displacements ds _ (omega arith) (λ i b. type_whole t allowed i (omega arith));
        rest = ap (drop (length t.displacements)) q ∙ drop_front (pos 0) _ (length t.displacements) ds;
      }

-- ---- the claim, of any giving back

-- the shape of a type that keeps its limits
shape_told : (t : PaperType) → extent_allowed t.extent ≡ true → (n : ℕ) → n ≡ 0 → (s : TypeShape) → s ≡ shape_got n t → (s.entries ≡ length t.widths) × (pos s.extent ≡ t.extent)
unfolding shape_got entries extent_of
shape_told t allowed n z s e = (ap (λ x. x.entries) e ∙ granted_yes n _ 0 z, ap pos (ap (λ x. x.extent) e ∙ granted_yes n _ 0 z) ∙ extent_whole t.extent allowed)

module _ (h : Handle) (before after : Typemaps) (r : GetViewAnswer) (g : GetViewDone h before after r) where
  v : PaperView
  v = view_of h

  pub got_number : r.refusal ≡ get_view_refusal (on_paper h) (length before.etype_widths) (length before.etype_displacements) (length before.filetype_widths) (length before.filetype_displacements)
  unfolding get_view_answer get_view_as
  got_number = ap (λ x. x.refusal) g.answer

  -- the answer by its own refusal number
  answer_as_law : r ≡ get_view_as r.refusal h
  unfolding get_view_answer
  answer_as_law = g.answer ∙ ap (λ (n : ℕ). get_view_as n h) (sym got_number)

  module _ (z : r.refusal ≡ 0) where
    ready : Ready v before.etype_widths before.etype_displacements before.filetype_widths before.filetype_displacements
    unfolding v
    ready = give_ready (on_paper h) before.etype_widths before.etype_displacements before.filetype_widths before.filetype_displacements (sym got_number ∙ z)

    valid : handle_valid (on_paper h) ≡ true
    unfolding get_view_refusal
    valid = (check_inv _ 1 _ (omega arith) (sym got_number ∙ z)).0

    keeps : Rules h.mode v
    unfolding v
    keeps = rules h.mode (view_of h) (held_accepts (on_paper h) valid)

    displacement_told : pos r.displacement ≡ v.displacement
    unfolding v get_view_as
    displacement_told = ap pos (ap (λ x. x.displacement) answer_as_law ∙ granted_yes _ _ 0 z) ∙ displacement_whole v.displacement keeps.displacement

    etype_told : (r.etype.entries ≡ length v.etype.widths) × (pos r.etype.extent ≡ v.etype.extent)
    unfolding v get_view_as
    etype_told = shape_told v.etype keeps.etype_extent r.refusal z r.etype (ap (λ x. x.etype) answer_as_law)

    filetype_told : (r.filetype.entries ≡ length v.filetype.widths) × (pos r.filetype.extent ≡ v.filetype.extent)
    unfolding v get_view_as
    filetype_told = shape_told v.filetype keeps.filetype_extent r.refusal z r.filetype (ap (λ x. x.filetype) answer_as_law)

    is_got : IsGot (view_of h) before after r
    unfolding v get_view_as
    is_got = record {
      displacement = displacement_told;
      counts = (etype_told.0, filetype_told.0);
      extents = (etype_told.1, filetype_told.1);
      etype_widths = widths_filled_law v.etype r.refusal z _ _ g.etype_widths ready.etype_widths;
      etype_displacements = displacements_filled_law v.etype r.refusal z keeps.etype_allowed keeps.etype_paired _ _ g.etype_displacements ready.etype_displacements;
      filetype_widths = widths_filled_law v.filetype r.refusal z _ _ g.filetype_widths ready.filetype_widths;
      filetype_displacements = displacements_filled_law v.filetype r.refusal z keeps.filetype_allowed keeps.filetype_paired _ _ g.filetype_displacements ready.filetype_displacements;
    }

  module _ (n : r.refusal ≡ 0 → ⊥) where
    nothing_told : r ≡ record { refusal = r.refusal; count = 0; handle = h; displacement = 0; etype = record { entries = 0; extent = 0 }; filetype = record { entries = 0; extent = 0 } }
    unfolding get_view_as shape_got
    nothing_told = answer_as_law ∙ (λ i. record {
      refusal = r.refusal;
      count = 0;
      handle = h;
      displacement = granted_no r.refusal (whole (view_of h).displacement) 0 n i;
      etype = record { entries = granted_no r.refusal (entries (view_of h).etype) 0 n i; extent = granted_no r.refusal (extent_of (view_of h).etype) 0 n i };
      filetype = record { entries = granted_no r.refusal (entries (view_of h).filetype) 0 n i; extent = granted_no r.refusal (extent_of (view_of h).filetype) 0 n i };
    })

    lists_stay : after ≡ before
    unfolding widths_filled displacements_filled
    lists_stay = λ i. record {
      etype_widths = (g.etype_widths ∙ granted_no _ _ _ n) i;
      etype_displacements = (g.etype_displacements ∙ granted_no _ _ _ n) i;
      filetype_widths = (g.filetype_widths ∙ granted_no _ _ _ n) i;
      filetype_displacements = (g.filetype_displacements ∙ granted_no _ _ _ n) i;
    }

  pub view_got : ViewGot h before after r
  unfolding get_view_as
  view_got = record {
    number = got_number;
    count = ap (λ x. x.count) answer_as_law;
    handle = ap (λ x. x.handle) answer_as_law;
    got = is_got;
    numbers = nothing_told;
    lists = lists_stay;
  }
