-- A set and the giving back after it: the handle of a granted set passes check 1 and has the lent view, and so the lists get what was lent.
-- Rests on the claims about each of the two calls (claim_calls).
use Rattle.laws.proofs.Prelude.{ℕ, ◌≤◌, ◌≡◌, refl, ◌∙◌, subst, List, arith, ℤ, w64, SFits, to_z, of_z, to_z-of_z, le-leb, also_true, check_zero}
use Rattle.view.specs.Types.{PaperView, Typemaps, view_of_lists, entries}
use Rattle.view.proofs.Accepted.{Rules, rules}
use Rattle.view.proofs.Holding.{same_length}
use Rattle.call_checks.specs.Refusals.{get_view_refusal}
use Rattle.file.specs.declared.Handle.{Handle}
use Rattle.file.specs.declared.SetViewAnswer.{SetViewAnswer}
use Rattle.file.specs.declared.GetViewAnswer.{GetViewAnswer}
use Rattle.file.specs.Handles.{on_paper, view_of}
use Rattle.file.specs.Parts.{set_view_answer, GetViewDone}
use Rattle.claim_calls.specs.Calls.{IsGot, ViewGot}
use Rattle.claim_calls.proofs.Setting.{set_accepted, view_is, changed_valid, view_set}
use Rattle.claim_calls.proofs.Giving.{view_got}
use Rattle.claim_view.specs.SetThenGet.{HasRoom, GotAsSet}

module _ (h : Handle) (representation : List ℕ) (v : PaperView) (s : SetViewAnswer) (e : s ≡ set_view_answer h representation v) (before after : Typemaps) (g : GetViewAnswer) (b : GetViewDone s.handle before after g) where
  second : ViewGot s.handle before after g
  second = view_got s.handle before after g b

  module _ (z : s.refusal ≡ 0) where
    keeps : Rules h.mode v
    keeps = rules h.mode v (set_accepted h representation v s e z)

    is : view_of s.handle ≡ v
    is = view_is h representation v s e z

    give_passes : (a b c d : ℕ) → entries v.etype ≤ a → entries v.etype ≤ b → entries v.filetype ≤ c → entries v.filetype ≤ d → get_view_refusal (on_paper s.handle) a b c d ≡ 0
    unfolding get_view_refusal
    give_passes a b c d la lb lc ld =
        check_zero 1 (changed_valid h representation v s e z) (check_zero 13 (rw is (also_true (le-leb _ a la) (also_true (le-leb _ b lb) (also_true (le-leb _ c lc) (le-leb _ d ld))))) refl)

    room_granted : HasRoom v before → g.refusal ≡ 0
    unfolding entries
    room_granted r =
        second.number
        ∙ give_passes _ _ _ _ r.etype_widths (omega (arith, r.etype_displacements, same_length v.etype keeps.etype_paired)) r.filetype_widths (omega (arith, r.filetype_displacements, same_length v.filetype keeps.filetype_paired))

    same_view : g.refusal ≡ 0 → IsGot v before after g
    same_view y = subst (λ (x : PaperView). IsGot x before after g) is (second.got y)

  got_as_set : GotAsSet h representation v before after (record { set = s; got = g })
  got_as_set = record { first = view_set h representation v s e; second = second; is_granted = room_granted; same = same_view }

-- the same, with the signed numbers as the machine reads them
pub claim : (h : Handle) (representation : List ℕ) (d : ℤ) (lw : List ℕ) (ld : List ℤ) (x : ℤ) (mw : List ℕ) (md : List ℤ) (y : ℤ) → SFits w64 d → SFits w64 x → SFits w64 y → (s : SetViewAnswer) → s ≡ set_view_answer h representation (view_of_lists (to_z w64 (of_z w64 d)) lw ld (to_z w64 (of_z w64 x)) mw md (to_z w64 (of_z w64 y))) → (before after : Typemaps) (g : GetViewAnswer) → GetViewDone s.handle before after g → GotAsSet h representation (view_of_lists d lw ld x mw md y) before after (record { set = s; got = g })
claim h representation d lw ld x mw md y sd sx sy s e before after g b =
    got_as_set h representation _ s (rw (to_z-of_z sd, to_z-of_z sx, to_z-of_z sy) at e) before after g b
