-- Must be believed. Document 01, "Giving the view back fills four lent lists with typemaps equal to those set": a claim about a set and the giving back after it.
use Rattle.std.specs.Prelude.{ℕ, ◌≤◌, List, ◌≡◌, length}
use Rattle.view.specs.Types.{PaperView, Typemaps}
use Rattle.file.specs.declared.Handle.{Handle}
use Rattle.claim_calls.specs.Calls.{ViewSet, IsGot, ViewGot}
use Rattle.claim_view.specs.declared.SetAndGot.{SetAndGot}

-- the lists have room for the view's typemaps
pub record HasRoom (v : PaperView) (lists : Typemaps) : Type 0 where
  pub etype_widths : length v.etype.widths ≤ length lists.etype_widths
  pub etype_displacements : length v.etype.displacements ≤ length lists.etype_displacements
  pub filetype_widths : length v.filetype.widths ≤ length lists.filetype_widths
  pub filetype_displacements : length v.filetype.displacements ≤ length lists.filetype_displacements

-- both calls answer as each does alone, the second through the handle that the first gave back; after a granted set the giving back is granted if the lists have room, and what it gives is what was set
pub record GotAsSet (h : Handle) (representation : List ℕ) (v : PaperView) (before after : Typemaps) (r : SetAndGot) : Type 0 where
  pub first : ViewSet h representation v r.set
  pub second : ViewGot r.set.handle before after r.got
  pub is_granted : r.set.refusal ≡ 0 → HasRoom v before → r.got.refusal ≡ 0
  pub same : r.set.refusal ≡ 0 → r.got.refusal ≡ 0 → IsGot v before after r.got
