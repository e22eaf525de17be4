-- Must be believed. Document 01: a handle, open, and what a granted call changes in a handle.
use Rattle.std.specs.Prelude.{ℕ, cond, eqb}
use Rattle.view.specs.Types.{PaperView, paper}
use Rattle.handle.specs.Handles.{PaperHandle}
use Rattle.file.specs.declared.Handle.{Handle}

-- a handle on paper, and its view
abbrev pub on_paper : Handle → PaperHandle
on_paper h = record { mode = h.mode; pointer = h.pointer; view = paper h.view }

abbrev pub view_of : Handle → PaperView
view_of h = paper h.view

-- an open that names no mode (0) gets 3
unfoldable pub mode_got : ℕ → ℕ
mode_got mode = cond (eqb mode 0) 3 mode

-- the handle with another pointer
unfoldable pub with_pointer : Handle → ℕ → Handle
with_pointer h p = record { mode = h.mode; pointer = p; view = h.view }
