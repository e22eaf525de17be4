-- Must be believed. The record of a set, in a trace (docs/trace.md, tag 2), and laid out alike in a script (docs/conformance.md, tag 36; the driver cuts counts to 300): numbers 1, 2 and 3 of the body are the displacement and the extents of etype and filetype,
-- numbers 4 to 7 count four lists, which follow: etype widths and displacements, filetype widths and displacements. The representation stands after them.
use Rattle.std.specs.Prelude.{ℕ, zero, suc, ◌+◌, ◌*◌, min, List, ℤ, drop}
use Rattle.laws.specs.Lists.{tabulate}
use Rattle.view.specs.Types.{PaperView, view_of_lists}
use Rattle.tagged_fields.specs.Numbers.{number_bytes, number_at, signed_at, number_from, signed_from}

-- the length of a list, counted at number i. A count above 8,192 is taken for 8,192: a field's body holds fewer numbers
unfoldable pub list_length : List ℕ → ℕ → ℕ
list_length body i = min (number_at body i) 8192

-- the number at which list k begins, counted at number 4 + k: the first after the counts, each other one where the one before ends. List 4 would begin after them all
unfoldable pub list_start : List ℕ → ℕ → ℕ
list_start body zero = 8
list_start body (suc k) = list_start body k + list_length body (4 + k)

-- list k, of widths or of displacements
unfoldable pub widths_in : List ℕ → ℕ → List ℕ
widths_in body k = tabulate (number_from body (list_start body k)) (list_length body (4 + k))

unfoldable pub displacements_in : List ℕ → ℕ → List ℤ
displacements_in body k = tabulate (signed_from body (list_start body k)) (list_length body (4 + k))

-- the view of four lists, with the displacement and the extents of the body
unfoldable pub body_view : List ℕ → List ℕ → List ℤ → List ℕ → List ℤ → PaperView
body_view body ew ed fw fd = view_of_lists (signed_at body 1) ew ed (signed_at body 2) fw fd (signed_at body 3)

unfoldable pub view_in : List ℕ → PaperView
view_in body = body_view body (widths_in body 0) (displacements_in body 1) (widths_in body 2) (displacements_in body 3)

-- where the lists end, in bytes, and the representation begins; what stands from there on
unfoldable pub lists_end : List ℕ → ℕ
lists_end body = number_bytes * list_start body 4

unfoldable pub representation_in : List ℕ → List ℕ
representation_in body = drop (lists_end body) body
