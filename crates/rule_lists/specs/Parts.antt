-- Need not be believed. What the functions of this crate test, part by part.
use Rattle.std.specs.Prelude.{ℕ, cond, List, leb, ℤ}
use Rattle.view.specs.Parts.{Fault, named_by, fault_by}
use Rattle.view.specs.Types.{PaperType, PaperView}
use Rattle.view.specs.Acceptance.{set_refusal}

-- the type that lent lists and an extent are
abbrev pub type_of_lists : List ℕ → List ℤ → ℤ → PaperType
type_of_lists ws ds x = record { widths = ws; displacements = ds; extent = x }

-- checks 2 to 6: the refusal number of a set, of whatever mode, where it is one of these, else 0
unfoldable pub limits_refusal : List ℕ → PaperView → ℕ
limits_refusal representation v = let n = set_refusal 1 representation v in cond (leb n 6) n 0

-- what these answer: the refusal number and what it names
unfoldable pub limits_fault : List ℕ → PaperView → Fault
limits_fault representation v = fault_by (named_by v) (limits_refusal representation v)
