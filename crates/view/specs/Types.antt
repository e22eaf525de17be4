-- Must be believed. Document 01, "A type on paper": types and views as lists and numbers, and the ones that a view's record stands for.
use Rattle.std.specs.Prelude.{ℕ, ◌+◌, ◌*◌, ◌/◌, ◌%◌, List, ℤ, pos, negsuc, length, get_or}
use Rattle.laws.specs.Lists.{tabulate, nth}
use Rattle.view.specs.declared.View.{View}

-- a type on paper: a list of widths, a list of signed displacements, and an extent
pub record PaperType : Type 0 where
  pub widths : List ℕ
  pub displacements : List ℤ
  pub extent : ℤ

-- a view on paper: displacement, etype and filetype
pub record PaperView : Type 0 where
  pub displacement : ℤ
  pub etype : PaperType
  pub filetype : PaperType

-- the view of lists and numbers as they are lent to a set: displacement, and widths, displacements and extent of the etype and of the filetype
abbrev pub view_of_lists : ℤ → List ℕ → List ℤ → ℤ → List ℕ → List ℤ → ℤ → PaperView
view_of_lists d ew ed ex fw fd fx = record { displacement = d; etype = record { widths = ew; displacements = ed; extent = ex }; filetype = record { widths = fw; displacements = fd; extent = fx } }

-- the four lists that giving a view back fills: widths and displacements of each type
pub record Typemaps : Type 0 where
  pub etype_widths : List ℕ
  pub etype_displacements : List ℤ
  pub filetype_widths : List ℕ
  pub filetype_displacements : List ℤ

abbrev pub typemaps : List ℕ → List ℤ → List ℕ → List ℤ → Typemaps
typemaps ew ed fw fd = record { etype_widths = ew; etype_displacements = ed; filetype_widths = fw; filetype_displacements = fd }

-- a signed number that is at least 0, as a natural one; the rules ask it of no other
unfoldable pub whole : ℤ → ℕ
whole (pos n) = n
whole (negsuc n) = 0

-- how many entries a type has
unfoldable pub entries : PaperType → ℕ
entries t = length t.widths

-- the width and the displacement of entry i, and the extent
unfoldable pub width_at : PaperType → ℕ → ℕ
width_at t i = nth t.widths i

unfoldable pub displacement_at : PaperType → ℕ → ℕ
displacement_at t i = whole (get_or t.displacements i (pos 0))

unfoldable pub extent_of : PaperType → ℕ
extent_of t = whole t.extent

-- ---- the view that a record stands for: all that is said of a record is said of this, and what its unused places hold plays no part

-- its etype: the places in use
abbrev pub etype_of : View → PaperType
etype_of v = record {
  widths = tabulate (λ i. nth v.widths i) v.numbers.etype.entries;
  displacements = tabulate (λ i. pos (nth v.displacements i)) v.numbers.etype.entries;
  extent = pos v.numbers.etype.extent;
}

-- its filetype: with n entries in the etype, entry i is entry i mod n of the etype, shifted by origin i div n
abbrev pub filetype_of : View → PaperType
filetype_of v =
    let n = v.numbers.etype.entries in
    let k = v.numbers.filetype.instances in
    record {
      widths = tabulate (λ i. nth v.widths (i % n)) (k * n);
      displacements = tabulate (λ i. pos (nth v.origins (i / n) + nth v.displacements (i % n))) (k * n);
      extent = pos v.numbers.filetype.extent;
    }

unfoldable pub paper : View → PaperView
paper v = record { displacement = pos v.numbers.displacement; etype = etype_of v; filetype = filetype_of v }
