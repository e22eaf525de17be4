-- Need not be believed. What giving a view back asks of the four lent lists and leaves in them, and what the loops of this crate store: the claim `ViewGot` has the property.
use Rattle.std.specs.Prelude.{ℕ, ◌≤◌, ◌+◌, ◌*◌, ◌/◌, ◌%◌, ◌<◌, List, ◌≡◌, ℤ, pos, length}
use Rattle.laws.specs.Checks.{granted}
use Rattle.laws.specs.Parts.{front}
use Rattle.laws.specs.Lists.{nth}
use Rattle.view.specs.Parts.{max_etype_entries, max_instances}
use Rattle.view.specs.Acceptance.{Valid}
use Rattle.view.specs.Types.{PaperType, PaperView, entries, width_at, displacement_at}

-- the view is valid, and each list is at least as long as its own type's entry count
pub record Ready (v : PaperView) (ew : List ℕ) (ed : List ℤ) (fw : List ℕ) (fd : List ℤ) : Type 0 where
  pub valid : Valid v
  pub etype_widths : entries v.etype ≤ length ew
  pub etype_displacements : entries v.etype ≤ length ed
  pub filetype_widths : entries v.filetype ≤ length fw
  pub filetype_displacements : entries v.filetype ≤ length fd

-- each list, before and after: the type's widths or displacements in front, and what lies after the used places stays
pub record TypemapsFilled (v : PaperView) (ew ew' : List ℕ) (ed ed' : List ℤ) (fw fw' : List ℕ) (fd fd' : List ℤ) : Type 0 where
  pub etype_widths : ew' ≡ front (width_at v.etype) (entries v.etype) ew
  pub etype_displacements : ed' ≡ front (λ i. pos (displacement_at v.etype i)) (entries v.etype) ed
  pub filetype_widths : fw' ≡ front (width_at v.filetype) (entries v.filetype) fw
  pub filetype_displacements : fd' ≡ front (λ i. pos (displacement_at v.filetype i)) (entries v.filetype) fd

-- a lent list of widths, and one of displacements, after a call with refusal number n; what lies after the used places stays
unfoldable pub widths_filled : ℕ → PaperType → List ℕ → List ℕ
widths_filled n t l = granted n (front (width_at t) (entries t) l) l

unfoldable pub displacements_filled : ℕ → PaperType → List ℤ → List ℤ
displacements_filled n t l = granted n (front (λ i. pos (displacement_at t i)) (entries t) l) l

-- ---- on the lists of a view's record

-- entry i of groups of n: entry i mod n of the etype, and its displacement shifted by the origin of group i div n
unfoldable pub group_width : List ℕ → ℕ → ℕ → ℕ
group_width ws n i = nth ws (i % n)

unfoldable pub group_displacement : List ℕ → List ℕ → ℕ → ℕ → ℤ
group_displacement origins ds n i = pos (nth origins (i / n) + nth ds (i % n))

-- k groups of n entries are allowed, and a list of this length has room for them
pub record Room (n k len : ℕ) : Type 0 where
  pub some : 0 < n
  pub few : n ≤ max_etype_entries
  pub groups : k ≤ max_instances
  pub room : k * n ≤ len

-- no shifted displacement is too large for a signed number: each is below 2^63
pub record Signed (origins ds : List ℕ) (n k : ℕ) : Type 0 where
  pub small : (g e : ℕ) → g < k → e < n → nth origins g + nth ds e < 9223372036854775808
