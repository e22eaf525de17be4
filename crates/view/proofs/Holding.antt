-- The record in which an accepted view is held stands for that view, and its unused places are 0.
use Rattle.laws.proofs.Prelude.{ℕ, ◌+◌, ◌/◌, ◌%◌, ◌≤◌, ◌<◌, ◌≡◌, refl, sym, ap, ◌∙◌, true, arith, mod-lt, length, get_or, replicate, length-replicate, get_or-replicate, ℤ, pos, negsuc, eqb-true, nth, front, tabulate, not_both, also_inv, all_at, runs_below, tabulate_is, front_at, front_past}
use Rattle.view.specs.Limits.{displacement_allowed, extent_allowed, entry_displacement_allowed}
use Rattle.view.specs.Types.{PaperType, PaperView, entries, width_at, displacement_at, extent_of, whole, paper}
use Rattle.view.specs.Rules.{paired, entry_allowed, entries_allowed, instances, origin}
use Rattle.view.specs.Parts.{record_of}
use Rattle.view.specs.Acceptance.{accepted}
use Rattle.view.proofs.Accepted.{Rules, rules, Facts, facts, accepted_valid, instances_few}
use Rattle.view.proofs.Groups.{built_entry}

-- a number that is in range is the natural number taken for it
pub displacement_whole : (z : ℤ) → displacement_allowed z ≡ true → pos (whole z) ≡ z
unfolding displacement_allowed whole
displacement_whole (pos d) h = refl
displacement_whole (negsuc d) h = not_both h refl

pub extent_whole : (z : ℤ) → extent_allowed z ≡ true → pos (whole z) ≡ z
unfolding extent_allowed whole
extent_whole (pos x) h = refl
extent_whole (negsuc x) h = not_both h refl

entry_whole : (w : ℕ) (z : ℤ) → entry_displacement_allowed w z ≡ true → pos (whole z) ≡ z
unfolding entry_displacement_allowed whole
entry_whole w (pos d) h = refl
entry_whole w (negsuc d) h = not_both h refl

pub type_whole : (t : PaperType) → entries_allowed t ≡ true → (i : ℕ) → i < entries t → pos (displacement_at t i) ≡ get_or t.displacements i (pos 0)
unfolding entries_allowed entry_allowed displacement_at
type_whole t h i l = entry_whole (width_at t i) (get_or t.displacements i (pos 0)) (also_inv _ _ (all_at _ (entries t) h i l)).1

pub same_length : (t : PaperType) → paired t ≡ true → length t.displacements ≡ entries t
unfolding paired entries
same_length t h = sym (eqb-true (length t.widths) (length t.displacements) h)

-- a held list: the places in use, and 0 in the others
module _ (value : ℕ → ℕ) (n size : ℕ) (le : n ≤ size) where
  pub held_at : (i : ℕ) → i < n → nth (front value n (replicate size 0)) i ≡ value i
  held_at i l = front_at value n (replicate size 0) 0 i l (omega (arith, length-replicate {A = ℕ} size 0))

pub held_past : (value : ℕ → ℕ) (n size i : ℕ) → n ≤ i → i < size → nth (front value n (replicate size 0)) i ≡ 0
held_past value n size i h l = front_past value n (replicate size 0) 0 i h ∙ get_or-replicate size i 0 0 l

pub type_widths : (t : PaperType) (value : ℕ → ℕ) → ((i : ℕ) → i < entries t → value i ≡ width_at t i) → tabulate value (entries t) ≡ t.widths
unfolding entries width_at
type_widths t value e = tabulate_is value (length t.widths) 0 t.widths refl e

type_displacements : (t : PaperType) (value : ℕ → ℕ) → paired t ≡ true → entries_allowed t ≡ true → ((i : ℕ) → i < entries t → value i ≡ displacement_at t i) → tabulate (λ i. pos (value i)) (entries t) ≡ t.displacements
type_displacements t value p a e = tabulate_is (λ i. pos (value i)) (entries t) (pos 0) t.displacements (same_length t p) (λ i l. ap pos (e i l) ∙ type_whole t a i l)

type_extent : (t : PaperType) → extent_allowed t.extent ≡ true → pos (extent_of t) ≡ t.extent
unfolding extent_of
type_extent t h = extent_whole t.extent h

module _ (mode : ℕ) (v : PaperView) (h : accepted mode v ≡ true) where
  r : Rules mode v
  r = rules mode v h

  f : Facts v
  f = facts v (accepted_valid mode v h)

  width_held : (i : ℕ) → i < entries v.etype → nth (front (width_at v.etype) (entries v.etype) (replicate 8 0)) i ≡ width_at v.etype i
  width_held i l = held_at (width_at v.etype) (entries v.etype) 8 f.few i l

  displacement_held : (i : ℕ) → i < entries v.etype → nth (front (displacement_at v.etype) (entries v.etype) (replicate 8 0)) i ≡ displacement_at v.etype i
  displacement_held i l = held_at (displacement_at v.etype) (entries v.etype) 8 f.few i l

  origin_held : (g : ℕ) → g < instances v → nth (front (origin v) (instances v) (replicate 64 0)) g ≡ origin v g
  origin_held g l = held_at (origin v) (instances v) 64 (instances_few v f) g l

  -- entry i of the filetype as the record gives it
  module _ (i : ℕ) (l : i < entries v.filetype) where
    is_built : (width_at v.filetype i ≡ width_at v.etype (i % entries v.etype)) × (displacement_at v.filetype i ≡ displacement_at v.etype (i % entries v.etype) + origin v (i / entries v.etype))
    is_built = built_entry v r.is_built f.some i l

    entry : i % entries v.etype < entries v.etype
    entry = mod-lt i {m = entries v.etype} f.some

    group : i / entries v.etype < instances v
    group = runs_below (instances v) (entries v.etype) i f.some (omega (arith, f.groups))

    file_width : nth (front (width_at v.etype) (entries v.etype) (replicate 8 0)) (i % entries v.etype) ≡ width_at v.filetype i
    file_width = width_held (i % entries v.etype) entry ∙ sym is_built.0

    file_displacement : nth (front (origin v) (instances v) (replicate 64 0)) (i / entries v.etype) + nth (front (displacement_at v.etype) (entries v.etype) (replicate 8 0)) (i % entries v.etype) ≡ displacement_at v.filetype i
    file_displacement = omega (arith, origin_held (i / entries v.etype) group, displacement_held (i % entries v.etype) entry, is_built.1)

  etype_same : (paper (record_of v)).etype ≡ v.etype
  unfolding paper record_of
  etype_same =
      let w = type_widths v.etype (nth (record_of v).widths) width_held in
      let d = type_displacements v.etype (nth (record_of v).displacements) r.etype_paired r.etype_allowed displacement_held in
      let x = type_extent v.etype r.etype_extent in
      λ i. record { widths = w i; displacements = d i; extent = x i }

  filetype_same : (paper (record_of v)).filetype ≡ v.filetype
  unfolding paper record_of
  filetype_same =
      let n = entries v.etype in
      let w = ap (tabulate (λ i. nth (record_of v).widths (i % n))) f.groups ∙ type_widths v.filetype (λ i. nth (record_of v).widths (i % n)) file_width in
      let d = ap (tabulate (λ i. pos (nth (record_of v).origins (i / n) + nth (record_of v).displacements (i % n)))) f.groups ∙ type_displacements v.filetype (λ i. nth (record_of v).origins (i / n) + nth (record_of v).displacements (i % n)) r.filetype_paired r.filetype_allowed file_displacement in
      let x = type_extent v.filetype r.filetype_extent in
      λ i. record { widths = w i; displacements = d i; extent = x i }

  start_same : (paper (record_of v)).displacement ≡ v.displacement
  unfolding paper record_of
  start_same = displacement_whole v.displacement r.displacement

  -- the lent lists entry for entry, both extents and the displacement
  pub record_same : paper (record_of v) ≡ v
  record_same = λ i. record { displacement = start_same i; etype = etype_same i; filetype = filetype_same i }
