-- Must be believed. Document 01, "When a view is accepted": the rules, that of overlap as document 02's order 3 has it. What a set is refused with is in Acceptance.antt.
use Rattle.std.specs.Prelude.{ℕ, zero, suc, ◌+◌, ◌-◌, ◌*◌, ◌/◌, ◌%◌, ◌<◌, Bool, cond, List, [], ◌∷◌, ◌⊎◌, ◌≡◌, leb, ltb, eqb, pos, length, get_or}
use Rattle.laws.specs.Checks.{also}
use Rattle.laws.specs.Search.{all}
use Rattle.laws.specs.Lists.{nth}
use Rattle.view.specs.Limits.{width_allowed, etype_entries_allowed, filetype_entries_allowed, entry_displacement_allowed}
use Rattle.view.specs.Types.{PaperType, PaperView, entries, width_at, displacement_at, extent_of}

-- ---- limits

-- 2: the representation is exactly the six bytes `native`
unfoldable pub native_name : List ℕ
native_name = 110 ∷ 97 ∷ 116 ∷ 105 ∷ 118 ∷ 101 ∷ []

unfoldable pub is_native : List ℕ → Bool
is_native r = also (eqb (length r) 6) (all (λ i. eqb (nth r i) (nth native_name i)) 6)

-- 4: a type's two lists have one length
unfoldable pub paired : PaperType → Bool
paired t = eqb (length t.widths) (length t.displacements)

-- and both entry counts are allowed
abbrev pub counts_allowed : PaperView → Bool
counts_allowed v =
    also (paired v.etype)
    (also (paired v.filetype)
    (also (etype_entries_allowed (entries v.etype))
    (filetype_entries_allowed (entries v.etype) (entries v.filetype))))

-- 6: width and displacement of entry i are allowed
unfoldable pub entry_allowed : PaperType → ℕ → Bool
entry_allowed t i = also (width_allowed (width_at t i)) (entry_displacement_allowed (width_at t i) (get_or t.displacements i (pos 0)))

unfoldable pub entries_allowed : PaperType → Bool
entries_allowed t = all (entry_allowed t) (entries t)

-- ---- Ordered: the displacements never decrease

unfoldable pub type_ordered : PaperType → Bool
type_ordered t = all (λ i. leb (displacement_at t i) (displacement_at t (i + 1))) (entries t - 1)

-- ---- Built of the etype

-- K, how many instances of the etype the filetype has
unfoldable pub instances : PaperView → ℕ
instances v = entries v.filetype / entries v.etype

-- p(i), the origin of instance i: how far its first entry is shifted from the etype's
unfoldable pub origin : PaperView → ℕ → ℕ
origin v i = displacement_at v.filetype (i * entries v.etype) - displacement_at v.etype 0

-- the entry count is a multiple of the etype's
unfoldable pub whole_groups : PaperView → Bool
whole_groups v = eqb (entries v.filetype % entries v.etype) 0

-- the entries fall into k whole groups of n; each group has the etype's widths and the etype's displacements shifted by one number, at least 0
pub record IsBuilt (v : PaperView) : Type 0 where
  pub groups : ℕ
  pub whole_groups_law : groups * entries v.etype ≡ entries v.filetype
  pub shift : ℕ → ℕ
  pub widths : (g e : ℕ) → g < groups → e < entries v.etype → width_at v.filetype (g * entries v.etype + e) ≡ width_at v.etype e
  pub displacements : (g e : ℕ) → g < groups → e < entries v.etype → displacement_at v.filetype (g * entries v.etype + e) ≡ displacement_at v.etype e + shift g

-- ---- Holes: p(0); each p(i+1) - p(i) - E that is positive; F - p(K-1) - E if positive

-- the hole before instance i of k with origins p, and for i = k the last one; 0 where there is none (a difference that is not positive is 0 here)
unfoldable pub hole : (ℕ → ℕ) → ℕ → ℕ → ℕ → ℕ → ℕ
hole p k e f zero = p 0
hole p k e f (suc i) = cond (ltb (suc i) k) (p (suc i)) f - p i - e

-- the hole before instance i is a multiple of E
unfoldable pub hole_allowed : PaperView → ℕ → Bool
hole_allowed v i = eqb (hole (origin v) (instances v) (extent_of v.etype) (extent_of v.filetype) i % extent_of v.etype) 0

-- each hole is
unfoldable pub view_holes_fit : PaperView → Bool
view_holes_fit v = all (hole_allowed v) (instances v + 1)

-- ---- Overlap (document 02, order 3): two different data bytes of the filetype never have places that differ by a multiple of F, zero included

-- p and q differ by a multiple of f, zero included
pub record DifferByMultiple (f p q : ℕ) : Type 0 where
  pub times : ℕ
  pub differ : (p ≡ q + times * f) ⊎ (q ≡ p + times * f)

-- byte a of entry i and byte b of entry k clash: they are different data bytes of the filetype, and their places differ so
pub record Clash (v : PaperView) (i a k b : ℕ) : Type 0 where
  pub first : (i < entries v.filetype) × (a < width_at v.filetype i)
  pub second : (k < entries v.filetype) × (b < width_at v.filetype k)
  pub different : i ≡ k → a ≡ b → ⊥
  pub places : DifferByMultiple (extent_of v.filetype) (displacement_at v.filetype i + a) (displacement_at v.filetype k + b)

-- no two do
pub record NoClash (v : PaperView) : Type 0 where
  pub never : (i a k b : ℕ) → Clash v i a k b → ⊥
