-- Must be believed. Document 02, order 1, and for 10 order 3: which entry of which type a refused set names.
use Rattle.std.specs.Prelude.{ℕ, ◌+◌, ◌-◌, ◌*◌, ◌≤◌, ◌<◌, true, false, ◌≢◌, ◌⊎◌, ◌≡◌}
use Rattle.laws.specs.Search.{IsFirst}
use Rattle.view.specs.declared.Named.{Named}
use Rattle.view.specs.declared.Named.TheVariants.{Nothing, EtypeEntry, FiletypeEntry}
use Rattle.view.specs.declared.NamedNumbers.{NamedNumbers}
use Rattle.view.specs.Types.{PaperType, PaperView, entries, width_at, displacement_at}
use Rattle.view.specs.Rules.{entry_allowed, whole_groups, instances, hole_allowed, Clash}

-- the paper's numbers of what is named: type 0 for none, 1 for the etype, 2 for the filetype; the entry, 0 where there is none
unfoldable pub named_numbers : Named → NamedNumbers
named_numbers Nothing = record { kind = 0; entry = 0 }
named_numbers (EtypeEntry i) = record { kind = 1; entry = i }
named_numbers (FiletypeEntry i) = record { kind = 2; entry = i }

-- ---- when entry i breaks a rule

-- 6: its width or displacement is not allowed
abbrev pub BreaksLimits : PaperType → ℕ → Type 0
BreaksLimits t i = entry_allowed t i ≡ false

-- 7: it lies below the entry before it; of the two it is the later
abbrev pub BreaksOrder : PaperType → ℕ → Type 0
BreaksOrder t i = (0 < i) × (displacement_at t i < displacement_at t (i - 1))

-- 18: entry e of group g has another width than the etype's entry e, or another shift than the first entry of its group; a shift may be below 0, so equal differences are written as equal sums
abbrev pub Differs : PaperView → ℕ → ℕ → Type 0
Differs v g e =
    let i = g * entries v.etype in
    (width_at v.filetype (i + e) ≢ width_at v.etype e)
    ⊎ (displacement_at v.filetype (i + e) + displacement_at v.etype 0 ≢ displacement_at v.filetype i + displacement_at v.etype e)

-- 19: the origin of group g, its first entry's shift, is below 0
abbrev pub OriginBelow : PaperView → ℕ → Type 0
OriginBelow v g = displacement_at v.filetype (g * entries v.etype) < displacement_at v.etype 0

-- 9: it is the first entry of the group after a hole that is no multiple of E; a final hole names the last entry
abbrev pub BreaksHoles : PaperView → ℕ → Type 0
BreaksHoles v i =
    ((g : ℕ) × ((g < instances v) × (i ≡ g * entries v.etype) × (hole_allowed v g ≡ false)))
    ⊎ ((i + 1 ≡ entries v.filetype) × (hole_allowed v (instances v) ≡ false))

-- 10: it has a byte a that clashes with itself or an earlier entry
abbrev pub BreaksOverlap : PaperView → ℕ → Type 0
BreaksOverlap v i = (k : ℕ) × ((a : ℕ) × ((b : ℕ) × ((k ≤ i) × Clash v i a k b)))

-- ---- the first entry that breaks a rule

-- of the etype, or, if no entry of the etype breaks it, of the filetype
abbrev pub FirstOfBoth : PaperView → (PaperType → ℕ → Type 0) → NamedNumbers → Type 0
FirstOfBoth v breaks r =
    ((r.kind ≡ 1) × IsFirst (breaks v.etype) (entries v.etype) r.entry)
    ⊎ ((r.kind ≡ 2) × (((k : ℕ) → k < entries v.etype → breaks v.etype k → ⊥) × IsFirst (breaks v.filetype) (entries v.filetype) r.entry))

-- of the filetype
abbrev pub FirstOfFiletype : PaperView → (ℕ → Type 0) → NamedNumbers → Type 0
FirstOfFiletype v breaks r = (r.kind ≡ 2) × IsFirst breaks (entries v.filetype) r.entry

-- group by group: no group before group g differs from the etype or has an origin below 0
pub record BuiltBefore (v : PaperView) (g : ℕ) : Type 0 where
  pub same : (h e : ℕ) → h < g → e < entries v.etype → Differs v h e → ⊥
  pub shifted : (h : ℕ) → h < g → OriginBelow v h → ⊥

-- 18, after 17: the groups are whole, and entry i is the first of its group that differs from the etype's
pub record FirstDiffering (v : PaperView) (i : ℕ) : Type 0 where
  pub group : ℕ
  pub entry : ℕ
  pub number : i ≡ group * entries v.etype + entry
  pub inside : group < instances v
  pub whole : whole_groups v ≡ true
  pub first : IsFirst (Differs v group) (entries v.etype) entry
  pub before : BuiltBefore v group

-- 19, after 18 in a group: entry i is the first of a group that does not differ from the etype, and its origin is below 0
pub record FirstBelow (v : PaperView) (i : ℕ) : Type 0 where
  pub group : ℕ
  pub number : i ≡ group * entries v.etype
  pub inside : group < instances v
  pub whole : whole_groups v ≡ true
  pub below : OriginBelow v group
  pub same : (e : ℕ) → e < entries v.etype → Differs v group e → ⊥
  pub before : BuiltBefore v group

-- what refusal number n of a set names; a granted set, and refusals 1 to 5 and 17, name nothing
pub record Names (v : PaperView) (n : ℕ) (r : NamedNumbers) : Type 0 where
  pub limits : n ≡ 6 → FirstOfBoth v BreaksLimits r
  pub order : n ≡ 7 → FirstOfBoth v BreaksOrder r
  pub differs : n ≡ 18 → (r.kind ≡ 2) × FirstDiffering v r.entry
  pub below : n ≡ 19 → (r.kind ≡ 2) × FirstBelow v r.entry
  pub holes : n ≡ 9 → FirstOfFiletype v (BreaksHoles v) r
  pub overlap : n ≡ 10 → FirstOfFiletype v (BreaksOverlap v) r
  pub nothing : n ≢ 6 → n ≢ 7 → n ≢ 18 → n ≢ 19 → n ≢ 9 → n ≢ 10 → r ≡ named_numbers Nothing
