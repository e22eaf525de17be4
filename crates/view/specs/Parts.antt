-- Need not be believed. What computes where a claim has the property: the test of the groups, what a refused set names, the reverse lookup, end of file, a view's record; and what the contracts of inner functions cite.
use Rattle.std.specs.Prelude.{ℕ, ◌+◌, ◌-◌, ◌*◌, ◌/◌, ◌%◌, ◌≤◌, ◌<◌, Bool, cond, not, Option, Some, None, Result, Ok, Err, List, ◌∷◌, ◌≡◌, leb, ltb, eqb, pos, replicate}
use Rattle.laws.specs.Checks.{also, either}
use Rattle.laws.specs.Search.{least_false, all, total}
use Rattle.laws.specs.Lists.{nth}
use Rattle.laws.specs.Parts.{front, greatest}
use Rattle.view.specs.declared.View.{View}
use Rattle.view.specs.declared.refusals.Refusal.{Refusal}
use Rattle.view.specs.declared.refusals.Refusal.TheVariants.{Handle, Representation, Displacement, EntryCount, Extent, Entry, Order, WholeGroups, Group, Origin, Hole, Overlap, Mode, Range, Room, Length, Whence, OpenMode}
use Rattle.view.specs.declared.Refused.{Refused}
use Rattle.view.specs.declared.Named.{Named}
use Rattle.view.specs.declared.Named.TheVariants.{Nothing, EtypeEntry, FiletypeEntry}
use Rattle.view.specs.declared.Pair.{Pair}
use Rattle.view.specs.Limits.{offset_count}
use Rattle.view.specs.Types.{PaperType, PaperView, paper, entries, width_at, displacement_at, extent_of, whole}
use Rattle.view.specs.Rules.{entry_allowed, whole_groups, instances, origin, hole, hole_allowed}
use Rattle.view.specs.Places.{packed_before, data_size, byte_of}

-- ---- numbers of the table of limits, as inner contracts cite them

abbrev pub max_etype_entries : ℕ
max_etype_entries = 8

abbrev pub max_filetype_entries : ℕ
max_filetype_entries = 256

-- how many times the etype's entries a filetype has at most
abbrev pub max_instances : ℕ
max_instances = 64

-- of an entry's displacement plus its width
abbrev pub max_entry_end : ℕ
max_entry_end = 1048576

abbrev pub max_extent : ℕ
max_extent = 1048576

-- 2^40
abbrev pub max_displacement : ℕ
max_displacement = 1099511627776

-- ---- the groups, of which the properties are `IsBuilt`, `FirstDiffering` and `FirstBelow`

-- entry e of group g has the width of the etype's entry e, and the shift of its group's first entry
unfoldable pub entry_matches : PaperView → ℕ → ℕ → Bool
entry_matches v g e =
    let i = g * entries v.etype in
    also (eqb (width_at v.filetype (i + e)) (width_at v.etype e))
    (eqb (displacement_at v.filetype (i + e) + displacement_at v.etype 0) (displacement_at v.filetype i + displacement_at v.etype e))

unfoldable pub group_matches : PaperView → ℕ → Bool
group_matches v g = all (entry_matches v g) (entries v.etype)

-- the origin of group g is at least 0
unfoldable pub origin_allowed : PaperView → ℕ → Bool
origin_allowed v g = leb (displacement_at v.etype 0) (displacement_at v.filetype (g * entries v.etype))

unfoldable pub group_built : PaperView → ℕ → Bool
group_built v g = also (group_matches v g) (origin_allowed v g)

-- the group that decides checks 18 and 19: the first that is not built of the etype, or the last one if all are
unfoldable pub deciding_group : PaperView → ℕ
deciding_group v = least_false (group_built v) (instances v - 1)

-- checks 17, 18 and 19 pass
unfoldable pub built : PaperView → Bool
built v = also (whole_groups v) (also (group_matches v (deciding_group v)) (origin_allowed v (deciding_group v)))

-- ---- overlap, of which the properties are `NoClash` and `BreaksOverlap`

-- tiles in order, which is found in one walk: each entry ends at or before the next one begins, the last one before the first one of the next tile
unfoldable pub next_begins : PaperView → ℕ → ℕ
next_begins v i = cond (ltb (i + 1) (entries v.filetype)) (displacement_at v.filetype (i + 1)) (displacement_at v.filetype 0 + extent_of v.filetype)

unfoldable pub entry_apart : PaperView → ℕ → Bool
entry_apart v i = leb (displacement_at v.filetype i + width_at v.filetype i) (next_begins v i)

unfoldable pub apart : PaperView → Bool
apart v = all (entry_apart v) (entries v.filetype)

-- in a tile of f bytes, w bytes at r end at or before x bytes at s begin, and these before the first ones of the next tile
unfoldable pub ends_before : ℕ → ℕ → ℕ → ℕ → ℕ → Bool
ends_before f r w s x = also (leb (r + w) s) (leb (s + x) (r + f))

-- so no byte of the one clashes with one of the other, whichever comes first
unfoldable pub clear_of : ℕ → ℕ → ℕ → ℕ → ℕ → Bool
clear_of f r w s x = either (ends_before f r w s x) (ends_before f s x r w)

-- of entries with widths w and displacements d, entry i has no byte that clashes with itself or an earlier entry
unfoldable pub entry_clear : (ℕ → ℕ) → (ℕ → ℕ) → ℕ → ℕ → Bool
entry_clear w d f i = also (leb (w i) f) (all (λ k. clear_of f (d k % f) (w k) (d i % f) (w i)) i)

-- no entry of the filetype has
unfoldable pub clear : PaperView → Bool
clear v = all (entry_clear (width_at v.filetype) (displacement_at v.filetype) (extent_of v.filetype)) (entries v.filetype)

-- ---- what a refused set names, of which the property is `Names`

-- 6: the first entry whose width or displacement is not allowed
unfoldable pub limits_entry : PaperType → ℕ
limits_entry t = least_false (entry_allowed t) (entries t)

-- displacement i of d is not above the next one
abbrev pub in_order : (ℕ → ℕ) → ℕ → Bool
in_order d i = leb (d i) (d (i + 1))

-- 7: the first entry that lies below the one before it
unfoldable pub order_entry : PaperType → ℕ
order_entry t = least_false (in_order (displacement_at t)) (entries t - 1) + 1

-- of 6 and 7: the etype's entry, or the filetype's if the etype's is none
unfoldable pub of_both : (PaperType → ℕ) → PaperView → Named
of_both entry v = cond (ltb (entry v.etype) (entries v.etype)) (EtypeEntry (entry v.etype)) (FiletypeEntry (entry v.filetype))

-- 18: the first entry of the deciding group that differs; 19: its first entry
unfoldable pub differing_entry : PaperView → ℕ
differing_entry v = deciding_group v * entries v.etype + least_false (entry_matches v (deciding_group v)) (entries v.etype)

unfoldable pub below_entry : PaperView → ℕ
below_entry v = deciding_group v * entries v.etype

-- 9: of k groups of n entries, m in all, the first entry of the group after hole h, and the last entry for the final hole
unfoldable pub hole_names : ℕ → ℕ → ℕ → ℕ → ℕ
hole_names k n m h = cond (ltb h k) (h * n) (m - 1)

unfoldable pub hole_entry : PaperView → ℕ
hole_entry v = hole_names (instances v) (entries v.etype) (entries v.filetype) (least_false (hole_allowed v) (instances v + 1))

-- 10: the first entry with a byte that clashes with itself or an earlier entry
unfoldable pub overlap_entry : PaperView → ℕ
overlap_entry v = least_false (entry_clear (width_at v.filetype) (displacement_at v.filetype) (extent_of v.filetype)) (entries v.filetype)

-- by the refusal number
unfoldable pub named_by : PaperView → ℕ → Named
named_by v n =
    cond (eqb n 6) (of_both limits_entry v)
    (cond (eqb n 7) (of_both order_entry v)
    (cond (eqb n 18) (FiletypeEntry (differing_entry v))
    (cond (eqb n 19) (FiletypeEntry (below_entry v))
    (cond (eqb n 9) (FiletypeEntry (hole_entry v))
    (cond (eqb n 10) (FiletypeEntry (overlap_entry v))
    Nothing)))))

-- a refusal number and what it names; 0 and nothing where nothing is refused
pub record Fault : Type 0 where
  pub refusal : ℕ
  pub named : Named

abbrev pub fault_of : ℕ → Named → Fault
fault_of n named = record { refusal = n; named = named }

-- refusal number n with what `names` says of it
unfoldable pub fault_by : (ℕ → Named) → ℕ → Fault
fault_by names n = fault_of n (names n)

-- ---- rules over index functions, as they are tested on a record and on lent lists

-- n displacements d never decrease
unfoldable pub ordered : (ℕ → ℕ) → ℕ → Bool
ordered d n = all (in_order d) (n - 1)

-- each hole of k instances with origins p is a multiple of e
unfoldable pub holes_fit : (ℕ → ℕ) → ℕ → ℕ → ℕ → Bool
holes_fit p k e f = all (λ i. eqb (hole p k e f i % e) 0) (k + 1)

-- ---- a view's record

-- two records stand for one view, whatever else they hold
unfoldable pub SameView : View → View → Type 0
SameView v w = paper v ≡ paper w

-- the record of an accepted view; its unused places are 0
unfoldable pub record_of : PaperView → View
record_of v =
    let n = entries v.etype in
    let k = instances v in
    record {
      numbers = record {
        displacement = whole v.displacement;
        etype = record { entries = n; extent = extent_of v.etype };
        filetype = record { instances = k; extent = extent_of v.filetype };
      };
      widths = front (width_at v.etype) n (replicate max_etype_entries 0);
      displacements = front (displacement_at v.etype) n (replicate max_etype_entries 0);
      origins = front (origin v) k (replicate max_instances 0);
    }

-- the default view: displacement 0, both types one entry of width 1 at 0 with extent 1
unfoldable pub default_view : View
default_view = record {
  numbers = record { displacement = 0; etype = record { entries = 1; extent = 1 }; filetype = record { instances = 1; extent = 1 } };
  widths = 1 ∷ replicate (max_etype_entries - 1) 0;
  displacements = replicate max_etype_entries 0;
  origins = replicate max_instances 0;
}

-- ---- the reverse lookup, of which the property is `Answers`: each entry of the filetype is tried

-- where entry i of the filetype begins in the first tile
unfoldable pub entry_start : PaperView → ℕ → ℕ
entry_start v i = whole v.displacement + displacement_at v.filetype i

-- the offset and the index of byte b if it lies in entry i of some tile
unfoldable pub offset_in : PaperView → ℕ → ℕ → ℕ
offset_in v b i = (b - entry_start v i) / extent_of v.filetype * instances v + i / entries v.etype

unfoldable pub index_in : PaperView → ℕ → ℕ → ℕ
index_in v b i = packed_before v.etype (i % entries v.etype) + (b - entry_start v i) % extent_of v.filetype

-- byte b lies in entry i of some tile, at an offset that is allowed
unfoldable pub hits : PaperView → ℕ → ℕ → Bool
hits v b i =
    also (leb (entry_start v i) b)
    (also (ltb ((b - entry_start v i) % extent_of v.filetype) (width_at v.filetype i))
    (ltb (offset_in v b i) offset_count))

-- the first entry in which it lies
unfoldable pub hit_entry : PaperView → ℕ → ℕ
hit_entry v b = least_false (λ i. not (hits v b i)) (entries v.filetype)

unfoldable pub owner_of : PaperView → ℕ → Option Pair
owner_of v b =
    cond (ltb (hit_entry v b) (entries v.filetype))
    (Some (record { offset = record { 0 = pos (offset_in v b (hit_entry v b)) }; index = index_in v b (hit_entry v b) }))
    None

-- ---- end of file, of which the property is `IsEnd`

-- one past the last offset that is instance i of its tile, where instance i of the first tile begins at `start`, and begins below the size; 0 if there is none
unfoldable pub end_from : ℕ → ℕ → ℕ → ℕ → ℕ → ℕ
end_from start size f k i = cond (ltb start size) ((size - start - 1) / f * k + i + 1) 0

-- end of file: the greatest of these over the instances
unfoldable pub end_of_file : PaperView → ℕ → ℕ
end_of_file v size = greatest (λ i. end_from (whole v.displacement + origin v i) size (extent_of v.filetype) (instances v) i) (instances v)

-- ---- what demand 3 rests on

-- different pairs lie at different bytes, whatever the offsets
pub record Distinct (v : PaperView) : Type 0 where
  pub same : (x y j k : ℕ) → j < data_size v → k < data_size v → byte_of v x j ≡ byte_of v y k → (x ≡ y) × (j ≡ k)

-- no entry is wider than F
pub record Narrow (v : PaperView) : Type 0 where
  pub width : (i : ℕ) → i < entries v.etype → width_at v.etype i ≤ extent_of v.filetype

-- ---- what an etype's lists add up to: n entries of widths ws and displacements ds

-- where entry i ends
abbrev pub entry_end : List ℕ → List ℕ → ℕ → ℕ
entry_end ws ds i = nth ds i + nth ws i

-- n entries, each of which ends within the limit
pub record EntriesValid (n : ℕ) (ws ds : List ℕ) : Type 0 where
  pub some : 0 < n
  pub few : n ≤ max_etype_entries
  pub ends : (i : ℕ) → i < n → entry_end ws ds i ≤ max_entry_end

-- how far the entries reach
unfoldable pub reach_of : List ℕ → List ℕ → ℕ → ℕ
reach_of ws ds n = greatest (entry_end ws ds) n

-- n entries, none wider than the limit on an entry's end
pub record WidthsValid (n : ℕ) (ws : List ℕ) : Type 0 where
  pub few : n ≤ max_etype_entries
  pub small : (i : ℕ) → i < n → nth ws i ≤ max_entry_end

-- S
unfoldable pub size_of : ℕ → List ℕ → ℕ
size_of n ws = total (nth ws) n

-- ---- refusals as inner functions answer them: each has its number of documents 01 and 02. The calls of a handle answer these numbers, and their definitions have them

unfoldable pub refusal_number : Refusal → ℕ
refusal_number Handle = 1
refusal_number Representation = 2
refusal_number Displacement = 3
refusal_number EntryCount = 4
refusal_number Extent = 5
refusal_number Entry = 6
refusal_number Order = 7
refusal_number WholeGroups = 17
refusal_number Group = 18
refusal_number Origin = 19
refusal_number Hole = 9
refusal_number Overlap = 10
refusal_number Mode = 11
refusal_number Range = 12
refusal_number Room = 13
refusal_number Length = 14
refusal_number Whence = 15
refusal_number OpenMode = 16

-- the number of an answer that may be a refusal: 0 if it is granted
unfoldable pub refusal_in : {A : Type 0} → Result A Refusal → ℕ
refusal_in (Ok a) = 0
refusal_in (Err r) = refusal_number r

-- a refusal of a set, with what it names
abbrev pub refused_as : Refusal → Named → Refused
refused_as r named = record { refusal = r; named = named }

-- the number and what it names, of an answer that may be a refusal of a set: 0 and nothing if it is granted
unfoldable pub fault_in : {A : Type 0} → Result A Refused → Fault
fault_in (Ok a) = fault_of 0 Nothing
fault_in (Err r) = fault_of (refusal_number r.refusal) r.named
