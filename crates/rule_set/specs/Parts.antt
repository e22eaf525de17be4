-- Need not be believed. What acceptance answers, and what the functions of this crate test, part by part: the contract of `accept` is `AcceptedAs`, which the parts make up, and the claim `ViewSet` has the property of a set.
use Rattle.std.specs.Prelude.{ℕ, ◌+◌, ◌-◌, ◌*◌, ◌/◌, ◌%◌, ◌≤◌, ◌<◌, Bool, true, cond, not, Result, Ok, Err, List, ◌≡◌, ltb, eqb, length}
use Rattle.laws.specs.Checks.{granted, also, either, check}
use Rattle.laws.specs.Search.{least_false, all}
use Rattle.laws.specs.Lists.{nth}
use Rattle.view.specs.Parts.{EntriesValid, record_of, named_by, Fault, fault_of, fault_by, hole_names, entry_clear, default_view, max_etype_entries, max_filetype_entries, max_instances, max_entry_end, max_extent, in_order, ordered, holes_fit, entry_end, refusal_number}
use Rattle.view.specs.Limits.{etype_entries_allowed, filetype_entries_allowed, extent_allowed, displacement_allowed}
use Rattle.view.specs.Modes.{allows_writing}
use Rattle.view.specs.Acceptance.{view_refusal, set_refusal}
use Rattle.view.specs.Rules.{entries_allowed}
use Rattle.view.specs.Types.{PaperView, paper}
use Rattle.view.specs.declared.Named.{Named}
use Rattle.view.specs.declared.Named.TheVariants.{Nothing, EtypeEntry, FiletypeEntry}
use Rattle.view.specs.declared.Numbers.{Numbers}
use Rattle.view.specs.declared.View.{View}
use Rattle.rule_entries.specs.Parts.{apart_in, ListsReady}
use Rattle.rule_overlap.specs.Parts.{EntriesReady}
use Rattle.rule_instances.specs.Parts.{hole_fits}
use Rattle.rule_groups.specs.Parts.{group_matches_at, origin_at, deciding, first_group_fault}
use Rattle.view.specs.declared.Refused.{Refused}

-- what acceptance answers: the refusal number, 0 if granted, what it names, and the view
pub record Accepted : Type 0 where
  pub refusal : ℕ
  pub named : Named
  pub view : View

-- the answer of a result; the view is the default one if refused
unfoldable pub accepted_in : Result View Refused → Accepted
accepted_in (Ok v) = record { refusal = 0; named = Nothing; view = v }
accepted_in (Err r) = record { refusal = refusal_number r.refusal; named = r.named; view = default_view }

-- the refusal number, what it names, and the view; the default view if refused
unfoldable pub accept_answer : ℕ → List ℕ → PaperView → Accepted
accept_answer mode representation v =
    let n = set_refusal mode representation v in
    record { refusal = n; named = named_by v n; view = granted n (record_of v) default_view }

-- the unused places of a view's record are 0
pub record UnusedZero (v : View) : Type 0 where
  pub widths : (i : ℕ) → v.numbers.etype.entries ≤ i → i < max_etype_entries → nth v.widths i ≡ 0
  pub displacements : (i : ℕ) → v.numbers.etype.entries ≤ i → i < max_etype_entries → nth v.displacements i ≡ 0
  pub origins : (i : ℕ) → v.numbers.filetype.instances ≤ i → i < max_instances → nth v.origins i ≡ 0

-- the whole answer; where it is granted, the record stands for the lent view, entry for entry, with both extents and the displacement
pub record AcceptedAs (mode : ℕ) (representation : List ℕ) (v : PaperView) (r : Accepted) : Type 0 where
  pub answer : r ≡ accept_answer mode representation v
  pub same : r.refusal ≡ 0 → paper r.view ≡ v
  pub unused : UnusedZero r.view

-- ---- the parts

-- what checks 2 to 6 leave for the later ones
pub record Limited (v : PaperView) : Type 0 where
  pub displacement : displacement_allowed v.displacement ≡ true
  pub etype_pairs : length v.etype.widths ≡ length v.etype.displacements
  pub filetype_pairs : length v.filetype.widths ≡ length v.filetype.displacements
  pub etype_count : etype_entries_allowed (length v.etype.widths) ≡ true
  pub filetype_count : filetype_entries_allowed (length v.etype.widths) (length v.filetype.widths) ≡ true
  pub etype_extent : extent_allowed v.etype.extent ≡ true
  pub filetype_extent : extent_allowed v.filetype.extent ≡ true
  pub etype_entries : entries_allowed v.etype ≡ true
  pub filetype_entries : entries_allowed v.filetype ≡ true

-- checks 9 and 10, on a view's numbers v, its origins ps and the filetype's lists; tiles in order have no bytes that clash
unfoldable pub tiles_refusal : ℕ → Numbers → List ℕ → List ℕ → List ℕ → ℕ
tiles_refusal mode v ps fw fd =
    check (holes_fit (nth ps) v.filetype.instances v.etype.extent v.filetype.extent) 9
    (check (either (not (allows_writing mode)) (either (all (apart_in fw fd v.filetype.extent) (length fw)) (all (entry_clear (nth fw) (nth fd) v.filetype.extent) (length fw)))) 10
    0)

-- the entry that each of the two names
unfoldable pub tile_names : Numbers → List ℕ → List ℕ → List ℕ → ℕ → Named
tile_names v ps fw fd n =
    let k = v.filetype.instances in
    let f = v.filetype.extent in
    cond (eqb n 9) (FiletypeEntry (hole_names k v.etype.entries (length fw) (least_false (hole_fits ps k v.etype.extent f) (k + 1))))
    (cond (eqb n 10) (FiletypeEntry (least_false (entry_clear (nth fw) (nth fd) f) (length fw)))
    Nothing)

unfoldable pub tiles_fault : ℕ → Numbers → List ℕ → List ℕ → List ℕ → Fault
tiles_fault mode v ps fw fd = fault_by (tile_names v ps fw fd) (tiles_refusal mode v ps fw fd)

-- what these ask
pub record TilesReady (v : Numbers) (fw fd : List ℕ) : Type 0 where
  pub some : 0 < v.filetype.instances
  pub few : v.filetype.instances ≤ max_instances
  pub extent : 0 < v.etype.extent
  pub groups : v.filetype.instances * v.etype.entries ≡ length fw
  pub lists : ListsReady fw fd v.filetype.extent
  pub keyed : EntriesReady fw fd v.filetype.extent

-- checks 17, 18, 19, 9 and 10, on the record and the filetype's lists
module _ (w : View) (fw fd : List ℕ) where
  -- the group that decides checks 18 and 19
  abbrev group_matched : Bool
  group_matched = group_matches_at w.widths w.displacements w.numbers.etype.entries fw fd (deciding w.widths w.displacements w.numbers.etype.entries fw fd)

  abbrev origin_shifted : Bool
  origin_shifted = origin_at w.widths w.displacements w.numbers.etype.entries fw fd (deciding w.widths w.displacements w.numbers.etype.entries fw fd)

  unfoldable pub groups_refusal : ℕ → ℕ
  groups_refusal mode =
      check (eqb (length fw % w.numbers.etype.entries) 0) 17
      (check group_matched 18
      (check origin_shifted 19
      (tiles_refusal mode w.numbers w.origins fw fd)))

  unfoldable pub groups_names : ℕ → Named
  groups_names n =
      let group = first_group_fault w.widths w.displacements w.numbers.etype.entries fw fd in
      cond (eqb n 18) (FiletypeEntry group.entry)
      (cond (eqb n 19) (FiletypeEntry group.entry)
      (tile_names w.numbers w.origins fw fd n))

  unfoldable pub groups_fault : ℕ → Fault
  groups_fault mode = fault_by groups_names (groups_refusal mode)

  -- and 7 before them
  unfoldable pub shapes_refusal : ℕ → ℕ
  shapes_refusal mode = check (also (ordered (nth w.displacements) w.numbers.etype.entries) (ordered (nth fd) (length fd))) 7 (groups_refusal mode)

  -- the first entry below the one before it, of the etype or else of the filetype
  unfoldable pub order_names : Named
  order_names =
      let n = w.numbers.etype.entries in
      let i = least_false (in_order (nth w.displacements)) (n - 1) + 1 in
      cond (ltb i n) (EtypeEntry i) (FiletypeEntry (least_false (in_order (nth fd)) (length fd - 1) + 1))

  unfoldable pub shape_names : ℕ → Named
  shape_names n = cond (eqb n 7) order_names (groups_names n)

  unfoldable pub shapes_fault : ℕ → Fault
  shapes_fault mode = fault_by shape_names (shapes_refusal mode)

-- what these ask of the record: limits that checks 2 to 6 leave
pub record ShapesReady (v : View) (fw fd : List ℕ) : Type 0 where
  pub entries : EntriesValid v.numbers.etype.entries v.widths v.displacements
  pub extent : 0 < v.numbers.etype.extent
  pub some : 0 < length fw
  pub pairs : length fd ≡ length fw
  pub groups : v.numbers.filetype.instances ≡ length fd / v.numbers.etype.entries
  pub few : v.numbers.filetype.instances ≤ max_instances
  pub ends : (i : ℕ) → i < length fw → entry_end fw fd i ≤ max_entry_end
  pub file_some : 0 < v.numbers.filetype.extent
  pub file_extent : v.numbers.filetype.extent ≤ max_extent
  pub file_few : length fw ≤ max_filetype_entries
  pub widths : (i : ℕ) → i < length fw → (0 < nth fw i) × (nth fw i < 16)

-- ---- what the parts of `accept` answer; the view is the default one if refused

-- the checks from 7 on of the record w
pub record RecordAccepted (mode : ℕ) (w : View) (fw fd : List ℕ) (r : Accepted) : Type 0 where
  pub fault : fault_of r.refusal r.named ≡ shapes_fault w fw fd mode
  pub view : r.view ≡ granted r.refusal w default_view

-- the checks of the lent view from 7 on, those before being passed
pub record ListsAccepted (mode : ℕ) (v : PaperView) (r : Accepted) : Type 0 where
  pub fault : fault_of r.refusal r.named ≡ fault_by (named_by v) (view_refusal mode v)
  pub view : r.view ≡ granted r.refusal (record_of v) default_view
