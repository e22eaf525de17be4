-- Need not be believed. What the functions of this crate make and test, part by part: the contract of `rule_set::accept` is `AcceptedAs`, and the proofs there show that the parts make it up.
use Rattle.std.specs.Prelude.{ℕ, ◌+◌, ◌-◌, ◌*◌, ◌/◌, ◌%◌, ◌≤◌, ◌<◌, Bool, Option, Some, None, List, ◌≡◌, leb, eqb, ℤ, pos, length, get_or, replicate}
use Rattle.laws.specs.Checks.{also, check}
use Rattle.laws.specs.Lists.{nth}
use Rattle.laws.specs.Parts.{front}
use Rattle.laws.specs.Search.{least_false, all}
use Rattle.view.specs.declared.View.{View}
use Rattle.view.specs.declared.Numbers.{Numbers}
use Rattle.view.specs.Parts.{max_etype_entries, max_instances, refusal_number}
use Rattle.view.specs.Types.{whole}
use Rattle.rule_groups.specs.declared.GroupFault.{GroupFault}

-- the number of the rule that groups break, 18 or 19, and the entry that it names; 0 and 0 if they break none
pub record GroupNumbers : Type 0 where
  pub refusal : ℕ
  pub entry : ℕ

-- the numbers of an answer
unfoldable pub group_numbers : Option GroupFault → GroupNumbers
group_numbers (Some f) = record { refusal = refusal_number f.refusal; entry = f.entry }
group_numbers None = record { refusal = 0; entry = 0 }

-- displacement i of a list as a natural number
unfoldable pub whole_at : List ℤ → ℕ → ℕ
whole_at ds i = whole (get_or ds i (pos 0))

-- ---- the groups of a filetype of widths fw and displacements fd, over an etype of n widths ws and displacements ds

-- an entry of width w at d is the etype's of width ew at ed, shifted as far as the group's beginning lies from the etype's first entry, which may be below it
unfoldable pub entry_shifted : ℕ → ℕ → ℕ → ℕ → ℕ → ℕ → Bool
entry_shifted w d ew ed begin first = also (eqb w ew) (eqb (d + first) (begin + ed))

module _ (ws ds : List ℕ) (n : ℕ) (fw fd : List ℕ) where
  -- entry e of group g
  unfoldable pub matches_at : ℕ → ℕ → Bool
  matches_at g e = entry_shifted (nth fw (g * n + e)) (nth fd (g * n + e)) (nth ws e) (nth ds e) (nth fd (g * n)) (nth ds 0)

  unfoldable pub group_matches_at : ℕ → Bool
  group_matches_at g = all (matches_at g) n

  unfoldable pub origin_at : ℕ → Bool
  origin_at g = leb (nth ds 0) (nth fd (g * n))

  unfoldable pub group_fits : ℕ → Bool
  group_fits g = also (group_matches_at g) (origin_at g)

  -- the group that decides: the first that does not fit, or the last one if all do
  unfoldable pub deciding : ℕ
  deciding = least_false group_fits (length fw / n - 1)

  -- 18 before 19, and the entry that each names; 0 and 0 if neither applies
  unfoldable pub first_group_fault : GroupNumbers
  first_group_fault = record {
    refusal = check (group_matches_at deciding) 18 (check (origin_at deciding) 19 0);
    entry = check (group_matches_at deciding) (deciding * n + least_false (matches_at deciding) n) (check (origin_at deciding) (deciding * n) 0);
  }

-- what this asks: whole groups, at least one, of lists of one length
pub record GroupsReady (n : ℕ) (fw fd : List ℕ) : Type 0 where
  pub some : 0 < n
  pub few : n ≤ max_etype_entries
  pub more : 0 < length fw
  pub pairs : length fd ≡ length fw
  pub whole : length fw % n ≡ 0

-- ---- the record of a view

-- the origin of group g of a filetype of displacements fd, over an etype of n entries that begins at first
unfoldable pub group_origin : List ℕ → ℕ → ℕ → ℕ → ℕ
group_origin fd n first g = nth fd (g * n) - first

-- lists of a length that a view's record holds
pub record Recordable (ew : List ℕ) (ed : List ℤ) (fd : List ℕ) : Type 0 where
  pub some : 0 < length ew
  pub few : length ew ≤ max_etype_entries
  pub pairs : length ed ≡ length ew
  pub groups : length fd / length ew ≤ max_instances

-- of these numbers, with an etype of widths ew and displacements ed and a filetype of displacements fd; its unused places are 0
unfoldable pub view_record : Numbers → List ℕ → List ℤ → List ℕ → View
view_record v ew ed fd =
    let ds = front (whole_at ed) (length ed) (replicate max_etype_entries 0) in
    record {
      numbers = v;
      widths = front (nth ew) (length ew) (replicate max_etype_entries 0);
      displacements = ds;
      origins = front (group_origin fd (length ew) (nth ds 0)) (length fd / length ew) (replicate max_instances 0);
    }
