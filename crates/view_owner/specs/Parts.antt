-- Need not be believed. What each part of the reverse lookup finds: the contract of `owner_of` cites the definition of that name, and the proofs show that these make it up.
use Rattle.std.specs.Prelude.{ℕ, zero, suc, ◌+◌, ◌-◌, ◌*◌, ◌/◌, ◌%◌, ◌≤◌, ◌<◌, cond, Option, Some, None, List, leb, ltb, pos}
use Rattle.laws.specs.Checks.{also}
use Rattle.laws.specs.Lists.{nth}
use Rattle.laws.specs.Search.{total}
use Rattle.view.specs.declared.Pair.{Pair}
use Rattle.view.specs.Parts.{max_etype_entries, max_instances, max_entry_end, max_displacement}
use Rattle.view.specs.Limits.{offset_count}

-- the pair of byte b if it lies, in some tile of extent F with K instances, in an entry of instance g, or none. In the first tile the entry begins at a; its width is w, and `packed` bytes stand before it in the packed data
unfoldable pub entry_owner : ℕ → ℕ → ℕ → ℕ → ℕ → ℕ → ℕ → Option Pair
entry_owner F K g a w packed b =
    cond (also (leb a b) (also (ltb ((b - a) % F) w) (ltb ((b - a) / F * K + g) offset_count)))
    (Some (record { offset = record { 0 = pos ((b - a) / F * K + g) }; index = packed + (b - a) % F }))
    None

-- the first of two answers if it is a pair, else the second
unfoldable pub or_else : Option Pair → Option Pair → Option Pair
or_else (Some p) later = Some p
or_else None later = later

-- the first pair among n answers, or none
unfoldable pub first_owner : (ℕ → Option Pair) → ℕ → Option Pair
first_owner answer zero = None
first_owner answer (suc n) = or_else (first_owner answer n) (answer n)

-- with entries of widths ws and displacements ds: the pair of byte b in entry i of instance g, which begins at a in the first tile
unfoldable pub owner_at : List ℕ → List ℕ → ℕ → ℕ → ℕ → ℕ → ℕ → ℕ → Option Pair
owner_at ws ds F K g a b i = entry_owner F K g (a + nth ds i) (nth ws i) (total (nth ws) i) b

-- and in any of its n entries
unfoldable pub instance_owner : ℕ → List ℕ → List ℕ → ℕ → ℕ → ℕ → ℕ → ℕ → Option Pair
instance_owner n ws ds F K g a b = first_owner (owner_at ws ds F K g a b) n

-- g is one of K instances; extent and instances are in the limits
pub record InstanceIn (F K : ℕ) (g : ℕ) : Type 0 where
  pub extent : 0 < F
  pub instance : g < K
  pub few : K ≤ max_instances

-- the same, and its beginning a and the etype's entries are in the limits
pub record InstanceValid (n : ℕ) (ws ds : List ℕ) (F K : ℕ) (g a : ℕ) : Type 0 where
  pub tile : InstanceIn F K g
  pub begins : a ≤ max_displacement + max_entry_end
  pub entries_few : n ≤ max_etype_entries
  pub ends : (i : ℕ) → i < n → nth ds i + nth ws i ≤ max_entry_end
