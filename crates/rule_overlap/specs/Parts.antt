-- Need not be believed. The overlap rule on keys: a key is one number for an entry, where it begins in a tile, times 16, plus its width. Sorted keys are in the order of the bytes in a tile.
use Rattle.std.specs.Prelude.{ℕ, ◌+◌, ◌-◌, ◌*◌, ◌/◌, ◌%◌, ◌≤◌, ◌<◌, Bool, List, ◌≡◌, leb, length}
use Rattle.laws.specs.Checks.{also}
use Rattle.laws.specs.Search.{all}
use Rattle.laws.specs.Lists.{nth}
use Rattle.view.specs.declared.View.{View}
use Rattle.view.specs.Parts.{clear_of, max_extent, max_entry_end, max_filetype_entries, max_etype_entries, max_instances}

-- the key of an entry of width w at displacement d, in tiles of f bytes
abbrev pub key_of : ℕ → ℕ → ℕ → ℕ
key_of f d w = d % f * 16 + w

-- the key of entry i of a view's filetype, without its paper view: entry i mod n of the etype, shifted by origin i div n
unfoldable pub group_key : View → ℕ → ℕ
group_key v i =
    let n = v.numbers.etype.entries in
    key_of v.numbers.filetype.extent (nth v.origins (i / n) + nth v.displacements (i % n)) (nth v.widths (i % n))

-- no bytes of two keys clash
unfoldable pub keys_apart : ℕ → ℕ → ℕ → Bool
keys_apart f x y = clear_of f (x / 16) (x % 16) (y / 16) (y % 16)

-- key i has no bytes that clash with each other or with those of an earlier key
unfoldable pub key_clear : ℕ → List ℕ → ℕ → Bool
key_clear f keys i = also (leb (nth keys i % 16) f) (all (λ k. keys_apart f (nth keys k) (nth keys i)) i)

-- the bytes of key i end at or before those of the next begin
unfoldable pub key_ends : List ℕ → ℕ → Bool
key_ends keys i = leb (nth keys i / 16 + nth keys i % 16) (nth keys (i + 1) / 16)

-- so does each, and the last before the first of the next tile
unfoldable pub keys_follow : ℕ → List ℕ → Bool
keys_follow f keys =
    let last = nth keys (length keys - 1) in
    also (all (key_ends keys) (length keys - 1)) (leb (last / 16 + last % 16) (nth keys 0 / 16 + f))

-- ---- what the functions ask

-- keys of entries within the limits
pub record KeysValid (keys : List ℕ) (f : ℕ) : Type 0 where
  pub some : 0 < length keys
  pub few : length keys ≤ max_filetype_entries
  pub extent : f ≤ max_extent
  pub widths : (i : ℕ) → i < length keys → 0 < nth keys i % 16

-- the entries of a filetype, within the limits that checks 4 to 6 leave
pub record EntriesReady (ws ds : List ℕ) (f : ℕ) : Type 0 where
  pub some : 0 < length ws
  pub few : length ws ≤ max_filetype_entries
  pub pairs : length ds ≡ length ws
  pub some_extent : 0 < f
  pub extent : f ≤ max_extent
  pub displacements : (i : ℕ) → i < length ws → nth ds i ≤ max_entry_end
  pub widths : (i : ℕ) → i < length ws → (0 < nth ws i) × (nth ws i < 16)

-- the same of a view's record
pub record RecordReady (v : View) : Type 0 where
  pub some : 0 < v.numbers.etype.entries
  pub few : v.numbers.etype.entries ≤ max_etype_entries
  pub some_instances : 0 < v.numbers.filetype.instances
  pub few_instances : v.numbers.filetype.instances ≤ max_instances
  pub total : v.numbers.filetype.instances * v.numbers.etype.entries ≤ max_filetype_entries
  pub some_extent : 0 < v.numbers.filetype.extent
  pub extent : v.numbers.filetype.extent ≤ max_extent
  pub displacements : (i : ℕ) → i < v.numbers.etype.entries → nth v.displacements i ≤ max_entry_end
  pub widths : (i : ℕ) → i < v.numbers.etype.entries → (0 < nth v.widths i) × (nth v.widths i < 16)
  pub origins : (g : ℕ) → g < v.numbers.filetype.instances → nth v.origins g ≤ max_entry_end
