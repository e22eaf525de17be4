-- Must be believed. Document 01, "Where an offset lies".
use Rattle.std.specs.Prelude.{ℕ, ◌+◌, ◌-◌, ◌*◌, ◌/◌, ◌%◌, leb}
use Rattle.laws.specs.Search.{least_false, total}
use Rattle.view.specs.Types.{PaperType, PaperView, entries, width_at, displacement_at, extent_of, whole}
use Rattle.view.specs.Rules.{instances, origin}

-- the byte at which the etype at offset o begins: D + (o div K)·F + p(o mod K)
unfoldable pub place : PaperView → ℕ → ℕ
place v o = whole v.displacement + o / instances v * extent_of v.filetype + origin v (o % instances v)

-- how many packed bytes stand before entry i
unfoldable pub packed_before : PaperType → ℕ → ℕ
packed_before t i = total (width_at t) i

-- S, the sum of the etype's widths
unfoldable pub data_size : PaperView → ℕ
data_size v = packed_before v.etype (entries v.etype)

-- the entry that holds packed byte j: the first one that ends after it
unfoldable pub entry_of : PaperType → ℕ → ℕ
entry_of t j = least_false (λ i. leb (packed_before t (i + 1)) j) (entries t)

-- where packed byte j lies from the beginning of its etype: the entry's displacement plus the byte's index in the entry
unfoldable pub data_at : PaperType → ℕ → ℕ
data_at t j = displacement_at t (entry_of t j) + (j - packed_before t (entry_of t j))

-- the file byte of data byte j of the etype at offset x
unfoldable pub byte_of : PaperView → ℕ → ℕ → ℕ
byte_of v x j = place v x + data_at v.etype j
