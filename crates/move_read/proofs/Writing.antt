-- A write: the end that `write_end` finds, the size that `new_size` gives, and the file that `written` makes, are the ones that document 01 describes, and no others are.
use Rattle.laws.proofs.Prelude.{ℕ, ◌+◌, ◌-◌, ◌*◌, ◌/◌, ◌%◌, ◌≤◌, ◌<◌, max, ◌≡◌, refl, sym, ap, ◌∙◌, Bool, not, List, ◌⊎◌, inl, inr, ⊎_elim, arith, div-add-mod', mod-lt, length, eqb, ext_get_or, eqb-true, eq-eqb, not-false, not-true, least_false, nth, store, lt_or_le, not_both, least_false_keeps, least_false_breaks, length_store, store_at, store_other, greatest_above, greatest_least}
use Rattle.view.specs.Types.{PaperView}
use Rattle.view.specs.Parts.{Distinct}
use Rattle.view.specs.Places.{data_size}
use Rattle.move_read.specs.Moves.{file_byte, IsWriteEnd, IsNewSize, Unmapped, IsWritten}
use Rattle.move_read.specs.Parts.{write_end, new_size, written}

-- ---- the end of the highest byte written

module _ (v : PaperView) (o c : ℕ) where
  -- `write_end` is above each byte written, and no more than what is
  pub write_end_is : IsWriteEnd v o c (write_end v o c)
  unfolding write_end
  write_end_is = record {
    above = λ i l. omega (arith, greatest_above (λ k. file_byte v o k + 1) (c * data_size v) i l);
    smallest = λ b h. greatest_least _ (c * data_size v) b (λ i l. omega (arith, h i l));
  }

  -- and nothing else is: of two such ends each is at most the other
  pub write_end_only : (e : ℕ) → IsWriteEnd v o c e → e ≡ write_end v o c
  write_end_only e h =
      let a = h.smallest (write_end v o c) write_end_is.above in
      let b = write_end_is.smallest e h.above in
      omega arith

-- a write of no etypes ends at 0
pub write_end_none : (v : PaperView) (o : ℕ) → write_end v o 0 ≡ 0
write_end_none v o = omega (arith, (write_end_is v o 0).smallest 0 (λ i l. omega arith))

-- ---- the new size

module _ (v : PaperView) (size o c : ℕ) where
  -- `new_size` is the larger of the two
  pub new_size_is : IsNewSize v size o c (new_size v size o c)
  unfolding new_size
  new_size_is = record { end = write_end v o c; highest = write_end_is v o c; larger = refl }

  -- and nothing else is, as there is one such end
  pub new_size_only : (new : ℕ) → IsNewSize v size o c new → new ≡ new_size v size o c
  unfolding new_size
  new_size_only new h = h.larger ∙ ap (max size) (write_end_only v o c h.end h.highest)

-- ---- the bytes of a write

-- different bytes of the data lie at different bytes of the file, where different pairs do
pub file_byte_distinct : (v : PaperView) (o i k : ℕ) → Distinct v → 0 < data_size v → file_byte v o i ≡ file_byte v o k → i ≡ k
unfolding file_byte
file_byte_distinct v o i k d s e =
    let h = d.same (o + i / data_size v) (o + k / data_size v) (i % data_size v) (k % data_size v) (mod-lt i s) (mod-lt k s) e in
    let q : i / data_size v ≡ k / data_size v = omega (arith, h.0) in
    cc (div-add-mod' i (data_size v), div-add-mod' k (data_size v), h.1)

-- byte b of the file is byte `index` of the data
pub record Found (v : PaperView) (o c b : ℕ) : Type 0 where
  pub index : ℕ
  pub below : index < c * data_size v
  pub lies : b ≡ file_byte v o index

-- a byte is one that the write maps, or one that it does not: a search through the data says which
pub mapped_or_not : (v : PaperView) (o c b : ℕ) → Found v o c b ⊎ Unmapped v o c b
mapped_or_not v o c b = ⊎_elim found none (lt_or_le (least_false misses n) n)
  where
    n : ℕ
    n = c * data_size v

    misses : ℕ → Bool
    misses i = not (eqb b (file_byte v o i))

    found : least_false misses n < n → Found v o c b ⊎ Unmapped v o c b
    found l = inl (record { index = least_false misses n; below = l; lies = eqb-true _ _ (not-false _ (least_false_breaks misses n l)) })

    none : n ≤ least_false misses n → Found v o c b ⊎ Unmapped v o c b
    none l = inr (λ i q e. not_both (eq-eqb _ _ e) (not-true _ (least_false_keeps misses n i (omega arith))))

-- ---- the file after a write

-- two files that writes of two buffers leave agree at each unmapped byte
module _ (v : PaperView) (size new o c : ℕ) (buffer buffer' file a z : List ℕ) (g : IsWritten v size new o c buffer file a) (h : IsWritten v size new o c buffer' file z) where
  -- outside the gap, it is the old file's in both
  same_valid : (b : ℕ) → Unmapped v o c b → (b < size) ⊎ (new ≤ b) → nth a b ≡ nth z b
  same_valid b u q = g.rest b q u ∙ sym (h.rest b q u)

  -- in the gap it is 0 in both
  pub same_unmapped : (b : ℕ) → Unmapped v o c b → nth a b ≡ nth z b
  same_unmapped b u = ⊎_elim (λ l. same_valid b u (inl l)) past (lt_or_le b size)
    where
      past : size ≤ b → nth a b ≡ nth z b
      past l = ⊎_elim (λ q. g.gap b l q u ∙ sym (h.gap b l q u)) (λ q. same_valid b u (inr q)) (lt_or_le b new)

-- two that writes of one buffer leave agree at each byte
module _ (v : PaperView) (size new o c : ℕ) (buffer file a z : List ℕ) (g : IsWritten v size new o c buffer file a) (h : IsWritten v size new o c buffer file z) where
  -- a mapped byte is the buffer's in both
  same_mapped : (b : ℕ) → Found v o c b → nth a b ≡ nth z b
  same_mapped b f = rw f.lies (g.mapped f.index f.below ∙ sym (h.mapped f.index f.below))

  same_at : (b : ℕ) → nth a b ≡ nth z b
  same_at b = ⊎_elim (same_mapped b) (same_unmapped v size new o c buffer buffer file a z g h b) (mapped_or_not v o c b)

  written_same : a ≡ z
  written_same = ext_get_or 0 a z (g.long ∙ sym h.long) (λ b l. same_at b)

-- the file with zeros from the old size to the new
filled : PaperView → ℕ → ℕ → ℕ → List ℕ → List ℕ
filled v size o c file = store (λ i. size + i) (λ i. 0) (new_size v size o c - size) file

module _ (v : PaperView) (size o c : ℕ) (file : List ℕ) where
  -- filling keeps the length
  filled_long : length (filled v size o c file) ≡ length file
  unfolding filled
  filled_long = length_store _ _ (new_size v size o c - size) file

  -- the gap is 0, if it lies in the file
  filled_gap : new_size v size o c ≤ length file → (b : ℕ) → size ≤ b → b < new_size v size o c → nth (filled v size o c file) b ≡ 0
  unfolding filled
  filled_gap fits b l h =
      let e : b ≡ size + (b - size) = omega arith in
      rw e (store_at (λ i. size + i) (λ i. 0) (new_size v size o c - size) file 0 (b - size) (omega arith) (omega arith) (λ k x y q. omega arith))

  -- what is outside the gap stays
  filled_rest : (b : ℕ) → (b < size) ⊎ (new_size v size o c ≤ b) → nth (filled v size o c file) b ≡ nth file b
  unfolding filled
  filled_rest b h = store_other _ _ (new_size v size o c - size) file 0 b (λ k x q. ⊎_elim (λ l. omega arith) (λ l. omega arith) h)

module _ (v : PaperView) (size o c : ℕ) (buffer file : List ℕ) (distinct : Distinct v) (some : 0 < data_size v) (fits : size ≤ length file) (ends : write_end v o c ≤ length file) where
  -- the new size is within the file, as the old one and the write's end are
  new_fits : new_size v size o c ≤ length file
  unfolding new_size
  new_fits = omega arith

  -- the place of byte i of the data gets it: it is in the file, and no other byte of the data goes there
  data_stored : (i : ℕ) → i < c * data_size v → nth (store (file_byte v o) (nth buffer) (c * data_size v) (filled v size o c file)) (file_byte v o i) ≡ nth buffer i
  data_stored i l = store_at (file_byte v o) (nth buffer) (c * data_size v) (filled v size o c file) 0 i l inside (λ k x y e. omega (arith, file_byte_distinct v o i k distinct some e))
    where
      inside : file_byte v o i < length (filled v size o c file)
      inside = omega (arith, (write_end_is v o c).above i l, filled_long v size o c file)

  -- `written` sets the mapped bytes, fills the gap and keeps the rest
  pub written_is : IsWritten v size (new_size v size o c) o c buffer file (written v size o c buffer file)
  unfolding written filled
  written_is = record {
    long = length_store _ _ (c * data_size v) (filled v size o c file) ∙ filled_long v size o c file;
    mapped = data_stored;
    gap = λ b l h u. store_other _ _ (c * data_size v) (filled v size o c file) 0 b u ∙ filled_gap v size o c file new_fits b l h;
    rest = λ b h u. store_other _ _ (c * data_size v) (filled v size o c file) 0 b u ∙ filled_rest v size o c file b h;
  }

  -- and no other file is so, as two that are agree
  pub written_only : (after : List ℕ) → IsWritten v size (new_size v size o c) o c buffer file after → after ≡ written v size o c buffer file
  written_only after h = written_same v size (new_size v size o c) o c buffer file after (written v size o c buffer file) h written_is
