-- The laws on which demand 3 rests: in a view whose filetype has no bytes that clash, different pairs of offset and data byte lie at different bytes, and no entry is wider than F.
-- Data byte j of offset x is a byte of the filetype in tile x div K (Bytes.antt); two that lie at one byte of the file lie a multiple of F apart in the filetype.
-- What stands above uses `distinct` and `narrow` alone: a new overlap rule proves these two again.
use Rattle.laws.proofs.Prelude.{ℕ, ◌+◌, ◌-◌, ◌*◌, ◌/◌, ◌%◌, ◌≤◌, ◌<◌, ◌≡◌, sym, ap, ◌∙◌, true, inl, inr, ⊎_elim, arith, div-add-mod', add-mul, mul-le-mul, mul-le-mul_right, times_more, one-mul, lt_or_le, eq_or_ne, run_mod, run_below}
use Rattle.view.specs.Types.{PaperView, entries, width_at, displacement_at, extent_of, whole}
use Rattle.view.specs.Rules.{instances, DifferByMultiple, NoClash}
use Rattle.view.specs.Acceptance.{view_refusal, accepted, Valid}
use Rattle.view.specs.Modes.{allows_writing}
use Rattle.view.specs.Places.{data_size, packed_before, entry_of, byte_of}
use Rattle.view.specs.Named.{BreaksOverlap}
use Rattle.view.specs.Owners.{Belongs}
use Rattle.view.specs.Overlap.{Shared, ExactRule}
use Rattle.view.specs.Parts.{Distinct, Narrow}
use Rattle.view.proofs.Clashing.{Spaced, clear_is, clear_only, overlap_is, in_order_clear}
use Rattle.view.proofs.Telling.{fails_10, valid_10}
use Rattle.view.proofs.Accepted.{Facts, facts, accepted_valid, writing_clear, valid_clear, rules, spaced, instances_some, instances_few}
use Rattle.view.proofs.Packing.{entry_begins, entry_run}
use Rattle.view.proofs.Bytes.{in_entry, in_byte, is_byte, lies_at, group_is, entry_is, offset_at, index_at, at_group, at_entry, at_inside, at_index, at_lies}

-- ---- different pairs, different bytes

-- s tiles and p, and t tiles and q, are one place only if p and q differ by a multiple of f
tiles_differ : (f s t p q : ℕ) → s * f + p ≡ t * f + q → DifferByMultiple f p q
tiles_differ f s t p q e =
    ⊎_elim
    (λ h. let d : t - s + s ≡ t = omega arith in record { times = t - s; differ = inl (omega (arith, add-mul (t - s) s f, ap (λ (z : ℕ). z * f) d)) })
    (λ h. let d : s - t + t ≡ s = omega arith in record { times = s - t; differ = inr (omega (arith, add-mul (s - t) t f, ap (λ (z : ℕ). z * f) d)) })
    (lt_or_le s t)

same_tile : (f s t : ℕ) → 0 < f → s * f ≡ t * f → s ≡ t
same_tile f s t p e =
    ⊎_elim (λ h. absurd (omega (arith, mul-le-mul_right {m = s + 1} {n = t} f (omega arith), times_more s f)))
    (λ h. ⊎_elim (λ g. absurd (omega (arith, mul-le-mul_right {m = t + 1} {n = s} f (omega arith), times_more t f))) (λ g. omega arith) (lt_or_le t s))
    (lt_or_le s t)

module _ (v : PaperView) (f : Facts v) (n : NoClash v) where
  module _ (x y j k : ℕ) (lj : j < data_size v) (lk : k < data_size v) (e : byte_of v x j ≡ byte_of v y k) where
    places_differ : DifferByMultiple (extent_of v.filetype) (displacement_at v.filetype (in_entry v x j) + in_byte v j) (displacement_at v.filetype (in_entry v y k) + in_byte v k)
    places_differ = tiles_differ (extent_of v.filetype) (x / instances v) (y / instances v) _ _ (omega (arith, e, lies_at v f x j lj, lies_at v f y k lk))

    same_byte : (in_entry v x j ≡ in_entry v y k) × (in_byte v j ≡ in_byte v k)
    same_byte =
        ⊎_elim
        (λ p. ⊎_elim (λ q. (p, q)) (λ q. absurd (clash (λ _. q))) (eq_or_ne (in_byte v j) (in_byte v k)))
        (λ p. absurd (clash (λ z _. p z)))
        (eq_or_ne (in_entry v x j) (in_entry v y k))
      where
        clash : (in_entry v x j ≡ in_entry v y k → in_byte v j ≡ in_byte v k → ⊥) → ⊥
        clash d = n.never (in_entry v x j) (in_byte v j) (in_entry v y k) (in_byte v k) (record { first = is_byte v f x j lj; second = is_byte v f y k lk; different = d; places = places_differ })

    same_offset : x ≡ y
    same_offset =
        let d = ap (displacement_at v.filetype) same_byte.0 in
        let t : x / instances v ≡ y / instances v = same_tile (extent_of v.filetype) (x / instances v) (y / instances v) (omega (arith, f.file_extent.0)) (omega (arith, e, d, same_byte.1, lies_at v f x j lj, lies_at v f y k lk)) in
        let g : x % instances v ≡ y % instances v = sym (group_is v f x j lj) ∙ ap (λ (z : ℕ). z / entries v.etype) same_byte.0 ∙ group_is v f y k lk in
        let m : x / instances v * instances v ≡ y / instances v * instances v = ap (λ (z : ℕ). z * instances v) t in
        omega (arith, g, m, div-add-mod' x (instances v), div-add-mod' y (instances v))

    same_index : j ≡ k
    unfolding in_byte data_size
    same_index =
        let g : entry_of v.etype j ≡ entry_of v.etype k = sym (entry_is v f x j lj) ∙ ap (λ (z : ℕ). z % entries v.etype) same_byte.0 ∙ entry_is v f y k lk in
        omega (arith, same_byte.1, ap (packed_before v.etype) g, entry_begins v.etype j lj, entry_begins v.etype k lk)

  pub unclashing_distinct : Distinct v
  unclashing_distinct = record { same = λ x y j k lj lk e. (same_offset x y j k lj lk e, same_index x y j k lj lk e) }

  -- bytes 0 and F of an entry wider than F clash
  entry_fits_law : (i : ℕ) → i < entries v.etype → width_at v.etype i ≤ extent_of v.filetype
  entry_fits_law i l =
      let s = f.group_width_law 0 i (instances_some v f) l in
      let b = run_below (instances v) (entries v.etype) 0 i (instances_some v f) l in
      ⊎_elim
      (λ h. absurd (n.never (0 * entries v.etype + i) (extent_of v.filetype) (0 * entries v.etype + i) 0 (record {
        first = (omega (arith, b, f.groups), omega (arith, s));
        second = (omega (arith, b, f.groups), omega (arith, s));
        different = λ _ z. omega (arith, z, f.file_extent.0);
        places = record { times = 1; differ = inl (omega (arith, one-mul (extent_of v.filetype))) };
      })))
      (λ h. h)
      (lt_or_le (extent_of v.filetype) (width_at v.etype i))

  pub unclashing_narrow : Narrow v
  unclashing_narrow = record { width = entry_fits_law }

-- ---- the two laws, of a view that is accepted for writing

module _ (mode : ℕ) (v : PaperView) (h : accepted mode v ≡ true) (w : allows_writing mode ≡ true) where
  pub distinct : Distinct v
  distinct = unclashing_distinct v (facts v (accepted_valid mode v h)) (clear_is v (writing_clear mode v h w))

  pub narrow : Narrow v
  narrow = unclashing_narrow v (facts v (accepted_valid mode v h)) (clear_is v (writing_clear mode v h w))

-- ---- the rule is exact

module _ (v : PaperView) (f : Facts v) (t i a : ℕ) (li : i < entries v.filetype) (la : a < width_at v.filetype i) where
  -- within 2^20 tiles its offset is below 2^32
  at_belongs : t ≤ 1048576 → Belongs v (whole v.displacement + (t * extent_of v.filetype + (displacement_at v.filetype i + a))) (offset_at v t i) (index_at v i a)
  unfolding offset_at
  at_belongs h = record {
    offset = omega (arith, at_group v f i li, instances_few v f, mul-le-mul {n₁ = t} {m₁ = instances v} {n₂ = 1048576} {m₂ = 64} h (instances_few v f));
    index = at_index v f i a li la;
    lies = at_lies v f t i a li la;
  }

-- different bytes are bytes of different pairs
module _ (v : PaperView) (f : Facts v) (s t i a k b : ℕ) (li : i < entries v.filetype) (la : a < width_at v.filetype i) (lk : k < entries v.filetype) (lb : b < width_at v.filetype k) where
  pairs_differ : (i ≡ k → a ≡ b → ⊥) → offset_at v s i ≡ offset_at v t k → index_at v i a ≡ index_at v k b → ⊥
  unfolding offset_at index_at
  pairs_differ d p q =
      let gi = at_group v f i li in
      let gk = at_group v f k lk in
      let g : i / entries v.etype ≡ k / entries v.etype = sym (run_mod (instances v) s (i / entries v.etype) gi) ∙ ap (λ (z : ℕ). z % instances v) p ∙ run_mod (instances v) t (k / entries v.etype) gk in
      let e : i % entries v.etype ≡ k % entries v.etype = sym (entry_run v.etype (i % entries v.etype) a (at_entry v f i) (at_inside v f i a li la)) ∙ ap (entry_of v.etype) q ∙ entry_run v.etype (k % entries v.etype) b (at_entry v f k) (at_inside v f k b lk lb) in
      let m : i / entries v.etype * entries v.etype ≡ k / entries v.etype * entries v.etype = ap (λ (z : ℕ). z * entries v.etype) g in
      d (omega (arith, m, e, div-add-mod' i (entries v.etype), div-add-mod' k (entries v.etype)))
      (omega (arith, q, ap (packed_before v.etype) e))

valid_spaced : (v : PaperView) → Valid v → Spaced v
valid_spaced v k = let r = rules 1 v k.keeps in spaced v r.filetype_extent r.filetype_allowed

module _ (v : PaperView) (f : Facts v) where
  -- the later byte in the first tile, the earlier one so many tiles on
  meet : (i a k b : ℕ) → (i < entries v.filetype) × (a < width_at v.filetype i) → (k < entries v.filetype) × (b < width_at v.filetype k) → (i ≡ k → a ≡ b → ⊥) → (m : ℕ) → displacement_at v.filetype i + a ≡ displacement_at v.filetype k + b + m * extent_of v.filetype → Shared v
  meet i a k b p q d m e =
      let few : m ≤ 1048576 = omega (arith, f.file_ends i p.0, p.1, e, mul-le-mul {n₁ = m} {m₁ = 1} {n₂ = m} {m₂ = extent_of v.filetype} (omega arith) f.file_extent.0) in
      let x = at_belongs v f 0 i a p.0 p.1 (omega arith) in
      let y = at_belongs v f m k b q.0 q.1 few in
      let z : m * extent_of v.filetype + (displacement_at v.filetype k + b) ≡ 0 * extent_of v.filetype + (displacement_at v.filetype i + a) = omega (arith, e) in
      record {
        byte = whole v.displacement + (0 * extent_of v.filetype + (displacement_at v.filetype i + a));
        x = offset_at v 0 i;
        j = index_at v i a;
        y = offset_at v m k;
        k = index_at v k b;
        one = x;
        other = rw z at y;
        different = pairs_differ v f 0 m i a k b p.0 p.1 q.0 q.1 d;
      }

  exact : Valid v → ExactRule v
  exact valid = record {
    shares = λ i a k b c. ⊎_elim (λ e. meet i a k b c.first c.second c.different c.places.times e) (λ e. meet k b i a c.second c.first (λ p q. c.different (sym p) (sym q)) c.places.times e) c.places.differ;
    keeps = λ mode o. valid_clear mode v valid (clear_only v (valid_spaced v valid) (in_order_clear v o));
  }

-- of every view that is accepted for some mode
pub exact_rule : (v : PaperView) → Valid v → ExactRule v
exact_rule v k = exact v (facts v k) k

-- so a view that is refused with 10 has a file byte of two pairs
pub refused_shares : (mode : ℕ) (v : PaperView) → view_refusal mode v ≡ 10 → Shared v
refused_shares mode v e = found (overlap_is v (valid_spaced v (valid_10 mode v e)) (fails_10 mode v e)).here
  where
    found : {i : ℕ} → BreaksOverlap v i → Shared v
    found {i} (k, (a, (b, (_, c)))) = (exact_rule v (valid_10 mode v e)).shares i a k b c
