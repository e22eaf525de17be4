-- The reverse lookup: what it finds is the pair that the byte belongs to, or there is none; and nothing else is.
use Rattle.laws.proofs.Prelude.{ℕ, ◌+◌, ◌-◌, ◌*◌, ◌/◌, ◌%◌, ◌≤◌, ◌<◌, ◌≡◌, refl, sym, ap, ◌∙◌, true, not, ⊎_elim, arith, div-add-mod', eq-or-lt_of_le, pos, lt-ltb, le-ltb, le-leb, ltb-true, leb-true, not-false, not-true, least_false, also_inv, also_true, lt_or_le, not_both, least_false_le, least_false_keeps, least_false_breaks, run_div, run_mod}
use Rattle.std.proofs.Common.{Option, Some, None}
use Rattle.view.specs.declared.Pair.{Pair}
use Rattle.view.specs.Types.{PaperView, entries, width_at, displacement_at, extent_of, whole}
use Rattle.view.specs.Rules.{instances}
use Rattle.view.specs.Acceptance.{accepted}
use Rattle.view.specs.Modes.{allows_writing}
use Rattle.view.specs.Places.{entry_of, byte_of}
use Rattle.view.specs.Parts.{Distinct, Narrow, entry_start, offset_in, index_in, hits, hit_entry, owner_of}
use Rattle.view.specs.Owners.{Belongs, OneOwner, owner_numbers, Answers}
use Rattle.view.proofs.Accepted.{Facts, facts, accepted_valid}
use Rattle.view.proofs.Bytes.{in_entry, in_byte, of_width, is_byte, lies_at, group_is, offset_at, index_at, at_index, at_lies}
use Rattle.view.proofs.Injective.{distinct, narrow}

-- a byte belongs to at most one pair
pub belongs_one : (v : PaperView) (b x y j k : ℕ) → Distinct v → Belongs v b x j → Belongs v b y k → (x ≡ y) × (j ≡ k)
belongs_one v b x y j k d p q = d.same x y j k p.index q.index (p.lies ∙ sym q.lies)

module _ (v : PaperView) (f : Facts v) (b : ℕ) where
  -- a byte that lies in entry i belongs to the pair that is named
  module _ (i : ℕ) (l : i < entries v.filetype) (h : hits v b i ≡ true) where
    starts : entry_start v i ≤ b
    unfolding hits
    starts = leb-true _ _ (also_inv _ _ h).0

    inside : (b - entry_start v i) % extent_of v.filetype < width_at v.filetype i
    unfolding hits
    inside = ltb-true _ _ (also_inv _ _ (also_inv _ _ h).1).0

    allowed : offset_in v b i < 4294967296
    unfolding hits
    allowed = ltb-true _ _ (also_inv _ _ (also_inv _ _ h).1).1

    found_lies : byte_of v (offset_in v b i) (index_in v b i) ≡ b
    unfolding offset_in index_in offset_at index_at entry_start
    found_lies =
        let m = div-add-mod' (b - (whole v.displacement + displacement_at v.filetype i)) (extent_of v.filetype) in
        at_lies v f ((b - entry_start v i) / extent_of v.filetype) i ((b - entry_start v i) % extent_of v.filetype) l inside
        ∙ omega (arith, starts, m)

    hit_belongs : Belongs v b (offset_in v b i) (index_in v b i)
    unfolding index_in index_at
    hit_belongs = record { offset = allowed; index = at_index v f i ((b - entry_start v i) % extent_of v.filetype) l inside; lies = found_lies }

  -- a byte that belongs to a pair lies in an entry that is tried
  module _ (n : Narrow v) (x j : ℕ) (p : Belongs v b x j) where
    abbrev tried : ℕ
    tried = in_entry v x j

    abbrev rest : ℕ
    rest = in_byte v j

    tried_below : tried < entries v.filetype
    tried_below = (is_byte v f x j p.index).0

    rest_below : rest < extent_of v.filetype
    rest_below = let o = of_width v f x j p.index in omega (arith, o.0, n.width (entry_of v.etype j) o.1)

    distance : b - entry_start v tried ≡ x / instances v * extent_of v.filetype + rest
    unfolding entry_start
    distance = omega (arith, p.lies, lies_at v f x j p.index)

    starts_before : entry_start v tried ≤ b
    unfolding entry_start
    starts_before = omega (arith, p.lies, lies_at v f x j p.index)

    remainder : (b - entry_start v tried) % extent_of v.filetype < width_at v.filetype tried
    remainder = rw (distance, run_mod (extent_of v.filetype) (x / instances v) rest rest_below) (is_byte v f x j p.index).1

    same_offset : offset_in v b tried ≡ x
    unfolding offset_in
    same_offset = rw (distance, run_div (extent_of v.filetype) (x / instances v) rest rest_below, group_is v f x j p.index) (div-add-mod' x (instances v))

    belongs_hit : hits v b tried ≡ true
    unfolding hits
    belongs_hit =
        let q : offset_in v b tried < 4294967296 = rw same_offset p.offset in
        also_true (le-leb _ _ starts_before) (also_true (lt-ltb _ _ remainder) (lt-ltb _ _ q))

    -- so the search ends before the last entry
    search_ends : hit_entry v b < entries v.filetype
    unfolding hit_entry
    search_ends = ⊎_elim (λ e. absurd (missed e)) (λ q. q) (eq-or-lt_of_le (least_false_le _ (entries v.filetype)))
      where
        missed : least_false (λ i. not (hits v b i)) (entries v.filetype) ≡ entries v.filetype → ⊥
        missed e =
            let u : tried < least_false (λ i. not (hits v b i)) (entries v.filetype) = omega (arith, tried_below) in
            not_both belongs_hit (not-true _ (least_false_keeps (λ i. not (hits v b i)) (entries v.filetype) tried u))

  found_hits : hit_entry v b < entries v.filetype → hits v b (hit_entry v b) ≡ true
  unfolding hit_entry
  found_hits l = not-false _ (least_false_breaks (λ i. not (hits v b i)) (entries v.filetype) l)

  answers : Narrow v → Answers v b (owner_of v b)
  unfolding owner_of owner_numbers
  answers n = ⊎_elim found nobody (lt_or_le (hit_entry v b) (entries v.filetype))
    where
      found : hit_entry v b < entries v.filetype → Answers v b (owner_of v b)
      found l = rw (lt-ltb (hit_entry v b) (entries v.filetype) l) (record {
        pair = λ _. (offset_in v b (hit_entry v b), (refl, hit_belongs (hit_entry v b) l (found_hits l)));
        none = λ e. absurd (not_both refl e);
      })

      nobody : entries v.filetype ≤ hit_entry v b → Answers v b (owner_of v b)
      nobody l = rw (le-ltb (hit_entry v b) (entries v.filetype) l) (record {
        pair = λ e. absurd (not_both e refl);
        none = λ _ x j p. omega (arith, search_ends n x j p);
      })

-- two answers for one byte are the same
one_answer : (v : PaperView) (b : ℕ) → Distinct v → (o p : Option Pair) → Answers v b o → Answers v b p → o ≡ p
unfolding owner_numbers
one_answer v b d (Some o) (Some p) a c =
    let m = a.pair refl in
    let n = c.pair refl in
    let s = belongs_one v b m.0 n.0 o.index p.index d m.1.1 n.1.1 in
    let e : o.offset.0 ≡ p.offset.0 = m.1.0 ∙ ap pos s.0 ∙ sym n.1.0 in
    let g : o.index ≡ p.index = s.1 in
    λ i. Some (record { offset = record { 0 = e i }; index = g i })
one_answer v b d (Some o) None a c = let m = a.pair refl in absurd (c.none refl m.0 o.index m.1.1)
one_answer v b d None (Some p) a c = let n = c.pair refl in absurd (a.none refl n.0 p.index n.1.1)
one_answer v b d None None a c = refl

-- ---- of a view that is accepted for writing

pub one_owner : (mode : ℕ) (v : PaperView) → accepted mode v ≡ true → allows_writing mode ≡ true → OneOwner v
one_owner mode v h w = record { one = λ b x y j k p q. belongs_one v b x y j k (distinct mode v h w) p q }

module _ (mode : ℕ) (v : PaperView) (h : accepted mode v ≡ true) (w : allows_writing mode ≡ true) (b : ℕ) where
  pub owner_is : Answers v b (owner_of v b)
  owner_is = answers v (facts v (accepted_valid mode v h)) b (narrow mode v h w)

  pub owner_only : (o : Option Pair) → Answers v b o → o ≡ owner_of v b
  owner_only o a = one_answer v b (distinct mode v h w) o (owner_of v b) a owner_is
