-- The end of a write, from its last offsets alone: each earlier offset is the same instance of an earlier tile than one of them, and so lies before it.
-- That places rise with the offset is not used.
use Rattle.laws.proofs.Prelude.{ℕ, ◌+◌, ◌-◌, ◌*◌, ◌/◌, ◌%◌, ◌≤◌, ◌<◌, min, max, ◌≡◌, refl, sym, ap, ◌∙◌, true, arith, add-one, add-mul, add-mul-div_right, add-mul-mod_self_right, div-mul-le_self, lt-div-mul-add, mod-lt, min-le_left, ℤ, pos, w64, Fits, to_z, of_z, lt-ltb, greatest, nth, run_below, runs_below, greatest_above, greatest_least}
use Rattle.view.specs.declared.View.{View}
use Rattle.view.specs.Limits.{offset_allowed}
use Rattle.view.specs.Types.{PaperView, paper, whole, extent_of}
use Rattle.view.specs.Rules.{instances}
use Rattle.view.specs.Acceptance.{Valid}
use Rattle.view.specs.Places.{place, byte_of, data_size}
use Rattle.view.proofs.Paper.{paper_instances}
use Rattle.view.proofs.Accepted.{facts, instances_some}
use Rattle.view.specs.Parts.{reach_of}
use Rattle.view_place.specs.declared.Spot.{Spot}
use Rattle.view_place.specs.Parts.{spot_at, next_spot}
use Rattle.view.proofs.Held.{record_some}
use Rattle.move_read.specs.Moves.{file_byte}
use Rattle.move_read.specs.Parts.{write_end, Ranged}
use Rattle.move_read.proofs.Etypes.{reach, entries_valid, data_before, data_last}
use Rattle.move_read.proofs.Walking.{file_byte_run, Walking, walk_none, walk_more, walk_place, walk_end_fits, positive, begin_natural}
use Rattle.move_read.proofs.Writing.{write_end_none, write_end_only}

-- the same instance, j tiles later
place_later : (v : PaperView) (x j : ℕ) → 0 < instances v → place v (x + j * instances v) ≡ place v x + j * extent_of v.filetype
unfolding place
place_later v x j k = rw (add-mul-div_right x j {z = instances v} k, add-mul-mod_self_right x j (instances v), add-mul (x / instances v) j (extent_of v.filetype)) (omega arith)

-- where the etype at x ends
abbrev end_at : View → ℕ → ℕ
end_at v x = place (paper v) x + reach v

module _ (v : View) (k : Valid (paper v)) where
  some : 0 < instances (paper v)
  some = instances_some (paper v) (facts (paper v) k)

  -- of the offsets from o to o + c - 1, x and the last one that is the same instance
  module _ (o c x : ℕ) (a : o ≤ x) (b : x < o + c) where
    tiles : ℕ
    tiles = (o + c - 1 - x) / instances (paper v)

    latest : ℕ
    latest = x + tiles * instances (paper v)

    latest_below : latest < o + c
    unfolding latest tiles
    latest_below = omega (arith, div-mul-le_self (o + c - 1 - x) (instances (paper v)))

    latest_after : x ≤ latest
    unfolding latest
    latest_after = omega arith

    latest_last : o + c ≤ latest + instances (paper v)
    unfolding latest tiles
    latest_last = omega (arith, lt-div-mul-add {a = o + c - 1 - x} some)

    latest_ends : end_at v x ≤ end_at v latest
    unfolding latest
    latest_ends = omega (arith, place_later (paper v) x tiles some)

  -- the last t offsets, at least one for each instance unless they are all
  module _ (o c t : ℕ) (e : t ≡ min c (instances (paper v))) where
    ends : ℕ → ℕ
    ends i = end_at v (o + (c - t) + i)

    few : t ≤ c
    few = omega (arith, min-le_left c (instances (paper v)))

    -- each of all c offsets ends at or before one of them
    all_before : (x : ℕ) → o ≤ x → x < o + c → end_at v x ≤ greatest ends t
    unfolding ends
    all_before x a b =
        let y = latest_after o c x a b in
        let z = latest_last o c x a b in
        let low : o + (c - t) ≤ latest o c x a b = omega arith in
        let q : o + (c - t) + (latest o c x a b - (o + (c - t))) ≡ latest o c x a b = omega arith in
        omega (arith, latest_ends o c x a b, ap (end_at v) q, greatest_above (λ n. end_at v (o + (c - t) + n)) t (latest o c x a b - (o + (c - t))) (omega (arith, latest_below o c x a b, few)))

    sized : 0 < data_size (paper v)
    sized = omega (arith, (data_last v k).1.0)

    tail_above : (i : ℕ) → i < c * data_size (paper v) → file_byte (paper v) o i < greatest ends t
    unfolding file_byte byte_of
    tail_above i l =
        let r = runs_below c (data_size (paper v)) i sized l in
        omega (arith, data_before v k (i % data_size (paper v)) (mod-lt i {m = data_size (paper v)} sized), all_before (o + i / data_size (paper v)) (omega arith) (omega arith))

    tail_smallest : (b : ℕ) → ((i : ℕ) → i < c * data_size (paper v) → file_byte (paper v) o i < b) → greatest ends t ≤ b
    unfolding byte_of ends
    tail_smallest b h = greatest_least ends t b (λ i l.
        let d = data_last v k in
        let n : o + (c - t + i) ≡ o + (c - t) + i = omega arith in
        let f = file_byte_run (paper v) o (c - t + i) (data_last v k).0 (data_last v k).1.0 ∙ ap (λ (z : ℕ). byte_of (paper v) z (data_last v k).0) n in
        omega (arith, h ((c - t + i) * data_size (paper v) + (data_last v k).0) (run_below c (data_size (paper v)) (c - t + i) (data_last v k).0 (omega (arith, few)) (data_last v k).1.0), (data_last v k).1.1))

    tail_is : greatest ends t ≡ write_end (paper v) o c
    tail_is = write_end_only (paper v) o c (greatest ends t) (record { above = tail_above; smallest = tail_smallest })

-- ---- the walk over these offsets, t from `from` on

-- of the first k, the greatest end; r is how far an etype reaches
pub record Ending (v : View) (from t r k : ℕ) (s : Spot) (end : ℕ) : Type 0 where
  pub walk : Walking v from t k s
  pub reaches : r ≡ reach_of v.widths v.displacements v.numbers.etype.entries
  pub is : end ≡ greatest (λ i. end_at v (from + i)) k

pub end_none : (v : View) (o c : ℕ) → c ≡ 0 → 0 ≡ write_end (paper v) o c
end_none v o c e = sym (write_end_none (paper v) o) ∙ ap (write_end (paper v) o) (sym e)

module _ (v : View) (o : ℤ) (c : ℕ) (h : Ranged v o c) (n : c ≡ 0 → ⊥) (t : ℕ) (e : t ≡ min c v.numbers.filetype.instances) where
  pub tail_few : t ≤ c
  tail_few = omega (arith, min-le_left c v.numbers.filetype.instances)

  tail_some : 0 < t
  tail_some = omega (arith, record_some v h.valid, positive v o c h n)

  module _ (first : ℕ) (read : first ≡ whole (to_z w64 (of_z w64 o))) where
    bound : first + (c - t) + t ≤ 4294967296
    bound = omega (arith, h.last, begin_natural v o c h n first read, tail_few)

    module _ (z : ℤ) (q : z ≡ pos (first + (c - t))) where
      pub from_allowed : offset_allowed z ≡ true
      unfolding offset_allowed
      from_allowed = rw q (lt-ltb (first + (c - t)) 4294967296 (omega (arith, bound, tail_some)))

      pub ending_none : (s : Spot) → s ≡ spot_at v.numbers (whole z) → (r : ℕ) → r ≡ reach_of v.widths v.displacements v.numbers.etype.entries → Ending v (first + (c - t)) t r 0 s 0
      unfolding whole greatest
      ending_none s at r reaches = record {
        walk = walk_none v _ t s h.valid bound (rw q at at);
        reaches = reaches;
        is = refl;
      }

    pub ending_end : (r k : ℕ) (s : Spot) (end : ℕ) → Ending v (first + (c - t)) t r k s end → t ≤ k → end ≡ write_end (paper v) (whole o) c
    unfolding ends
    ending_end r k s end g l =
        let d : k ≡ t = omega (arith, g.walk.reached) in
        let f = begin_natural v o c h n first read in
        let w : t ≡ min c (instances (paper v)) = e ∙ ap (min c) (sym (paper_instances v (omega (arith, (entries_valid v h.valid).some)))) in
        g.is ∙ ap (greatest (λ i. end_at v (first + (c - t) + i))) d ∙ tail_is v h.valid first c t w ∙ ap (λ (y : ℕ). write_end (paper v) y c) f

module _ (v : View) (from t r k : ℕ) (s : Spot) (end : ℕ) (g : Ending v from t r k s end) (l : k < t) (p : ℕ) (begins : p ≡ s.tile.0 + nth v.origins s.instance) where
  pub ending_fits : Fits w64 (p + r)
  ending_fits = walk_end_fits v from t k s g.walk l p begins r g.reaches

  pub ending_more : (m : ℕ) → m ≡ max end (p + r) → (s' : Spot) → s' ≡ next_spot s v.numbers.filetype.instances v.numbers.filetype.extent → Ending v from t r (k + 1) s' m
  unfolding greatest
  ending_more m e s' n =
      let q : p + r ≡ place (paper v) (from + k) + reach v = omega (arith, g.reaches, walk_place v from t k s g.walk l p begins) in
      record {
        walk = walk_more v from t k s g.walk l s' n;
        reaches = g.reaches;
        is = rw (add-one k) (e ∙ ap (λ (y : ℕ). max y (p + r)) g.is ∙ ap (max (greatest (λ i. end_at v (from + i)) k)) q);
      }
