-- The reading mover: the first t etypes lay in the file and are copied.
use Rattle.laws.proofs.Prelude.{ℕ, ◌+◌, ◌-◌, ◌*◌, ◌^◌, ◌≤◌, ◌<◌, ◌≡◌, refl, sym, ap, ◌∙◌, Bool, List, ◌++◌, arith, zero-mul, length, take, drop, length-drop, ℤ, w64, Fits, nth, store, front, Passed, passed_none, passed_more, passed_stop, passed_end, times_more, store_none, length_store, store_run, tail_lent, tail_back}
use Rattle.view.specs.declared.View.{View}
use Rattle.view.specs.Types.{PaperView, paper, whole}
use Rattle.view.specs.Places.{place, data_size}
use Rattle.view.proofs.Held.{record_allowed}
use Rattle.view.specs.Parts.{reach_of, size_of}
use Rattle.view_place.specs.declared.Spot.{Spot}
use Rattle.view_place.specs.Parts.{spot_at, next_spot}
use Rattle.move_etype.specs.Parts.{byte_in, place_in, Lies}
use Rattle.move_read.specs.Moves.{file_byte}
use Rattle.move_read.specs.Parts.{in_file, moved, read_into, Movable, ReadDone}
use Rattle.move_read.proofs.Etypes.{entries_valid, data_is, place_in_law, in_file_yes, in_file_no}
use Rattle.move_read.proofs.Walking.{file_byte_run, Walking, walk_more, walk_place, walk_end_fits, walk_size, walk_room, walk_begun}

-- etype o + t lies in the file
abbrev pub lying : PaperView → ℕ → ℕ → ℕ → Bool
lying v size o t = in_file v size (o + t)

-- S is the data size and r how far an etype reaches
pub record Gathering (v : View) (file : List ℕ) (size o c S r : ℕ) (buf₀ buf : List ℕ) (t : ℕ) (s : Spot) : Type 0 where
  pub walk : Walking v o c t s
  pub sized : S ≡ size_of v.numbers.etype.entries v.widths
  pub reaches : r ≡ reach_of v.widths v.displacements v.numbers.etype.entries
  pub short : size ≤ length file
  pub room : c * data_size (paper v) ≤ length buf₀
  pub held : length buf₀ < 2 ^ 64
  pub passed : Passed (lying (paper v) size o) t c
  pub long : length buf ≡ length buf₀
  pub done : buf ≡ read_into (paper v) file o t buf₀

-- no etype is copied yet, or there is none
none_read : (v : PaperView) (file : List ℕ) (o : ℕ) (buf : List ℕ) → buf ≡ read_into v file o 0 buf
unfolding read_into
none_read v file o buf = rw (zero-mul (data_size v)) (store_none _ _ buf)

module _ (v : View) (file buf₀ : List ℕ) (size : ℕ) (o : ℤ) (c : ℕ) where
  pub move_none : c ≡ 0 → ReadDone v file size o c buf₀ 0 buf₀
  unfolding moved
  move_none e = record {
    count = passed_end _ 0 c (passed_none _ c) (omega arith);
    buffer = none_read (paper v) file (whole o) buf₀;
  }

  module _ (S r : ℕ) where
    pub gathering_none : Movable v (length file) size o c (length buf₀) → S ≡ size_of v.numbers.etype.entries v.widths → r ≡ reach_of v.widths v.displacements v.numbers.etype.entries → (s : Spot) → s ≡ spot_at v.numbers (whole o) → length buf₀ < 2 ^ 64 → Gathering v file size (whole o) c S r buf₀ buf₀ 0 s
    gathering_none h sized reaches s at held = record {
      walk = walk_begun v o c h.ranged s at;
      sized = sized;
      reaches = reaches;
      short = h.short;
      room = h.room;
      held = held;
      passed = passed_none _ c;
      long = refl;
      done = none_read (paper v) file (whole o) buf₀;
    }

    module _ (buf : List ℕ) (t : ℕ) (s : Spot) (g : Gathering v file size (whole o) c S r buf₀ buf t s) where
      -- every etype lay in the file
      pub gather_all : c ≤ t → ReadDone v file size o c buf₀ c buf
      unfolding moved
      gather_all l =
          let e : t ≡ c = omega (arith, g.walk.reached) in
          record {
            count = rw e at (passed_end _ t c g.passed l);
            buffer = rw e at g.done;
          }

      -- the next etype, which begins at p, does not lie in the file
      pub gather_stop : t < c → (p : ℕ) → p ≡ s.tile.0 + nth v.origins s.instance → size < p + r → ReadDone v file size o c buf₀ t buf
      unfolding moved
      gather_stop l p begins q = record {
        count = passed_stop _ t c g.passed l (in_file_no v g.walk.valid size (whole o + t) (omega (arith, g.reaches, walk_place v (whole o) c t s g.walk l p begins)));
        buffer = g.done;
      }

-- the next etype begins at p; S bytes from t·S on are lent
module _ (v : View) (file buf₀ : List ℕ) (size o c S r : ℕ) (buf : List ℕ) (t : ℕ) (s : Spot) (g : Gathering v file size o c S r buf₀ buf t s) (l : t < c) where
  runs : t * S + S ≤ length buf
  runs = omega (arith, g.long, walk_room v o c t s g.walk l S g.sized (length buf₀) g.room)

  pub from_fits : Fits w64 (t * S)
  from_fits = record { fits = omega (arith, runs, g.long, g.held) }

  pub from_inside : t * S ≤ length buf
  from_inside = omega (arith, runs)

  module _ (p : ℕ) (begins : p ≡ s.tile.0 + nth v.origins s.instance) where
    p_is : p ≡ place (paper v) (o + t)
    p_is = walk_place v o c t s g.walk l p begins

    pub gather_end_fits : Fits w64 (p + r)
    gather_end_fits = walk_end_fits v o c t s g.walk l p begins r g.reaches

    -- it lies in the file
    module _ (q : p + r ≤ size) where
      pub gather_lies : Lies v.numbers.etype.entries v.widths v.displacements p (length file) (length (take (length buf - t * S) (drop (t * S) buf)))
      gather_lies = record {
        valid = entries_valid v g.walk.valid;
        allowed = record_allowed v g.walk.valid;
        inside = omega (arith, g.short, g.reaches);
        fits = rw (← g.sized, tail_lent (t * S) buf, length-drop (t * S) buf) (omega (arith, runs));
      }

      pub gather_more : (part : List ℕ) (s' : Spot) → part ≡ front (byte_in v.numbers.etype.entries v.widths v.displacements file p) (size_of v.numbers.etype.entries v.widths) (take (length buf - t * S) (drop (t * S) buf)) → s' ≡ next_spot s v.numbers.filetype.instances v.numbers.filetype.extent → Gathering v file size o c S r buf₀ (take (t * S) buf ++ (part ++ drop (length buf - t * S) (drop (t * S) buf))) (t + 1) s'
      unfolding read_into byte_in
      gather_more part s' e n =
          let b = tail_back (λ k. k) (byte_in v.numbers.etype.entries v.widths v.displacements file p) (t * S) (size_of v.numbers.etype.entries v.widths) buf part from_inside e in
          let m : t * data_size (paper v) ≡ t * S = ap (λ (z : ℕ). t * z) (sym (walk_size v o c t s g.walk l S g.sized)) in
          record {
            walk = walk_more v o c t s g.walk l s' n;
            sized = g.sized;
            reaches = g.reaches;
            short = g.short;
            room = g.room;
            held = g.held;
            passed = passed_more _ t c g.passed l (in_file_yes v g.walk.valid size (o + t) (omega (arith, p_is, g.reaches)));
            long = ap length b ∙ length_store _ _ (size_of v.numbers.etype.entries v.widths) buf ∙ g.long;
            done = rw (times_more t (data_size (paper v)))
                (store_run (λ k. k) (λ i. nth file (file_byte (paper v) o i)) (λ k. t * S + k) (byte_in v.numbers.etype.entries v.widths v.displacements file p) (t * data_size (paper v)) (data_size (paper v)) buf₀ buf _ g.done (b ∙ ap (λ (z : ℕ). front_from z) (data_is v g.walk.valid))
                (λ k l. omega (arith, m))
                (λ k l. ap (nth file) (ap (λ (z : ℕ). place_in v.numbers.etype.entries v.widths v.displacements z k) p_is ∙ place_in_law v g.walk.valid (o + t) k ∙ sym (file_byte_run (paper v) o t k l))));
          }
        where
          front_from : ℕ → List ℕ
          front_from z = store (λ k. t * S + k) (byte_in v.numbers.etype.entries v.widths v.displacements file p) z buf
