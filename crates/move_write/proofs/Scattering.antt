-- The writing mover: the data of the first t etypes are stored, each byte at its place. Then a whole write: the gap, and the data.
use Rattle.laws.proofs.Prelude.{ℕ, ◌+◌, ◌-◌, ◌*◌, ◌^◌, ◌≤◌, ◌<◌, max, ◌≡◌, refl, sym, ap, ◌∙◌, List, arith, zero-mul, length, take, drop, length-drop, ℤ, get_or-drop, w64, Fits, nth, store, times_more, run_below, store_none, store_run, tail_lent}
use Rattle.view.specs.declared.View.{View}
use Rattle.view.specs.Types.{paper, whole}
use Rattle.view.specs.Places.{place, byte_of, data_size}
use Rattle.view.proofs.Held.{record_allowed}
use Rattle.view_place.specs.declared.Spot.{Spot}
use Rattle.view_place.specs.Parts.{spot_at, next_spot}
use Rattle.handle.specs.declared.FileRecord.{FileRecord}
use Rattle.handle.specs.Handles.{with_size}
use Rattle.move_run.specs.Parts.{onward, always}
use Rattle.view.specs.Parts.{size_of}
use Rattle.move_etype.specs.Parts.{place_in, Lies}
use Rattle.move_read.specs.Moves.{file_byte}
use Rattle.move_read.specs.Parts.{write_end, new_size, written}
use Rattle.move_read.proofs.Etypes.{reach, entries_valid, data_is, place_in_law, data_last}
use Rattle.move_read.proofs.Walking.{file_byte_run, Walking, walk_more, walk_place, walk_size, walk_room, walk_begun}
use Rattle.move_read.proofs.Writing.{write_end_is}
use Rattle.move_write.specs.Parts.{Storable, Grown}

-- S is the data size
pub record Scattering (v : View) (buf : List ℕ) (o c S : ℕ) (file₀ file : List ℕ) (t : ℕ) (s : Spot) : Type 0 where
  pub walk : Walking v o c t s
  pub sized : S ≡ size_of v.numbers.etype.entries v.widths
  pub room : c * data_size (paper v) ≤ length buf
  pub held : length buf < 2 ^ 64
  pub ends : write_end (paper v) o c ≤ length file₀
  pub long : length file ≡ length file₀
  pub done : file ≡ store (file_byte (paper v) o) (nth buf) (t * data_size (paper v)) file₀

module _ (v : View) (buf file : List ℕ) (o : ℤ) (c : ℕ) where
  -- nothing is stored
  pub scatter_none : c ≡ 0 → file ≡ store (file_byte (paper v) (whole o)) (nth buf) (c * data_size (paper v)) file
  scatter_none e = rw (e, zero-mul (data_size (paper v))) (store_none _ _ file)

  pub scattering_none : Storable v (length file) o c (length buf) → (S : ℕ) → S ≡ size_of v.numbers.etype.entries v.widths → (s : Spot) → s ≡ spot_at v.numbers (whole o) → length buf < 2 ^ 64 → Scattering v buf (whole o) c S file file 0 s
  scattering_none h S sized s at held = record {
    walk = walk_begun v o c h.ranged s at;
    sized = sized;
    room = h.room;
    held = held;
    ends = h.ends;
    long = refl;
    done = rw (zero-mul (data_size (paper v))) (store_none _ _ file);
  }

-- the next etype begins at p; S bytes from t·S on are lent
module _ (v : View) (buf file₀ : List ℕ) (o c S : ℕ) (file : List ℕ) (t : ℕ) (s : Spot) (g : Scattering v buf o c S file₀ file t s) (l : t < c) where
  S-is : S ≡ data_size (paper v)
  S-is = walk_size v o c t s g.walk l S g.sized

  runs : t * S + S ≤ length buf
  runs = walk_room v o c t s g.walk l S g.sized (length buf) g.room

  pub from_fits : Fits w64 (t * S)
  from_fits = record { fits = omega (arith, runs, g.held) }

  pub from_inside : t * S ≤ length buf
  from_inside = omega (arith, runs)

  module _ (p : ℕ) (begins : p ≡ s.tile.0 + nth v.origins s.instance) where
    p_is : p ≡ place (paper v) (o + t)
    p_is = walk_place v o c t s g.walk l p begins

    -- the etype's last byte is one that the write maps, and so it lies in the file
    inside : p + reach v ≤ length file₀
    unfolding byte_of
    inside =
        let d = data_last v g.walk.valid in
        let i = run_below c (data_size (paper v)) t (data_last v g.walk.valid).0 l (data_last v g.walk.valid).1.0 in
        let b = (write_end_is (paper v) o c).above (t * data_size (paper v) + (data_last v g.walk.valid).0) i in
        let f = file_byte_run (paper v) o t (data_last v g.walk.valid).0 (data_last v g.walk.valid).1.0 in
        omega (arith, p_is, (data_last v g.walk.valid).1.1, g.ends)

    pub scatter_lies : Lies v.numbers.etype.entries v.widths v.displacements p (length file) (length (take (length buf - t * S) (drop (t * S) buf)))
    scatter_lies = record {
      valid = entries_valid v g.walk.valid;
      allowed = record_allowed v g.walk.valid;
      inside = omega (arith, inside, g.long);
      fits = rw (← g.sized, tail_lent (t * S) buf, length-drop (t * S) buf) (omega (arith, runs));
    }

    pub scatter_more : (file' : List ℕ) (s' : Spot) → length file' ≡ length file → file' ≡ store (place_in v.numbers.etype.entries v.widths v.displacements p) (nth (take (length buf - t * S) (drop (t * S) buf))) (size_of v.numbers.etype.entries v.widths) file → s' ≡ next_spot s v.numbers.filetype.instances v.numbers.filetype.extent → Scattering v buf o c S file₀ file' (t + 1) s'
    scatter_more file' s' m e n =
        let lent : (k : ℕ) → nth (take (length buf - t * S) (drop (t * S) buf)) k ≡ nth buf (t * data_size (paper v) + k) = λ k. ap (λ (z : List ℕ). nth z k) (tail_lent (t * S) buf) ∙ get_or-drop (t * S) buf k 0 ∙ ap (λ (z : ℕ). nth buf (t * z + k)) S-is in
        record {
          walk = walk_more v o c t s g.walk l s' n;
          sized = g.sized;
          room = g.room;
          held = g.held;
          ends = g.ends;
          long = m ∙ g.long;
          done = rw (times_more t (data_size (paper v)))
              (store_run (file_byte (paper v) o) (nth buf) (place_in v.numbers.etype.entries v.widths v.displacements p) (nth (take (length buf - t * S) (drop (t * S) buf))) (t * data_size (paper v)) (data_size (paper v)) file₀ file file' g.done (e ∙ ap (λ (z : ℕ). store (place_in v.numbers.etype.entries v.widths v.displacements p) (nth (take (length buf - t * S) (drop (t * S) buf))) z file) (data_is v g.walk.valid))
              (λ k q. ap (λ (z : ℕ). place_in v.numbers.etype.entries v.widths v.displacements z k) p_is ∙ place_in_law v g.walk.valid (o + t) k ∙ sym (file_byte_run (paper v) o t k q))
              (λ k q. lent k));
        }

-- ---- a whole write

pub grow_done : (r : FileRecord) (end grown : ℕ) (before after : List ℕ) → grown ≡ max r.size end → after ≡ store (onward r.size) (always 0) (grown - r.size) before → Grown r end before after (record { size = grown })
unfolding with_size onward always
grow_done r end grown before after g f = record {
  is = λ i. record { size = g i };
  bytes = f ∙ ap (λ (z : ℕ). store (onward r.size) (always 0) (z - r.size) before) g;
}

-- the gap is filled, and then the data are stored
pub write_done : (v : View) (r grown : FileRecord) (o : ℤ) (c end : ℕ) (buf file filled file' : List ℕ) → end ≡ write_end (paper v) (whole o) c → Grown r end file filled grown → file' ≡ store (file_byte (paper v) (whole o)) (nth buf) (c * data_size (paper v)) filled → (grown ≡ with_size r (new_size (paper v) r.size (whole o) c)) × (file' ≡ written (paper v) r.size (whole o) c buf file)
unfolding written new_size
write_done v r grown o c end buf file filled file' n g e = (
  g.is ∙ ap (λ (z : ℕ). with_size r (max r.size z)) n,
  e ∙ ap (store (file_byte (paper v) (whole o)) (nth buf) (c * data_size (paper v))) (g.bytes ∙ ap (λ (z : ℕ). store (λ i. r.size + i) (λ i. 0) (max r.size z - r.size) file) n),
)
