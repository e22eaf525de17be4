-- How the code reads numbers and headers: by what stands from a place on, with 0 for bytes past the end.
use Rattle.laws.proofs.Prelude.{ℕ, ◌+◌, ◌-◌, ◌*◌, ◌^◌, ◌≤◌, ◌<◌, min, ◌≡◌, refl, sym, ap, ◌∙◌, true, List, ⊎_elim, arith, length, take, drop, length-drop, get_or-take, get_or-drop, add-zero, drop_of_length-le, List·getD-eq-default, ℤ, mag, w64, to_z, of_z, hbits, to_z-of_z, sfits_of, lt-ltb, le-ltb, le-leb, lt-leb, nth, either_left, either_right, either_no, lt_or_le}
use native.Mathlib.Nat.{add_assoc}
use lib.ListN.{length-take}
use Rattle.std.specs.Int.{from_le_bytes}
use Rattle.tagged_fields.specs.declared.Field.TheVariants.{Whole, Cut, End}
use Rattle.tagged_fields.specs.Fields.{little, body_length, is_cut, field_at}
use Rattle.tagged_fields.specs.Numbers.{number_at}

-- ---- past the end

past : (s : List ℕ) (at : ℕ) → length s ≤ at → 0 ≡ nth s at
past s at l = sym (List·getD-eq-default s 0 l)

-- ---- the bytes after the first n numbers of a body

-- what stands after the first n numbers: nothing where they run past the end
pub bytes_rest : (s : List ℕ) (n r : ℕ) → r ≡ min (8 * n) (length s) → drop r s ≡ drop (8 * n) s
bytes_rest s n r e =
    ⊎_elim
    (λ (l : 8 * n < length s). let h : r ≡ 8 * n = omega arith in ap (λ (k : ℕ). drop k s) h)
    (λ (l : length s ≤ 8 * n). drop_of_length-le s {i = r} (omega arith) ∙ sym (drop_of_length-le s {i = 8 * n} l))
    (lt_or_le (8 * n) (length s))

-- ---- a field, along the code's tests

pub field_end : (s : List ℕ) (at : ℕ) → length s ≤ at → End ≡ field_at s at
unfolding field_at
field_end s at l = rw (le-leb (length s) at l)

module _ (s : List ℕ) (at : ℕ) (l : at < length s) where
  cut_is : is_cut s at ≡ true → Cut ≡ field_at s at
  unfolding field_at
  cut_is e = rw (lt-leb (length s) at l, e)

  pub cut_header : length s - at < 3 → Cut ≡ field_at s at
  unfolding is_cut
  cut_header h = cut_is (either_left _ _ (lt-ltb (length s) (at + 3) (omega arith)))

  module _ (h : 3 ≤ length s - at) (n : ℕ) (e : n ≡ little s (at + 1) 2) where
    pub cut_body : length s - at - 3 < n → Cut ≡ field_at s at
    unfolding is_cut body_length
    cut_body b = cut_is (either_right _ _ (lt-ltb (length s) (at + 3 + little s (at + 1) 2) (omega arith)))

    pub field_whole : n ≤ length s - at - 3 → Whole (nth s at) (at + 3) n ≡ field_at s at
    unfolding field_at is_cut body_length
    field_whole b =
        let q = either_no _ _ (le-ltb (length s) (at + 3) (omega arith)) (le-ltb (length s) (at + 3 + little s (at + 1) 2) (omega arith)) in
        rw (lt-leb (length s) at l, q) (ap (Whole (nth s at) (at + 3)) e)

-- ---- what stands from a place on

pub record Rest (s : List ℕ) (at : ℕ) (rest : List ℕ) : Type 0 where
  pub long : length rest ≡ length s - at
  pub bytes : (i : ℕ) → nth rest i ≡ nth s (at + i)

pub rest_is : (s : List ℕ) (at m : ℕ) → m ≡ min at (length s) → Rest s at (take (length s - m) (drop m s))
rest_is s at m e = record {
  long = long;
  bytes = λ i. ⊎_elim (within i) (beyond i) (lt_or_le (at + i) (length s));
}
  where
    long : length (take (length s - m) (drop m s)) ≡ length s - at
    long = omega (arith, length-take (length s - m) (drop m s), length-drop m s)

    within : (i : ℕ) → at + i < length s → nth (take (length s - m) (drop m s)) i ≡ nth s (at + i)
    within i l =
        let p : m + i ≡ at + i = omega arith in
        get_or-take (length s - m) (drop m s) i 0 (omega arith) ∙ get_or-drop m s i 0 ∙ ap (nth s) p

    beyond : (i : ℕ) → length s ≤ at + i → nth (take (length s - m) (drop m s)) i ≡ nth s (at + i)
    beyond i l = sym (past (take (length s - m) (drop m s)) i (omega (arith, long))) ∙ past s (at + i) l

-- a number, by its eight bytes
pub number_of_bytes : (s : List ℕ) (i : ℕ) (rest : List ℕ) → Rest s (8 * i) rest → (made : List ℕ) → ((k : ℕ) → k < 8 → nth made k ≡ nth rest k) → from_le_bytes w64 made ≡ number_at s i
unfolding number_at little
number_of_bytes s i rest r made h =
    let e : (k j : ℕ) → k < 8 → j ≡ 8 * i + k → nth made k ≡ nth s j = λ k j l q. h k l ∙ r.bytes k ∙ ap (nth s) (sym q) in
    omega (
      arith,
      e 0 (8 * i) (omega arith) (omega arith),
      e 1 (8 * i + 1) (omega arith) refl,
      e 2 (8 * i + 1 + 1) (omega arith) (omega arith),
      e 3 (8 * i + 1 + 1 + 1) (omega arith) (omega arith),
      e 4 (8 * i + 1 + 1 + 1 + 1) (omega arith) (omega arith),
      e 5 (8 * i + 1 + 1 + 1 + 1 + 1) (omega arith) (omega arith),
      e 6 (8 * i + 1 + 1 + 1 + 1 + 1 + 1) (omega arith) (omega arith),
      e 7 (8 * i + 1 + 1 + 1 + 1 + 1 + 1 + 1) (omega arith) (omega arith),
    )

-- ---- a field, by what stands from its place on

module _ (s : List ℕ) (at : ℕ) (rest : List ℕ) (r : Rest s at rest) where
  pub rest_end : length rest < 1 → End ≡ field_at s at
  rest_end h = field_end s at (omega (arith, r.long))

  pub rest_header : 1 ≤ length rest → length rest < 3 → Cut ≡ field_at s at
  rest_header h k = cut_header s at (omega (arith, r.long)) (omega (arith, r.long))

  module _ (h : 3 ≤ length rest) (n : ℕ) (e : n ≡ nth rest 1 + nth rest 2 * 256) where
    named : n ≡ little s (at + 1) 2
    unfolding little
    named = omega (arith, e, r.bytes 1, r.bytes 2, ap (nth s) (add_assoc at 1 1))

    body_long : length (take (length rest - 3) (drop 3 rest)) ≡ length s - at - 3
    body_long = omega (arith, r.long, length-take (length rest - 3) (drop 3 rest), length-drop 3 rest)

    pub rest_cut : length (take (length rest - 3) (drop 3 rest)) < n → Cut ≡ field_at s at
    rest_cut l = cut_body s at (omega (arith, r.long)) (omega (arith, r.long)) n named (omega (arith, body_long))

    pub rest_whole : n ≤ length (take (length rest - 3) (drop 3 rest)) → Whole (nth rest 0) (at + 3) n ≡ field_at s at
    rest_whole l = ap (λ t. Whole t (at + 3) n) (r.bytes 0 ∙ ap (nth s) (add-zero at)) ∙ field_whole s at (omega (arith, r.long)) (omega (arith, r.long)) n named (omega (arith, body_long))

-- ---- signed numbers

-- a signed number is w, and so is the machine's reading of its bits
pub signed_read : (z w : ℤ) → mag z < 2 ^ hbits w64 → z ≡ w → to_z w64 (of_z w64 z) ≡ w
signed_read z w f e = to_z-of_z {w = w64} (sfits_of f) ∙ e
