-- What a field's place says of the run, and the fields in a window of a longer run: a whole field of the window is one of the run, and where the window ends the run, all of them are.
use Rattle.laws.proofs.Prelude.{◌⊎◌, inl, inr, ℕ, zero, suc, ◌+◌, ◌-◌, ◌≤◌, ◌<◌, ◌≡◌, refl, sym, ap, ◌∙◌, subst, List, ⊎_elim, arith, length, take, drop, length-drop, length-take-le, get_or-take, get_or-drop, ext_get_or, nth, lt_or_le}
use native.Mathlib.Nat.{add_assoc}
use lib.ListN.{length-take}
use lib.Seq.{take_all}
use Rattle.tagged_fields.specs.declared.Field.{Field}
use Rattle.tagged_fields.specs.declared.Field.TheVariants.{Whole, Cut, End}
use Rattle.tagged_fields.specs.Fields.{little, body_length, field_at}
use Rattle.tagged_fields.proofs.Bytes.{field_end, cut_header, cut_body, field_whole}

-- ---- by cases

pub data FieldIs (s : List ℕ) (at : ℕ) : Field → Type 0 where
  is_end : length s ≤ at → FieldIs s at End
  is_cut_law : at < length s → length s < at + 3 + body_length s at → FieldIs s at Cut
  is_whole : {tag start n : ℕ} → tag ≡ nth s at → start ≡ at + 3 → n ≡ body_length s at → start + n ≤ length s → FieldIs s at (Whole tag start n)

pub field_is : (s : List ℕ) (at : ℕ) → FieldIs s at (field_at s at)
unfolding body_length
field_is s at = ⊎_elim inside (λ (l : length s ≤ at). subst (FieldIs s at) (field_end s at l) (is_end l)) (lt_or_le at (length s))
  where
    whole : at < length s → 3 ≤ length s - at → FieldIs s at (field_at s at)
    whole l h = ⊎_elim
        (λ (b : length s - at - 3 < little s (at + 1) 2). subst (FieldIs s at) (cut_body s at l h (little s (at + 1) 2) refl b) (is_cut_law l (omega arith)))
        (λ (b : little s (at + 1) 2 ≤ length s - at - 3). subst (FieldIs s at) (field_whole s at l h (little s (at + 1) 2) refl b) (is_whole refl refl refl (omega arith)))
        (lt_or_le (length s - at - 3) (little s (at + 1) 2))

    inside : at < length s → FieldIs s at (field_at s at)
    inside l = ⊎_elim
        (λ (h : length s - at < 3). subst (FieldIs s at) (cut_header s at l h) (is_cut_law l (omega arith)))
        (λ (h : 3 ≤ length s - at). whole l h)
        (lt_or_le (length s - at) 3)

-- and back: the cases settle what stands there
pub end_is_there : (s : List ℕ) (at : ℕ) → length s ≤ at → field_at s at ≡ End
end_is_there s at l = sym (field_end s at l)

pub whole_is_there : (s : List ℕ) (at : ℕ) → at + 3 + body_length s at ≤ length s → field_at s at ≡ Whole (nth s at) (at + 3) (body_length s at)
unfolding body_length
whole_is_there s at l = sym (field_whole s at (omega arith) (omega arith) (little s (at + 1) 2) refl (omega arith))

-- a whole field ends within the run
pub whole_within : (s : List ℕ) (at tag start n : ℕ) → FieldIs s at (Whole tag start n) → start + n ≤ length s
whole_within s at tag start n (is_whole t e m l) = l

-- a whole field is at least its header
pub whole_past : (s : List ℕ) (at tag start n : ℕ) → FieldIs s at (Whole tag start n) → at + 3 ≤ start + n
whole_past s at tag start n (is_whole t e m l) = omega arith

-- ---- a window of a run: the k bytes from place p on, or fewer where the run ends

module _ (s : List ℕ) (p k : ℕ) where
  short : length (take k (drop p s)) ≤ k
  short = omega (arith, length-take k (drop p s))

  in_run : (i : ℕ) → i ≤ length (take k (drop p s)) → 0 < i → p + i ≤ length s
  in_run i l some = omega (arith, length-take k (drop p s), length-drop p s)

  byte_in_law : (i : ℕ) → i < length (take k (drop p s)) → nth (take k (drop p s)) i ≡ nth s (p + i)
  byte_in_law i l = get_or-take k (drop p s) i 0 (omega (arith, short)) ∙ get_or-drop p s i 0

  little_in : (at n : ℕ) → at + n ≤ length (take k (drop p s)) → little (take k (drop p s)) at n ≡ little s (p + at) n
  unfolding little
  little_in at zero l = refl
  little_in at (suc n) l =
      let e : p + (at + 1) ≡ p + at + 1 = omega arith in
      let b = byte_in_law at (omega arith) in
      let r = little_in (at + 1) n (omega arith) in
      let q = ap (λ (z : ℕ). little s z n) e in
      omega (arith, b, r, q)

  length_in : (at : ℕ) → at + 3 ≤ length (take k (drop p s)) → body_length (take k (drop p s)) at ≡ body_length s (p + at)
  unfolding body_length
  length_in at l = little_in (at + 1) 2 (omega arith) ∙ ap (λ (z : ℕ). little s z 2) (sym (add_assoc p at 1))

  -- a whole field of the window is that field of the run
  pub whole_in : (at tag start n : ℕ) → FieldIs (take k (drop p s)) at (Whole tag start n) → field_at s (p + at) ≡ Whole tag (p + start) n
  whole_in at tag start n (is_whole t e m l) =
      let b : n ≡ body_length s (p + at) = m ∙ length_in at (omega arith) in
      let f = in_run (start + n) l (omega arith) in
      let w = whole_is_there s (p + at) (omega arith) in
      let ht : nth s (p + at) ≡ tag = sym (t ∙ byte_in_law at (omega arith)) in
      let he : p + at + 3 ≡ p + start = omega arith in
      w ∙ (λ i. Whole (ht i) (he i) (sym b i))

  -- and its body the same
  pub body_in : (start n : ℕ) → start + n ≤ length (take k (drop p s)) → take n (drop start (take k (drop p s))) ≡ take n (drop (p + start) s)
  body_in start n l =
      let w = take k (drop p s) in
      let a = length-take-le n (drop start w) (omega (arith, length-drop start w)) in
      let f = length-take k (drop p s) in
      let d = length-drop p s in
      let e = length-drop (p + start) s in
      ext_get_or 0 (take n (drop start w)) (take n (drop (p + start) s)) (a ∙ sym (room start n l (lt_or_le 0 n))) (λ i q.
      let h : i < n = omega arith in
      let g : p + (start + i) ≡ p + start + i = omega arith in
      get_or-take n (drop start w) i 0 h ∙ get_or-drop start w i 0 ∙ byte_in_law (start + i) (omega arith) ∙ ap (nth s) g ∙ sym (get_or-take n (drop (p + start) s) i 0 h ∙ get_or-drop (p + start) s i 0))
    where
      room : (start n : ℕ) → start + n ≤ length (take k (drop p s)) → (0 < n) ⊎ (n ≤ 0) → length (take n (drop (p + start) s)) ≡ n
      room start n l (inl h) = length-take-le n (drop (p + start) s) (omega (arith, in_run (start + n) l (omega arith), length-drop (p + start) s))
      room start n l (inr h) = omega (arith, length-take n (drop (p + start) s))

  -- ---- where the window ends the run

  module _ (all : length s ≤ p + k) where
    rest : take k (drop p s) ≡ drop p s
    rest = take_all k (drop p s) (omega (arith, length-drop p s))

    pub end_in : (at : ℕ) → FieldIs (take k (drop p s)) at End → field_at s (p + at) ≡ End
    end_in at (is_end l) = end_is_there s (p + at) (omega (arith, ap length rest, length-drop p s))

    pub cut_in : (at : ℕ) → FieldIs (take k (drop p s)) at Cut → field_at s (p + at) ≡ Cut
    cut_in at (is_cut_law l h) = cut_there (field_at s (p + at)) (field_is s (p + at))
      where
        n : length (take k (drop p s)) ≡ length s - p
        n = ap length rest ∙ length-drop p s

        same : at + 3 ≤ length (take k (drop p s)) → body_length (take k (drop p s)) at ≡ body_length s (p + at)
        same = length_in at

        cut_there : (f : Field) → FieldIs s (p + at) f → f ≡ Cut
        cut_there End (is_end e) = absurd (omega (arith, n))
        cut_there Cut c = refl
        cut_there (Whole tag start m) (is_whole t e b w) = absurd (omega (arith, n, same (omega (arith, n))))
