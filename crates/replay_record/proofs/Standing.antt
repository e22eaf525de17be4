-- A check: the bytes stand in the file from a place on, as the code tests it and as a list.
use Rattle.laws.proofs.Prelude.{◌⊎◌, Bool, ℕ, ◌+◌, ◌-◌, ◌≤◌, ◌<◌, ◌≡◌, sym, ap, ◌∙◌, true, false, List, arith, length, take, drop, eqb, length-drop, length-take-le, ext_get_or, get_or-take, get_or-drop, eq-eqb, eqb-true, le-leb, leb-true, lt-leb, nth, all_at, all_intro, also_no, also_true, also_inv, tail_lent}
use Rattle.std.specs.List.{starts_with}
use Rattle.std.proofs.lemmas.Bool.Decides.{Decides-eqb, same_from_decides}
use Rattle.std.proofs.lemmas.Slice.Eq.{slice_eq-Decides}
use lib.ListN.{length-take}
use Rattle.replay_record.specs.Steps.{byte_stands, stands_at}

module _ (bytes : List ℕ) (place : ℕ) (range : List ℕ) where
  -- ---- the range is the part of the file from the place on

  pub stands_is : stands_at bytes place range ≡ true → (place + length range ≤ length bytes) × (take (length range) (drop place bytes) ≡ range)
  unfolding stands_at byte_stands
  stands_is e =
      let both = also_inv _ _ e in
      let h : place + length range ≤ length bytes = leb-true _ _ both.0 in
      let d = length-drop place bytes in
      let n : length (take (length range) (drop place bytes)) ≡ length range = length-take-le (length range) (drop place bytes) (omega arith) in (
        h,
        ext_get_or 0 (take (length range) (drop place bytes)) range n (λ i l.
            let q : i < length range = omega arith in
            get_or-take (length range) (drop place bytes) i 0 q ∙ get_or-drop place bytes i 0 ∙ eqb-true _ _ (all_at _ (length range) both.1 i q)),
      )

  pub stands_only : place + length range ≤ length bytes → take (length range) (drop place bytes) ≡ range → stands_at bytes place range ≡ true
  unfolding stands_at byte_stands
  stands_only h e =
      also_true (le-leb _ _ h)
      (all_intro _ (length range) (λ i q. eq-eqb _ _ (sym (get_or-drop place bytes i 0) ∙ sym (get_or-take (length range) (drop place bytes) i 0 q) ∙ (λ j. nth (e j) i))))

  -- ---- as the code tests it

  pub past_file : (length bytes < place) ⊎ (length bytes < length bytes) → false ≡ stands_at bytes place range
  unfolding stands_at
  past_file h = also_no _ _ (lt-leb _ _ (omega arith))

  pub in_file_law : (rest : List ℕ) (r : Bool) → place ≤ length bytes → rest ≡ take (length bytes - place) (drop place bytes) → r ≡ starts_with eqb rest range → r ≡ stands_at bytes place range
  in_file_law rest r h e q =
      let part : rest ≡ drop place bytes = e ∙ tail_lent place bytes in
      same_from_decides r (stands_at bytes place range)
      (rw part at (slice_eq-Decides Decides-eqb range (take (length range) rest) r q)) (
        (λ s. sym (stands_is s).1),
        (λ p. stands_only (omega (arith, ap length p, length-take (length range) (drop place bytes), length-drop place bytes)) (sym p)),
      )
