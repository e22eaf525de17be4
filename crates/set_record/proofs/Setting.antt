-- The view set: the lists of a body as the code decodes them, and the call with them.
use Rattle.laws.proofs.Prelude.{zero, suc, ℕ, ◌+◌, ◌*◌, ◌≤◌, ◌<◌, ◌≡◌, ap, ◌∙◌, List, arith, length, take, drop, replicate, length-replicate, ℤ, pos, nth, tabulate, front, front_part}
use Rattle.tagged_fields.specs.Numbers.{number_at, number_from, signed_from}
use Rattle.file.specs.declared.Handle.{Handle}
use Rattle.file.specs.declared.SetViewAnswer.{SetViewAnswer}
use Rattle.file.specs.Parts.{set_view_answer}
use Rattle.set_record.specs.Sets.{list_length, list_start, widths_in, displacements_in, body_view, view_in, lists_end, representation_in}

-- ---- the lists of a body

-- a list stored at the front of an array
stored_part : {A : Type 0} (f : ℕ → A) (n : ℕ) (x : A) (l : List A) → n ≤ 8192 → l ≡ front f n (replicate 8192 x) → take n l ≡ tabulate f n
stored_part f n x l h e = ap (take n) e ∙ front_part f n x (replicate 8192 x) (omega (arith, length-replicate 8192 x))

module _ (body n : List ℕ) (h : (k : ℕ) → k < 4 → (nth n k ≡ list_length body (4 + k)) × (nth n k ≤ 8192)) where
  count : (k : ℕ) → k < 4 → nth n k ≡ list_length body (4 + k)
  count k l = (h k l).0

  pub lists_end_is : 8 * (8 + nth n 0 + nth n 1 + nth n 2 + nth n 3) ≡ lists_end body
  unfolding lists_end list_start
  lists_end_is = omega (arith, count 0 (omega arith), count 1 (omega arith), count 2 (omega arith), count 3 (omega arith))

  pub set_view_is : (x : Handle) (rest : ℕ) (ew : List ℕ) (ed : List ℤ) (fw : List ℕ) (fd : List ℤ) (r : SetViewAnswer) → drop rest body ≡ drop (8 * (8 + nth n 0 + nth n 1 + nth n 2 + nth n 3)) body → ew ≡ front (number_from body 8) (nth n 0) (replicate 8192 0) → ed ≡ front (signed_from body (8 + nth n 0)) (nth n 1) (replicate 8192 (pos 0)) → fw ≡ front (number_from body (8 + nth n 0 + nth n 1)) (nth n 2) (replicate 8192 0) → fd ≡ front (signed_from body (8 + nth n 0 + nth n 1 + nth n 2)) (nth n 3) (replicate 8192 (pos 0)) → r ≡ set_view_answer x (drop rest body) (body_view body (take (nth n 0) ew) (take (nth n 1) ed) (take (nth n 2) fw) (take (nth n 3) fd)) → r ≡ set_view_answer x (representation_in body) (view_in body)
  unfolding view_in representation_in lists_end widths_in displacements_in list_start
  set_view_is x rest ew ed fw fd r er eew eed efw efd e =
      let h0 = count 0 (omega arith) in
      let h1 = count 1 (omega arith) in
      let h2 = count 2 (omega arith) in
      let h3 = count 3 (omega arith) in
      let a = stored_part (number_from body 8) (nth n 0) 0 ew (h 0 (omega arith)).1 eew in
      let b = stored_part (signed_from body (8 + nth n 0)) (nth n 1) (pos 0) ed (h 1 (omega arith)).1 eed in
      let c = stored_part (number_from body (8 + nth n 0 + nth n 1)) (nth n 2) 0 fw (h 2 (omega arith)).1 efw in
      let d = stored_part (signed_from body (8 + nth n 0 + nth n 1 + nth n 2)) (nth n 3) (pos 0) fd (h 3 (omega arith)).1 efd in
      e ∙ (λ i. set_view_answer x (er i) (body_view body (a i) (b i) (c i) (d i)))
      ∙ (λ i. set_view_answer x (drop (8 * (8 + h0 i + h1 i + h2 i + h3 i)) body) (body_view body (tabulate (number_from body 8) (h0 i)) (tabulate (signed_from body (8 + h0 i)) (h1 i)) (tabulate (number_from body (8 + h0 i + h1 i)) (h2 i)) (tabulate (signed_from body (8 + h0 i + h1 i + h2 i)) (h3 i))))

-- a body that ends where its counts say, as a field's can, has counts that are taken as they stand
pub counts_stand : (body : List ℕ) (r : ℕ) → length body ≤ 65535 → length body ≡ lists_end body + r → (k : ℕ) → k < 4 → list_length body (4 + k) ≡ number_at body (4 + k)
unfolding lists_end list_start list_length
counts_stand body r h e zero l = omega arith
counts_stand body r h e (suc zero) l = omega arith
counts_stand body r h e (suc (suc zero)) l = omega arith
counts_stand body r h e (suc (suc (suc zero))) l = omega arith
counts_stand body r h e (suc (suc (suc (suc k)))) l = absurd (omega arith)
