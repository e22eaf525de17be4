-- Values stored at the front of a part of a list are stored at the front of the list.
use Rattle.laws.proofs.Prelude.{ℕ, zero, suc, ◌≤◌, ◌≡◌, refl, sym, ap, ◌∙◌, List, ◌++◌, arith, length, take, drop, set, front, length_store, length-take-le}
use Rattle.laws.specs.Parts.{store}
use Rattle.std.proofs.lemmas.List.{set-append_left}
use lib.ListN.{take-append-drop}

front_before : {A : Type 0} (value : ℕ → A) (n : ℕ) (a b : List A) → n ≤ length a → front value n (a ++ b) ≡ front value n a ++ b
unfolding store
front_before value zero a b h = refl
front_before value (suc n) a b h =
    ap (λ l. set l n (value n)) (front_before value n a b (omega arith)) ∙ set-append_left (front value n a) b n (value n) (omega (arith, length_store (λ (i : ℕ). i) value n a))

pub front_lent : {A : Type 0} (value : ℕ → A) (n i : ℕ) (l part : List A) → n ≤ length l → part ≡ front value i (take n l) → i ≤ length (take n l) → length (take n l) ≤ i → part ++ drop n l ≡ front value n l
front_lent value n i l part h e a b =
    let q : i ≡ n = omega (arith, length-take-le n l h) in
    ap (λ p. p ++ drop n l) (e ∙ ap (λ k. front value k (take n l)) q) ∙ sym (front_before value n (take n l) (drop n l) (omega (arith, length-take-le n l h))) ∙ ap (front value n) (take-append-drop n l)
