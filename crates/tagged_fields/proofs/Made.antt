-- An array made by calls at each index: of a closure that changes nothing, each element is what the closure gives there.
use Rattle.laws.proofs.Prelude.{ℕ, zero, suc, ◌+◌, ◌≤◌, ◌<◌, ◌≡◌, ◌∙◌, ap, subst, sym, List, ⊎_elim, arith, get_or, eq_or_ne}
use denote.Param.Members.{Mut, Called}
use Rattle.std.specs.Array.{IsFromFnResultFrom, IsFromFnResult}

module _ {F B : Type 0} (g : Mut F (ℕ × Unit {0}) B) (f : F) (made : List B) (value : ℕ → B) (gives : (i : ℕ) (y : B) (q : F) → Called g f (i, tt) y q → (y ≡ value i) × (q ≡ f)) where
  each_made : (i n : ℕ) → IsFromFnResultFrom g f made i n → (k : ℕ) (d : B) → i ≤ k → k < i + n → get_or made k d ≡ value k
  each_made i zero m k d a b = absurd (omega arith)
  each_made i (suc n) m k d a b =
      let e = gives i m.1 m.0 m.3 in
      ⊎_elim
      (λ s. ap (λ (j : ℕ). get_or made j d) s ∙ m.2.1 d ∙ e.0 ∙ ap value (sym s))
      (λ s. each_made (i + 1) n (subst (λ (q : F). IsFromFnResultFrom g q made (i + 1) n) e.1 m.4) k d (omega (arith, s)) (omega (arith, s)))
      (eq_or_ne k i)

pub made_at : {F B : Type 0} {g : Mut F (ℕ × Unit {0}) B} {f : F} {made : List B} (n : ℕ) (value : ℕ → B) → IsFromFnResult g f made n → ((i : ℕ) (y : B) (q : F) → Called g f (i, tt) y q → (y ≡ value i) × (q ≡ f)) → (k : ℕ) (d : B) → k < n → get_or made k d ≡ value k
made_at {g} {f} {made} n value m gives k d b = each_made g f made value gives 0 n m.each k d (omega arith) (omega arith)
