-- A result that may be refused, as the fault of a number and what it names.
use Rattle.laws.proofs.Prelude.{ℕ, ◌≡◌, ap, ◌∙◌}
use Rattle.std.specs.Prelude.{Ok, Err}
use Rattle.view.specs.declared.Named.{Named}
use Rattle.view.specs.declared.Named.TheVariants.{Nothing}
use Rattle.view.specs.declared.Refused.{Refused}
use Rattle.view.specs.declared.refusals.Refusal.{Refusal}
use Rattle.view.specs.Parts.{fault_of, fault_by, refusal_number, refused_as, fault_in}

module _ (A : Type 0) where
  pub refused_is : (e : Refusal) (x : Named) (r : Refused) → r ≡ refused_as e x → fault_in {A = A} (Err r) ≡ fault_of (refusal_number e) x
  unfolding fault_in
  refused_is e x r p = ap (λ (z : Refused). fault_of (refusal_number z.refusal) z.named) p

  module _ (names : ℕ → Named) where
    pub refused_by : (e : Refusal) (n : ℕ) (x : Named) (r : Refused) → r ≡ refused_as e x → x ≡ names (refusal_number e) → refusal_number e ≡ n → fault_in {A = A} (Err r) ≡ fault_by names n
    unfolding fault_by
    refused_by e n x r p q h = refused_is e x r p ∙ ap (fault_of (refusal_number e)) q ∙ ap (λ (k : ℕ). fault_of k (names k)) h

    pub granted_by : (a : A) (n : ℕ) → Nothing ≡ names 0 → 0 ≡ n → fault_in (Ok a) ≡ fault_by names n
    unfolding fault_in fault_by
    granted_by a n q h = ap (fault_of 0) q ∙ ap (λ (k : ℕ). fault_of k (names k)) h
