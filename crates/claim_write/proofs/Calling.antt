-- From the contracts of a write and of the read after it to the claim: the read begins where the write did.
use Rattle.laws.proofs.Prelude.{ℕ, ◌≡◌, refl, sym, ap, ◌∙◌, subst, List, ℤ}
use Rattle.view.specs.declared.Offset.{Offset}
use Rattle.file.specs.declared.AccessAnswer.{AccessAnswer}
use Rattle.file.specs.Parts.{ReadAt}
use Rattle.claim_calls.specs.declared.Begin.{Begin}
use Rattle.claim_calls.specs.declared.Begin.TheVariants.{Pointer, Explicit}
use Rattle.claim_calls.specs.declared.DataAccess.{DataAccess}
use Rattle.claim_calls.specs.Parts.{starts_at}
use Rattle.claim_calls.specs.Offsets.{begins_at, offset_of}
use Rattle.claim_calls.specs.Accesses.{Written}
use Rattle.claim_write.specs.Writes.{ReadBack}
use Rattle.claim_write.proofs.ReadingBack.{read_back_law, read_back_start}

-- an explicit offset is the write's
explicit_is : (w : DataAccess) (o : Offset) → w.begin ≡ Explicit o → o.0 ≡ offset_of w
unfolding offset_of begins_at
explicit_is w o e = ap (begins_at w.handle) (sym e)

-- the read begins where the write did, at the pointer or not
module _ (w : DataAccess) (before after buffer into into' : List ℕ) (m : AccessAnswer) (n : AccessAnswer) (written : Written w before after buffer m) (z : ℤ) (read : ReadAt m.handle after m.file z w.count into into' n) where
  read_there : (b : Begin) → w.begin ≡ b → z ≡ starts_at w.handle b → ReadAt m.handle after m.file (offset_of w) w.count into into' n
  unfolding starts_at
  read_there Pointer e q = read_back_start w before after buffer into into' m n written.made e z q read
  read_there (Explicit o) e q = subst (λ (x : ℤ). ReadAt m.handle after m.file x w.count into into' n) (q ∙ explicit_is w o e) read

  pub read_after_law : z ≡ starts_at w.handle w.begin → ReadBack w before after buffer into into' (record { written = m; read = n })
  read_after_law q = read_back_law w before after buffer into into' m n written (read_there w.begin refl q)
