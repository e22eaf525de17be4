-- From the contracts of the calls to the claims about one access, and where it begins. Rests on Granted.antt and HavingRead.antt.
use Rattle.laws.proofs.Prelude.{◌≡◌, sym, ap, ◌∙◌, ℤ, rules}
use Rattle.view.specs.declared.Offset.{Offset}
use Rattle.file.specs.declared.Handle.{Handle}
use Rattle.file.specs.Parts.{pointer_offset}
use Rattle.claim_calls.specs.declared.Begin.{Begin}
use Rattle.claim_calls.specs.declared.Begin.TheVariants.{Pointer, Explicit}
use Rattle.claim_calls.specs.Parts.{starts_at}
use Rattle.claim_calls.proofs.Granted.{written_next, written_at}
use Rattle.claim_calls.proofs.HavingRead.{read_next, read_explicit}

pub starts_pointer : (h : Handle) (b : Begin) → b ≡ Pointer → (z : ℤ) → z ≡ pointer_offset h → z ≡ starts_at h b
unfolding starts_at
starts_pointer h b e z q = q ∙ ap (starts_at h) (sym e)

pub starts_explicit : (h : Handle) (b : Begin) (o : Offset) → b ≡ Explicit o → o.0 ≡ starts_at h b
unfolding starts_at
starts_explicit h b o e = ap (starts_at h) (sym e)

pub ruleset beginning = (rules, starts_pointer, starts_explicit)

pub ruleset writing = (rules, written_next, written_at)

pub ruleset reading = (rules, read_next, read_explicit)
