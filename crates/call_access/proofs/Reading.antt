-- A read: what a granted one hands to the mover, and what it answers and leaves.
use Rattle.laws.proofs.Prelude.{ℕ, ◌≡◌, refl, sym, ap, ◌∙◌, Bool, List, length, ℤ, granted, granted_no}
use Rattle.std.proofs.Common.{Result, Ok, Err}
use Rattle.view.specs.declared.View.{View}
use Rattle.view.specs.declared.refusals.Refusal.{Refusal}
use Rattle.view.specs.Parts.{refusal_in, refusal_number}
use Rattle.view.specs.Types.{paper, whole}
use Rattle.view.specs.Modes.{allows_reading}
use Rattle.view.proofs.Numbered.{refused_some}
use Rattle.handle.specs.declared.FileRecord.{FileRecord}
use Rattle.handle.specs.Parts.{paper_handle}
use Rattle.move_read.specs.Parts.{Movable, ReadDone, read_into}
use Rattle.call_checks.specs.Refusals.{access_refusal, read_refusal}
use Rattle.call_checks.proofs.Accesses.{access_movable}
use Rattle.call_access.specs.Parts.{ReadMade}

module _ (mode pointer : ℕ) (v : View) (file : List ℕ) (r : FileRecord) (o : ℤ) (c : ℕ) (before : List ℕ) (u : Bool) (w : u ≡ allows_reading mode) where
  found : (n : ℕ) → n ≡ access_refusal u (paper_handle mode pointer v) (length file) r o c (length before) 0 → n ≡ read_refusal (paper_handle mode pointer v) (length file) r o c (length before)
  unfolding read_refusal
  found n q = q ∙ ap (λ (b : Bool). access_refusal b (paper_handle mode pointer v) (length file) r o c (length before) 0) w

  pub read_refused : (e : Refusal) → refusal_number e ≡ access_refusal u (paper_handle mode pointer v) (length file) r o c (length before) 0 → ReadMade (paper_handle mode pointer v) file r o c before before (Err e)
  unfolding refusal_in
  read_refused e q = record { refusal = found _ q; count = tt; buffer = sym (granted_no _ _ before (refused_some ℕ e)) }

  module _ (q : 0 ≡ access_refusal u (paper_handle mode pointer v) (length file) r o c (length before) 0) where
    pub read_movable : Movable v (length file) r.size o c (length before)
    read_movable = access_movable u mode pointer v (length file) r o c (length before) 0 (sym q)

    pub read_made : (m : ℕ) (after : List ℕ) → ReadDone v file r.size o c before m after → ReadMade (paper_handle mode pointer v) file r o c before after (Ok m)
    unfolding granted refusal_in
    read_made m after d = record { refusal = found 0 q; count = d.count; buffer = d.buffer ∙ ap (λ (n : ℕ). read_into (paper v) file (whole o) n before) d.count }
