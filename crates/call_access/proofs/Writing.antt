-- A write: check 14 after the checks of an access, what a granted one hands to the mover, and what it answers and leaves.
use Rattle.laws.proofs.Prelude.{ℕ, ◌*◌, ◌≤◌, ◌<◌, ◌≡◌, refl, sym, ap, ◌∙◌, Bool, true, List, arith, length, ℤ, leb, lit<, leb-true, le-leb, lt-leb, check, granted, nth, store, check_yes, check_no, check_inv, granted_no, Passes, length_store}
use Rattle.std.proofs.Common.{Result, Ok, Err}
use Rattle.view.specs.declared.View.{View}
use Rattle.view.specs.declared.BytePos.{BytePos}
use Rattle.view.specs.declared.refusals.Refusal.{Refusal}
use Rattle.view.specs.declared.refusals.Refusal.TheVariants.{Length}
use Rattle.view.specs.Parts.{refusal_in, refusal_number}
use Rattle.view.specs.Modes.{allows_writing}
use Rattle.view.specs.Types.{PaperView, paper, whole}
use Rattle.view.specs.Places.{data_size}
use Rattle.view.proofs.Numbered.{refused_some}
use Rattle.handle.specs.declared.FileRecord.{FileRecord}
use Rattle.handle.specs.Ranges.{access_allowed}
use Rattle.handle.specs.Handles.{PaperHandle, file_valid}
use Rattle.handle.specs.Parts.{paper_handle}
use Rattle.move_read.specs.Moves.{file_byte}
use Rattle.move_read.specs.Parts.{write_end, Ranged}
use Rattle.move_write.specs.Parts.{Storable, Growable, Grown}
use Rattle.move_write.proofs.Scattering.{write_done}
use Rattle.call_checks.specs.Refusals.{access_refusal, write_refusal}
use Rattle.call_checks.proofs.Handles.{file_short}
use Rattle.call_checks.proofs.Accesses.{access_passes, access_movable}
use Rattle.call_access.specs.Parts.{WriteChecked, WriteMade}

-- ---- the checks

-- check 14
last : PaperView → ℕ → ℤ → ℕ → ℕ
last v len o c = check (leb (write_end v (whole o) c) len) 14 0

module _ (mode pointer : ℕ) (v : View) (len : ℕ) (r : FileRecord) (o : ℤ) (c room : ℕ) where
  module _ (u : Bool) (a : u ≡ allows_writing mode) where
    passes : Passes (access_refusal (allows_writing mode) (paper_handle mode pointer v) len r o c room)
    passes = access_passes (allows_writing mode) (paper_handle mode pointer v) len r o c room

    found : (n : ℕ) → n ≡ access_refusal u (paper_handle mode pointer v) len r o c room 0 → n ≡ access_refusal (allows_writing mode) (paper_handle mode pointer v) len r o c room 0
    found n q = q ∙ ap (λ (b : Bool). access_refusal b (paper_handle mode pointer v) len r o c room 0) a

    -- an access that is refused before check 14
    pub judged_access : (e : Refusal) → refusal_number e ≡ access_refusal u (paper_handle mode pointer v) len r o c room 0 → WriteChecked (paper_handle mode pointer v) len r o c room (Err e)
    unfolding write_refusal refusal_in
    judged_access e q = record { refusal = found _ q ∙ sym (passes.stops _ (λ p. refused_some ℕ e (found _ q ∙ p))); end = tt }

    module _ (q : 0 ≡ access_refusal u (paper_handle mode pointer v) len r o c room 0) where
      -- check 14 is asked exactly if none of the others refuses
      asked : write_refusal (paper_handle mode pointer v) len r o c room ≡ last (paper v) len o c
      unfolding write_refusal last
      asked = passes.on _ (sym (found 0 q))

      pub judged_ranged : Ranged v o c
      judged_ranged = (access_movable u mode pointer v len r o c room 0 (sym q)).ranged

      module _ (end : BytePos) (e : end.0 ≡ write_end (paper v) (whole o) c) where
        pub judged_past : len < end.0 → WriteChecked (paper_handle mode pointer v) len r o c room (Err Length)
        unfolding last refusal_in refusal_number
        judged_past l = record {
          refusal = check_no _ 14 0 14 (lt-leb (write_end (paper v) (whole o) c) len (rw e at l)) refl ∙ sym asked;
          end = tt;
        }

        pub judged_granted : end.0 ≤ len → WriteChecked (paper_handle mode pointer v) len r o c room (Ok end)
        unfolding last refusal_in
        judged_granted l = record {
          refusal = check_yes _ 14 0 0 (le-leb (write_end (paper v) (whole o) c) len (rw e at l)) refl ∙ sym asked;
          end = e;
        }

-- ---- the write

-- what a write that is granted has passed
pub record Checked (h : PaperHandle) (len : ℕ) (r : FileRecord) (o : ℤ) (c room : ℕ) : Type 0 where
  pub valid : file_valid h len r ≡ true
  pub writes : allows_writing h.mode ≡ true
  pub range : access_allowed o c ≡ true
  pub long : c * data_size h.view ≤ room
  pub ends : write_end h.view (whole o) c ≤ len

pub checked : (h : PaperHandle) (len : ℕ) (r : FileRecord) (o : ℤ) (c room : ℕ) → write_refusal h len r o c room ≡ 0 → Checked h len r o c room
unfolding write_refusal access_refusal
checked h len r o c room z =
    let c1 = check_inv _ 1 _ (lit< tt) z in
    let c11 = check_inv _ 11 _ (lit< tt) c1.1 in
    let c12 = check_inv _ 12 _ (lit< tt) c11.1 in
    let c13 = check_inv _ 13 _ (lit< tt) c12.1 in
    let c14 = check_inv _ 14 _ (lit< tt) c13.1 in
    record { valid = c1.0; writes = c11.0; range = c12.0; long = leb-true _ _ c13.0; ends = leb-true _ _ c14.0 }

write_storable : (mode pointer : ℕ) (v : View) (len : ℕ) (r : FileRecord) (o : ℤ) (c room : ℕ) → write_refusal (paper_handle mode pointer v) len r o c room ≡ 0 → Storable v len o c room
unfolding write_refusal
write_storable mode pointer v len r o c room z =
    let m = access_movable _ mode pointer v len r o c room _ z in
    record { ranged = m.ranged; room = m.room; ends = (checked (paper_handle mode pointer v) len r o c room z).ends }

-- what it hands to the mover
module _ (mode pointer : ℕ) (v : View) (file : List ℕ) (r : FileRecord) (o : ℤ) (c room : ℕ) (end : BytePos) (e : WriteChecked (paper_handle mode pointer v) (length file) r o c room (Ok end)) where
  passed : write_refusal (paper_handle mode pointer v) (length file) r o c room ≡ 0
  unfolding refusal_in
  passed = sym e.refusal

  pub write_growable : Growable (length file) r end.0
  write_growable =
      let k = checked (paper_handle mode pointer v) (length file) r o c room passed in
      record { short = file_short (paper_handle mode pointer v) (length file) r k.valid; ends = rw e.end k.ends }

  pub filled_storable : (filled : List ℕ) (grown : FileRecord) → Grown r end.0 file filled grown → Storable v (length filled) o c room
  filled_storable filled grown f =
      let l : length filled ≡ length file = ap length f.bytes ∙ length_store _ _ _ file in
      rw l (write_storable mode pointer v (length file) r o c room passed)

-- what it answers and leaves
module _ (mode pointer : ℕ) (v : View) (file : List ℕ) (r : FileRecord) (o : ℤ) (c : ℕ) (buf : List ℕ) where
  pub write_refused : (e : Refusal) → WriteChecked (paper_handle mode pointer v) (length file) r o c (length buf) (Err e) → WriteMade (paper_handle mode pointer v) file file r o c buf (Err e)
  unfolding refusal_in
  write_refused e k = record { refusal = k.refusal; count = tt; file = tt; bytes = sym (granted_no _ _ file (refused_some ℕ e)) }

  pub write_made : (end : BytePos) → WriteChecked (paper_handle mode pointer v) (length file) r o c (length buf) (Ok end) → (filled : List ℕ) (grown : FileRecord) → Grown r end.0 file filled grown → (after : List ℕ) → after ≡ store (file_byte (paper v) (whole o)) (nth buf) (c * data_size (paper v)) filled → WriteMade (paper_handle mode pointer v) file after r o c buf (Ok (record { count = c; file = grown }))
  unfolding granted refusal_in
  write_made end k filled grown f after s =
      let d = write_done v r grown o c end.0 buf file filled after k.end f s in
      record { refusal = k.refusal; count = refl; file = d.0; bytes = d.1 }
