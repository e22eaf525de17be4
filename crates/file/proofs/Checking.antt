-- A fresh handle, the mode that an open gets, and an access at the pointer: where it begins, and its answer from that of the explicit one.
use Rattle.laws.proofs.Prelude.{ℕ, ◌+◌, ◌≤◌, ◌<◌, ◌≡◌, refl, sym, ap, ⊎_elim, ℤ, pos, eq-eqb, ne_eqb, le-leb, lt-leb, cond_yes, cond_no, lt_or_le, granted_yes, granted_no}
use Rattle.view.specs.declared.View.{View}
use Rattle.view.specs.Limits.{pointer_allowed}
use Rattle.view.specs.Parts.{default_view}
use Rattle.handle.specs.declared.FileRecord.{FileRecord}
use Rattle.file.specs.declared.Handle.{Handle}
use Rattle.file.specs.Parts.{fresh_handle, pointer_offset, access_refused, at_pointer}
use Rattle.file.specs.Handles.{mode_got, with_pointer}

-- ---- a fresh handle

pub fresh_is : (mode : ℕ) (v : View) → v ≡ default_view → record { mode = mode; pointer = 0; view = v } ≡ fresh_handle mode
unfolding fresh_handle
fresh_is mode v e = λ i. record { mode = mode; pointer = 0; view = e i }

pub mode_unnamed : (mode : ℕ) → mode ≡ 0 → 3 ≡ mode_got mode
unfolding mode_got
mode_unnamed mode e = cond_yes _ 3 mode 3 (eq-eqb mode 0 e) refl

pub mode_named : (mode : ℕ) → (mode ≡ 0 → ⊥) → mode ≡ mode_got mode
unfolding mode_got
mode_named mode n = cond_no _ 3 mode mode (ne_eqb mode 0 n) refl

-- ---- where an access at the pointer begins

pub start_past : (h : Handle) → 4294967296 < h.pointer → pos 0 ≡ pointer_offset h
unfolding pointer_offset pointer_allowed
start_past h l = cond_no _ (pos h.pointer) (pos 0) (pos 0) (lt-leb h.pointer 4294967296 l) refl

pub start_at : (h : Handle) → h.pointer ≤ 4294967296 → (z : ℤ) → z ≡ pos h.pointer → z ≡ pointer_offset h
unfolding pointer_offset pointer_allowed
start_at h l z e = cond_yes _ (pos h.pointer) (pos 0) z (le-leb h.pointer 4294967296 l) e

-- what does not go by the offset where check 1 refuses the pointer is the same at the pointer and where the access begins
pub start_same : {A : Type 0} (h : Handle) (f : ℤ → A) → (4294967296 < h.pointer → (a b : ℤ) → f a ≡ f b) → f (pointer_offset h) ≡ f (pos h.pointer)
start_same h f past = ⊎_elim (λ l. past l _ _) (λ l. ap f (sym (start_at h l (pos h.pointer) refl))) (lt_or_le 4294967296 h.pointer)

-- ---- its answer, from that of the explicit access there

module _ (h : Handle) (n c : ℕ) (r : FileRecord) where
  pub pointer_stays : (n ≡ 0 → ⊥) → c ≡ 0 → access_refused n h r ≡ at_pointer h (record { refusal = n; count = c; handle = h; file = r })
  unfolding at_pointer
  pointer_stays z e = λ i. record { refusal = n; count = sym e i; handle = sym (granted_no n (with_pointer h (h.pointer + c)) h z) i; file = r }

  pub pointer_raised : n ≡ 0 → record { refusal = 0; count = c; handle = record { mode = h.mode; pointer = h.pointer + c; view = h.view }; file = r } ≡ at_pointer h (record { refusal = n; count = c; handle = h; file = r })
  unfolding at_pointer with_pointer
  pointer_raised z = λ i. record { refusal = sym z i; count = c; handle = sym (granted_yes n (with_pointer h (h.pointer + c)) h z) i; file = r }
