-- Check 1, and what it leaves: the view is valid, and pointer and file are within their limits.
use Rattle.laws.proofs.Prelude.{ℕ, ◌≤◌, ◌<◌, ◌≡◌, sym, ◌∙◌, Bool, true, false, not, arith, leb-true, lt-leb, also, also_inv, also_first, also_false, unflag_true, unflag_false}
use Rattle.view.specs.Limits.{pointer_allowed, file_allowed}
use Rattle.view.specs.Acceptance.{accepted, Valid}
use Rattle.view.proofs.Accepted.{accepted_valid}
use Rattle.handle.specs.declared.FileNumbers.{FileNumbers}
use Rattle.handle.specs.declared.FileRecord.{FileRecord}
use Rattle.handle.specs.Handles.{PaperHandle, handle_valid, file_valid}

also_last : (a b u : Bool) → u ≡ a → b ≡ true → u ≡ also a b
unfolding also
also_last true b u e h = e ∙ sym h
also_last false b u e h = e

-- ---- what check 1 leaves

module _ (h : PaperHandle) where
  module _ (k : handle_valid h ≡ true) where
    pub held_accepts : accepted h.mode h.view ≡ true
    unfolding handle_valid
    held_accepts = (also_inv _ _ (also_inv _ _ k).1).1

    pub held_view : Valid h.view
    held_view = accepted_valid h.mode h.view held_accepts

    pub held_pointer : h.pointer ≤ 4294967296
    unfolding handle_valid pointer_allowed
    held_pointer = leb-true _ _ (also_inv _ _ (also_inv _ _ k).1).0

  module _ (len : ℕ) (r : FileRecord) (k : file_valid h len r ≡ true) where
    pub file_handle : handle_valid h ≡ true
    unfolding file_valid
    file_handle = (also_inv _ _ k).0

    pub file_view : Valid h.view
    file_view = held_view file_handle

    pub file_pointer : h.pointer ≤ 4294967296
    file_pointer = held_pointer file_handle

    pub file_short : r.size ≤ len
    unfolding file_valid file_allowed
    file_short = leb-true _ _ (also_inv _ _ (also_inv _ _ k).1).1

    pub file_limit : len ≤ 1099511627776
    unfolding file_valid file_allowed
    file_limit = leb-true _ _ (also_inv _ _ (also_inv _ _ k).1).0

    pub size_limit : r.size ≤ 1099511627776
    size_limit = omega (arith, file_short, file_limit)

  -- check 1 refuses a pointer that is no offset
  pub past_handle : 4294967296 < h.pointer → handle_valid h ≡ false
  unfolding handle_valid pointer_allowed
  past_handle l = also_false _ _ (also_first _ _ (lt-leb h.pointer 4294967296 l))

  pub past_file : (len : ℕ) (r : FileRecord) → 4294967296 < h.pointer → file_valid h len r ≡ false
  unfolding file_valid
  past_file len r l = also_first _ _ (past_handle l)

  -- ---- how it is tested: the file first, and then the handle

  module _ (f : FileNumbers) (s : Bool) (d : s ≡ file_allowed f.length f.record.size) where
    pub file_no : not s ≡ true → false ≡ file_valid h f.length f.record
    unfolding file_valid
    file_no n = sym (also_false _ _ (unflag_false s _ d n))

    pub file_judged : not s ≡ false → (u : Bool) → u ≡ handle_valid h → u ≡ file_valid h f.length f.record
    unfolding file_valid
    file_judged n u q = also_last _ _ u q (unflag_true s _ d n)
