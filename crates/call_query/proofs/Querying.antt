-- Places, owners and the end: what the checks leave for the functions below, and the answers.
use Rattle.laws.proofs.Prelude.{ℕ, ◌≤◌, ◌≡◌, refl, ap, ◌∙◌, Bool, true, false, not, List, ℤ, pos, check_yes, check_no, unflag_true, unflag_false}
use Rattle.std.proofs.Common.{Option, Ok, Err}
use Rattle.view.specs.declared.BytePos.{BytePos}
use Rattle.view.specs.declared.Offset.{Offset}
use Rattle.view.specs.declared.Pair.{Pair}
use Rattle.view.specs.declared.View.{View}
use Rattle.view.specs.declared.refusals.Refusal.TheVariants.{Handle, Mode, Range}
use Rattle.view.specs.Parts.{refusal_in, refusal_number, owner_of}
use Rattle.view.specs.Limits.{offset_allowed}
use Rattle.view.specs.Modes.{allows_writing}
use Rattle.view.specs.Types.{paper, whole}
use Rattle.view.specs.Acceptance.{Valid}
use Rattle.view_place.specs.Parts.{Tiled, OriginsLow, place_on, end_on}
use Rattle.view_place.proofs.Laid.{tiled, origins_low, place_is, end_on_is}
use Rattle.handle.specs.declared.FileRecord.{FileRecord}
use Rattle.handle.specs.Handles.{handle_valid, file_valid}
use Rattle.handle.specs.Parts.{paper_handle}
use Rattle.handle.specs.Parts.{paper_handle}
use Rattle.call_checks.specs.Refusals.{byte_offset_refusal, reverse_refusal, end_refusal}
use Rattle.call_checks.proofs.Handles.{held_view, file_view, size_limit}
use Rattle.call_query.specs.Parts.{PlaceFound, OwnerFound, EndFound}

-- ---- where the file is not looked at

module _ (mode pointer : ℕ) (v : View) (t : Bool) (k : t ≡ handle_valid (paper_handle mode pointer v)) where
  module _ (n : not t ≡ false) where
    pub query_valid : Valid (paper v)
    query_valid = held_view (paper_handle mode pointer v) (unflag_true t _ k n)

    pub query_tiled : Tiled v.numbers
    query_tiled = tiled v query_valid

    pub query_origins : OriginsLow v.numbers v.origins
    query_origins = origins_low v query_valid

  -- place
  module _ (o : ℤ) where
    pub place_handle : not t ≡ true → PlaceFound (paper_handle mode pointer v) o (Err Handle)
    unfolding byte_offset_refusal refusal_in refusal_number
    place_handle m = record { refusal = check_no _ 1 _ 1 (unflag_false t _ k m) refl; place = tt }

    module _ (n : not t ≡ false) (u : Bool) (a : u ≡ offset_allowed o) where
      pub place_range : not u ≡ true → PlaceFound (paper_handle mode pointer v) o (Err Range)
      unfolding byte_offset_refusal refusal_in refusal_number
      place_range m = record { refusal = check_yes _ 1 _ 12 (unflag_true t _ k n) (check_no _ 12 _ 12 (unflag_false u _ a m) refl); place = tt }

      pub place_found : not u ≡ false → (p : BytePos) → p.0 ≡ place_on v.numbers v.origins (whole o) → PlaceFound (paper_handle mode pointer v) o (Ok p)
      unfolding byte_offset_refusal refusal_in refusal_number
      place_found m p e = record { refusal = check_yes _ 1 _ 0 (unflag_true t _ k n) (check_yes _ 12 _ 0 (unflag_true u _ a m) refl); place = e ∙ place_is v (query_valid n) (whole o) }

  -- reverse
  module _ (b : ℕ) where
    pub owner_handle : not t ≡ true → OwnerFound (paper_handle mode pointer v) b (Err Handle)
    unfolding reverse_refusal refusal_in refusal_number
    owner_handle m = record { refusal = check_no _ 1 _ 1 (unflag_false t _ k m) refl; owner = tt }

    module _ (n : not t ≡ false) (u : Bool) (a : u ≡ allows_writing mode) where
      pub owner_mode : not u ≡ true → OwnerFound (paper_handle mode pointer v) b (Err Mode)
      unfolding reverse_refusal refusal_in refusal_number
      owner_mode m = record { refusal = check_yes _ 1 _ 11 (unflag_true t _ k n) (check_no _ 11 _ 11 (unflag_false u _ a m) refl); owner = tt }

      pub owner_found : not u ≡ false → (o : Option Pair) → o ≡ owner_of (paper v) b → OwnerFound (paper_handle mode pointer v) b (Ok o)
      unfolding reverse_refusal refusal_in refusal_number
      owner_found m o e = record { refusal = check_yes _ 1 _ 0 (unflag_true t _ k n) (check_yes _ 11 _ 0 (unflag_true u _ a m) refl); owner = e }

-- ---- where it is: end

module _ (mode pointer : ℕ) (v : View) (len : ℕ) (r : FileRecord) (t : Bool) (k : t ≡ file_valid (paper_handle mode pointer v) len r) where
  pub end_handle : not t ≡ true → EndFound (paper_handle mode pointer v) len r (Err Handle)
  unfolding end_refusal refusal_in refusal_number
  end_handle m = record { refusal = check_no _ 1 _ 1 (unflag_false t _ k m) refl; end = tt }

  module _ (n : not t ≡ false) where
    end_valid : Valid (paper v)
    end_valid = file_view (paper_handle mode pointer v) len r (unflag_true t _ k n)

    pub file_tiled : Tiled v.numbers
    file_tiled = tiled v end_valid

    pub file_origins : OriginsLow v.numbers v.origins
    file_origins = origins_low v end_valid

    pub file_size : r.size ≤ 1099511627776
    file_size = size_limit (paper_handle mode pointer v) len r (unflag_true t _ k n)

    pub end_found : (e : Offset) → e.0 ≡ pos (end_on v.numbers v.origins r.size) → EndFound (paper_handle mode pointer v) len r (Ok e)
    unfolding end_refusal refusal_in refusal_number
    end_found e y = record { refusal = check_yes _ 1 _ 0 (unflag_true t _ k n) refl; end = y ∙ ap pos (end_on_is v end_valid r.size) }
