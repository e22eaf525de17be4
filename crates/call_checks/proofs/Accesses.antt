-- The checks that reads and writes share, in their order, and what a granted access hands to a mover.
use Rattle.laws.proofs.Prelude.{ℕ, ◌+◌, ◌*◌, ◌≤◌, ◌<◌, ◌≡◌, ◌∙◌, Bool, true, false, not, List, arith, ℤ, leb, lit<, w64, Fits, leb-true, le-leb, lt-leb, check_inv, unflag_true, Passes, ends_here, check_passes}
use Rattle.view.specs.declared.View.{View}
use Rattle.view.specs.Types.{paper, whole}
use Rattle.view.specs.Acceptance.{Valid}
use Rattle.view.specs.Places.{data_size}
use Rattle.view.specs.Parts.{WidthsValid, size_of}
use Rattle.view.proofs.Etypes.{widths_valid}
use Rattle.handle.specs.declared.FileRecord.{FileRecord}
use Rattle.handle.specs.Ranges.{access_allowed}
use Rattle.handle.specs.Handles.{PaperHandle, file_valid}
use Rattle.handle.specs.Parts.{paper_handle}
use Rattle.handle.proofs.Ranging.{access_sum, access_offset, bytes_fit}
use Rattle.move_read.specs.Parts.{Movable}
use Rattle.move_read.proofs.Etypes.{entries_valid, data_is, data_small}
use Rattle.call_checks.specs.Refusals.{access_refusal}
use Rattle.call_checks.proofs.Handles.{file_view, file_short, file_limit}

-- ---- check 13, by the widths in the record

module _ (mode pointer : ℕ) (v : View) (len : ℕ) (r : FileRecord) (t : Bool) (k : t ≡ file_valid (paper_handle mode pointer v) len r) (n : not t ≡ false) where
  valid : Valid (paper v)
  valid = file_view (paper_handle mode pointer v) len r (unflag_true t _ k n)

  pub access_widths : WidthsValid v.numbers.etype.entries v.widths
  access_widths = widths_valid _ _ _ (entries_valid v valid)

  module _ (s : ℕ) (e : s ≡ size_of v.numbers.etype.entries v.widths) where
    size_is : s ≡ data_size (paper v)
    size_is = e ∙ data_is v valid

    pub access_fits : (o : ℤ) (c : ℕ) (u : Bool) → u ≡ access_allowed o c → not u ≡ false → Fits w64 (c * s)
    access_fits o c u a m = bytes_fit o c s u a m (omega (arith, size_is, data_small v valid))

    module _ (c room : ℕ) where
      pub room_short : room < c * s → leb (c * data_size (paper v)) room ≡ false
      room_short l = lt-leb _ room (rw size_is at l)

      pub room_enough : c * s ≤ room → leb (c * data_size (paper v)) room ≡ true
      room_enough l = le-leb _ room (rw size_is at l)

-- ---- the chain

module _ (u : Bool) (h : PaperHandle) (len : ℕ) (r : FileRecord) (o : ℤ) (c room : ℕ) where
  -- the later checks are asked exactly if none of these refuses
  pub access_passes : Passes (access_refusal u h len r o c room)
  unfolding access_refusal
  access_passes = check_passes _ 1 _ (lit< tt) (check_passes _ 11 _ (lit< tt) (check_passes _ 12 _ (lit< tt) (check_passes _ 13 _ (lit< tt) ends_here)))

  -- what an access that is granted has passed
  module _ (later : ℕ) (z : access_refusal u h len r o c room later ≡ 0) where
    pub access_file : file_valid h len r ≡ true
    unfolding access_refusal
    access_file = (check_inv _ 1 _ (lit< tt) z).0

    pub access_ranged : access_allowed o c ≡ true
    unfolding access_refusal
    access_ranged = (check_inv _ 12 _ (lit< tt) (check_inv _ 11 _ (lit< tt) (check_inv _ 1 _ (lit< tt) z).1).1).0

    pub access_room : c * data_size h.view ≤ room
    unfolding access_refusal
    access_room = leb-true _ _ (check_inv _ 13 _ (lit< tt) (check_inv _ 12 _ (lit< tt) (check_inv _ 11 _ (lit< tt) (check_inv _ 1 _ (lit< tt) z).1).1).1).0

    pub access_sums : whole o + c ≤ 4294967296
    access_sums = access_sum o c access_ranged

-- ---- what they leave for the movers

pub access_movable : (u : Bool) (mode pointer : ℕ) (v : View) (len : ℕ) (r : FileRecord) (o : ℤ) (c room later : ℕ) → access_refusal u (paper_handle mode pointer v) len r o c room later ≡ 0 → Movable v len r.size o c room
access_movable u mode pointer v len r o c room later z =
    let h = paper_handle mode pointer v in
    let k = access_file u h len r o c room later z in
    let a = access_ranged u h len r o c room later z in
    record {
      ranged = record { valid = file_view h len r k; offset = access_offset o c a; last = access_sum o c a };
      short = file_short h len r k;
      limit = file_limit h len r k;
      room = access_room u h len r o c room later z;
    }
