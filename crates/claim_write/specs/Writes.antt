-- Must be believed. Document 01, "The words of demand 3": what is claimed of two writes, each explicit or at the pointer, and of a write and the read after it.
use Rattle.std.specs.Prelude.{ℕ, ◌+◌, ◌-◌, ◌*◌, ◌≤◌, ◌<◌, true, List, ◌≢◌, ◌≡◌, length, take}
use Rattle.laws.specs.Lists.{nth}
use Rattle.view.specs.Types.{PaperView, whole}
use Rattle.view.specs.Modes.{allows_reading}
use Rattle.view.specs.Places.{data_size}
use Rattle.view.specs.Owners.{Belongs}
use Rattle.file.specs.declared.AccessAnswer.{AccessAnswer}
use Rattle.file.specs.Handles.{view_of}
use Rattle.claim_calls.specs.declared.Begin.TheVariants.{Explicit}
use Rattle.claim_calls.specs.declared.DataAccess.{DataAccess}
use Rattle.claim_calls.specs.Offsets.{offset_of}
use Rattle.claim_calls.specs.Accesses.{Written, HasRead}
use Rattle.claim_write.specs.declared.TwoWritten.{TwoWritten}
use Rattle.claim_write.specs.declared.WrittenRead.{WrittenRead}

-- how many bytes the counted data of a write have: the first c·S of its buffer
unfoldable pub counted_bytes : DataAccess → ℕ
counted_bytes w = w.count * data_size (view_of w.handle)

-- ---- two writes

-- both are on equal files, with the same view, offset and count; all else may differ. Views are the same if displacement and the lists and extents of both types are equal (the representation is always `native`)
pub record Alike (a b : DataAccess) (before before' : List ℕ) : Type 0 where
  pub view : view_of a.handle ≡ view_of b.handle
  pub offset : offset_of a ≡ offset_of b
  pub count : a.count ≡ b.count
  pub bytes : before ≡ before'
  pub file : a.file ≡ b.file

-- file byte p belongs to a pair whose byte of the counted data differs: the pair x, j with x from o to o + c - 1 has byte (x - o)·S + j of them
pub record DataDiffer (v : PaperView) (o c : ℕ) (buffer buffer' : List ℕ) (p : ℕ) : Type 0 where
  pub x : ℕ
  pub j : ℕ
  pub belongs : Belongs v p x j
  pub from : o ≤ x
  pub upto : x < o + c
  pub differ : nth buffer ((x - o) * data_size v + j) ≢ nth buffer' ((x - o) * data_size v + j)

-- a byte differs between the files exactly when it belongs to such a pair; so different counted data leave different files
pub record FilesDiffer (v : PaperView) (o c : ℕ) (buffer buffer' after after' : List ℕ) : Type 0 where
  pub long : length after ≡ length after'
  pub only : (p : ℕ) → nth after p ≢ nth after' p → DataDiffer v o c buffer buffer' p
  pub each : (p : ℕ) → DataDiffer v o c buffer buffer' p → nth after p ≢ nth after' p
  pub different : take (c * data_size v) buffer ≢ take (c * data_size v) buffer' → after ≢ after'

-- both writes answer as each does alone; if both are granted, the sizes afterwards are equal, and the files differ just so
pub record TwoWrites (a b : DataAccess) (before after buffer before' after' buffer' : List ℕ) (r : TwoWritten) : Type 0 where
  pub first : Written a before after buffer r.first
  pub second : Written b before' after' buffer' r.second
  pub sizes : Alike a b before before' → r.first.refusal ≡ 0 → r.second.refusal ≡ 0 → r.first.file.size ≡ r.second.file.size
  pub bytes : Alike a b before before' → r.first.refusal ≡ 0 → r.second.refusal ≡ 0 → FilesDiffer (view_of a.handle) (whole (offset_of a)) a.count buffer buffer' after after'

-- ---- a write and the read after it

-- the read is granted, answers the write's count, and the first c·S bytes of its buffer equal the counted data
pub record Returned (w : DataAccess) (buffer into : List ℕ) (a : AccessAnswer) : Type 0 where
  pub is_granted : a.refusal ≡ 0
  pub count : a.count ≡ w.count
  pub same : take (counted_bytes w) into ≡ take (counted_bytes w) buffer

-- the read has the write's offset and count, and gets the handle and the file record that the write gave back
unfoldable pub read_back : DataAccess → AccessAnswer → DataAccess
read_back w a = record { handle = a.handle; file = a.file; begin = Explicit (record { 0 = offset_of w }); count = w.count }

-- and the file's bytes as the write left them; after a granted write whose mode also allows reading, a buffer of c·S bytes is long enough
pub record ReadBack (w : DataAccess) (before after buffer into into' : List ℕ) (r : WrittenRead) : Type 0 where
  pub first : Written w before after buffer r.written
  pub second : HasRead (read_back w r.written) after into into' r.read
  pub returned : r.written.refusal ≡ 0 → allows_reading w.handle.mode ≡ true → counted_bytes w ≤ length into → Returned w buffer into' r.read
