-- A refusal has a number, which is not that of a granted answer.
use Rattle.std.proofs.Common.{ℕ, ◌<◌, ◌≡◌, Err, arith}
use Rattle.view.specs.declared.refusals.Refusal.{Refusal}
use Rattle.view.specs.declared.refusals.Refusal.TheVariants.{Handle, Representation, Displacement, EntryCount, Extent, Entry, Order, WholeGroups, Group, Origin, Hole, Overlap, Mode, Range, Room, Length, Whence, OpenMode}
use Rattle.view.specs.Parts.{refusal_number, refusal_in}

numbered : (r : Refusal) → 0 < refusal_number r
unfolding refusal_number
numbered Handle = omega arith
numbered Representation = omega arith
numbered Displacement = omega arith
numbered EntryCount = omega arith
numbered Extent = omega arith
numbered Entry = omega arith
numbered Order = omega arith
numbered WholeGroups = omega arith
numbered Group = omega arith
numbered Origin = omega arith
numbered Hole = omega arith
numbered Overlap = omega arith
numbered Mode = omega arith
numbered Range = omega arith
numbered Room = omega arith
numbered Length = omega arith
numbered Whence = omega arith
numbered OpenMode = omega arith

pub refused_some : (A : Type 0) (r : Refusal) → refusal_in {A = A} (Err r) ≡ 0 → ⊥
unfolding refusal_in
refused_some A r e = omega (arith, numbered r)
