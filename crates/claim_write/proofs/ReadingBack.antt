-- A granted write and the read after it, at its offset and with its count: the read is granted, moves every etype written, and hands back the counted data.
-- Rests on what a granted write leaves (claim_calls/proofs/Granted.antt), and on the movers' laws of a read.
use Rattle.laws.proofs.Prelude.{ℕ, ◌*◌, ◌≤◌, ◌<◌, ◌≡◌, refl, sym, ap, ◌∙◌, subst, true, List, ⊎_elim, arith, length, take, ℤ, pos, ext_get_or, get_or-take, length-take-le, le-leb, lt_or_le, also_true, check_zero, granted_yes}
use Rattle.view.specs.Limits.{file_allowed}
use Rattle.view.specs.Types.{PaperView, whole}
use Rattle.view.specs.Modes.{allows_reading}
use Rattle.view.specs.Places.{data_size}
use Rattle.move_read.specs.Moves.{AllBelow, IsWritten}
use Rattle.move_read.specs.Parts.{moved, read_into, new_size}
use Rattle.move_read.proofs.Writing.{write_end_is}
use Rattle.move_read.proofs.Reading.{moved_only, read_is}
use Rattle.file.specs.declared.AccessAnswer.{AccessAnswer}
use Rattle.handle.specs.Handles.{file_valid}
use Rattle.file.specs.Handles.{on_paper, view_of}
use Rattle.file.specs.Parts.{pointer_offset, read_count, read_at_answer, read_buffer, ReadAt}
use Rattle.call_checks.specs.Refusals.{access_refusal, read_refusal}
use Rattle.call_checks.proofs.Handles.{held_pointer, file_handle, file_short, file_limit}
use Rattle.file.proofs.Checking.{start_at}
use Rattle.file.proofs.Readable.{start_read}
use Rattle.claim_calls.specs.declared.Begin.TheVariants.{Pointer}
use Rattle.claim_calls.specs.declared.DataAccess.{DataAccess}
use Rattle.claim_calls.specs.Offsets.{begins_at, offset_of}
use Rattle.claim_calls.specs.Parts.{WriteCalled}
use Rattle.claim_calls.specs.Accesses.{Written}
use Rattle.claim_write.specs.Writes.{counted_bytes, read_back, Returned, ReadBack}
use Rattle.claim_calls.proofs.HavingRead.{read_explicit}
use Rattle.claim_calls.proofs.Granted.{GrantedWrite, refused_handle, granted_write, new_size_law}
use Rattle.claim_write.proofs.Pairs.{pair_counted, pair_lies}

-- ---- a file that was written, whatever asked for it

module _ (v : PaperView) (size o c : ℕ) where
  -- each data byte lies below the new size
  written_below : AllBelow v (new_size v size o c) o c
  unfolding new_size
  written_below x j from upto l = omega (arith, (write_end_is v o c).above _ (pair_counted v o c x j from upto l), pair_lies v o c x j from upto l)

  -- so a read moves all
  all_moved : moved v (new_size v size o c) o c ≡ c
  all_moved = sym (moved_only v (new_size v size o c) o c c (record { most = omega arith; below = written_below; greatest = λ k l h. l }))

  -- and begins the buffer with the data
  data_back : (buffer file after into : List ℕ) → IsWritten v size (new_size v size o c) o c buffer file after → c * data_size v ≤ length buffer → c * data_size v ≤ length into → take (c * data_size v) (read_into v after o c into) ≡ take (c * data_size v) buffer
  data_back buffer file after into w long room =
      let n = c * data_size v in
      let s = read_into v after o c into in
      let r = read_is v after o c into room in
      let ls = length-take-le n s (omega (arith, r.long)) in
      let lb = length-take-le n buffer long in
      ext_get_or 0 (take n s) (take n buffer) (ls ∙ sym lb) (λ i q. let l : i < n = omega arith in get_or-take n s i 0 l ∙ r.got i l ∙ w.mapped i l ∙ sym (get_or-take n buffer i 0 l))

-- ---- a write and a read as they are asked for

module _ (w : DataAccess) (before after buffer into into' : List ℕ) (m : AccessAnswer) (n : AccessAnswer) (write : Written w before after buffer m) (read : ReadAt m.handle after m.file (offset_of w) w.count into into' n) where
  module _ (z : m.refusal ≡ 0) (reads : allows_reading w.handle.mode ≡ true) (room : counted_bytes w ≤ length into) where
    g : GrantedWrite w before after buffer m
    g = granted_write w before after buffer m write.made z

    size_is : m.file.size ≡ new_size (view_of w.handle) w.file.size (whole (offset_of w)) w.count
    size_is = new_size_law w before after buffer m write.made z

    -- the new size is within the file, whose length the write leaves
    new_short : m.file.size ≤ length after
    unfolding new_size
    new_short = omega (arith, size_is, g.checks.ends, file_short _ _ _ g.checks.valid, g.bytes.long)

    same_limit : length after ≤ 1099511627776
    same_limit = omega (arith, file_limit _ _ _ g.checks.valid, g.bytes.long)

    -- check 1 of the read
    read_valid : file_valid (on_paper m.handle) (length after) m.file ≡ true
    unfolding file_valid file_allowed
    read_valid = also_true g.passes (also_true (le-leb _ _ same_limit) (le-leb _ _ new_short))

    read_room : w.count * data_size (view_of m.handle) ≤ length into
    unfolding counted_bytes
    read_room = rw g.same_view room

    read_passes : read_refusal (on_paper m.handle) (length after) m.file (offset_of w) w.count (length into) ≡ 0
    unfolding read_refusal access_refusal
    read_passes = check_zero 1 read_valid (check_zero 11 (ap allows_reading g.same_mode ∙ reads) (check_zero 12 g.checks.range (check_zero 13 (le-leb _ _ read_room) refl)))

    count_is : read_count m.handle (length after) m.file (offset_of w) w.count (length into) ≡ w.count
    unfolding read_count
    count_is = granted_yes _ _ 0 read_passes ∙ (λ i. moved (g.same_view i) (size_is i) (whole (offset_of w)) w.count) ∙ all_moved (view_of w.handle) w.file.size (whole (offset_of w)) w.count

    into_is : into' ≡ read_into (view_of w.handle) after (whole (offset_of w)) w.count into
    unfolding read_buffer read_at_answer
    into_is = read.buffer ∙ granted_yes _ _ into read_passes ∙ (λ i. read_into (g.same_view i) after (whole (offset_of w)) (count_is i) into)

    returned : Returned w buffer into' n
    unfolding read_at_answer counted_bytes
    returned = record {
      is_granted = ap (λ x. x.refusal) read.answer ∙ read_passes;
      count = ap (λ x. x.count) read.answer ∙ count_is;
      same = rw into_is (data_back (view_of w.handle) w.file.size (whole (offset_of w)) w.count buffer before after into g.bytes g.checks.long room);
    }

  pub read_back_law : ReadBack w before after buffer into into' (record { written = m; read = n })
  unfolding read_back
  read_back_law = record { first = write; second = read_explicit _ after into into' n (record { 0 = offset_of w }) refl read; returned = returned }

-- ---- where the read begins after a write at the pointer

-- the code takes the offset from the handle before the write, as `pointer_offset` gives it; that is the pointer, or the write was refused and gave the handle back
module _ (w : DataAccess) (before after buffer into into' : List ℕ) (m : AccessAnswer) (n : AccessAnswer) (made : WriteCalled w before after buffer m) (next : w.begin ≡ Pointer) (z : ℤ) (starts : z ≡ pointer_offset w.handle) (read : ReadAt m.handle after m.file z w.count into into' n) where
  at_pointer_law : offset_of w ≡ pos w.handle.pointer
  unfolding offset_of begins_at
  at_pointer_law = ap (begins_at w.handle) next

  moved_to : (o : ℤ) → o ≡ pos w.handle.pointer → ReadAt m.handle after m.file o w.count into into' n → ReadAt m.handle after m.file (offset_of w) w.count into into' n
  moved_to o e r = subst (λ (x : ℤ). ReadAt m.handle after m.file x w.count into into' n) (e ∙ sym at_pointer_law) r

  -- check 1 refuses a write through a handle whose pointer is no offset
  past_refused : 4294967296 < w.handle.pointer → m.handle ≡ w.handle
  past_refused l = refused_handle w before after buffer m made (λ y. omega (arith, held_pointer (on_paper w.handle) (file_handle _ _ _ (granted_write w before after buffer m made y).checks.valid)))

  past_read : 4294967296 < w.handle.pointer → ReadAt m.handle after m.file (offset_of w) w.count into into' n
  past_read l =
      let same = past_refused l in
      moved_to (pos m.handle.pointer) (ap (λ h. pos h.pointer) same) (start_read m.handle after m.file w.count into into' n z (starts ∙ ap pointer_offset (sym same)) read)

  pub read_back_start : ReadAt m.handle after m.file (offset_of w) w.count into into' n
  read_back_start = ⊎_elim past_read (λ l. moved_to z (starts ∙ sym (start_at w.handle l (pos w.handle.pointer) refl)) read) (lt_or_le 4294967296 w.handle.pointer)
