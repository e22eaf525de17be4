-- A read (a module may not be called `Reads`): the number that `moved` finds, and the buffer that `read_into` makes, are the ones that document 01 describes, and no others are.
use Rattle.laws.proofs.Prelude.{ℕ, ◌+◌, ◌-◌, ◌*◌, ◌≤◌, ◌<◌, ◌≡◌, sym, ◌∙◌, true, false, List, ⊎_elim, arith, length, ext_get_or, ltb-true, lt-ltb, nth, lt_or_le, not_both, least_false_le, least_false_keeps, least_false_breaks, all_intro, all_at, length_store, front_at, front_past}
use Rattle.view.specs.Types.{PaperView}
use Rattle.view.specs.Places.{byte_of, data_size}
use Rattle.move_read.specs.Moves.{AllBelow, IsMoved, IsRead}
use Rattle.move_read.specs.Parts.{in_file, moved, read_into}

-- ---- how many etypes a read moves

-- the test of one etype says that each of its data bytes lies below the size, and comes out true where they do
pub in_file_at : (v : PaperView) (size x : ℕ) → in_file v size x ≡ true → (j : ℕ) → j < data_size v → byte_of v x j < size
unfolding in_file
in_file_at v size x h j l = ltb-true _ _ (all_at _ (data_size v) h j l)

pub in_file_law : (v : PaperView) (size x : ℕ) → ((j : ℕ) → j < data_size v → byte_of v x j < size) → in_file v size x ≡ true
unfolding in_file
in_file_law v size x h = all_intro _ (data_size v) (λ j l. lt-ltb _ _ (h j l))

module _ (v : PaperView) (size o c : ℕ) where
  -- each etype before the first that fails its test lies below the size
  moved_below : AllBelow v size o (moved v size o c)
  unfolding moved
  moved_below x j a b l =
      let e : o + (x - o) ≡ x = omega arith in
      in_file_at v size x (rw e at (least_false_keeps (λ t. in_file v size (o + t)) c (x - o) (omega arith))) j l

  -- the first that fails does not, if there is one
  moved_breaks : moved v size o c < c → in_file v size (o + moved v size o c) ≡ false
  unfolding moved
  moved_breaks l = least_false_breaks (λ t. in_file v size (o + t)) c l

  -- k etypes that all lie below the size do not reach past the first that fails
  moved_greatest : (k : ℕ) → k ≤ c → AllBelow v size o k → k ≤ moved v size o c
  moved_greatest k h below = ⊎_elim (λ l. not_both (holds l) (moved_breaks (omega arith))) (λ l. l) (lt_or_le (moved v size o c) k)
    where
      holds : moved v size o c < k → in_file v size (o + moved v size o c) ≡ true
      holds l = in_file_law v size (o + moved v size o c) (λ j q. below (o + moved v size o c) j (omega arith) (omega arith) q)

  -- `moved` is the greatest such number
  pub moved_is : IsMoved v size o c (moved v size o c)
  unfolding moved
  moved_is = record { most = least_false_le _ c; below = moved_below; greatest = moved_greatest }

  -- and nothing else is: of two greatest numbers each is at most the other
  pub moved_only : (m : ℕ) → IsMoved v size o c m → m ≡ moved v size o c
  moved_only m h =
      let a = moved_greatest m h.most h.below in
      let b = h.greatest (moved v size o c) moved_is.most moved_below in
      omega arith

-- ---- what the buffer holds after it

module _ (v : PaperView) (file : List ℕ) (o m : ℕ) (buffer : List ℕ) (fits : m * data_size v ≤ length buffer) where
  -- `read_into` puts the data in front and keeps the rest
  pub read_is : IsRead v file o m buffer (read_into v file o m buffer)
  unfolding read_into
  read_is = record {
    long = length_store _ _ (m * data_size v) buffer;
    got = λ i l. front_at _ (m * data_size v) buffer 0 i l (omega arith);
    rest = λ i l. front_past _ (m * data_size v) buffer 0 i l;
  }

  -- and no other buffer does so: each of its bytes is either moved or left as it was
  pub read_only : (after : List ℕ) → IsRead v file o m buffer after → after ≡ read_into v file o m buffer
  read_only after h = ext_get_or 0 after (read_into v file o m buffer) (h.long ∙ sym read_is.long) same
    where
      same : (i : ℕ) → i < length after → nth after i ≡ nth (read_into v file o m buffer) i
      same i l = ⊎_elim (λ q. h.got i q ∙ sym (read_is.got i q)) (λ q. h.rest i q ∙ sym (read_is.rest i q)) (lt_or_le i (m * data_size v))
