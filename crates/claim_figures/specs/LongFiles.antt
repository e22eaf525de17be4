-- Must be believed. Document 01's limits of a file and of the pointer, at numbers that no script of a test reaches, since its file has at most 65,536 bytes: through the definitions of the calls, which take a file as its length. Examples: no claim rests on them.
use Rattle.std.specs.Prelude.{ℕ, List, [], ◌∷◌, map, ◌≡◌, ℤ, pos, negsuc}
use Rattle.file.specs.declared.Handle.{Handle}
use Rattle.file.specs.Parts.{open_answer, end_answer, seek_answer, at_pointer, read_at_answer, write_at_answer}
use Rattle.claim_figures.specs.Table.{one_byte, view_on, handle_of, of_size, ends_at, all_granted}

-- the default view, mode 3, pointer 0
abbrev pub default_handle : Handle
default_handle = (open_answer 3).handle

-- the refusal numbers of each call that looks at the file, with this length and size: end, seek to 0, and read and write of 1 byte at offset 0 and at the pointer
abbrev pub refusals_on : ℕ → ℕ → List ℕ
refusals_on len size =
    (end_answer default_handle len (of_size size)).refusal ∷ (seek_answer default_handle len (of_size size) (pos 0) 0).refusal
    ∷ (read_at_answer default_handle len (of_size size) (pos 0) 1 1).refusal ∷ (at_pointer default_handle (read_at_answer default_handle len (of_size size) (pos default_handle.pointer) 1 1)).refusal
    ∷ (write_at_answer default_handle len (of_size size) (pos 0) 1 1).refusal ∷ (at_pointer default_handle (write_at_answer default_handle len (of_size size) (pos default_handle.pointer) 1 1)).refusal ∷ []

-- a file of length and size 2^40: refusal number and pointer after a seek by d from its end
abbrev pub seek_from_end : ℤ → ℕ × ℕ
seek_from_end d = let a = seek_answer default_handle 1099511627776 (of_size 1099511627776) d 2 in (a.refusal, a.handle.pointer)

-- a file of length 2^40 and size 0: refusal number and size after a write of 1 byte at offset 0, with this view displacement
abbrev pub write_from : ℕ → ℕ × ℕ
write_from D = let a = write_at_answer (handle_of 3 (view_on D one_byte (1 ∷ []) (0 ∷ []) 1)) 1099511627776 (of_size 0) (pos 0) 1 1 in (a.refusal, a.file.size)

-- the same file with size 2^40, and the pointer at the last offset, 2^32 - 1: refusal number, count and pointer after a read and after a write of 1 byte there
abbrev pub at_last : Handle
at_last = (seek_answer default_handle 1099511627776 (of_size 1099511627776) (pos 4294967295) 0).handle

abbrev pub read_at_last : ℕ × (ℕ × ℕ)
read_at_last = let a = at_pointer at_last (read_at_answer at_last 1099511627776 (of_size 1099511627776) (pos at_last.pointer) 1 1) in (a.refusal, (a.count, a.handle.pointer))

abbrev pub write_at_last : ℕ × (ℕ × ℕ)
write_at_last = let a = at_pointer at_last (write_at_answer at_last 1099511627776 (of_size 1099511627776) (pos at_last.pointer) 1 1) in (a.refusal, (a.count, a.handle.pointer))

pub record LongFiles : Type 0 where
  -- length 2^40 = 1099511627776 and size 2^40 keep the limits; a length of one more breaks them, with size 0 too, and so does a size of one more
  pub longest : refusals_on 1099511627776 1099511627776 ≡ (0 ∷ 0 ∷ 0 ∷ 0 ∷ 0 ∷ 0 ∷ [])
  pub too_long : refusals_on 1099511627777 1099511627776 ≡ (1 ∷ 1 ∷ 1 ∷ 1 ∷ 1 ∷ 1 ∷ [])
  pub too_long_empty : refusals_on 1099511627777 0 ≡ (1 ∷ 1 ∷ 1 ∷ 1 ∷ 1 ∷ 1 ∷ [])
  pub size_past_length : refusals_on 1099511627776 1099511627777 ≡ (1 ∷ 1 ∷ 1 ∷ 1 ∷ 1 ∷ 1 ∷ [])
  -- end of file exceeds 2^32 = 4294967296 and is still reported
  pub far_end : ends_at default_handle (4294967297 ∷ 1099511627776 ∷ []) ≡ all_granted (pos 4294967297 ∷ pos 1099511627776 ∷ [])
  -- a seek from the end 2^40: by -(2^40 - 2^32) to 2^32; by one more, to a target above 2^32: refusal 12; by -2^40 to 0; by one less, to a target below 0: refusal 12
  pub far_seek : map seek_from_end (negsuc 1095216660479 ∷ negsuc 1095216660478 ∷ negsuc 1099511627775 ∷ negsuc 1099511627776 ∷ []) ≡ ((0, 4294967296) ∷ (12, 0) ∷ (0, 0) ∷ (12, 0) ∷ [])
  -- a write whose highest byte is 2^40 - 1 is granted, and the size is 2^40; one whose highest byte is 2^40: refusal 14
  pub far_write : map write_from (1099511627775 ∷ 1099511627776 ∷ []) ≡ ((0, 1099511627776) ∷ (14, 0) ∷ [])
  -- a read and a write at the last offset move 1 and raise the pointer to 2^32
  pub last_read : read_at_last ≡ (0, (1, 4294967296))
  pub last_write : write_at_last ≡ (0, (1, 4294967296))
