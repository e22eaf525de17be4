-- Must be believed. Document 01, "Figures on both sides of the lines": the rows marked (P), each with the paper's own lists and numbers, P12 with those of document 02's order 3, through the definitions of the calls. Examples: no claim rests on them.
use Rattle.std.specs.Prelude.{ℕ, ◌+◌, ◌-◌, ◌*◌, Bool, true, false, List, [], ◌∷◌, map, ◌≡◌, ℤ, pos, negsuc, replicate}
use Rattle.view.specs.Types.{PaperType, PaperView, extent_of, whole}
use Rattle.view.specs.Rules.{native_name}
use Rattle.view.specs.Owners.{owner_numbers}
use Rattle.view.specs.declared.OwnerNumbers.{OwnerNumbers}
use Rattle.file.specs.declared.Handle.{Handle}
use Rattle.handle.specs.declared.FileRecord.{FileRecord}
use Rattle.file.specs.declared.SetViewAnswer.{SetViewAnswer}
use Rattle.file.specs.Parts.{open_answer, set_view_answer, byte_offset_answer, reverse_answer, end_answer, seek_answer, read_at_answer, write_at_answer, written_file}

-- ---- the paper's types and views

-- "word": width 4 at 0, extent 4
abbrev pub word : PaperType
word = record { widths = 4 ∷ []; displacements = pos 0 ∷ []; extent = pos 4 }

-- P8's: widths 4, 1 at 0, 4, extent 8
abbrev pub word_and_byte : PaperType
word_and_byte = record { widths = 4 ∷ 1 ∷ []; displacements = pos 0 ∷ pos 4 ∷ []; extent = pos 8 }

-- P12's: width 1, extent 1
abbrev pub one_byte : PaperType
one_byte = record { widths = 1 ∷ []; displacements = pos 0 ∷ []; extent = pos 1 }

-- the view with displacement D, this etype, and a filetype of these widths at these displacements with extent F
abbrev pub view_on : ℕ → PaperType → List ℕ → List ℕ → ℕ → PaperView
view_on D etype ws ds F = record { displacement = pos D; etype = etype; filetype = record { widths = ws; displacements = map pos ds; extent = pos F } }

-- the same with the word as etype, its entries at these displacements
abbrev pub words_on : ℕ → List ℕ → ℕ → PaperView
words_on D ds F = view_on D word (map (λ d. 4) ds) ds F

abbrev pub p1 : PaperView
p1 = words_on 100 (4 ∷ []) 12

abbrev pub p6 : PaperView
p6 = words_on 0 (0 ∷ 4 ∷ []) 4

abbrev pub p7 : PaperView
p7 = words_on 0 (0 ∷ 8 ∷ []) 4

abbrev pub p8 : PaperView
p8 = view_on 0 word_and_byte (4 ∷ 1 ∷ 4 ∷ 1 ∷ []) (0 ∷ 4 ∷ 16 ∷ 20 ∷ []) 24

abbrev pub p9 : PaperView
p9 = words_on 0 (4 ∷ []) 12

abbrev pub p12 : PaperView
p12 = view_on 0 one_byte (1 ∷ 1 ∷ []) (0 ∷ 3 ∷ []) 2

-- ---- the calls; of an answer always the refusal number, 0 if granted, and with it another number

-- the set of a view after an open in this mode, its refusal numbers for modes 1, 2 and 3, and the handle that it gives back
abbrev pub open_set : ℕ → PaperView → SetViewAnswer
open_set mode v = set_view_answer (open_answer mode).handle native_name v

abbrev pub refusals_by_mode : PaperView → List ℕ
refusals_by_mode v = map (λ mode. (open_set mode v).refusal) (1 ∷ 2 ∷ 3 ∷ [])

abbrev pub handle_of : ℕ → PaperView → Handle
handle_of mode v = (open_set mode v).handle

-- the record of a file of this size
abbrev pub of_size : ℕ → FileRecord
of_size n = record { size = n }

-- all granted, with these
abbrev pub all_granted : {A : Type 0} → List A → List (ℕ × A)
all_granted xs = map (λ x. (0, x)) xs

-- the places of these offsets
abbrev pub places_of : Handle → List ℕ → List (ℕ × ℕ)
places_of h os = map (λ o. let a = byte_offset_answer h (pos o) in (a.refusal, a.place.0)) os

-- the ends at these sizes
abbrev pub ends_at : Handle → List ℕ → List (ℕ × ℤ)
ends_at h sizes = map (λ n. let a = end_answer h n (of_size n) in (a.refusal, a.end.0)) sizes

-- what the reverse lookup names at these bytes
abbrev pub owners_of : Handle → List ℕ → List (ℕ × OwnerNumbers)
owners_of h bs = map (λ b. let a = reverse_answer h b in (a.refusal, owner_numbers a.owner)) bs

-- whether a pair is named, its offset and its index
abbrev pub owner_as : Bool → ℕ → ℕ → OwnerNumbers
owner_as named x j = record { named = named; offset = record { 0 = pos x }; index = j }

-- P3: how many a read of 3 words at 0 moves, at these sizes
abbrev pub three_read : Handle → List ℕ → List (ℕ × ℕ)
three_read h sizes = map (λ n. let a = read_at_answer h n (of_size n) (pos 0) 3 12 in (a.refusal, a.count)) sizes

-- P9, P12: the size after a write of c etypes at 0, of so many bytes, into a file of size 0 and this length
abbrev pub size_after : PaperView → ℕ → ℕ → ℕ → ℕ × ℕ
size_after v c bytes len = let a = write_at_answer (handle_of 3 v) len (of_size 0) (pos 0) c bytes in (a.refusal, a.file.size)

-- P10: a handle of pointer 5, and the pointer after a seek by d from there
abbrev pub at_five : Handle
at_five = (seek_answer (handle_of 3 p1) 0 (of_size 0) (pos 5) 0).handle

abbrev pub seek_by : ℤ → ℕ × ℕ
seek_by d = let a = seek_answer at_five 0 (of_size 0) d 1 in (a.refusal, a.handle.pointer)

-- P11: how many a read of c at o moves, default view, mode 3, an empty file, a buffer of 2 bytes
abbrev pub read_default : ℕ → ℕ → ℕ × ℕ
read_default o c = let a = read_at_answer (open_answer 3).handle 0 (of_size 0) (pos o) c 2 in (a.refusal, a.count)

-- ---- the table

pub record Figures : Type 0 where
  -- P1: offset 2 begins at 128, the 8th word after D
  pub p1_set : refusals_by_mode p1 ≡ (0 ∷ 0 ∷ 0 ∷ [])
  pub p1_place : places_of (handle_of 3 p1) (2 ∷ []) ≡ all_granted (128 ∷ [])
  pub p1_word : places_of (handle_of 3 p1) (2 ∷ []) ≡ all_granted ((whole p1.displacement + (8 - 1) * extent_of word) ∷ [])
  -- P2: end at size 104 is 0; at 116 is 1; at 117 is 2
  pub p2_end : ends_at (handle_of 3 p1) (104 ∷ 116 ∷ 117 ∷ []) ≡ all_granted (pos 0 ∷ pos 1 ∷ pos 2 ∷ [])
  -- P3: read 3 at 0: size 119 moves 1, size 120 moves 2
  pub p3_read : three_read (handle_of 3 p1) (119 ∷ 120 ∷ []) ≡ all_granted (1 ∷ 2 ∷ [])
  -- P4: word, one entry at 2, F = 12: refusal 9
  pub p4_set : refusals_by_mode (words_on 0 (2 ∷ []) 12) ≡ (9 ∷ 9 ∷ 9 ∷ [])
  -- P5: word, entries 0 and 2, F = 6: accepted for reading, 10 for writing
  pub p5_set : refusals_by_mode (words_on 0 (0 ∷ 2 ∷ []) 6) ≡ (0 ∷ 10 ∷ 10 ∷ [])
  -- P6: reading: places 0, 4, 4, 8, 8; end at size 8 is 3. For writing: 10
  pub p6_set : refusals_by_mode p6 ≡ (0 ∷ 10 ∷ 10 ∷ [])
  pub p6_places : places_of (handle_of 1 p6) (0 ∷ 1 ∷ 2 ∷ 3 ∷ 4 ∷ []) ≡ all_granted (0 ∷ 4 ∷ 4 ∷ 8 ∷ 8 ∷ [])
  pub p6_end : ends_at (handle_of 1 p6) (8 ∷ []) ≡ all_granted (pos 3 ∷ [])
  -- P7: reading: places 0, 8, 4, 12; end at size 8 is 3, not 1
  pub p7_set : refusals_by_mode p7 ≡ (0 ∷ 10 ∷ 10 ∷ [])
  pub p7_places : places_of (handle_of 1 p7) (0 ∷ 1 ∷ 2 ∷ 3 ∷ []) ≡ all_granted (0 ∷ 8 ∷ 4 ∷ 12 ∷ [])
  pub p7_end : ends_at (handle_of 1 p7) (8 ∷ []) ≡ all_granted (pos 3 ∷ [])
  -- P8: writing: byte 20 is offset 1, index 4; byte 21 none; byte 24 offset 2, index 0
  pub p8_set : refusals_by_mode p8 ≡ (0 ∷ 0 ∷ 0 ∷ [])
  pub p8_owners : owners_of (handle_of 2 p8) (20 ∷ 21 ∷ 24 ∷ []) ≡ all_granted (owner_as true 1 4 ∷ owner_as false 0 0 ∷ owner_as true 2 0 ∷ [])
  -- P9: size 0, length 20: a write of 2 words at 0 sets 4 to 7 and 16 to 19, zeros 0 to 3 and 8 to 15, size 20. Length 19: refusal 14. Here the words are 1, 2, 3, 4 and 5, 6, 7, 8, and 9 stood in each byte
  pub p9_set : refusals_by_mode p9 ≡ (0 ∷ 0 ∷ 0 ∷ [])
  pub p9_size : map (size_after p9 2 8) (20 ∷ 19 ∷ []) ≡ ((0, 20) ∷ (14, 0) ∷ [])
  pub p9_bytes : written_file (handle_of 3 p9) (replicate 20 9) (of_size 0) (pos 0) 2 (1 ∷ 2 ∷ 3 ∷ 4 ∷ 5 ∷ 6 ∷ 7 ∷ 8 ∷ []) ≡ (0 ∷ 0 ∷ 0 ∷ 0 ∷ 1 ∷ 2 ∷ 3 ∷ 4 ∷ 0 ∷ 0 ∷ 0 ∷ 0 ∷ 0 ∷ 0 ∷ 0 ∷ 0 ∷ 5 ∷ 6 ∷ 7 ∷ 8 ∷ [])
  -- P10: pointer 5: seek by -5 from the pointer gives 0, by -6 refusal 12, and so do the largest and the smallest signed offsets; the pointer stays
  pub p10_pointer : at_five.pointer ≡ 5
  pub p10_seek : map seek_by (negsuc 4 ∷ negsuc 5 ∷ pos 9223372036854775807 ∷ negsuc 9223372036854775807 ∷ []) ≡ ((0, 0) ∷ (12, 5) ∷ (12, 5) ∷ (12, 5) ∷ [])
  -- P11: default view, mode 3: read at 2^32 - 1 of 1 passes check 12; of 2 doesn't; at 2^32 of 0 moves 0
  pub p11_read : (read_default 4294967295 1 ∷ read_default 4294967295 2 ∷ read_default 4294967296 0 ∷ []) ≡ ((0, 0) ∷ (12, 0) ∷ (0, 0) ∷ [])
  -- P12, as order 3 has it: width 1, extent 1, entries 0 and 3, F = 2: accepted for writing, its bytes are 0, 3, 2, 5, 4, 7; entries 0 and 2 with F = 2: 10. Three bytes written at 0 end at 4
  pub p12_set : map refusals_by_mode (p12 ∷ view_on 0 one_byte (1 ∷ 1 ∷ []) (0 ∷ 2 ∷ []) 2 ∷ []) ≡ ((0 ∷ 0 ∷ 0 ∷ []) ∷ (0 ∷ 10 ∷ 10 ∷ []) ∷ [])
  pub p12_places : places_of (handle_of 3 p12) (0 ∷ 1 ∷ 2 ∷ 3 ∷ 4 ∷ 5 ∷ []) ≡ all_granted (0 ∷ 3 ∷ 2 ∷ 5 ∷ 4 ∷ 7 ∷ [])
  pub p12_size : map (size_after p12 3 3) (4 ∷ 3 ∷ []) ≡ ((0, 4) ∷ (14, 0) ∷ [])
