-- Two writes with the same view, offset and count on equal files, both granted: a file byte differs afterwards exactly if it belongs to a pair whose data differ.
-- Rests on `IsWritten` of both (claim_calls/proofs/Granted.antt), and on what same views have in common.
use Rattle.laws.proofs.Prelude.{ℕ, ◌+◌, ◌*◌, ◌/◌, ◌%◌, ◌≤◌, ◌<◌, ◌≡◌, sym, ap, ◌∙◌, transport⁻¹, List, ◌≢◌, ⊎_elim, arith, length, take, ext_get_or, get_or-take, length-take-le, nth}
use Rattle.view.specs.Types.{PaperView, whole}
use Rattle.view.specs.Places.{data_size}
use Rattle.handle.proofs.Ranging.{access_sum}
use Rattle.move_read.specs.Moves.{file_byte, IsWritten}
use Rattle.move_read.specs.Parts.{new_size}
use Rattle.move_read.proofs.Writing.{Found, mapped_or_not, same_unmapped}
use Rattle.file.specs.declared.AccessAnswer.{AccessAnswer}
use Rattle.file.specs.Handles.{view_of}
use Rattle.claim_calls.specs.declared.DataAccess.{DataAccess}
use Rattle.claim_calls.specs.Offsets.{offset_of}
use Rattle.claim_calls.specs.Accesses.{Written}
use Rattle.claim_write.specs.Writes.{Alike, DataDiffer, FilesDiffer, TwoWrites}
use Rattle.claim_calls.proofs.Granted.{GrantedWrite, granted_write, new_size_law}
use Rattle.claim_write.proofs.Pairs.{pair_counted, pair_lies, pair_within, pair_back, pair_belongs}

-- ---- the files that two writes leave, whatever asked for them

module _ (v : PaperView) (size new o c : ℕ) (buffer buffer' file f g : List ℕ) (p : IsWritten v size new o c buffer file f) (q : IsWritten v size new o c buffer' file g) where
  -- data that differ leave bytes that differ
  index_differs : (i : ℕ) → i < c * data_size v → nth buffer i ≢ nth buffer' i → nth f (file_byte v o i) ≢ nth g (file_byte v o i)
  index_differs i l n e = n (sym (p.mapped i l) ∙ e ∙ q.mapped i l)

  -- equal files have equal bytes at the places of the data, so the counted data are equal
  same_data : c * data_size v ≤ length buffer → c * data_size v ≤ length buffer' → f ≡ g → take (c * data_size v) buffer ≡ take (c * data_size v) buffer'
  same_data long long' e =
      let n = c * data_size v in
      let a = length-take-le n buffer long in
      let b = length-take-le n buffer' long' in
      ext_get_or 0 (take n buffer) (take n buffer') (a ∙ sym b)
      (λ i h. let l : i < n = omega arith in get_or-take n buffer i 0 l ∙ sym (p.mapped i l) ∙ ap (λ (s : List ℕ). nth s (file_byte v o i)) e ∙ q.mapped i l ∙ sym (get_or-take n buffer' i 0 l))

  pair_differs : (b : ℕ) → DataDiffer v o c buffer buffer' b → nth f b ≢ nth g b
  pair_differs b d e =
      let l = d.belongs.index in
      let at = pair_lies v o c d.x d.j d.from d.upto l ∙ d.belongs.lies in
      index_differs _ (pair_counted v o c d.x d.j d.from d.upto l) d.differ (rw at e)

  -- bytes that differ are mapped, so they belong to a pair
  module _ (some : 0 < data_size v) (last : o + c ≤ 4294967296) (long : c * data_size v ≤ length buffer) (long' : c * data_size v ≤ length buffer') where
    found_differs : (b : ℕ) → nth f b ≢ nth g b → Found v o c b → DataDiffer v o c buffer buffer' b
    found_differs b n s =
        let i = s.index in
        record {
          x = o + i / data_size v;
          j = i % data_size v;
          belongs = rw s.lies (pair_belongs v o c i some s.below last);
          from = omega arith;
          upto = pair_within v o c i some s.below;
          differ = rw (pair_back v o c i some s.below) (λ e. n (rw s.lies (p.mapped i s.below ∙ e ∙ sym (q.mapped i s.below))));
        }

    differs_pair : (b : ℕ) → nth f b ≢ nth g b → DataDiffer v o c buffer buffer' b
    differs_pair b n = ⊎_elim (found_differs b n) (λ u. absurd (n (same_unmapped v size new o c buffer buffer' file f g p q b u))) (mapped_or_not v o c b)

    -- the claim about the definitions
    pub files_differ : FilesDiffer v o c buffer buffer' f g
    files_differ = record { long = p.long ∙ sym q.long; only = differs_pair; each = pair_differs; different = λ n e. n (same_data long long' e) }

-- ---- two writes as they are asked for

module _ (a b : DataAccess) (before after buffer before' after' buffer' : List ℕ) (m n : AccessAnswer) (wa : Written a before after buffer m) (wb : Written b before' after' buffer' n) where
  module _ (alike : Alike a b before before') (za : m.refusal ≡ 0) (zb : n.refusal ≡ 0) where
    first : GrantedWrite a before after buffer m
    first = granted_write a before after buffer m wa.made za

    same_view : view_of a.handle ≡ view_of b.handle
    same_view = alike.view

    same_size : m.file.size ≡ n.file.size
    same_size =
        new_size_law a before after buffer m wa.made za
        ∙ (λ i. new_size (same_view i) (alike.file i).size (whole (alike.offset i)) (alike.count i))
        ∙ sym (new_size_law b before' after' buffer' n wb.made zb)

    -- the second write left its file as the first would have with the second's buffer
    second : IsWritten (view_of a.handle) a.file.size (new_size (view_of a.handle) a.file.size (whole (offset_of a)) a.count) (whole (offset_of a)) a.count buffer' before after'
    second = transport⁻¹ (λ i. IsWritten (same_view i) (alike.file i).size (new_size (same_view i) (alike.file i).size (whole (alike.offset i)) (alike.count i)) (whole (alike.offset i)) (alike.count i) buffer' (alike.bytes i) after') (granted_write b before' after' buffer' n wb.made zb).bytes

    second_long : a.count * data_size (view_of a.handle) ≤ length buffer'
    second_long = transport⁻¹ (λ i. alike.count i * data_size (same_view i) ≤ length buffer') (granted_write b before' after' buffer' n wb.made zb).checks.long

    same_bytes : FilesDiffer (view_of a.handle) (whole (offset_of a)) a.count buffer buffer' after after'
    same_bytes = files_differ (view_of a.handle) _ _ _ _ buffer buffer' before after after' first.bytes second first.some (access_sum _ _ first.checks.range) first.checks.long second_long

  pub two_writes : TwoWrites a b before after buffer before' after' buffer' (record { first = m; second = n })
  two_writes = record { first = wa; second = wb; sizes = same_size; bytes = same_bytes }
