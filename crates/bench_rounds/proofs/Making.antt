-- Rounds made one after another: what a loop over them keeps, and that it may end at a refusal.
use Rattle.laws.proofs.Prelude.{ℕ, zero, suc, ◌+◌, ◌≤◌, ◌<◌, ◌≡◌, refl, sym, ap, ◌∙◌, List, ⊎_elim, arith, add-one, length, ℤ, w64, SFits, to_z, of_z, to_z-of_z, rules, granted, granted_yes, granted_no, lt_or_le}
use Rattle.file.specs.declared.Handle.{Handle}
use Rattle.handle.specs.declared.FileRecord.{FileRecord}
use Rattle.file.specs.declared.AccessAnswer.{AccessAnswer}
use Rattle.file.specs.Parts.{ReadAt, WriteAt}
use Rattle.bench_rounds.specs.Parts.{Round, after_set, begun, last_of, read_after, write_after, Left}

-- ---- any access

abbrev pub round : ℕ → Handle → FileRecord → List ℕ → Round
round r h f b = record { refusal = r; handle = h; file = f; bytes = b }

-- i of n rounds are made, and the last one leaves t
pub record Made (access : Round → Round) (s : Round) (n i : ℕ) (t : Round) : Type 0 where
  pub reached : i ≤ n
  pub room : length t.bytes ≡ length s.bytes
  pub last : t ≡ last_of access i s

pub made_none : (access : Round → Round) (view : List ℕ) (size n : ℕ) (a : AccessAnswer) (b : List ℕ) → a ≡ after_set view size → Made access (begun view size b) n 0 (round a.refusal a.handle a.file b)
unfolding last_of
made_none access view size n a b e = record { reached = omega arith; room = refl; last = ap (λ (z : AccessAnswer). round z.refusal z.handle z.file b) e }

module _ (access : Round → Round) (s : Round) (n i : ℕ) (t : Round) (m : Made access s n i t) where
  pub made_more : (t' : Round) → i < n → t.refusal ≡ 0 → length t'.bytes ≡ length t.bytes → t' ≡ access t → Made access s n (i + 1) t'
  unfolding last_of
  made_more t' h z l e = record {
    reached = omega arith;
    room = l ∙ m.room;
    last = rw (add-one i) (e ∙ (sym (granted_yes t.refusal (access t) t z) ∙ ap (λ (x : Round). granted x.refusal (access x) x) m.last));
  }

  all_made : (k : ℕ) → i ≡ k → last_of access k s ≡ t
  all_made k e = sym (m.last ∙ ap (λ (j : ℕ). last_of access j s) e)

  -- no round follows a refused one
  stays : (t.refusal ≡ 0 → ⊥) → (k : ℕ) → i ≤ k → last_of access k s ≡ t
  unfolding last_of
  stays z zero h = all_made 0 (omega arith)
  stays z (suc k) h =
      ⊎_elim
      (λ (l : k < i). all_made (suc k) (omega arith))
      (λ (l : i ≤ k). ap (λ (x : Round). granted x.refusal (access x) x) (stays z k l) ∙ granted_no t.refusal (access t) t z)
      (lt_or_le k i)

-- the end, for an access as the code holds it, by the parts of what the last round leaves
module _ (held access : Round → Round) (s : Round) (n i r : ℕ) (h : Handle) (f : FileRecord) (b : List ℕ) (m : Made held s n i (round r h f b)) (same : held ≡ access) where
  left : last_of held n s ≡ round r h f b → Left (last_of access n s) r b
  left e =
      let l : round r h f b ≡ last_of access n s = sym e ∙ ap (λ (x : Round → Round). last_of x n s) same in
      record { refusal = ap (λ (x : Round). x.refusal) l; bytes = ap (λ (x : Round). x.bytes) l }

  pub made_refused : i < n → (r ≡ 0 → ⊥) → Left (last_of access n s) r b
  made_refused l z = left (stays held s n i (round r h f b) m z n (omega arith))

  pub made_end : n ≤ i → Left (last_of access n s) r b
  made_end l = left (all_made held s n i (round r h f b) m n (omega (arith, m.reached)))

-- ---- a read and a write, by the parts of what a round leaves

module _ (c : ℕ) (o : ℤ) (r : ℕ) (h : Handle) (f : FileRecord) (b b' : List ℕ) where
  pub read_round : (file : List ℕ) (a : AccessAnswer) → ReadAt h file f o c b b' a → round a.refusal a.handle a.file b' ≡ read_after file c o (round r h f b)
  unfolding read_after
  read_round file a w = λ x. let y = w.answer x in round y.refusal y.handle y.file (w.buffer x)

  pub write_round : (buffer : List ℕ) (a : AccessAnswer) → WriteAt h b b' f o c buffer a → round a.refusal a.handle a.file b' ≡ write_after buffer c o (round r h f b)
  unfolding write_after
  write_round buffer a w = λ x. let y = w.answer x in round y.refusal y.handle y.file (w.bytes x)

-- the code holds the offset's bits
module _ (l : List ℕ) (c : ℕ) (o : ℤ) (fits : SFits w64 o) where
  pub read_held : read_after l c (to_z w64 (of_z w64 o)) ≡ read_after l c o
  read_held = ap (read_after l c) (to_z-of_z fits)

  pub write_held : write_after l c (to_z w64 (of_z w64 o)) ≡ write_after l c o
  write_held = ap (write_after l c) (to_z-of_z fits)

pub ruleset making = (rules, made_none, made_more, read_round, write_round, made_refused, made_end, read_held, write_held)
