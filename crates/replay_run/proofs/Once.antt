-- A trace has a replay from any state and place on, and only one.
use Rattle.laws.proofs.Prelude.{ℕ, zero, suc, ◌+◌, ◌≤◌, ◌≡◌, refl, sym, ◌∙◌, List, ◌++◌, arith, length}
use Rattle.std.proofs.Common.{Option, Some, None}
use mathlib.Core.List.{[]}
use Rattle.tagged_fields.specs.declared.Field.{Field}
use Rattle.tagged_fields.specs.declared.Field.TheVariants.{Whole, Cut, End}
use Rattle.tagged_fields.specs.Fields.{field_at}
use Rattle.tagged_fields.proofs.Windows.{FieldIs, field_is, whole_within, whole_past}
use Rattle.replay_record.specs.declared.Line.{Line}
use Rattle.replay_record.specs.declared.Replay.{Replay}
use Rattle.replay_record.specs.declared.Step.{Step}
use Rattle.replay_record.specs.Records.{Recorded}
use Rattle.replay_record.specs.Steps.{called, bytes_after, stepped}
use Rattle.replay_run.specs.Traces.{numbers_of, Stop, Next, Over, Goes, step_next, record_next, field_next, next_at, Replays, over, goes}

-- ---- one replay only

pub never : {A : Type 0} {e : Stop} {l : Line} {s : Replay} {bytes : List ℕ} {at : ℕ} → Over e ≡ Goes l s bytes at → A
never p = absurd (let z : ◌≡◌ {A = ℕ} 0 1 = cc in omega arith)

pub moved : {trace : List ℕ} {s s' : Replay} {b b' : List ℕ} {at at' : ℕ} {ns : List ℕ} {e : Stop} → s ≡ s' → b ≡ b' → at ≡ at' → Replays trace s' b' at' ns e → Replays trace s b at ns e
moved es eb ea d = rw (es, eb, ea) d

pub replays_only : {trace : List ℕ} {s : Replay} {bytes : List ℕ} {at : ℕ} {ns ns' : List ℕ} {e e' : Stop} → Replays trace s bytes at ns e → Replays trace s bytes at ns' e' → (ns ≡ ns') × (e ≡ e')
replays_only (over {e = e} p) (over {e = e'} q) = (refl, over_same (sym p ∙ q))
  where
    over_same : Over e ≡ Over e' → e ≡ e'
    over_same h = cc
replays_only (over p) (goes q d) = never (sym p ∙ q)
replays_only (goes p d) (over q) = never (sym q ∙ p)
replays_only (goes {s' = s1} {bytes' = b1} {at' = a1} {l = l1} {numbers = n1} p d) (goes {s' = s2} {bytes' = b2} {at' = a2} {l = l2} {numbers = n2} q d') =
    let h : Goes l1 s1 b1 a1 ≡ Goes l2 s2 b2 a2 = sym p ∙ q in
    let el : l1 ≡ l2 = cc in
    let es : s1 ≡ s2 = cc in
    let eb : b1 ≡ b2 = cc in
    let ea : a1 ≡ a2 = cc in
    let rest = replays_only d (moved es eb ea d') in
    ((λ i. numbers_of (el i) ++ rest.0 i), rest.1)

-- ---- and every trace has one

-- a good record ends within the trace, past its header
module _ (trace : List ℕ) (s : Replay) (bytes : List ℕ) (at : ℕ) where
  record_past : (end : ℕ) (r : Recorded) {l : Line} {s' : Replay} {b : List ℕ} {n : ℕ} → record_next s bytes at end r ≡ Goes l s' b n → end ≡ n
  unfolding record_next step_next
  record_past end r {l} {s'} {b} {n} e = told (stepped s (called s bytes r)) e
    where
      told : (t : Option Step) → step_next (bytes_after s bytes r) at end t ≡ Goes l s' b n → end ≡ n
      told (Some t) q = cc
      told None q = never q

  field_past : (f : Field) → FieldIs trace at f → {l : Line} {s' : Replay} {b : List ℕ} {n : ℕ} → field_next trace s bytes at f ≡ Goes l s' b n → (at + 3 ≤ n) × (n ≤ length trace)
  unfolding field_next
  field_past End i e = never e
  field_past Cut i e = never e
  field_past (Whole tag start len) i e =
      let n = record_past (start + len) _ e in
      (omega (arith, n, whole_past trace at tag start len i), omega (arith, n, whole_within trace at tag start len i))

  pub next_past : {l : Line} {s' : Replay} {b : List ℕ} {n : ℕ} → next_at trace s bytes at ≡ Goes l s' b n → (at + 3 ≤ n) × (n ≤ length trace)
  unfolding next_at
  next_past e = field_past (field_at trace at) (field_is trace at) e

pub replays_within : (trace : List ℕ) (fuel : ℕ) (s : Replay) (bytes : List ℕ) (at : ℕ) → length trace ≤ at + fuel → (ns : List ℕ) × ((e : Stop) × Replays trace s bytes at ns e)
replays_within trace zero s bytes at h = found (next_at trace s bytes at) refl
  where
    found : (x : Next) → next_at trace s bytes at ≡ x → (ns : List ℕ) × ((e : Stop) × Replays trace s bytes at ns e)
    found (Over e) p = ([], (e, over p))
    found (Goes l s' b n) p = absurd (let q = next_past trace s bytes at p in omega arith)
replays_within trace (suc fuel) s bytes at h = found (next_at trace s bytes at) refl (replays_within trace fuel)
  where
    found : (x : Next) → next_at trace s bytes at ≡ x → ((s' : Replay) (b : List ℕ) (n : ℕ) → length trace ≤ n + fuel → (ns : List ℕ) × ((e : Stop) × Replays trace s' b n ns e)) → (ns : List ℕ) × ((e : Stop) × Replays trace s bytes at ns e)
    found (Over e) p more = ([], (e, over p))
    found (Goes l s' b n) p more =
        let q = next_past trace s bytes at p in
        let rest = more s' b n (omega arith) in
        (numbers_of l ++ rest.0, (rest.1.0, goes p rest.1.1))

pub replays_is : (trace : List ℕ) (s : Replay) (bytes : List ℕ) (at : ℕ) → (ns : List ℕ) × ((e : Stop) × Replays trace s bytes at ns e)
replays_is trace s bytes at = replays_within trace (length trace) s bytes at (omega arith)
