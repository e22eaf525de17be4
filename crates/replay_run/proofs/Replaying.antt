-- A replay in pieces is the trace's replay, whatever the windows and the lists; why a piece says later. Rests on Once.antt.
use Rattle.laws.proofs.Prelude.{◌⊎◌, inl, inr, ℕ, zero, suc, ◌+◌, ◌*◌, ◌/◌, ◌%◌, ◌≤◌, ◌<◌, ◌≡◌, refl, sym, ap, ◌∙◌, subst, Bool, true, false, cond, List, ◌++◌, ⊎_elim, arith, add-zero, length, length-drop, take, drop, tabulate_is, tabulate_add, eqb, eq-eqb, ne_eqb, eq_or_ne, cond_yes, cond_no, not_both, nth, tabulate, front_part, lt_or_le, least_false, least_false_le, least_false_keeps, least_false_breaks}
use mathlib.Core.List.{append_assoc, append-nil}
use native.Mathlib.Nat.{add_assoc}
use lib.ListN.{length-take}
use Rattle.std.proofs.Common.{Some, None, Result, Ok, Err, is_ok}
use Rattle.tagged_fields.specs.declared.Field.{Field}
use Rattle.tagged_fields.specs.declared.Field.TheVariants.{Whole, Cut, End}
use Rattle.tagged_fields.specs.Fields.{field_at}
use Rattle.tagged_fields.proofs.Windows.{FieldIs, field_is, whole_within, whole_past, whole_in, body_in, end_in, cut_in}
use Rattle.replay_record.specs.declared.Replay.{Replay}
use Rattle.replay_record.specs.declared.Step.{Step}
use Rattle.replay_record.specs.Records.{Recorded, record_in}
use Rattle.replay_record.specs.Steps.{called, bytes_after, stepped}
use Rattle.replay_record.proofs.Counting.{step_counts}
use Rattle.replay_run.proofs.Once.{moved, replays_only, replays_is}
use Rattle.replay_run.specs.declared.Ending.{Ending}
use Rattle.replay_run.specs.declared.Ending.TheVariants.{Later, Complete, Stopped}
use Rattle.replay_run.specs.declared.RunAnswer.{RunAnswer}
use Rattle.replay_run.specs.declared.Turn.{Turn}
use Rattle.replay_run.proofs.Turning.{step_stops, step_goes, by_number}
use Rattle.replay_run.specs.Traces.{numbers_of, Stop, Nowhere, At, Over, Goes, step_next, record_next, field_next, next_at, Replays, over, goes}
use Rattle.replay_run.specs.Parts.{field_turn, field_bytes, turn_of, turn_bytes, Position, position, turn_from, led, after_turn, reached, turn_goes, turns_made, turn_numbers, line_at, number_in, turn_ending, ending_after, run_of}
use Rattle.replay_run.specs.Pieces.{NoRecordAt, Piece, InPieces, later, complete, stopped, SaysWhatCallsGive}

-- ---- a turn in a window is what comes next in the trace

-- the three endings by number, to tell them apart
ending_number : Ending → ℕ
ending_number Later = 0
ending_number Complete = 1
ending_number Stopped = 2

apart : {A : Type 0} {e f : Ending} → e ≡ f → (ending_number e ≡ ending_number f → ⊥) → A
apart p n = absurd (n (ap ending_number p))

module _ (trace : List ℕ) (from k : ℕ) (last : Bool) (ends : last ≡ true → length trace ≤ from + k) (s : Replay) (bytes : List ℕ) (at : ℕ) where
  abbrev win : List ℕ
  win = take k (drop from trace)

  -- a whole record
  module _ (tag start len : ℕ) (i : FieldIs win at (Whole tag start len)) where
    whole_next : next_at trace s bytes (from + at) ≡ record_next s bytes (from + at) (from + (start + len)) (record_in tag (take len (drop start win)))
    unfolding next_at field_next
    whole_next =
        let b = body_in trace from k start len (whole_within win at tag start len i) in
        ap (field_next trace s bytes (from + at)) (whole_in trace from k at tag start len i)
        ∙ (λ j. record_next s bytes (from + at) (add_assoc from start len j) (record_in tag (sym b j)))

  good_next : (end : ℕ) (r : Recorded) (t : Step) → stepped s (called s bytes r) ≡ Some t → record_next s bytes (from + at) end r ≡ Goes t.line t.next (bytes_after s bytes r) end
  unfolding record_next step_next
  good_next end r t e = ap (step_next (bytes_after s bytes r) (from + at) end) e

  bad_next : (end : ℕ) (r : Recorded) → stepped s (called s bytes r) ≡ None → record_next s bytes (from + at) end r ≡ Over (At (from + at))
  unfolding record_next step_next
  bad_next end r e = ap (step_next (bytes_after s bytes r) (from + at) end) e

  -- by what stands in the window
  field_goes : (t : Turn) (f : Field) → FieldIs win at f → field_turn last win s bytes f ≡ Ok t → next_at trace s bytes (from + at) ≡ Goes t.line t.next (field_bytes win s bytes f) (from + t.at)
  unfolding field_turn field_bytes
  field_goes t End i h = cc
  field_goes t Cut i h = cc
  field_goes t (Whole tag start len) i h =
      let y = step_goes (start + len) _ t h in
      whole_next tag start len i ∙ good_next (from + (start + len)) _ y.0 y.1.0
      ∙ (λ j. Goes (y.1.1 j).line (y.1.1 j).next (bytes_after s bytes (record_in tag (take len (drop start win)))) (from + (y.1.1 j).at))

  if_last : (e : Ending) (a : Ending) → cond last a Later ≡ e → (ending_number e ≡ 0 → ⊥) → (last ≡ true) × (a ≡ e)
  unfolding ending_number
  if_last e a h n = told last refl h
    where
      told : (b : Bool) → last ≡ b → cond b a Later ≡ e → (last ≡ true) × (a ≡ e)
      told true l q = (l, q)
      told false l q = absurd (n (ap ending_number (sym q)))

  field_over : (e : Ending) (f : Field) → FieldIs win at f → field_turn last win s bytes f ≡ Err e → ((e ≡ Complete → next_at trace s bytes (from + at) ≡ Over Nowhere) × (e ≡ Stopped → next_at trace s bytes (from + at) ≡ Over (At (from + at))))
  unfolding field_turn next_at field_next ending_number
  field_over e End i h =
      let q : cond last Complete Later ≡ e = cc in (
        (λ c. let l = if_last e Complete q (λ z. apart c (λ y. omega (arith, z, y))) in ap (field_next trace s bytes (from + at)) (end_in trace from k (ends l.0) at i)),
        (λ c. let l = if_last e Complete q (λ z. apart c (λ y. omega (arith, z, y))) in apart (l.1 ∙ c) (λ y. omega (arith, y))),
      )
  field_over e Cut i h =
      let q : cond last Stopped Later ≡ e = cc in (
        (λ c. let l = if_last e Stopped q (λ z. apart c (λ y. omega (arith, z, y))) in apart (l.1 ∙ c) (λ y. omega (arith, y))),
        (λ c. let l = if_last e Stopped q (λ z. apart c (λ y. omega (arith, z, y))) in ap (field_next trace s bytes (from + at)) (cut_in trace from k (ends l.0) at i)),
      )
  field_over e (Whole tag start len) i h =
      let bad = step_stops (start + len) _ e h in
      ((λ c. apart (bad.1 ∙ c) (λ y. omega (arith, y))), (λ c. whole_next tag start len i ∙ bad_next (from + (start + len)) _ bad.0))

  -- the turn itself
  pub turn_goes_law : (t : Turn) → turn_of last win s bytes at ≡ Ok t → next_at trace s bytes (from + at) ≡ Goes t.line t.next (turn_bytes win s bytes at) (from + t.at)
  unfolding turn_bytes
  turn_goes_law t h = by_number last win s bytes at (Ok t) h
      (λ n q. cc)
      (λ no q. rw no (field_goes t (field_at win at) (field_is win at) q))

  turn_over : (e : Ending) → turn_of last win s bytes at ≡ Err e → ((e ≡ Complete → next_at trace s bytes (from + at) ≡ Over Nowhere) × (e ≡ Stopped → next_at trace s bytes (from + at) ≡ Over (At (from + at))))
  unfolding ending_number
  turn_over e h = by_number last win s bytes at (Err e) h
      (λ n q. let z : Later ≡ e = cc in
      ((λ c. apart (z ∙ c) (λ y. omega (arith, y))), (λ c. apart (z ∙ c) (λ y. omega (arith, y)))))
      (λ no q. field_over e (field_at win at) (field_is win at) q)

-- a turn that replays a record, and one that does not
goes_is : (x : Result Turn Ending) → is_ok x ≡ true → (t : Turn) × (x ≡ Ok t)
goes_is (Ok t) h = (t, refl)
goes_is (Err e) h = not_both h refl

over_is : (x : Result Turn Ending) → is_ok x ≡ false → x ≡ Err (turn_ending x)
unfolding turn_ending
over_is (Ok t) h = not_both refl h
over_is (Err e) h = refl

-- ---- turn after turn

module _ (last : Bool) (window : List ℕ) (p : Position) where
  module _ (n : ℕ) (t : Turn) (made : turn_from last window (reached last window p n) ≡ Ok t) where
    -- the five numbers of line n stand after those of the lines before
    line_numbers : tabulate (λ k. number_in last window p (5 * n + k)) 5 ≡ numbers_of t.line
    unfolding number_in line_at turn_numbers
    line_numbers = tabulate_is (λ k. number_in last window p (5 * n + k)) 5 0 (numbers_of t.line) refl (λ k h.
        let d : (5 * n + k) / 5 ≡ n = omega arith in
        let e : (5 * n + k) % 5 ≡ k = omega arith in
        (λ i. nth (line_at last window p (d i)) (e i)) ∙ (λ i. nth (turn_numbers (made i)) k))

    lines_more : (rest : List ℕ) → tabulate (number_in last window p) (5 * suc n) ++ rest ≡ tabulate (number_in last window p) (5 * n) ++ (numbers_of t.line ++ rest)
    lines_more rest =
        let m : 5 * suc n ≡ 5 * n + 5 = omega arith in
        (λ i. tabulate (number_in last window p) (m i) ++ rest)
        ∙ (λ i. tabulate_add (number_in last window p) (5 * n) 5 i ++ rest)
        ∙ append_assoc (tabulate (number_in last window p) (5 * n)) (tabulate (λ k. number_in last window p (5 * n + k)) 5) rest
        ∙ (λ i. tabulate (number_in last window p) (5 * n) ++ (line_numbers i ++ rest))

    -- where turn n leads
    turn_leads : reached last window p (suc n) ≡ position t.next (turn_bytes window (reached last window p n).state (reached last window p n).bytes (reached last window p n).at) t.at
    unfolding reached after_turn led
    turn_leads = ap (led (reached last window p n) (turn_bytes window (reached last window p n).state (reached last window p n).bytes (reached last window p n).at)) made

module _ (trace : List ℕ) (from k : ℕ) (last : Bool) (ends : last ≡ true → length trace ≤ from + k) (p : Position) where
  -- what is replayed from where n turns lead is replayed from where they began, after their lines
  turns_before : (n : ℕ) {ns : List ℕ} {e : Stop} → ((i : ℕ) → i < n → turn_goes last (take k (drop from trace)) p i ≡ true) → Replays trace (reached last (take k (drop from trace)) p n).state (reached last (take k (drop from trace)) p n).bytes (from + (reached last (take k (drop from trace)) p n).at) ns e → Replays trace p.state p.bytes (from + p.at) (tabulate (number_in last (take k (drop from trace)) p) (5 * n) ++ ns) e
  unfolding reached turn_from turn_goes tabulate
  turns_before zero keeps d = d
  turns_before (suc n) {ns} {e} keeps d =
      let w = take k (drop from trace) in
      let q = reached last w p n in
      let t = goes_is (turn_from last w q) (keeps n (omega arith)) in
      let there = turn_leads last w p n t.0 t.1 in
      let one = turn_goes_law trace from k last ends q.state q.bytes q.at t.0 t.1 in
      let rest : Replays trace t.0.next (turn_bytes w q.state q.bytes q.at) (from + t.0.at) ns e = subst (λ (x : Position). Replays trace x.state x.bytes (from + x.at) ns e) there d in
      rw (lines_more last w p n t.0 t.1 ns) (turns_before n (λ i l. keeps i (omega arith)) (goes one rest))

-- ---- a piece

module _ {trace : List ℕ} {s : Replay} {bytes after list : List ℕ} {at : ℕ} {r : RunAnswer} (c : Piece trace s bytes at after list r) where
  window_of : List ℕ
  window_of = take c.most (drop at trace)

  begin : Position
  begin = position s bytes 0

  room : ℕ
  room = length c.lent / 5

  made_lines : r.lines ≡ turns_made c.last window_of begin room
  unfolding run_of window_of begin room
  made_lines = ap (λ (x : RunAnswer). x.lines) c.made.run

  few : r.lines ≤ room
  unfolding turns_made
  few = omega (arith, made_lines, least_false_le (turn_goes c.last window_of begin) room)

  all_go : (i : ℕ) → i < r.lines → turn_goes c.last window_of begin i ≡ true
  unfolding turns_made
  all_go i l = least_false_keeps (turn_goes c.last window_of begin) room i (omega (arith, made_lines))

  -- the position after its lines
  there : Position
  there = reached c.last window_of begin r.lines

  state_is : r.state ≡ there.state
  unfolding run_of there window_of begin room
  state_is = ap (λ (x : RunAnswer). x.state) c.made.run ∙ ap (λ (n : ℕ). (reached c.last window_of begin n).state) (sym made_lines)

  place_is : r.at ≡ there.at
  unfolding run_of there window_of begin room
  place_is = ap (λ (x : RunAnswer). x.at) c.made.run ∙ ap (λ (n : ℕ). (reached c.last window_of begin n).at) (sym made_lines)

  bytes_are : after ≡ there.bytes
  unfolding there window_of begin
  bytes_are = c.made.bytes

  wrote : take (5 * r.lines) list ≡ tabulate (number_in c.last window_of begin) (5 * r.lines)
  unfolding window_of begin room
  wrote = ap (take (5 * r.lines)) c.made.list ∙ front_part (number_in c.last window_of begin) (5 * r.lines) 0 c.lent (omega (arith, few))

  -- what is replayed from where it went to is replayed from where it began, after what it wrote
  pub piece_before : {ns : List ℕ} {e : Stop} → Replays trace r.state after (at + r.at) ns e → Replays trace s bytes at (take (5 * r.lines) list ++ ns) e
  unfolding there window_of begin
  piece_before {ns} {e} d =
      let moved_there = moved (sym state_is) (sym bytes_are) (ap (λ (n : ℕ). at + n) (sym place_is)) d in
      let whole = turns_before trace at c.most c.last c.ends begin r.lines all_go moved_there in
      rw wrote (moved refl refl (sym (add-zero at)) whole)

  -- where it does not go on, the turn after its lines says so
  ending_is : r.ending ≡ ending_after c.last window_of begin room r.lines
  unfolding run_of window_of begin room
  ending_is = ap (λ (x : RunAnswer). x.ending) c.made.run ∙ ap (ending_after c.last window_of begin room) (sym made_lines)

  turn_said : (e : Ending) → r.ending ≡ e → (r.lines ≡ room) ⊎ (turn_from c.last window_of there ≡ Err e)
  unfolding ending_after turns_made turn_goes there
  turn_said e h = ⊎_elim
      (λ q. inl q)
      (λ q. let stop : turn_goes c.last window_of begin r.lines ≡ false = ap (turn_goes c.last window_of begin) made_lines ∙ least_false_breaks (turn_goes c.last window_of begin) room (below q) in
      inr (over_is _ stop ∙ ap (λ (x : Ending). Err x) (cond_no (eqb r.lines room) Later _ _ (ne_eqb r.lines room q) refl ∙ (sym ending_is ∙ h))))
      (eq_or_ne r.lines room)
    where
      below : (r.lines ≡ room → ⊥) → least_false (turn_goes c.last window_of begin) room < room
      below q = ⊎_elim (λ l. l) (λ l. absurd (q (omega (arith, made_lines, few)))) (lt_or_le _ room)

  turn_ends : (e : Ending) → r.ending ≡ e → (ending_number e ≡ 0 → ⊥) → turn_from c.last window_of there ≡ Err e
  unfolding ending_after ending_number
  turn_ends e h n = ⊎_elim
      (λ q. absurd (n (ap ending_number (sym h ∙ (ending_is ∙ sym (cond_yes (eqb r.lines room) _ _ Later (eq-eqb r.lines room q) refl))))))
      (λ t. t)
      (turn_said e h)

  pub piece_complete : r.ending ≡ Complete → Replays trace s bytes at (take (5 * r.lines) list) Nowhere
  unfolding turn_from window_of there ending_number
  piece_complete h =
      let q = there in
      let here = (turn_over trace at c.most c.last c.ends q.state q.bytes q.at Complete (turn_ends Complete h (λ z. omega (arith, z)))).0 refl in
      subst (λ (l : List ℕ). Replays trace s bytes at l Nowhere) (append-nil _) (piece_before (moved state_is bytes_are (ap (λ (n : ℕ). at + n) place_is) (over here)))

  pub piece_stopped : r.ending ≡ Stopped → Replays trace s bytes at (take (5 * r.lines) list) (At (at + r.at))
  unfolding turn_from window_of there ending_number
  piece_stopped h =
      let q = there in
      let here = (turn_over trace at c.most c.last c.ends q.state q.bytes q.at Stopped (turn_ends Stopped h (λ z. omega (arith, z)))).1 refl in
      subst (λ (l : List ℕ). Replays trace s bytes at l (At (at + r.at))) (append-nil _) (piece_before (moved state_is bytes_are (ap (λ (n : ℕ). at + n) place_is) (over (here ∙ ap (λ (n : ℕ). Over (At (at + n))) (sym place_is)))))

-- ---- why a run says later: a run over the rest of the trace, with room for all its lines, does not

not_last : (last : Bool) (a : Ending) → cond last a Later ≡ Later → (ending_number a ≡ 0 → ⊥) → last ≡ false
unfolding ending_number
not_last true a e n = absurd (n (ap ending_number e))
not_last false a e n = refl

module _ (last : Bool) (window : List ℕ) (s : Replay) (bytes : List ℕ) (at : ℕ) where
  -- a turn that replays a record goes past its header, and counts it
  field_counts : (t : Turn) (f : Field) → FieldIs window at f → field_turn last window s bytes f ≡ Ok t → (at + 3 ≤ t.at) × (t.next.number ≡ s.number + 1)
  unfolding field_turn
  field_counts t End i h = cc
  field_counts t Cut i h = cc
  field_counts t (Whole tag start len) i h =
      let y = step_goes (start + len) _ t h in
      let n = step_counts s _ y.0 y.1.0 in
      subst (λ (x : Turn). (at + 3 ≤ x.at) × (x.next.number ≡ s.number + 1)) y.1.1 (whole_past window at tag start len i, n)

  turn_counts : (t : Turn) → turn_of last window s bytes at ≡ Ok t → (at + 3 ≤ t.at) × (t.next.number ≡ s.number + 1)
  turn_counts t h = by_number last window s bytes at (Ok t) h (λ n q. cc) (λ no q. field_counts t (field_at window at) (field_is window at) q)

  -- one that replays none and does not end the replay: the window has no whole record there and does not end the trace, or the numbers are used up
  field_later : (f : Field) → field_at window at ≡ f → field_turn last window s bytes f ≡ Err Later → (last ≡ false) × NoRecordAt window at
  unfolding field_turn ending_number
  field_later End i h = let e : cond last Complete Later ≡ Later = cc in (not_last last Complete e (λ y. omega (arith, y)), λ tag start n q. no_whole (sym i ∙ q))
    where
      no_whole : {tag start n : ℕ} → End ≡ Whole tag start n → ⊥
      no_whole w = let z : ◌≡◌ {A = ℕ} 0 1 = cc in omega arith
  field_later Cut i h = let e : cond last Stopped Later ≡ Later = cc in (not_last last Stopped e (λ y. omega (arith, y)), λ tag start n q. no_whole (sym i ∙ q))
    where
      no_whole : {tag start n : ℕ} → Cut ≡ Whole tag start n → ⊥
      no_whole w = let z : ◌≡◌ {A = ℕ} 0 1 = cc in omega arith
  field_later (Whole tag start len) i h = apart (step_stops (start + len) _ Later h).1 (λ y. omega (arith, y))

  turn_later : turn_of last window s bytes at ≡ Err Later → (s.number ≡ 18446744073709551615) ⊎ ((last ≡ false) × NoRecordAt window at)
  turn_later h = by_number last window s bytes at (Err Later) h (λ n q. inl n) (λ no q. inr (field_later (field_at window at) refl q))

module _ (last : Bool) (window : List ℕ) (p : Position) where
  turns_count : (n : ℕ) → ((i : ℕ) → i < n → turn_goes last window p i ≡ true) → (p.at + 3 * n ≤ (reached last window p n).at) × ((reached last window p n).state.number ≡ p.state.number + n)
  unfolding reached turn_from turn_goes
  turns_count zero keeps = (omega arith, omega arith)
  turns_count (suc n) keeps =
      let q = reached last window p n in
      let before = turns_count n (λ i l. keeps i (omega arith)) in
      let t = goes_is (turn_from last window q) (keeps n (omega arith)) in
      let one = turn_counts last window q.state q.bytes q.at t.0 t.1 in
      rw (turn_leads last window p n t.0 t.1) (omega (arith, before, one), omega (arith, before, one))

module _ {trace : List ℕ} {s : Replay} {bytes after list : List ℕ} {at : ℕ} {r : RunAnswer} (c : Piece trace s bytes at after list r) where
  pub piece_later : r.ending ≡ Later → (r.lines ≡ length c.lent / 5) ⊎ ((r.state.number ≡ 18446744073709551615) ⊎ ((c.last ≡ false) × NoRecordAt (take c.most (drop at trace)) r.at))
  unfolding turn_from room window_of
  piece_later h = ⊎_elim (λ q. inl q) (λ t. inr (⊎_elim
      (λ n. inl (ap (λ (x : Replay). x.number) (state_is c) ∙ n))
      (λ l. inr (l.0, subst (NoRecordAt (window_of c)) (sym (place_is c)) l.1))
      (turn_later c.last (window_of c) (there c).state (there c).bytes (there c).at t))) (turn_said c Later h)

  pub piece_last : c.last ≡ true → length trace < length c.lent / 5 → s.number + length trace < 18446744073709551615 → r.ending ≡ Later → ⊥
  unfolding window_of begin there
  piece_last l room_for_all numbers h =
      let counts = turns_count c.last (window_of c) (begin c) r.lines (all_go c) in
      let bound = c.made.within in
      let short = length-take c.most (drop at trace) in
      let rest = length-drop at trace in
      let place = place_is c in
      let state = ap (λ (x : Replay). x.number) (state_is c) in
      ⊎_elim
      (λ q. omega (arith, counts, bound, short, rest, place))
      (λ t. ⊎_elim (λ n. omega (arith, counts, bound, short, rest, place, state)) (λ z. not_both l z.0) t)
      (piece_later h)

-- ---- whatever the cuts, what the pieces wrote and how the last one ended is the trace's replay

pub pieces_are : {trace : List ℕ} {s : Replay} {bytes : List ℕ} {at : ℕ} {ns : List ℕ} {e : Stop} → InPieces trace s bytes at ns e → Replays trace s bytes at ns e
pieces_are (later c h d) = piece_before c (pieces_are d)
pieces_are (complete c h) = piece_complete c h
pieces_are (stopped c h) = piece_stopped c h

pub says_what_calls_give : (trace : List ℕ) → SaysWhatCallsGive trace
says_what_calls_give trace = record {
  one = replays_is trace;
  only = replays_only;
  prefix = λ c d. piece_before c d;
  why = piece_later;
  long = piece_last;
  pieces = pieces_are;
}
