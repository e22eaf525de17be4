-- One turn, along the code's tests; and turn after turn, as the loop makes them.
use Rattle.laws.proofs.Prelude.{ℕ, ◌+◌, ◌-◌, ◌*◌, ◌/◌, ◌%◌, ◌≤◌, ◌<◌, ◌≡◌, refl, sym, ap, ◌∙◌, subst, Bool, false, List, ◌++◌, ⊎_elim, arith, add-one, length, length-drop, take, drop, w64, Fits, eqb, eq-eqb, ne_eqb, cond_yes, cond_no, nth, front, store, store_none, store_run, tail_back, tail_lent, drop_of_length-le, eq_or_ne, Passed, passed_none, passed_more, passed_stop, passed_end}
use Rattle.std.proofs.Common.{Option, Some, None, Result, Ok, Err, is_ok}
use borrow.Rule.Slice.PartMut.{put_mid}
use mathlib.Core.List.{[], ◌∷◌, append-nil}
use Rattle.tagged_fields.specs.declared.Field.{Field}
use Rattle.tagged_fields.specs.declared.Field.TheVariants.{Whole, Cut, End}
use Rattle.tagged_fields.specs.Fields.{field_at}
use Rattle.tagged_fields.proofs.Windows.{FieldIs, field_is, whole_within}
use Rattle.replay_record.specs.declared.Line.{Line}
use Rattle.replay_record.specs.declared.Replay.{Replay}
use Rattle.replay_record.specs.declared.Step.{Step}
use Rattle.replay_record.specs.Records.{Recorded, Opens, Sets, Seeks, Reads, Writes, Checks, Bad}
use Rattle.replay_record.specs.Steps.{called, bytes_after, stepped}
use Rattle.replay_run.specs.declared.Ending.{Ending}
use Rattle.replay_run.specs.declared.Ending.TheVariants.{Later, Stopped}
use Rattle.replay_run.specs.declared.Turn.{Turn}
use Rattle.replay_run.specs.Traces.{numbers_of}
use Rattle.replay_run.specs.Parts.{step_turn, field_turn, field_bytes, turn_of, turn_bytes, TurnMade, Position, position, turn_from, led, after_turn, reached, turn_goes, turns_made, turn_numbers, line_at, number_in, turn_ending, ending_after, run_of, RunMade}

-- ---- one turn

-- a step that ends the run, and one that does not
pub step_stops : (end : ℕ) (x : Option Step) (e : Ending) → step_turn end x ≡ Err e → (x ≡ None) × (Stopped ≡ e)
unfolding step_turn
step_stops end (Some y) e h = cc
step_stops end None e h = (refl, cc)

pub step_goes : (end : ℕ) (x : Option Step) (t : Turn) → step_turn end x ≡ Ok t → (y : Step) × ((x ≡ Some y) × (record { line = y.line; next = y.next; at = end } ≡ t))
unfolding step_turn
step_goes end (Some y) t h = (y, (refl, cc))
step_goes end None t h = cc

-- what is not replayed leaves the bytes
bad_stays : (s : Replay) (bytes : List ℕ) (r : Recorded) → stepped s (called s bytes r) ≡ None → bytes_after s bytes r ≡ bytes
unfolding bytes_after called stepped
bad_stays s bytes (Opens mode) h = refl
bad_stays s bytes (Sets v representation) h = refl
bad_stays s bytes (Seeks o whence) h = refl
bad_stays s bytes (Reads begin c) h = refl
bad_stays s bytes (Writes begin c buffer) h = cc
bad_stays s bytes (Checks place range) h = refl
bad_stays s bytes Bad h = refl

module _ (last : Bool) (window : List ℕ) (s : Replay) (bytes : List ℕ) (at : ℕ) where
  -- a turn is that of the field there, or there is none after the last number
  pub by_number : {A : Type 0} (t : Result Turn Ending) → turn_of last window s bytes at ≡ t → (s.number ≡ 18446744073709551615 → Err Later ≡ t → A) → (eqb s.number 18446744073709551615 ≡ false → field_turn last window s bytes (field_at window at) ≡ t → A) → A
  unfolding turn_of
  by_number t h over goes = ⊎_elim
      (λ e. over e (simp (eq-eqb s.number 18446744073709551615 e) at h))
      (λ n. let no = ne_eqb s.number 18446744073709551615 n in goes no (simp no at h))
      (eq_or_ne s.number 18446744073709551615)

  field_stays : (e : Ending) (f : Field) → field_turn last window s bytes f ≡ Err e → field_bytes window s bytes f ≡ bytes
  unfolding field_turn field_bytes
  field_stays e End h = refl
  field_stays e Cut h = refl
  field_stays e (Whole tag start n) h = bad_stays s bytes _ (step_stops (start + n) _ e h).0

  turn_stays : (e : Ending) → turn_of last window s bytes at ≡ Err e → bytes ≡ turn_bytes window s bytes at
  unfolding turn_bytes
  turn_stays e h = by_number (Err e) h
      (λ n q. cond_yes _ _ _ bytes (eq-eqb s.number 18446744073709551615 n) refl)
      (λ no q. cond_no _ _ _ bytes no (sym (field_stays e (field_at window at) q)))

-- a whole record lies in the window
pub record_within : (window : List ℕ) (at : ℕ) (f : Field) (tag start len : ℕ) → f ≡ field_at window at → f ≡ Whole tag start len → start + len ≤ length window
record_within window at f tag start len e q = whole_within window at tag start len (subst (FieldIs window at) (sym e ∙ q) (field_is window at))

-- a turn goes no further than the window
module _ (last : Bool) (window : List ℕ) (s : Replay) (bytes : List ℕ) (at : ℕ) (t : Turn) where
  field_ends : (f : Field) → FieldIs window at f → field_turn last window s bytes f ≡ Ok t → t.at ≤ length window
  unfolding field_turn
  field_ends End i h = cc
  field_ends Cut i h = cc
  field_ends (Whole tag start n) i h =
      let y = step_goes (start + n) _ t h in
      subst (λ (x : Turn). x.at ≤ length window) y.1.1 (whole_within window at tag start n i)

  turn_ends_within : turn_of last window s bytes at ≡ Ok t → t.at ≤ length window
  turn_ends_within h = by_number last window s bytes at (Ok t) h (λ n q. cc) (λ no q. field_ends (field_at window at) (field_is window at) q)

-- ---- a line's five numbers

five_front : (a b c d e : ℕ) (l : List ℕ) → 5 ≤ length l → (a ∷ b ∷ c ∷ d ∷ e ∷ []) ++ drop 5 l ≡ front (nth (a ∷ b ∷ c ∷ d ∷ e ∷ [])) 5 l
unfolding store
five_front a b c d e [] h = absurd (omega arith)
five_front a b c d e (u ∷ []) h = absurd (omega arith)
five_front a b c d e (u ∷ v ∷ []) h = absurd (omega arith)
five_front a b c d e (u ∷ v ∷ w ∷ []) h = absurd (omega arith)
five_front a b c d e (u ∷ v ∷ w ∷ x ∷ []) h = absurd (omega arith)
five_front a b c d e (u ∷ v ∷ w ∷ x ∷ y ∷ l) h = refl

pub line_stored : (l part : List ℕ) (at n : ℕ) (x : Line) → at + 5 ≤ length l → n ≡ 5 → part ≡ numbers_of x → put_mid at n l part ≡ store (λ k. at + k) (nth (numbers_of x)) 5 l
line_stored l part at n x h q e =
    let t = tail_lent at l in
    let here = five_front x.number x.answer x.count x.pointer x.size (drop at l) (omega (arith, length-drop at l)) in
    let none : drop (length l - at) (drop at l) ≡ [] = drop_of_length-le (drop at l) {i = length l - at} (omega (arith, length-drop at l)) in
    rw (q, e) (ap (λ (r : List ℕ). take at l ++ r) (here ∙ rw (none, append-nil)) ∙ tail_back (λ k. k) (nth (numbers_of x)) at 5 l _ (omega arith) (ap (front (nth (numbers_of x)) 5) (sym t)))

-- ---- turn after turn

-- some turns are made: where they lead is where the loop stands, and the list has their lines
pub record Running (last : Bool) (window : List ℕ) (p : Position) (lent : List ℕ) (room : ℕ) (q : Position) (list : List ℕ) (lines : ℕ) : Type 0 where
  pub passed : Passed (turn_goes last window p) lines room
  pub here : q ≡ reached last window p lines
  pub stored : list ≡ front (number_in last window p) (5 * lines) lent
  pub file_length_law : length q.bytes ≡ length p.bytes
  pub list_length_law : length list ≡ length lent
  pub fits : room ≡ length lent / 5
  pub small : length lent < 18446744073709551616
  pub within : q.at ≤ length window

pub running_none : (last : Bool) (window : List ℕ) (s : Replay) (bytes lent : List ℕ) (room : ℕ) → room ≡ length lent / 5 → Fits w64 (length lent) → Running last window (position s bytes 0) lent room (position s bytes 0) lent 0
unfolding reached
running_none last window s bytes lent room e f = record {
  passed = passed_none _ room;
  here = refl;
  stored = store_none (λ i. i) (number_in last window (position s bytes 0)) lent;
  file_length_law = refl;
  list_length_law = refl;
  fits = e;
  small = omega arith;
  within = omega arith;
}

module _ (last : Bool) (window : List ℕ) (p : Position) (lent : List ℕ) (room : ℕ) (s : Replay) (bytes : List ℕ) (at : ℕ) (list : List ℕ) (lines : ℕ) (r : Running last window p lent room (position s bytes at) list lines) where
  pub list_room : lines < room → 5 * lines + 5 ≤ length list
  list_room l = omega (arith, r.fits, r.list_length_law)

  pub list_fits : lines < room → Fits w64 (5 * lines)
  list_fits l = record { fits = omega (arith, list_room l, r.list_length_law, r.small) }

  -- the answer, where as many turns are made as the definition says
  ends_as : (e : Ending) → lines ≡ turns_made last window p room → e ≡ ending_after last window p room lines → record { ending = e; at = at; lines = lines; state = s } ≡ run_of last window p (length lent / 5)
  unfolding run_of
  ends_as e n ee =
      (λ i. record { ending = ee i; at = (r.here i).at; lines = lines; state = (r.here i).state })
      ∙ ap (λ (k : ℕ). record { ending = ending_after last window p room k; at = (reached last window p k).at; lines = k; state = (reached last window p k).state }) n
      ∙ ap (run_of last window p) r.fits

  module _ (after : List ℕ) (x : Result Turn Ending) (m : TurnMade last window s bytes after at x) where
    -- the turn that is made is turn `lines`
    turn_here : x ≡ turn_from last window (reached last window p lines)
    unfolding turn_from
    turn_here = m.turn ∙ ap (turn_from last window) r.here

    goes_here : turn_goes last window p lines ≡ is_ok x
    unfolding turn_goes
    goes_here = ap (λ (z : Result Turn Ending). is_ok z) (sym turn_here)

    after_here : led (position s bytes at) after x ≡ reached last window p (lines + 1)
    unfolding reached after_turn turn_from
    after_here = rw (add-one lines) ((λ i. led (position s bytes at) (m.bytes i) (m.turn i)) ∙ ap (after_turn last window) r.here)

  module _ (after : List ℕ) (t : Turn) (m : TurnMade last window s bytes after at (Ok t)) where
    line_here : numbers_of t.line ≡ line_at last window p lines
    unfolding line_at turn_numbers
    line_here = ap turn_numbers (turn_here after (Ok t) m)

    number_here : (k : ℕ) → k < 5 → nth (numbers_of t.line) k ≡ number_in last window p (5 * lines + k)
    unfolding number_in
    number_here k h =
        let d : lines ≡ (5 * lines + k) / 5 = omega arith in
        let e : k ≡ (5 * lines + k) % 5 = omega arith in
        (λ i. nth (line_here i) k) ∙ (λ i. nth (line_at last window p (d i)) (e i))

    pub running_more : (list' : List ℕ) → lines < room → list' ≡ store (λ k. 5 * lines + k) (nth (numbers_of t.line)) 5 list → length after ≡ length bytes → length list' ≡ length list → Running last window p lent room (position t.next after t.at) list' (lines + 1)
    unfolding led
    running_more list' l e lb ll =
        let n : 5 * (lines + 1) ≡ 5 * lines + 5 = omega arith in
        record {
          passed = passed_more _ lines room r.passed l (goes_here after (Ok t) m);
          here = after_here after (Ok t) m;
          stored = rw n (store_run (λ i. i) (number_in last window p) (λ k. 5 * lines + k) (nth (numbers_of t.line)) (5 * lines) 5 lent list list' r.stored e (λ k q. refl) number_here);
          file_length_law = lb ∙ r.file_length_law;
          list_length_law = ll ∙ r.list_length_law;
          fits = r.fits;
          small = r.small;
          within = turn_ends_within last window s bytes at t (sym m.turn);
        }

  module _ (after : List ℕ) (e : Ending) (m : TurnMade last window s bytes after at (Err e)) where
    -- no turn more: the run ends where it stands, as the turn says
    stopped_here : lines < room → lines ≡ turns_made last window p room
    unfolding turns_made
    stopped_here l = passed_stop _ lines room r.passed l (goes_here after (Err e) m)

    pub running_stop : lines < room → RunMade last window p after lent list (record { ending = e; at = at; lines = lines; state = s })
    unfolding ending_after turn_ending
    running_stop l = record {
      run = ends_as e (stopped_here l) (cond_no (eqb lines room) _ _ _ (ne_eqb lines room (λ q. omega arith)) (ap turn_ending (turn_here after (Err e) m)));
      bytes = m.bytes ∙ (sym (turn_stays last window s bytes at e (sym m.turn)) ∙ ap (λ (x : Position). x.bytes) r.here);
      list = r.stored;
      fits = omega (arith, list_room l, r.list_length_law);
      within = r.within;
    }

  pub running_end : room ≤ lines → RunMade last window p bytes lent list (record { ending = Later; at = at; lines = room; state = s })
  unfolding turns_made ending_after
  running_end l = let e : room ≡ lines = omega (arith, r.passed.reached) in subst (λ (n : ℕ). RunMade last window p bytes lent list (record { ending = Later; at = at; lines = n; state = s })) (sym e) (record {
    run = ends_as Later (passed_end _ lines room r.passed l) (cond_yes (eqb lines room) _ _ Later (eq-eqb lines room (omega (arith, r.passed.reached))) refl);
    bytes = ap (λ (x : Position). x.bytes) r.here;
    list = r.stored;
    fits = omega (arith, r.passed.reached, r.fits);
    within = r.within;
  })
