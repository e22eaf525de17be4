-- The answers of `accept`, from what its calls ensure.
use Rattle.laws.proofs.Prelude.{ℕ, ◌/◌, zero, suc, ◌≤◌, ◌<◌, ◌≡◌, refl, sym, ap, ◌∙◌, subst, List, ⊎_elim, arith, length, take, replicate, get_or-replicate, length-replicate, ℤ, length-take-le, w64, SFits, to_z, of_z, to_z-of_z, granted, nth, front, granted_yes, granted_no, eq_or_ne, length_store}
use Rattle.std.specs.Prelude.{Ok, Err}
use Rattle.view.specs.declared.Refused.{Refused}
use Rattle.view.specs.declared.View.{View}
use Rattle.view.specs.Types.{PaperView, paper, entries, width_at, extent_of, whole, view_of_lists}
use Rattle.view.specs.Parts.{default_view, named_by, fault_of, fault_by, record_of, fault_in, refusal_in}
use Rattle.view.specs.Acceptance.{set_refusal}
use Rattle.view.specs.Rules.{instances, origin}
use Rattle.view.proofs.Holding.{held_past, record_same}
use Rattle.view.proofs.Numbered.{refused_some}
use Rattle.rule_lists.specs.Parts.{limits_refusal, limits_fault}
use Rattle.rule_set.specs.Parts.{Accepted, accepted_in, accept_answer, UnusedZero, AcceptedAs, Limited, shapes_fault, ShapesReady, RecordAccepted, ListsAccepted}
use Rattle.rule_groups.specs.Parts.{whole_at, Recordable, view_record}
use Rattle.rule_set.proofs.Chain.{limited, limits_refused, limits_granted, set_accepted}
use Rattle.rule_set.proofs.Recording.{naturals_of, record_hold, recordable, etype_some, pairs_few}
use Rattle.rule_set.proofs.Accepting.{shapes_same, ready}

-- ---- unused places

default_unused : UnusedZero default_view
unfolding default_view
default_unused = record {
  widths = later;
  displacements = λ i a b. get_or-replicate 8 i 0 0 b;
  origins = λ i a b. get_or-replicate 64 i 0 0 b;
}
  where
    later : (i : ℕ) → 1 ≤ i → i < 8 → nth default_view.widths i ≡ 0
    later zero a b = absurd (omega arith)
    later (suc i) a b = get_or-replicate 7 i 0 0 (omega arith)

hold_unused : (v : PaperView) → UnusedZero (record_of v)
unfolding record_of
hold_unused v = record {
  widths = λ i a b. held_past (width_at v.etype) (entries v.etype) 8 i a b;
  displacements = λ i a b. held_past _ (entries v.etype) 8 i a b;
  origins = λ i a b. held_past (origin v) (instances v) 64 i a b;
}

-- ---- a refusal, and an accepted view: the fault is the chain's number with what it names

refused_as : (mode : ℕ) (r : List ℕ) (v : PaperView) (a : Accepted) → fault_of a.refusal a.named ≡ fault_by (named_by v) (set_refusal mode r v) → (a.refusal ≡ 0 → ⊥) → a.view ≡ default_view → AcceptedAs mode r v a
unfolding accept_answer fault_by
refused_as mode r v a e h q =
    let n = ap (λ x. x.refusal) e in
    let w : a.view ≡ granted (set_refusal mode r v) (record_of v) default_view = q ∙ sym (granted_no _ _ _ (λ z. h (n ∙ z))) in
    record {
      answer = λ i. record { refusal = (e i).refusal; named = (e i).named; view = w i };
      same = λ z. absurd (h z);
      unused = subst UnusedZero (sym q) default_unused;
    }

accepted_as : (mode : ℕ) (r : List ℕ) (v : PaperView) (a : Accepted) → fault_of a.refusal a.named ≡ fault_by (named_by v) (set_refusal mode r v) → a.refusal ≡ 0 → a.view ≡ record_of v → AcceptedAs mode r v a
unfolding accept_answer fault_by
accepted_as mode r v a e z q =
    let n : set_refusal mode r v ≡ 0 = sym (ap (λ x. x.refusal) e) ∙ z in
    let p : a.view ≡ granted (set_refusal mode r v) (record_of v) default_view = q ∙ sym (granted_yes _ _ _ n) in
    record {
      answer = λ i. record { refusal = (e i).refusal; named = (e i).named; view = p i };
      same = λ y. ap paper q ∙ record_same mode v (set_accepted mode r v n);
      unused = subst UnusedZero (sym q) (hold_unused v);
    }

shaped_accepted : (mode : ℕ) (r : List ℕ) (v : PaperView) (a : Accepted) → fault_of a.refusal a.named ≡ fault_by (named_by v) (set_refusal mode r v) → a.view ≡ granted a.refusal (record_of v) default_view → AcceptedAs mode r v a
shaped_accepted mode r v a e q =
    ⊎_elim (λ z. accepted_as mode r v a e z (q ∙ granted_yes a.refusal _ _ z)) (λ z. refused_as mode r v a e z (q ∙ granted_no a.refusal _ _ z)) (eq_or_ne a.refusal 0)

-- ---- `accept_record`: the record, and the checks from 7 on of it

module _ (mode : ℕ) (w x : View) (fw fd : List ℕ) (e : x ≡ w) where
  pub record_ready : ShapesReady w fw fd → ShapesReady x fw fd
  record_ready s = rw e s

  pub record_refused : (f : Refused) → fault_in {A = Unit {0}} (Err f) ≡ shapes_fault x fw fd mode → RecordAccepted mode w fw fd (accepted_in (Err f))
  unfolding accepted_in fault_in refusal_in
  record_refused f q = record { fault = q ∙ ap (λ (z : View). shapes_fault z fw fd mode) e; view = sym (granted_no _ w default_view (refused_some View f.refusal)) }

  pub record_granted : (t : Unit {0}) → fault_in {A = Unit {0}} (Ok t) ≡ shapes_fault x fw fd mode → RecordAccepted mode w fw fd (accepted_in (Ok x))
  unfolding accepted_in fault_in granted
  record_granted t q = record { fault = q ∙ ap (λ (z : View). shapes_fault z fw fd mode) e; view = e }

pub ruleset recorded = (record_ready, record_refused, record_granted)

-- ---- `accept_lists`: the filetype's displacements as natural numbers, and the three signed numbers as the machine reads them

module _ (d : ℤ) (ew : List ℕ) (ed : List ℤ) (ex : ℤ) (fw : List ℕ) (fd : List ℤ) (fx : ℤ) (lim : Limited (view_of_lists d ew ed ex fw fd fx)) where
  pub naturals_ask : length fd ≤ 256
  naturals_ask = pairs_few _ lim

  pub groups_ask : 0 < length ew
  groups_ask = etype_some _ lim

  module _ (ns : List ℕ) (en : ns ≡ front (whole_at fd) (length fd) (replicate 256 0)) where
    -- the array of 256 has room for the displacements
    pub naturals_room : length fd ≤ length ns
    naturals_room = omega (arith, naturals_ask, ap length en, length_store (λ i. i) (whole_at fd) (length fd) (replicate 256 0), length-replicate {A = ℕ} 256 0)

    pub naturals_used : length fd ≡ length (take (length fd) ns)
    naturals_used = sym (length-take-le (length fd) ns naturals_room)

    naturals_are : take (length fd) ns ≡ naturals_of fd
    unfolding naturals_of
    naturals_are = ap (take (length fd)) en

    pub record_asks : Recordable ew ed (take (length fd) ns)
    record_asks = rw naturals_are (recordable _ lim)

    module _ (sd : SFits w64 d) (se : SFits w64 ex) (sf : SFits w64 fx) (s x y : ℕ) (es : s ≡ whole (to_z w64 (of_z w64 d))) (xe : x ≡ whole (to_z w64 (of_z w64 ex))) (ye : y ≡ whole (to_z w64 (of_z w64 fx))) where
      record_is : view_record (record { displacement = s; etype = record { entries = length ew; extent = x }; filetype = record { instances = length fd / length ew; extent = y } }) ew ed (take (length fd) ns) ≡ record_of (view_of_lists d ew ed ex fw fd fx)
      unfolding extent_of
      record_is =
          let p = es ∙ ap whole (to_z-of_z sd) in
          let q = xe ∙ ap whole (to_z-of_z se) in
          let o = ye ∙ ap whole (to_z-of_z sf) in
          (λ i. view_record (record { displacement = p i; etype = record { entries = length ew; extent = q i }; filetype = record { instances = length fd / length ew; extent = o i } }) ew ed (naturals_are i)) ∙ record_hold _ lim

      pub shapes_ask : ShapesReady (view_record (record { displacement = s; etype = record { entries = length ew; extent = x }; filetype = record { instances = length fd / length ew; extent = y } }) ew ed (take (length fd) ns)) fw (take (length fd) ns)
      shapes_ask = rw (record_is, naturals_are) (ready _ lim)

      pub shaped_as : (mode : ℕ) (a : Accepted) → RecordAccepted mode (view_record (record { displacement = s; etype = record { entries = length ew; extent = x }; filetype = record { instances = length fd / length ew; extent = y } }) ew ed (take (length fd) ns)) fw (take (length fd) ns) a → ListsAccepted mode (view_of_lists d ew ed ex fw fd fx) a
      shaped_as mode a j = record {
        fault = j.fault ∙ (λ i. shapes_fault (record_is i) fw (naturals_are i) mode) ∙ shapes_same _ lim mode;
        view = j.view ∙ ap (λ (w : View). granted a.refusal w default_view) record_is;
      }

-- ---- `accept`: checks 2 to 6, then those from 7 on

module _ (mode : ℕ) (r : List ℕ) (d : ℤ) (ew : List ℕ) (ed : List ℤ) (ex : ℤ) (fw : List ℕ) (fd : List ℤ) (fx : ℤ) (sd : SFits w64 d) (se : SFits w64 ex) (sf : SFits w64 fx) where
  read : view_of_lists (to_z w64 (of_z w64 d)) ew ed (to_z w64 (of_z w64 ex)) fw fd (to_z w64 (of_z w64 fx)) ≡ view_of_lists d ew ed ex fw fd fx
  read = let p = to_z-of_z sd in let q = to_z-of_z se in let s = to_z-of_z sf in λ i. view_of_lists (p i) ew ed (q i) fw fd (s i)

  limits : limits_fault r (view_of_lists (to_z w64 (of_z w64 d)) ew ed (to_z w64 (of_z w64 ex)) fw fd (to_z w64 (of_z w64 fx))) ≡ fault_by (named_by (view_of_lists d ew ed ex fw fd fx)) (limits_refusal r (view_of_lists d ew ed ex fw fd fx))
  unfolding limits_fault
  limits = ap (limits_fault r) read

  pub refused_limits : (f : Refused) → fault_in {A = Unit {0}} (Err f) ≡ limits_fault r (view_of_lists (to_z w64 (of_z w64 d)) ew ed (to_z w64 (of_z w64 ex)) fw fd (to_z w64 (of_z w64 fx))) → AcceptedAs mode r (view_of_lists d ew ed ex fw fd fx) (accepted_in (Err f))
  unfolding accepted_in fault_in refusal_in fault_by
  refused_limits f e =
      let q = e ∙ limits in
      let h = refused_some View f.refusal in
      let n = limits_refused mode r _ _ (ap (λ x. x.refusal) q) h in
      refused_as mode r _ _ (q ∙ ap (fault_by (named_by (view_of_lists d ew ed ex fw fd fx))) (sym (ap (λ x. x.refusal) q) ∙ n)) h refl

  module _ (t : Unit {0}) (e : fault_in {A = Unit {0}} (Ok t) ≡ limits_fault r (view_of_lists (to_z w64 (of_z w64 d)) ew ed (to_z w64 (of_z w64 ex)) fw fd (to_z w64 (of_z w64 fx)))) where
    number : 0 ≡ limits_refusal r (view_of_lists d ew ed ex fw fd fx)
    unfolding fault_in fault_by
    number = ap (λ x. x.refusal) (e ∙ limits)

    pub limits_leave : Limited (view_of_lists (to_z w64 (of_z w64 d)) ew ed (to_z w64 (of_z w64 ex)) fw fd (to_z w64 (of_z w64 fx)))
    limits_leave = rw read (limited r _ 0 number refl)

    pub accepted_shaped : (a : Accepted) → ListsAccepted mode (view_of_lists (to_z w64 (of_z w64 d)) ew ed (to_z w64 (of_z w64 ex)) fw fd (to_z w64 (of_z w64 fx))) a → AcceptedAs mode r (view_of_lists d ew ed ex fw fd fx) a
    accepted_shaped a s = shaped_accepted mode r _ a (p.fault ∙ ap (fault_by (named_by (view_of_lists d ew ed ex fw fd fx))) (limits_granted r _ 0 number refl mode)) p.view
      where
        p : ListsAccepted mode (view_of_lists d ew ed ex fw fd fx) a
        p = subst (λ (v : PaperView). ListsAccepted mode v a) read s
