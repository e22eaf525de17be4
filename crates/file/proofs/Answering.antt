-- The answers of the calls that move no data, from what the functions below gave.
use Rattle.laws.proofs.Prelude.{ℕ, ◌≤◌, ◌<◌, ◌≡◌, refl, sym, ap, ◌∙◌, Bool, false, not, true, List, arith, ℤ, pos, w64, SFits, to_z, of_z, to_z-of_z, le-leb, lt-leb, check, granted, check_yes, check_no, granted_yes, granted_no, unflag_true, unflag_false}
use Rattle.std.proofs.Common.{Option, None, Ok, Err}
use Rattle.view.specs.declared.Named.{Named}
use Rattle.view.specs.declared.Named.TheVariants.{Nothing}
use Rattle.view.specs.declared.BytePos.{BytePos}
use Rattle.view.specs.declared.Offset.{Offset}
use Rattle.view.specs.declared.Pair.{Pair}
use Rattle.view.specs.declared.View.{View}
use Rattle.view.specs.declared.Refused.{Refused}
use Rattle.view.specs.declared.refusals.Refusal.{Refusal}
use Rattle.view.specs.declared.refusals.Refusal.TheVariants as variants
use Rattle.view.specs.Parts.{refusal_in, refusal_number, refused_as, named_by, record_of, owner_of, end_of_file}
use Rattle.view.proofs.Numbered.{refused_some}
use Rattle.view.specs.Types.{PaperView, whole, view_of_lists}
use Rattle.view.specs.Places.{place}
use Rattle.handle.specs.declared.FileRecord.{FileRecord}
use Rattle.handle.specs.Handles.{PaperHandle, handle_valid}
use Rattle.call_checks.specs.Refusals.{open_refusal, set_view_refusal, seek_target, seek_refusal}
use Rattle.call_query.specs.Parts.{PlaceFound, OwnerFound, EndFound, Sought}
use Rattle.rule_set.specs.Parts.{Accepted, accepted_in, accept_answer, AcceptedAs}
use Rattle.file.specs.declared.Handle.{Handle}
use Rattle.file.specs.declared.OpenAnswer.{OpenAnswer}
use Rattle.file.specs.declared.SetViewAnswer.{SetViewAnswer}
use Rattle.file.specs.declared.SeekAnswer.{SeekAnswer}
use Rattle.file.specs.Parts.{open_as, set_view_as, seek_refused, fresh_handle, with_view, open_answer, set_view_answer, byte_offset_answer, reverse_answer, end_answer, seek_answer}
use Rattle.file.specs.Handles.{on_paper, view_of, mode_got, with_pointer}

-- ---- open

module _ (mode : ℕ) where
  pub open_refused : 3 < mode → (n : ℕ) → n ≡ refusal_number variants.OpenMode → (h : Handle) → h ≡ fresh_handle 0 → (m : OpenAnswer) → m ≡ open_as n h → m ≡ open_answer mode
  unfolding open_answer open_refusal check granted refusal_number
  open_refused l n k h e m q = q ∙ ap (λ (x : ℕ). open_as x h) k ∙ rw (lt-leb mode 3 l) (λ i. record { refusal = 16; count = 0; handle = e i })

  pub open_done : mode ≤ 3 → (got : ℕ) → got ≡ mode_got mode → (h : Handle) → h ≡ fresh_handle got → (m : OpenAnswer) → m ≡ open_as 0 h → m ≡ open_answer mode
  unfolding open_answer open_refusal check granted
  open_done l got g h e m q = q ∙ rw (le-leb mode 3 l) (λ i. record { refusal = 0; count = 0; handle = (e ∙ ap fresh_handle g) i })

-- ---- set

module _ (h : Handle) (representation : List ℕ) (v : PaperView) (t : Bool) (q : t ≡ handle_valid (on_paper h)) where
  set_refused : (n : ℕ) (named : Named) → n ≡ set_view_refusal (on_paper h) representation v → named ≡ named_by v n → (n ≡ 0 → ⊥) → set_view_as n h named ≡ set_view_answer h representation v
  unfolding set_view_answer
  set_refused n named e a z =
      let g = granted_no (set_view_refusal (on_paper h) representation v) (with_view h (record_of v)) h (λ q. z (e ∙ q)) in
      let b = a ∙ ap (named_by v) e in
      λ i. record { refusal = e i; count = 0; handle = sym g i; named = b i }

  module _ (n : not t ≡ false) (made : Accepted) (a : AcceptedAs h.mode representation v made) where
    is_set : made.refusal ≡ set_view_refusal (on_paper h) representation v
    unfolding set_view_refusal accept_answer
    is_set = check_yes _ 1 _ made.refusal (unflag_true t _ q n) (ap (λ x. x.refusal) a.answer)

    is_named : made.named ≡ named_by v made.refusal
    unfolding accept_answer
    is_named = ap (λ x. x.named) a.answer ∙ ap (named_by v) (sym (ap (λ x. x.refusal) a.answer))

    set_rules : (made.refusal ≡ 0 → ⊥) → set_view_as made.refusal h made.named ≡ set_view_answer h representation v
    set_rules z = set_refused made.refusal made.named is_set is_named z

    set_done : made.refusal ≡ 0 → set_view_as 0 (record { mode = h.mode; pointer = 0; view = made.view }) Nothing ≡ set_view_answer h representation v
    unfolding set_view_answer with_view accept_answer named_by
    set_done z =
        let r : 0 ≡ set_view_refusal (on_paper h) representation v = sym z ∙ is_set in
        let g = granted_yes (set_view_refusal (on_paper h) representation v) (with_view h (record_of v)) h (sym r) in
        let w : made.view ≡ record_of v = ap (λ x. x.view) a.answer ∙ granted_yes _ _ _ (sym (ap (λ x. x.refusal) a.answer) ∙ z) in
        let b = ap (named_by v) r in
        λ i. record { refusal = r i; count = 0; handle = (ap (with_view h) w ∙ sym g) i; named = b i }

-- the same of the handle lent, which on paper is the same
pub set_handle : (h : Handle) (g : PaperHandle) (l : g ≡ on_paper h) (representation : List ℕ) (v : PaperView) (t : Bool) (k : t ≡ handle_valid g) → not t ≡ true → (x : Refused) → x ≡ refused_as variants.Handle Nothing → (m : SetViewAnswer) → m ≡ set_view_as (refusal_number x.refusal) h x.named → m ≡ set_view_answer h representation v
unfolding set_view_refusal named_by refusal_number
set_handle h g l representation v t k n x e m y =
    let q : t ≡ handle_valid (on_paper h) = rw l at k in
    y
    ∙ ap (λ (z : Refused). set_view_as (refusal_number z.refusal) h z.named) e
    ∙ set_refused h representation v t q 1 Nothing (check_no _ 1 _ 1 (unflag_false t _ q n) refl) refl (λ q. omega arith)

-- the same, with the signed numbers as the machine reads them
module _ (h : Handle) (representation : List ℕ) (d : ℤ) (ew : List ℕ) (ed : List ℤ) (ex : ℤ) (fw : List ℕ) (fd : List ℤ) (fx : ℤ) (sd : SFits w64 d) (sx : SFits w64 ex) (sf : SFits w64 fx) (g : PaperHandle) (l : g ≡ on_paper h) (t : Bool) (k : t ≡ handle_valid g) (n : not t ≡ false) (made : Accepted) (a : AcceptedAs h.mode representation (view_of_lists (to_z w64 (of_z w64 d)) ew ed (to_z w64 (of_z w64 ex)) fw fd (to_z w64 (of_z w64 fx))) made) where
  q : t ≡ handle_valid (on_paper h)
  q = rw l at k

  lent_is : AcceptedAs h.mode representation (view_of_lists d ew ed ex fw fd fx) made
  lent_is = rw (to_z-of_z sd, to_z-of_z sx, to_z-of_z sf) at a

  pub set_refuses : (x : Refused) → made ≡ accepted_in (Err x) → (m : SetViewAnswer) → m ≡ set_view_as (refusal_number x.refusal) h x.named → m ≡ set_view_answer h representation (view_of_lists d ew ed ex fw fd fx)
  unfolding accepted_in refusal_in
  set_refuses x e m y = y ∙ ap (λ (z : Accepted). set_view_as z.refusal h z.named) (sym e) ∙ set_rules h representation _ t q n made lent_is (λ z. refused_some ℕ x.refusal (sym (ap (λ (a : Accepted). a.refusal) e) ∙ z))

  pub set_grants : (w : View) → made ≡ accepted_in (Ok w) → record { refusal = 0; count = 0; handle = record { mode = h.mode; pointer = 0; view = w }; named = Nothing } ≡ set_view_answer h representation (view_of_lists d ew ed ex fw fd fx)
  unfolding accepted_in
  set_grants w e = ap (λ (z : Accepted). set_view_as 0 (record { mode = h.mode; pointer = 0; view = z.view }) Nothing) (sym e) ∙ set_done h representation _ t q n made lent_is (ap (λ (a : Accepted). a.refusal) e)

-- ---- place, reverse, end

-- a call below takes the handle lent, which on paper is the same
module _ (h : Handle) (g : PaperHandle) (l : g ≡ on_paper h) where
  module _ (o : ℤ) where
    pub place_answered : (p : BytePos) → PlaceFound g o (Ok p) → record { refusal = 0; count = 0; handle = h; place = p } ≡ byte_offset_answer h o
    unfolding byte_offset_answer refusal_in
    place_answered p k = let f = rw l at k in λ i. record { refusal = f.refusal i; count = 0; handle = h; place = record { 0 = (f.place ∙ sym (granted_yes _ _ 0 (sym f.refusal))) i } }

    pub place_refused : (e : Refusal) (n : ℕ) → n ≡ refusal_number e → PlaceFound g o (Err e) → record { refusal = n; count = 0; handle = h; place = record { 0 = 0 } } ≡ byte_offset_answer h o
    unfolding byte_offset_answer refusal_in
    place_refused e n q k = let f = rw l at k in λ i. record { refusal = (q ∙ f.refusal) i; count = 0; handle = h; place = record { 0 = sym (granted_no _ (place (view_of h) (whole o)) 0 (λ z. refused_some ℕ e (f.refusal ∙ z))) i } }

  module _ (b : ℕ) where
    pub owner_answered : (o : Option Pair) → OwnerFound g b (Ok o) → record { refusal = 0; count = 0; handle = h; owner = o } ≡ reverse_answer h b
    unfolding reverse_answer refusal_in
    owner_answered o k = let f = rw l at k in λ i. record { refusal = f.refusal i; count = 0; handle = h; owner = (f.owner ∙ sym (granted_yes _ _ None (sym f.refusal))) i }

    pub owner_refused : (e : Refusal) (n : ℕ) → n ≡ refusal_number e → OwnerFound g b (Err e) → record { refusal = n; count = 0; handle = h; owner = None } ≡ reverse_answer h b
    unfolding reverse_answer refusal_in
    owner_refused e n q k = let f = rw l at k in λ i. record { refusal = (q ∙ f.refusal) i; count = 0; handle = h; owner = sym (granted_no _ (owner_of (view_of h) b) None (λ z. refused_some ℕ e (f.refusal ∙ z))) i }

  module _ (len : ℕ) (s : FileRecord) where
    pub end_answered : (e : Offset) → EndFound g len s (Ok e) → record { refusal = 0; count = 0; handle = h; file = s; end = e } ≡ end_answer h len s
    unfolding end_answer refusal_in
    end_answered e k = let f = rw l at k in λ i. record { refusal = f.refusal i; count = 0; handle = h; file = s; end = record { 0 = (f.end ∙ ap pos (sym (granted_yes _ _ 0 (sym f.refusal)))) i } }

    pub end_refused : (e : Refusal) (n : ℕ) → n ≡ refusal_number e → EndFound g len s (Err e) → record { refusal = n; count = 0; handle = h; file = s; end = record { 0 = pos 0 } } ≡ end_answer h len s
    unfolding end_answer refusal_in
    end_refused e n q k = let f = rw l at k in λ i. record { refusal = (q ∙ f.refusal) i; count = 0; handle = h; file = s; end = record { 0 = ap pos (sym (granted_no _ (end_of_file (view_of h) s.size) 0 (λ z. refused_some ℕ e (f.refusal ∙ z)))) i } }

-- ---- seek, with its signed number as the machine reads it

module _ (h : Handle) (g : PaperHandle) (l : g ≡ on_paper h) (len : ℕ) (r : FileRecord) (z : ℤ) (whence : ℕ) (f : SFits w64 z) where
  pub seek_refused_law : (e : Refusal) → Sought g len r (to_z w64 (of_z w64 z)) whence (Err e) → (m : SeekAnswer) → m ≡ seek_refused (refusal_number e) h r → m ≡ seek_answer h len r z whence
  unfolding seek_answer refusal_in
  seek_refused_law e lent m q =
      let a : Sought (on_paper h) len r z whence (Err e) = rw (to_z-of_z f, l) at lent in
      let v = granted_no _ (with_pointer h (whole (seek_target (on_paper h) r z whence))) h (λ x. refused_some ℕ e (a.refusal ∙ x)) in
      q ∙ (λ i. record { refusal = a.refusal i; count = 0; handle = sym v i; file = r })

  pub seek_done : (p : ℕ) → Sought g len r (to_z w64 (of_z w64 z)) whence (Ok p) → record { refusal = 0; count = 0; handle = record { mode = h.mode; pointer = p; view = h.view }; file = r } ≡ seek_answer h len r z whence
  unfolding seek_answer with_pointer refusal_in
  seek_done p lent =
      let a : Sought (on_paper h) len r z whence (Ok p) = rw (to_z-of_z f, l) at lent in
      let v = granted_yes _ (with_pointer h (whole (seek_target (on_paper h) r z whence))) h (sym a.refusal) in
      λ i. record { refusal = a.refusal i; count = 0; handle = (ap (with_pointer h) a.pointer ∙ sym v) i; file = r }
