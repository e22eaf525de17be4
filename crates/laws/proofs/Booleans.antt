-- Laws of conditions and refusal chains, and the sets that `search` follows a chain by.
use Prim.Native.Nat.{ℕ, ◌≤◌, ◌<◌}
use native.Mathlib.Omega.{arith}
use mathlib.Core.Bool.{Bool, true, false, cond, not, false≢true, true≢false}
use mathlib.Core.Logic.{◌⊎◌, inl, inr}
use mathlib.Core.Path.{◌≡◌, refl, sym, ◌∙◌}
use lib.Dec.{ltb, leb, eqb}
use borrow.Author.Tests.{ltb-true, ltb-false, leb-true, eqb-true, eqb-false, le-ltb, lt-ltb, le-leb, lt-leb, eq-eqb, ne_eqb, not-true, not-false}
use Rattle.laws.specs.Checks.{also, either, within, check, granted}

-- ---- cases

lt_case : (a b : ℕ) (t : Bool) → ltb a b ≡ t → (a < b) ⊎ (b ≤ a)
lt_case a b true e = inl (ltb-true a b e)
lt_case a b false e = inr (ltb-false a b e)

pub lt_or_le : (a b : ℕ) → (a < b) ⊎ (b ≤ a)
lt_or_le a b = lt_case a b (ltb a b) refl

eq_case : (a b : ℕ) (t : Bool) → eqb a b ≡ t → (a ≡ b) ⊎ (a ≡ b → ⊥)
eq_case a b true e = inl (eqb-true a b e)
eq_case a b false e = inr (eqb-false a b e)

pub eq_or_ne : (a b : ℕ) → (a ≡ b) ⊎ (a ≡ b → ⊥)
eq_or_ne a b = eq_case a b (eqb a b) refl

-- two conditions, each of which implies the other, are equal
pub iff : (a b : Bool) → (a ≡ true → b ≡ true) → (b ≡ true → a ≡ true) → a ≡ b
iff true b f g = sym (f refl)
iff false true f g = g refl
iff false false f g = refl

pub not_both : {A : Type 0} {b : Bool} → b ≡ true → b ≡ false → A
not_both t f = absurd (true≢false (sym t ∙ f))

-- ---- a flag that a call gave, and the branch on it

pub flag_true : (t b : Bool) → t ≡ b → t ≡ true → b ≡ true
flag_true t b e h = sym e ∙ h

pub flag_false : (t b : Bool) → t ≡ b → t ≡ false → b ≡ false
flag_false t b e h = sym e ∙ h

pub unflag_true : (t b : Bool) → t ≡ b → not t ≡ false → b ≡ true
unflag_true t b e h = sym e ∙ not-false t h

pub unflag_false : (t b : Bool) → t ≡ b → not t ≡ true → b ≡ false
unflag_false t b e h = sym e ∙ not-true t h

-- ---- also, either, within

pub also_yes : (a b z : Bool) → a ≡ true → z ≡ b → z ≡ also a b
unfolding also
also_yes a b z h e = rw h e

pub also_no : (a b : Bool) → a ≡ false → false ≡ also a b
unfolding also
also_no a b h = rw h

pub also_true : {a b : Bool} → a ≡ true → b ≡ true → also a b ≡ true
unfolding also
also_true {a} {b} h k = rw h k

pub also_first : (a b : Bool) → a ≡ false → also a b ≡ false
unfolding also
also_first a b h = rw h

pub also_false : (a b : Bool) → b ≡ false → also a b ≡ false
unfolding also
also_false true b h = h
also_false false b h = refl

pub also_inv : (a b : Bool) → also a b ≡ true → (a ≡ true) × (b ≡ true)
unfolding also
also_inv true b h = (refl, h)
also_inv false b h = absurd (false≢true h)

pub either_yes : (a b : Bool) → a ≡ true → true ≡ either a b
unfolding either
either_yes a b h = rw h

pub either_else : (a b z : Bool) → a ≡ false → z ≡ b → z ≡ either a b
unfolding either
either_else a b z h e = rw h e

pub either_left : (a b : Bool) → a ≡ true → either a b ≡ true
unfolding either
either_left a b h = rw h

pub either_right : (a b : Bool) → b ≡ true → either a b ≡ true
unfolding either
either_right true b h = refl
either_right false b h = h

pub either_inv : (a b : Bool) → either a b ≡ true → (a ≡ true) ⊎ (b ≡ true)
unfolding either
either_inv true b h = inl refl
either_inv false b h = inr h

pub either_no : (a b : Bool) → a ≡ false → b ≡ false → either a b ≡ false
unfolding either
either_no a b h k = rw h k

pub within_yes : (low high x : ℕ) → low ≤ x → x ≤ high → within low high x ≡ true
unfolding within
within_yes low high x h k = also_true (le-leb low x h) (le-leb x high k)

pub within_low : (low high x : ℕ) → x < low → within low high x ≡ false
unfolding within
within_low low high x h = sym (also_no (leb low x) (leb x high) (lt-leb low x h))

pub within_high : (low high x : ℕ) → high < x → within low high x ≡ false
unfolding within
within_high low high x h = also_false (leb low x) (leb x high) (lt-leb x high h)

pub within_inv : (low high x : ℕ) → within low high x ≡ true → (low ≤ x) × (x ≤ high)
unfolding within
within_inv low high x h = let p = also_inv (leb low x) (leb x high) h in (leb-true low x p.0, leb-true x high p.1)

-- ---- refusal chains

pub check_yes : (b : Bool) (k later z : ℕ) → b ≡ true → z ≡ later → z ≡ check b k later
unfolding check
check_yes b k later z h e = rw h e

pub check_no : (b : Bool) (k later z : ℕ) → b ≡ false → z ≡ k → z ≡ check b k later
unfolding check
check_no b k later z h e = rw h e

-- a chain that came out 0 passed its first check, and the later ones
pub check_inv : (b : Bool) (k later : ℕ) → 0 < k → check b k later ≡ 0 → (b ≡ true) × (later ≡ 0)
unfolding check
check_inv true k later l h = (refl, h)
check_inv false k later l h = absurd (omega arith)

pub check_zero : {b : Bool} {later : ℕ} → (k : ℕ) → b ≡ true → later ≡ 0 → check b k later ≡ 0
unfolding check
check_zero {b} {later} k h e = rw h e

-- a chain that gives j passes the checks of other numbers, and fails that of j where no later one gives it
pub check_past : (b : Bool) (k later j : ℕ) → eqb k j ≡ false → check b k later ≡ j → (b ≡ true) × (later ≡ j)
unfolding check
check_past true k later j n e = (refl, e)
check_past false k later j n e = not_both (eq-eqb k j e) n

pub check_here : (b : Bool) (later j : ℕ) → check b j later ≡ j → (later ≡ j → ⊥) → b ≡ false
unfolding check
check_here true later j e n = absurd (n e)
check_here false later j e n = refl

-- two chains, one step: they agree if the conditions do, and the rest where each condition holds or fails
pub check_step : {A : Type 0} (f g : ℕ → A) (b c : Bool) (k x y : ℕ) → b ≡ c → (c ≡ false → f k ≡ g k) → (c ≡ true → f x ≡ g y) → f (check b k x) ≡ g (check c k y)
unfolding check
check_step f g b true k x y e fails holds = rw e (holds refl)
check_step f g b false k x y e fails holds = rw e (fails refl)

pub granted_yes : {A : Type 0} (r : ℕ) (a b : A) → r ≡ 0 → granted r a b ≡ a
unfolding granted
granted_yes r a b h = rw (eq-eqb r 0 h)

pub granted_no : {A : Type 0} (r : ℕ) (a b : A) → (r ≡ 0 → ⊥) → granted r a b ≡ b
unfolding granted
granted_no r a b h = rw (ne_eqb r 0 h)

pub cond_yes : {A : Type 0} (b : Bool) (x y z : A) → b ≡ true → z ≡ x → z ≡ cond b x y
cond_yes b x y z h e = rw h e

pub cond_no : {A : Type 0} (b : Bool) (x y z : A) → b ≡ false → z ≡ y → z ≡ cond b x y
cond_no b x y z h e = rw h e

pub ruleset tests = (refl, le-ltb, lt-ltb, le-leb, lt-leb, eq-eqb, ne_eqb, flag_true, flag_false, unflag_true, unflag_false)

pub ruleset checks = (tests, check_yes, check_no, also_yes, also_no, either_yes, either_else)

-- ---- a chain with later checks at its end: it passes to them, or it answers as without them

pub record Passes (ends : ℕ → ℕ) : Type 0 where
  pub on : (later : ℕ) → ends 0 ≡ 0 → ends later ≡ later
  pub stops : (later : ℕ) → (ends 0 ≡ 0 → ⊥) → ends later ≡ ends 0

pub ends_here : Passes (λ later. later)
ends_here = record { on = λ later h. refl; stops = λ later h. absurd (h refl) }

pub check_passes : (b : Bool) (k : ℕ) (ends : ℕ → ℕ) → 0 < k → Passes ends → Passes (λ later. check b k (ends later))
unfolding check
check_passes true k ends l p = p
check_passes false k ends l p = record { on = λ later h. absurd (omega arith); stops = λ later h. refl }
