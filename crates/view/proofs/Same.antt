-- Same views are accepted alike and have the same places, data bytes and S, whatever else their records hold.
use Prim.Native.Nat.{ℕ}
use mathlib.Core.Path.{◌≡◌, ap}
use Rattle.view.specs.declared.View.{View}
use Rattle.view.specs.Types.{PaperView, paper}
use Rattle.view.specs.Parts.{SameView}
use Rattle.view.specs.Acceptance.{accepted}
use Rattle.view.specs.Places.{place, byte_of, data_size}

-- two records are accepted alike, and have the same places, the same data bytes and the same S
pub record SameMeaning (v w : View) : Type 0 where
  pub acceptance : (mode : ℕ) → accepted mode (paper v) ≡ accepted mode (paper w)
  pub places : (x : ℕ) → place (paper v) x ≡ place (paper w) x
  pub bytes : (x j : ℕ) → byte_of (paper v) x j ≡ byte_of (paper w) x j
  pub size : data_size (paper v) ≡ data_size (paper w)

module _ (v w : View) (s : SameView v w) where
  -- what a definition says of one it says of the other
  pub same_paper : paper v ≡ paper w
  unfolding SameView
  same_paper = s

  pub same_meaning : SameMeaning v w
  same_meaning = record {
    acceptance = λ mode. ap (accepted mode) same_paper;
    places = λ x. ap (λ (z : PaperView). place z x) same_paper;
    bytes = λ x j. ap (λ (z : PaperView). byte_of z x j) same_paper;
    size = ap data_size same_paper;
  }
