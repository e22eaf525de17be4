-- A list at the front of a lent one: elements put after it, one by one or as a part that is lent and comes back.
use mathlib.Core.List.{List, [], ◌∷◌, ◌++◌, append-nil, append_assoc}
use lib.ListN.{length-append}
use lib.Seq.{take-append_seam, drop-append_seam, drop-drop, take_all}
use Rattle.laws.proofs.Prelude.{ℕ, ◌+◌, ◌-◌, ◌≤◌, ◌<◌, ◌≡◌, refl, sym, ap, ◌∙◌, arith, length, set, take, drop, length-drop, drop_of_length-le}
use Rattle.recipe_types.specs.Recipes.{over}

pub over_none : {A : Type 0} (l : List A) → l ≡ over [] l
unfolding over
over_none l = refl

pub over_length : {A : Type 0} (a l : List A) → length a ≤ length l → length (over a l) ≡ length l
unfolding over
over_length a l h = rw (length-append a (drop (length a) l), length-drop (length a) l) (omega arith)

-- one element more
pub over_set : {A : Type 0} (a l : List A) (x : A) → length a < length l → set (over a l) (length a) x ≡ over (a ++ (x ∷ [])) l
unfolding over
over_set [] [] x h = absurd (omega arith)
over_set [] (y ∷ l) x h = refl
over_set (z ∷ a) [] x h = absurd (omega arith)
over_set (z ∷ a) (y ∷ l) x h = ap (λ r. z ∷ r) (over_set a l x (omega arith))

-- a list put at the front of the part from the end of the first on
pub over_part : {A : Type 0} (a b l m part : List A) (at : ℕ) → m ≡ over a l → at ≡ length a → length a + length b ≤ length l → part ≡ over b (take (length m - at) (drop at m)) → take at m ++ (part ++ drop (length m - at) (drop at m)) ≡ over (a ++ b) l
unfolding over
over_part a b l m part at e f h p =
    let n = over_length a l (omega arith) in
    let t : take at m ≡ a = rw (e, f) (take-append_seam a (drop (length a) l)) in
    let d : drop at m ≡ drop (length a) l = rw (e, f) (drop-append_seam a (drop (length a) l)) in
    let k : take (length m - at) (drop at m) ≡ drop at m = take_all (length m - at) (drop at m) (rw (length-drop at m) (omega arith)) in
    let z : drop (length m - at) (drop at m) ≡ [] = drop_of_length-le (drop at m) {i = length m - at} (rw (length-drop at m) (omega arith)) in
    let q : part ≡ b ++ drop (length b) (drop (length a) l) = p ∙ rw (k, d) in
    rw (t, z, q, append-nil (b ++ drop (length b) (drop (length a) l)), drop-drop (length b) (length a) l, length-append a b) (sym (append_assoc a b (drop (length a + length b) l)))
