-- A part in the middle of a list that is lent and comes back changed.
use mathlib.Core.List.{List, ◌++◌}
use lib.ListN.{length-append, get_or-append}
use lib.Seq.{get_or-append-add, get_or-take, length-take-le}
use Rattle.laws.proofs.Prelude.{ℕ, ◌+◌, ◌≤◌, ◌<◌, ◌≡◌, ◌∙◌, arith, length, length-drop, nth, take, drop}

-- what lies before the part stays
pub mid_before : (l part rest : List ℕ) (a j : ℕ) → a ≤ length l → j < a → nth (take a l ++ (part ++ rest)) j ≡ nth l j
mid_before l part rest a j h b =
    let e = length-take-le a l h in
    get_or-append (take a l) (part ++ rest) 0 j (omega arith) ∙ get_or-take a l j 0 b

-- the part
pub mid_at : (l part rest : List ℕ) (a k : ℕ) → a ≤ length l → k < length part → nth (take a l ++ (part ++ rest)) (a + k) ≡ nth part k
mid_at l part rest a k h b =
    let e = length-take-le a l h in
    (rw e at (get_or-append-add (take a l) (part ++ rest) k 0)) ∙ get_or-append part rest 0 k b

-- the length stays
pub mid_length : (l part : List ℕ) (a n : ℕ) → a + n ≤ length l → length part ≡ n → length (take a l ++ (part ++ drop n (drop a l))) ≡ length l
mid_length l part a n h e =
    let t = length-take-le a l (omega arith) in
    rw (length-append (take a l) (part ++ drop n (drop a l)), length-append part (drop n (drop a l)), length-drop n (drop a l), length-drop a l) (omega arith)

-- the length of the part that is lent
pub mid_lent : (l : List ℕ) (a n : ℕ) → a + n ≤ length l → length (take n (drop a l)) ≡ n
mid_lent l a n h = length-take-le n (drop a l) (rw (length-drop a l) (omega arith))
