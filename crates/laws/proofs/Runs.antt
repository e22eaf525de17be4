-- Stores made in runs: a run after another, and a run into a part of a list that is lent and comes back.
use Prim.Native.Nat.{ℕ, zero, suc, ◌+◌, ◌-◌, ◌≤◌, ◌<◌}
use mathlib.Core.List.{List, [], ◌∷◌, ◌++◌, append-nil}
use mathlib.Core.Path.{◌≡◌, sym, ap, ◌∙◌}
use native.Mathlib.Nat.{add-zero, add-suc, zero-add, suc-add}
use native.Mathlib.Omega.{arith}
use lib.ListN.{length, get_or, set, take, drop, take-append-drop, length-drop, drop_of_length-le}
use lib.Seq.{length-take-le, take_all, get_or-take, ext_get_or}
use Rattle.laws.specs.Lists.{tabulate}
use Rattle.laws.specs.Parts.{store, front}
use Rattle.laws.proofs.Stores.{length_tabulate, tabulate_at, store_same, length_store, front_at}

-- a stores, then b more
store_add : {A : Type 0} (place : ℕ → ℕ) (value : ℕ → A) (a b : ℕ) (l : List A) → store place value (a + b) l ≡ store (λ k. place (a + k)) (λ k. value (a + k)) b (store place value a l)
unfolding store
store_add place value a zero l = rw add-zero
store_add place value a (suc b) l = rw add-suc (let e = store_add place value a b l in cc)

-- a run of w stores after the first n continues them
pub store_run : {A : Type 0} (place : ℕ → ℕ) (value : ℕ → A) (place' : ℕ → ℕ) (value' : ℕ → A) (n w : ℕ) (l₀ l l' : List A) → l ≡ store place value n l₀ → l' ≡ store place' value' w l → ((k : ℕ) → k < w → place' k ≡ place (n + k)) → ((k : ℕ) → k < w → value' k ≡ value (n + k)) → l' ≡ store place value (n + w) l₀
store_run place value place' value' n w l₀ l l' e e' hp hv =
    e' ∙ store_same place' value' (λ k. place (n + k)) (λ k. value (n + k)) w l hp hv ∙ ap (store (λ k. place (n + k)) (λ k. value (n + k)) w) e ∙ sym (store_add place value n w l₀)

-- a store behind a first part
set_behind : {A : Type 0} (front rest : List A) (i : ℕ) (x : A) → front ++ set rest i x ≡ set (front ++ rest) (length front + i) x
set_behind [] rest i x = rw zero-add
set_behind (y ∷ front) rest i x = rw suc-add (ap (λ l. y ∷ l) (set_behind front rest i x))

-- stores into the part from a on are stores into the whole, a further on
store_behind : {A : Type 0} (place : ℕ → ℕ) (value : ℕ → A) (a n : ℕ) (l : List A) → a ≤ length l → take a l ++ store place value n (drop a l) ≡ store (λ k. a + place k) value n l
unfolding store
store_behind place value a zero l h = take-append-drop a l
store_behind place value a (suc n) l h =
    let e = store_behind place value a n l h in
    let f = set_behind (take a l) (store place value n (drop a l)) (place n) (value n) in
    let g = length-take-le a l h in
    cc

-- the part of a list from a on, as a call is lent it
pub tail_lent : {A : Type 0} (a : ℕ) (l : List A) → take (length l - a) (drop a l) ≡ drop a l
tail_lent a l = take_all (length l - a) (drop a l) (rw (length-drop a l) (omega arith))

-- the whole list after stores into that part
pub tail_back : {A : Type 0} (place : ℕ → ℕ) (value : ℕ → A) (a n : ℕ) (l part : List A) → a ≤ length l → part ≡ store place value n (take (length l - a) (drop a l)) → take a l ++ (part ++ drop (length l - a) (drop a l)) ≡ store (λ k. a + place k) value n l
tail_back place value a n l part h e =
    let d : drop (length l - a) (drop a l) ≡ [] = drop_of_length-le (drop a l) {i = length l - a} (rw (length-drop a l) (omega arith)) in
    let p = store_behind place value a n l h in
    let q = append-nil part in
    let t = tail_lent a l in
    cc

-- a list stored at the front of another begins it
pub take_front : {A : Type 0} (d : A) (xs l : List A) (value : ℕ → A) → length xs ≤ length l → ((i : ℕ) → i < length xs → value i ≡ get_or xs i d) → take (length xs) (front value (length xs) l) ≡ xs
take_front d xs l value h same =
    let s = front value (length xs) l in
    let e = length_store (λ i. i) value (length xs) l in
    let n = length-take-le (length xs) s (omega arith) in
    ext_get_or d (take (length xs) s) xs n (λ i q. let b : i < length xs = omega arith in get_or-take (length xs) s i d b ∙ front_at value (length xs) l d i b (omega arith) ∙ same i b)

-- what is stored at the front of a list, as a list of its own
pub front_part : {A : Type 0} (f : ℕ → A) (n : ℕ) (d : A) (l : List A) → n ≤ length l → take n (front f n l) ≡ tabulate f n
front_part f n d l h =
    let e = length_tabulate f n in
    rw e at (take_front d (tabulate f n) l f (omega arith) (λ i b. sym (tabulate_at f n i d (omega arith))))

-- n places of an array
pub upto : (l : List ℕ) (n m : ℕ) → length l ≡ m → n ≤ m → n ≤ length l
upto l n m e h = omega arith

pub prefix : (l : List ℕ) (n m : ℕ) → length l ≡ m → n ≤ m → n ≡ length (take n l)
prefix l n m e h = sym (length-take-le n l (upto l n m e h))
