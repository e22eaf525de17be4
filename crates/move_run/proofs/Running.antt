-- Runs of bytes: a part of a list that is written at once, as single stores; a run of the one width left; a run of one value.
use Rattle.laws.proofs.Prelude.{ℕ, zero, suc, ◌+◌, ◌-◌, ◌≤◌, ◌<◌, min, ◌≡◌, refl, sym, ap, ◌∙◌, true, List, arith, add-one, length, take, drop, replicate, either, nth, store, store_same, length-take-le, get_or-take, get_or-drop, length-replicate, get_or-replicate}
use Rattle.std.proofs.lemmas.List.Edits.{paste_more, paste_none}
use Rattle.std.proofs.lemmas.Slice.{put_mid-paste}
use Rattle.std.proofs.lemmas.Grind.{common_steps}
use borrow.Rule.Slice.PartMut.{put_mid}
use lib.ListN.{length-drop}
use lib.Seq.{paste}
use Rattle.view.specs.Limits.{width_allowed}
use Rattle.move_run.specs.Parts.{onward, byte_from, Runs, always}

-- the first n elements of s, put into l from a on, are n stores
paste_stored : (l s : List ℕ) (a n : ℕ) → a + n ≤ length l → n ≤ length s → paste l a s n ≡ store (onward a) (nth s) n l
unfolding store onward
paste_stored l s a zero h k = sym (paste_none l a s)
paste_stored l s a (suc n) h k =
    let e = paste_stored l s a n (omega arith) (omega arith) in
    let p = paste_more l a s n 0 (omega arith) (omega arith) in
    rw (← e, ← add-one n) (sym p)

-- a part of n places from a on that becomes s
part_stored : (l s : List ℕ) (a n : ℕ) (value : ℕ → ℕ) → a + n ≤ length l → length s ≡ n → ((k : ℕ) → k < n → nth s k ≡ value k) → put_mid a n l s ≡ store (onward a) value n l
part_stored l s a n value h e same =
    put_mid-paste a n l s s n refl refl (sym e)
    ∙ paste_stored l s a n h (omega arith)
    ∙ store_same (onward a) (nth s) (onward a) value n l (λ k q. refl) same

-- ---- a run that is copied

-- `run` is n bytes of the source, which the target's part becomes
pub run_copied : (source target run part : List ℕ) (from to n : ℕ) → Runs (length source) from (length target) to n → run ≡ take (from + n - from) (drop from source) → part ≡ run → put_mid to (to + n - to) target part ≡ store (onward to) (byte_from source from) n target
unfolding byte_from
run_copied source target run part from to n h e q =
    let a : from + n - from ≡ n = omega arith in
    let b : to + n - to ≡ n = omega arith in
    let is : part ≡ take n (drop from source) = rw (← a) (q ∙ e) in
    let w : n ≤ length (drop from source) = omega (arith, length-drop from source, h.source) in
    let long : length part ≡ n = ap length is ∙ length-take-le n (drop from source) w in
    rw b (part_stored target part to n (byte_from source from) h.target long
    (λ k l. ap (λ (z : List ℕ). nth z k) is ∙ get_or-take n (drop from source) k 0 l ∙ get_or-drop from source k 0))

-- a run of the one width left
width_one : (w : ℕ) → width_allowed w ≡ true → (w ≡ 4 → ⊥) → (w ≡ 8 → ⊥) → (w ≡ 2 → ⊥) → w ≡ 1
unfolding width_allowed either
width_one w h n4 n8 n2 = grind (arith, common_steps, h, n4, n8, n2)

pub one_inside : (there from here to width : ℕ) → Runs there from here to width → width_allowed width ≡ true → (width ≡ 4 → ⊥) → (width ≡ 8 → ⊥) → (width ≡ 2 → ⊥) → Runs there from here to 1
one_inside there from here to width h a n4 n8 n2 = rw (← width_one width a n4 n8 n2) h

pub one_copied : (place value : ℕ → ℕ) (width : ℕ) (before after : List ℕ) → after ≡ store place value 1 before → width_allowed width ≡ true → (width ≡ 4 → ⊥) → (width ≡ 8 → ⊥) → (width ≡ 2 → ⊥) → after ≡ store place value width before
one_copied place value width before after e a n4 n8 n2 = rw (width_one width a n4 n8 n2) e

-- ---- one value in a run of places

-- the part of a file that becomes `part`, from `from` up to `to`, or no part if `from` is not below it
pub run_filled : (file part : List ℕ) (from to begin x : ℕ) → to ≤ length file → begin ≡ min from to → part ≡ replicate (length (take (to - begin) (drop begin file))) x → put_mid begin (to - begin) file part ≡ store (onward from) (always x) (to - from) file
unfolding onward always
run_filled file part from to begin x h b e =
    let n : to - begin ≡ to - from = omega arith in
    let w : to - begin ≤ length (drop begin file) = omega (arith, length-drop begin file) in
    let t = length-take-le (to - begin) (drop begin file) w in
    let long : length part ≡ to - begin = ap length e ∙ length-replicate _ x ∙ t in
    part_stored file part begin (to - begin) (always x) (omega arith) long (λ k l. ap (λ (z : List ℕ). nth z k) e ∙ get_or-replicate _ k x 0 (omega (arith, t)))
    ∙ store_same (onward begin) (always x) (onward from) (always x) (to - begin) file (λ k l. omega arith) (λ k l. refl)
    ∙ ap (λ (z : ℕ). store (onward from) (always x) z file) n
