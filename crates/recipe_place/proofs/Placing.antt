-- Placing the copies of a step one after another: what two lists hold after k of them.
use mathlib.Core.List.{List, [], ◌∷◌, ◌++◌, map, map-append, append-nil}
use lib.IntN.{◌*ℤ◌, +ℤ_idl}
use lib.ListN.{length-map, replicate-append-replicate}
use native.Mathlib.Numerals.{add-one}
use Rattle.laws.proofs.Prelude.{zero, suc, ℕ, ◌+◌, ◌-◌, ◌*◌, ◌≤◌, ◌<◌, ◌≡◌, refl, sym, ap, ◌∙◌, arith, length, nth, set, take, drop, ℤ, pos, ◌+ℤ◌, sub_ℕ, w64, to_z, to_z_pos, length-take-le, replicate, length-replicate, drop_of_length-le}
use Rattle.recipe_types.specs.Typemaps.{Entry, basic, joined, shifted}
use Rattle.recipe_types.specs.Recipes.{over}
use Rattle.recipe_types.specs.Parts.{bias, max_place}
use Rattle.recipe_types.proofs.Integers.{sub_is, sum_is, times_is, self_is, is_equal, sub_pos}
use Rattle.recipe_place.specs.declared.Row.{Row}
use Rattle.recipe_place.specs.Parts.{plan_copies, basic_copies, copy_shift, BasicFits, widths_of, displacements_of, Placed}
use Rattle.recipe_place.proofs.Fronts.{over_none, over_length, over_set, over_part}
use Rattle.recipe_place.proofs.Plans.{copies_length}

-- no copy yet
pub placed_none : (places : List ℕ) (i extent : ℕ) (l : List Entry) (shift : ℕ) (ws : List ℕ) (ds : List ℤ) → Placed (plan_copies places i extent l 0) shift ws ws ds ds
unfolding plan_copies joined widths_of displacements_of
placed_none places i extent l shift ws ds = record { widths = over_none ws; displacements = over_none ds }

-- ---- one copy more

same_widths : (s : ℤ) (l : List Entry) → widths_of (map (shifted s) l) ≡ widths_of l
unfolding widths_of shifted
same_widths s [] = refl
same_widths s (e ∷ l) = ap (λ r. e.width ∷ r) (same_widths s l)

-- a displacement that is shifted by a copy's place and then by the step's shift
shift_sum : (d : ℤ) (place extent shift : ℕ) → bias * extent ≤ shift + place * extent → d +ℤ sub_ℕ place bias *ℤ pos extent +ℤ sub_ℕ shift max_place ≡ d +ℤ sub_ℕ (shift + place * extent - bias * extent) max_place
shift_sum d place extent shift h =
    is_equal
    (sum_is (sum_is (self_is d) (times_is extent (sub_is place bias))) (sub_is shift max_place))
    (sum_is (self_is d) (sub_is (shift + place * extent - bias * extent) max_place))
    (omega arith)

moved_displacements : (place extent shift : ℕ) (l : List Entry) → bias * extent ≤ shift + place * extent → displacements_of (map (shifted (sub_ℕ place bias *ℤ pos extent)) l) shift ≡ displacements_of l (shift + place * extent - bias * extent)
unfolding displacements_of shifted
moved_displacements place extent shift [] h = refl
moved_displacements place extent shift (e ∷ l) h = rw (shift_sum e.displacement place extent shift h) (ap (λ r. (e.displacement +ℤ sub_ℕ (shift + place * extent - bias * extent) max_place) ∷ r) (moved_displacements place extent shift l h))

widths_more : (places : List ℕ) (i extent : ℕ) (l : List Entry) (k : ℕ) → widths_of (plan_copies places i extent l (k + 1)) ≡ widths_of (plan_copies places i extent l k) ++ widths_of l
unfolding plan_copies joined widths_of
widths_more places i extent l k = rw (add-one k) (map-append _ (plan_copies places i extent l k) _ ∙ ap (λ r. widths_of (plan_copies places i extent l k) ++ r) (same_widths _ l))

displacements_more : (places : List ℕ) (i extent : ℕ) (l : List Entry) (k shift : ℕ) → bias * extent ≤ shift + nth places (256 * i + k) * extent → displacements_of (plan_copies places i extent l (k + 1)) shift ≡ displacements_of (plan_copies places i extent l k) shift ++ displacements_of l (copy_shift places i k shift extent)
unfolding plan_copies joined displacements_of copy_shift
displacements_more places i extent l k shift h = rw (add-one k) (map-append _ (plan_copies places i extent l k) _ ∙ ap (λ r. displacements_of (plan_copies places i extent l k) shift ++ r) (moved_displacements (nth places (256 * i + k)) extent shift l h))

widths_length : (l : List Entry) → length (widths_of l) ≡ length l
unfolding widths_of
widths_length l = length-map l _

displacements_length : (l : List Entry) (shift : ℕ) → length (displacements_of l shift) ≡ length l
unfolding displacements_of
displacements_length l shift = length-map l _

-- a copy that is placed in the parts of both lists after those placed before
pub placed_part : (places : List ℕ) (i extent : ℕ) (l : List Entry) (k shift at : ℕ) (ws₀ ws : List ℕ) (ds₀ ds : List ℤ) (wp : List ℕ) (dp : List ℤ) → Placed (plan_copies places i extent l k) shift ws₀ ws ds₀ ds → at ≡ k * length l → (k + 1) * length l ≤ length ws₀ → (k + 1) * length l ≤ length ds₀ → bias * extent ≤ shift + nth places (256 * i + k) * extent → Placed l (copy_shift places i k shift extent) (take (length ws - at) (drop at ws)) wp (take (length ds - at) (drop at ds)) dp → Placed (plan_copies places i extent l (k + 1)) shift ws₀ (take at ws ++ (wp ++ drop (length ws - at) (drop at ws))) ds₀ (take at ds ++ (dp ++ drop (length ds - at) (drop at ds)))
placed_part places i extent l k shift at ws₀ ws ds₀ ds wp dp p e hw hd hs q =
    let n = copies_length places i extent l k in
    let wl = widths_length (plan_copies places i extent l k) in
    let wb = widths_length l in
    let dl = displacements_length (plan_copies places i extent l k) shift in
    let db = displacements_length l (copy_shift places i k shift extent) in
    record {
      widths = over_part (widths_of (plan_copies places i extent l k)) (widths_of l) ws₀ ws wp at p.widths (omega arith) (omega arith) q.widths ∙ ap (λ r. over r ws₀) (sym (widths_more places i extent l k));
      displacements = over_part (displacements_of (plan_copies places i extent l k) shift) (displacements_of l (copy_shift places i k shift extent)) ds₀ ds dp at p.displacements (omega arith) (omega arith) q.displacements ∙ ap (λ r. over r ds₀) (sym (displacements_more places i extent l k shift hs));
    }

-- where a basic type's entry lies
entry_at : (places : List ℕ) (i w k shift : ℕ) → bias * w + max_place ≤ shift + nth places (256 * i + k) * w → pos 0 +ℤ sub_ℕ (copy_shift places i k shift w) max_place ≡ pos (copy_shift places i k shift w - max_place)
unfolding copy_shift
entry_at places i w k shift h = +ℤ_idl _ ∙ sub_pos (copy_shift places i k shift w) max_place (copy_shift places i k shift w - max_place) (omega arith)

-- a basic type's displacement, put after those placed before
displaced_entry : (places : List ℕ) (i w k shift : ℕ) (ds₀ ds : List ℤ) → ds ≡ over (displacements_of (plan_copies places i w (basic w).entries k) shift) ds₀ → k < length ds₀ → bias * w + max_place ≤ shift + nth places (256 * i + k) * w → set ds k (pos (copy_shift places i k shift w - max_place)) ≡ over (displacements_of (plan_copies places i w (basic w).entries (k + 1)) shift) ds₀
unfolding basic displacements_of
displaced_entry places i w k shift ds₀ ds p hd hs =
    let l = (basic w).entries in
    let n = copies_length places i w l k in
    let dl = displacements_length (plan_copies places i w l k) shift in
    let b : length (displacements_of (plan_copies places i w l k) shift) ≡ k = omega arith in
    rw p (rw b at (over_set (displacements_of (plan_copies places i w l k) shift) ds₀ (pos (copy_shift places i k shift w - max_place)) (omega arith))) ∙ ap (λ r. over (displacements_of (plan_copies places i w l k) shift ++ (r ∷ [])) ds₀) (sym (entry_at places i w k shift hs)) ∙ ap (λ r. over r ds₀) (sym (displacements_more places i w l k shift (omega arith)))

-- a basic type's widths, all put at once
widths_basic : (places : List ℕ) (i w k : ℕ) → widths_of (plan_copies places i w (basic w).entries k) ≡ replicate k w
unfolding basic widths_of plan_copies joined
widths_basic places i w zero = refl
widths_basic places i w (suc k) = ap (λ r. widths_of (plan_copies places i w (basic w).entries r)) (sym (add-one k)) ∙ widths_more places i w (basic w).entries k ∙ ap (λ r. r ++ (w ∷ [])) (widths_basic places i w k) ∙ replicate-append-replicate k 1 w ∙ ap (λ r. replicate r w) (add-one k)

widths_filled : (places : List ℕ) (i w n : ℕ) (ws₀ part : List ℕ) → n ≤ length ws₀ → part ≡ replicate (length (take n ws₀)) w → part ++ drop n ws₀ ≡ over (widths_of (plan_copies places i w (basic w).entries n)) ws₀
unfolding over
widths_filled places i w n ws₀ part h e = rw (e, length-take-le n ws₀ h, widths_basic places i w n, length-replicate n w) refl

-- a front that is lent and comes back
front_part : (a ds part : List ℤ) (n : ℕ) → length a ≡ n → part ≡ over a (take n ds) → n ≤ length ds → part ++ drop n ds ≡ over a ds
unfolding over
front_part a ds part n e p h =
    let z : drop n (take n ds) ≡ [] = drop_of_length-le (take n ds) {i = n} (omega (arith, length-take-le n ds h)) in
    rw (p, e, z, append-nil a) refl

-- ---- the walk over the copies

-- the lists while copies are placed: k of n copies of m entries are there
pub record Copying (places : List ℕ) (i extent : ℕ) (l : List Entry) (shift n k : ℕ) (ws₀ ws : List ℕ) (ds₀ ds : List ℤ) : Type 0 where
  pub done : k ≤ n
  pub widths_room : n * length l ≤ length ws₀
  pub displacements_room : n * length l ≤ length ds₀
  pub placed : Placed (plan_copies places i extent l k) shift ws₀ ws ds₀ ds
  pub widths_long : length ws ≡ length ws₀
  pub displacements_long : length ds ≡ length ds₀

pub basic_at_most : (row : Row) (places : List ℕ) (i shift k widths displacements to : ℕ) → BasicFits row places i shift widths displacements → k < row.copies → to ≡ copy_shift places i k shift row.name → to ≤ 2097152
unfolding copy_shift
basic_at_most row places i shift k widths displacements to h l e = let a = h.below k l in omega arith

-- the part of the displacements while copies of a basic type are placed: k of n are there
pub record Displacing (places : List ℕ) (i w shift n k : ℕ) (ds₀ ds : List ℤ) : Type 0 where
  pub done : k ≤ n
  pub long : length ds₀ ≡ n
  pub placed : ds ≡ over (displacements_of (plan_copies places i w (basic w).entries k) shift) ds₀

pub basic_none : (row : Row) (places : List ℕ) (i shift widths : ℕ) (ds : List ℤ) → BasicFits row places i shift widths (length ds) → Displacing places i row.name shift row.copies 0 (take row.copies ds) (take row.copies ds)
unfolding displacements_of plan_copies joined
basic_none row places i shift widths ds h = record {
  done = omega arith;
  long = length-take-le row.copies ds h.displacements_long;
  placed = over_none (take row.copies ds);
}

pub basic_more : (row : Row) (places : List ℕ) (i shift k to widths displacements : ℕ) (ds₀ ds : List ℤ) → BasicFits row places i shift widths displacements → Displacing places i row.name shift row.copies k ds₀ ds → k < length ds₀ → to ≡ copy_shift places i k shift row.name → Displacing places i row.name shift row.copies (k + 1) ds₀ (set ds k (to_z w64 (to - 1048576)))
basic_more row places i shift k to widths displacements ds₀ ds h g l e =
    let b : k < row.copies = omega (arith, g.long) in
    let most = basic_at_most row places i shift k widths displacements to h b e in
    let stored : to_z w64 (to - 1048576) ≡ pos (copy_shift places i k shift row.name - max_place) = rw e (to_z_pos w64 (omega arith)) in
    rw stored (record {
      done = omega arith;
      long = g.long;
      placed = displaced_entry places i row.name k shift ds₀ ds g.placed l (h.above k b);
    })

pub basic_end : (row : Row) (places : List ℕ) (i shift k : ℕ) (ws wp : List ℕ) (ds dp : List ℤ) → BasicFits row places i shift (length ws) (length ds) → wp ≡ replicate (length (take row.copies ws)) row.name → Displacing places i row.name shift row.copies k (take row.copies ds) dp → length (take row.copies ds) ≤ k → Placed (basic_copies row places i) shift ws (wp ++ drop row.copies ws) ds (dp ++ drop row.copies ds)
unfolding basic_copies basic
basic_end row places i shift k ws wp ds dp h w g l =
    let e : k ≡ row.copies = let d = g.done in omega (arith, g.long) in
    let c = plan_copies places i row.name (basic row.name).entries row.copies in
    let n = copies_length places i row.name (basic row.name).entries row.copies in
    let dl = displacements_length c shift in
    record {
      widths = widths_filled places i row.name row.copies ws wp h.widths_long w;
      displacements = front_part (displacements_of c shift) ds dp row.copies (omega arith) (rw e at g.placed) h.displacements_long;
    }

-- the lengths stay
pub placed_widths : (places : List ℕ) (i extent : ℕ) (l : List Entry) (shift k : ℕ) (ws₀ ws : List ℕ) (ds₀ ds : List ℤ) → Placed (plan_copies places i extent l k) shift ws₀ ws ds₀ ds → k * length l ≤ length ws₀ → length ws ≡ length ws₀
placed_widths places i extent l shift k ws₀ ws ds₀ ds p h =
    let n = copies_length places i extent l k in
    let w = widths_length (plan_copies places i extent l k) in
    ap length p.widths ∙ over_length (widths_of (plan_copies places i extent l k)) ws₀ (omega arith)

pub placed_displacements : (places : List ℕ) (i extent : ℕ) (l : List Entry) (shift k : ℕ) (ws₀ ws : List ℕ) (ds₀ ds : List ℤ) → Placed (plan_copies places i extent l k) shift ws₀ ws ds₀ ds → k * length l ≤ length ds₀ → length ds ≡ length ds₀
placed_displacements places i extent l shift k ws₀ ws ds₀ ds p h =
    let n = copies_length places i extent l k in
    let w = displacements_length (plan_copies places i extent l k) shift in
    ap length p.displacements ∙ over_length (displacements_of (plan_copies places i extent l k) shift) ds₀ (omega arith)
