-- What flattening left is what a set is lent: the front of both lists, and the extent.
use mathlib.Core.List.{List, [], ◌∷◌}
use lib.ListN.{length-append, length-map}
use lib.Seq.{take-append_seam}
use Rattle.laws.proofs.Prelude.{ℕ, ◌≤◌, ◌≡◌, ◌≢◌, sym, ap, ◌∙◌, arith, length, take, drop, length-take-le, ℤ, pos, granted_yes, to_z, of_z, to_z-of_z, w64}
use Rattle.view.specs.Types.{PaperType, view_of_lists}
use Rattle.file.specs.declared.Handle.{Handle}
use Rattle.file.specs.declared.SetViewAnswer.{SetViewAnswer}
use Rattle.recipe_types.specs.Typemaps.{widths, displacements, extent}
use Rattle.recipe_types.specs.Recipes.{Recipe, recipe_of, recipe_refusal, meaning, over}
use Rattle.recipe.specs.declared.Flattened.{Flattened}
use Rattle.recipe.specs.Flattening.{flatten_answer, FlattenDone}
use Rattle.recipe.proofs.Flattening.{granted_fits}
use Rattle.claim_calls.specs.Calls.{ViewSet}
use Rattle.claim_recipe.specs.FlattenThenSet.{type_meant, width_recipe, recipe_refused, FiletypeSet, RecipesSet}

-- ---- a list put at the front of another

front_is : {A : Type 0} (l before : List A) (n : ℕ) → n ≡ length l → take n (over l before) ≡ l
unfolding over
front_is l before n e = rw e (take-append_seam l (drop (length l) before))

front_room : {A : Type 0} (l before : List A) → length l ≤ length (over l before)
unfolding over
front_room l before = rw (length-append l (drop (length l) before)) (omega arith)

module _ (r : Recipe) (ws ws' : List ℕ) (ds ds' : List ℤ) (a : Flattened) (d : FlattenDone r ws ws' ds ds' a) (z : a.refusal ≡ 0) where
  number : recipe_refusal r (length ws) (length ds) ≡ 0
  unfolding flatten_answer
  number = sym (ap (λ q. q.refusal) d.answer) ∙ z

  entries : a.entries ≡ length (meaning r).entries
  unfolding flatten_answer
  entries = ap (λ q. q.entries) d.answer ∙ granted_yes _ (length (meaning r).entries) 0 number

  extent_same : a.extent ≡ extent (meaning r)
  unfolding flatten_answer
  extent_same = ap (λ q. q.extent) d.answer ∙ granted_yes _ (extent (meaning r)) (pos 0) number

  -- as the machine reads it
  extent_read : to_z w64 (of_z w64 a.extent) ≡ extent (meaning r)
  extent_read = rw extent_same (to_z-of_z (granted_fits r (length ws) (length ds) number))

  ws_are : ws' ≡ over (widths (meaning r)) ws
  ws_are = d.widths_after ∙ granted_yes a.refusal (over (widths (meaning r)) ws) ws z

  ds_are : ds' ≡ over (displacements (meaning r)) ds
  ds_are = d.displacements_after ∙ granted_yes a.refusal (over (displacements (meaning r)) ds) ds z

  ws_count : a.entries ≡ length (widths (meaning r))
  unfolding widths
  ws_count = entries ∙ sym (length-map (meaning r).entries _)

  ds_count : a.entries ≡ length (displacements (meaning r))
  unfolding displacements
  ds_count = entries ∙ sym (length-map (meaning r).entries _)

  pub widths_room : a.entries ≤ length ws'
  widths_room = rw (ws_are, ws_count) (front_room (widths (meaning r)) ws)

  pub displacements_room : a.entries ≤ length ds'
  displacements_room = rw (ds_are, ds_count) (front_room (displacements (meaning r)) ds)

  pub widths_part : a.entries ≡ length (take a.entries ws')
  widths_part = sym (length-take-le a.entries ws' widths_room)

  pub displacements_part : a.entries ≡ length (take a.entries ds')
  displacements_part = sym (length-take-le a.entries ds' displacements_room)

  pub widths_same : take a.entries ws' ≡ widths (meaning r)
  widths_same = rw ws_are (front_is (widths (meaning r)) ws a.entries ws_count)

  pub displacements_same : take a.entries ds' ≡ displacements (meaning r)
  displacements_same = rw ds_are (front_is (displacements (meaning r)) ds a.entries ds_count)

-- its refusal is the recipe's
refusal_is : (r : Recipe) (ws ws' : List ℕ) (ds ds' : List ℤ) (a : Flattened) → FlattenDone r ws ws' ds ds' a → a.refusal ≡ recipe_refusal r (length ws) (length ds)
unfolding flatten_answer
refusal_is r ws ws' ds ds' a d = ap (λ q. q.refusal) d.answer

-- ---- the two calls

pub filetype_refused : (h : Handle) (representation : List ℕ) (d : ℤ) (e : PaperType) (r : Recipe) (ws ws' : List ℕ) (ds ds' : List ℤ) (a : Flattened) (s : SetViewAnswer) → FlattenDone r ws ws' ds ds' a → length ws ≡ 256 → length ds ≡ 256 → a.refusal ≢ 0 → s ≡ recipe_refused a.refusal h → FiletypeSet h representation d e r s
filetype_refused h representation d e r ws ws' ds ds' a s f lw ld n is =
    let q : a.refusal ≡ recipe_refusal r 256 256 = rw (lw, ld) at (refusal_is r ws ws' ds ds' a f) in
    record { refused = λ z. is ∙ ap (λ k. recipe_refused k h) q; judged = λ z. absurd (n (q ∙ z)) }

pub filetype_judged : (h : Handle) (representation : List ℕ) (d d' : ℤ) (ew : List ℕ) (ed : List ℤ) (ex ex' fx : ℤ) (r : Recipe) (ws ws' : List ℕ) (ds ds' : List ℤ) (a : Flattened) (s : SetViewAnswer) → FlattenDone r ws ws' ds ds' a → length ws ≡ 256 → length ds ≡ 256 → a.refusal ≡ 0 → ViewSet h representation (view_of_lists d' ew ed ex' (take a.entries ws') (take a.entries ds') fx) s → d' ≡ d → ex' ≡ ex → fx ≡ to_z w64 (of_z w64 a.extent) → FiletypeSet h representation d (record { widths = ew; displacements = ed; extent = ex }) r s
unfolding type_meant
filetype_judged h representation d d' ew ed ex ex' fx r ws ws' ds ds' a s f lw ld z v ed' ee ef =
    let q : a.refusal ≡ recipe_refusal r 256 256 = rw (lw, ld) at (refusal_is r ws ws' ds ds' a f) in
    let x : fx ≡ extent (meaning r) = ef ∙ extent_read r ws ws' ds ds' a f z in
    record {
      refused = λ n. absurd (n (sym q ∙ z));
      judged = λ _. rw (ed', ee, x, widths_same r ws ws' ds ds' a f z, displacements_same r ws ws' ds ds' a f z) at v;
    }

pub recipes_refused : (h : Handle) (representation : List ℕ) (d : ℤ) (e f : Recipe) (ws ws' : List ℕ) (ds ds' : List ℤ) (a : Flattened) (s : SetViewAnswer) → FlattenDone e ws ws' ds ds' a → length ws ≡ 256 → length ds ≡ 256 → a.refusal ≢ 0 → s ≡ recipe_refused a.refusal h → RecipesSet h representation d e f s
recipes_refused h representation d e f ws ws' ds ds' a s k lw ld n is =
    let q : a.refusal ≡ recipe_refusal e 256 256 = rw (lw, ld) at (refusal_is e ws ws' ds ds' a k) in
    record { refused = λ z. is ∙ ap (λ m. recipe_refused m h) q; filetype = λ z. absurd (n (q ∙ z)) }

pub recipes_judged : (h : Handle) (representation : List ℕ) (d d' ex : ℤ) (e f : Recipe) (ws ws' : List ℕ) (ds ds' : List ℤ) (a : Flattened) (s : SetViewAnswer) → FlattenDone e ws ws' ds ds' a → length ws ≡ 256 → length ds ≡ 256 → a.refusal ≡ 0 → FiletypeSet h representation d' (record { widths = take a.entries ws'; displacements = take a.entries ds'; extent = ex }) f s → d' ≡ d → ex ≡ to_z w64 (of_z w64 a.extent) → RecipesSet h representation d e f s
unfolding type_meant
recipes_judged h representation d d' ex e f ws ws' ds ds' a s k lw ld z v ed ee =
    let q : a.refusal ≡ recipe_refusal e 256 256 = rw (lw, ld) at (refusal_is e ws ws' ds ds' a k) in
    let x : ex ≡ extent (meaning e) = ee ∙ extent_read e ws ws' ds ds' a k z in
    record {
      refused = λ n. absurd (n (sym q ∙ z));
      filetype = λ _. rw (ed, x, widths_same e ws ws' ds ds' a k z, displacements_same e ws ws' ds ds' a k z) at v;
    }

-- the recipe of a basic width, with the displacement as the machine reads it
pub width_set : (h : Handle) (representation : List ℕ) (d d' : ℤ) (w : ℕ) (items : List ℕ) (f : Recipe) (s : SetViewAnswer) → RecipesSet h representation d' (recipe_of (1 ∷ 1 ∷ w ∷ 1 ∷ 0 ∷ 0 ∷ []) items) f s → items ≡ [] → d' ≡ d → RecipesSet h representation d (width_recipe w) f s
unfolding width_recipe
width_set h representation d d' w items f s r e k = rw (e, k) at r
