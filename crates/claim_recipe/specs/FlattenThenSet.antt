-- Must be believed. Document 02, order 4: a claim about flattening two recipes and the set after it.
use Rattle.std.specs.Prelude.{ℕ, List, [], ◌∷◌, ◌≢◌, ◌≡◌, ℤ}
use Rattle.view.specs.Types.{PaperType, PaperView}
use Rattle.view.specs.declared.Named.TheVariants.{Nothing}
use Rattle.file.specs.declared.Handle.{Handle}
use Rattle.file.specs.declared.SetViewAnswer.{SetViewAnswer}
use Rattle.recipe_types.specs.Typemaps.{widths, displacements, extent}
use Rattle.recipe_types.specs.Recipes.{Recipe, recipe_refusal, meaning}
use Rattle.claim_calls.specs.Calls.{ViewSet}

-- the type that a recipe means, and the view of an etype and a filetype's recipe
unfoldable pub type_meant : Recipe → PaperType
type_meant r = record { widths = widths (meaning r); displacements = displacements (meaning r); extent = extent (meaning r) }

abbrev pub view_meant : ℤ → PaperType → Recipe → PaperView
view_meant d e f = record { displacement = d; etype = e; filetype = type_meant f }

-- the recipe of a basic width
unfoldable pub width_recipe : ℕ → Recipe
width_recipe w = record { steps = 1 ∷ 1 ∷ w ∷ 1 ∷ 0 ∷ 0 ∷ []; items = [] }

-- a recipe's refusal: its number, and the handle as it came
unfoldable pub recipe_refused : ℕ → Handle → SetViewAnswer
recipe_refused n h = record { refusal = n; count = 0; handle = h; named = Nothing }

-- a filetype's recipe, flattened into lists of 256; if it is granted, the set judges exactly the type that it means
pub record FiletypeSet (h : Handle) (representation : List ℕ) (d : ℤ) (e : PaperType) (f : Recipe) (a : SetViewAnswer) : Type 0 where
  pub refused : recipe_refusal f 256 256 ≢ 0 → a ≡ recipe_refused (recipe_refusal f 256 256) h
  pub judged : recipe_refusal f 256 256 ≡ 0 → ViewSet h representation (view_meant d e f) a

-- the etype's recipe is flattened before it, likewise
pub record RecipesSet (h : Handle) (representation : List ℕ) (d : ℤ) (e f : Recipe) (a : SetViewAnswer) : Type 0 where
  pub refused : recipe_refusal e 256 256 ≢ 0 → a ≡ recipe_refused (recipe_refusal e 256 256) h
  pub filetype : recipe_refusal e 256 256 ≡ 0 → FiletypeSet h representation d (type_meant e) f a
