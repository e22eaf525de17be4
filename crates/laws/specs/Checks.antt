-- Must be believed. Tests in order: a chain of conditions, and a chain of refusals.
use Rattle.std.specs.Prelude.{ℕ, Bool, true, false, cond, leb, eqb}

-- both conditions hold
unfoldable pub also : Bool → Bool → Bool
also a b = cond a b false

-- one of the two conditions holds
unfoldable pub either : Bool → Bool → Bool
either a b = cond a true b

-- x is from low to high
unfoldable pub within : ℕ → ℕ → ℕ → Bool
within low high x = also (leb low x) (leb x high)

-- one check of a call: refusal number k where the condition fails, else what the later checks say
unfoldable pub check : Bool → ℕ → ℕ → ℕ
check condition k later = cond condition later k

-- what a call answers: a where its refusal number is 0, else b
unfoldable pub granted : {A : Type 0} → ℕ → A → A → A
granted refusal a b = cond (eqb refusal 0) a b
