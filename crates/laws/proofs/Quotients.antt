-- Laws of quotients and remainders by a variable, which `omega` does not read.
use Prim.Native.Nat.{ℕ, ◌+◌, ◌*◌, ◌/◌, ◌%◌, ◌<◌}
use mathlib.Core.Path.{◌≡◌, ap, ◌∙◌}
use native.Mathlib.Nat.{div-add-mod', mul-add-div_right, mul-add-mod_self_right, mod-eq_of_lt, div-eq_of_lt, add-zero, add-mul, one-mul, mul-le-mul_right, div-lt_iff_lt-mul}
use native.Mathlib.Omega.{arith}

-- quotient and remainder of t whole runs of n and r more
pub run_div : (n t r : ℕ) → r < n → (t * n + r) / n ≡ t
run_div n t r h = mul-add-div_right (omega arith) t r ∙ (ap (λ (z : ℕ). t + z) (div-eq_of_lt h) ∙ add-zero t)

pub run_mod : (n t r : ℕ) → r < n → (t * n + r) % n ≡ r
run_mod n t r h = mul-add-mod_self_right t n r ∙ mod-eq_of_lt h

pub times_more : (t s : ℕ) → (t + 1) * s ≡ t * s + s
times_more t s = add-mul t 1 s ∙ ap (λ (x : ℕ). t * s + x) (one-mul s)

-- number r of run t, out of k runs of n, is below k * n
pub run_below : (k n t r : ℕ) → t < k → r < n → t * n + r < k * n
run_below k n t r h l = omega (arith, mul-le-mul_right {m = t + 1} {n = k} n (omega arith), times_more t n)

pub runs_below : (k n i : ℕ) → 0 < n → i < k * n → i / n < k
runs_below k n i p l = (div-lt_iff_lt-mul p).1 l

-- quotient and remainder of the next number: inside a run, and over its end
pub next_in : (n x : ℕ) → x % n + 1 < n → ((x + 1) / n ≡ x / n) × ((x + 1) % n ≡ x % n + 1)
next_in n x h =
    let d = div-add-mod' x n in
    let e : x + 1 ≡ x / n * n + (x % n + 1) = omega arith in
    (ap (λ (z : ℕ). z / n) e ∙ run_div n (x / n) (x % n + 1) h, ap (λ (z : ℕ). z % n) e ∙ run_mod n (x / n) (x % n + 1) h)

pub next_over : (n x : ℕ) → 0 < n → x % n + 1 ≡ n → ((x + 1) / n ≡ x / n + 1) × ((x + 1) % n ≡ 0)
next_over n x p h =
    let d = div-add-mod' x n in
    let t = times_more (x / n) n in
    let e : x + 1 ≡ (x / n + 1) * n + 0 = omega arith in
    (ap (λ (z : ℕ). z / n) e ∙ run_div n (x / n + 1) 0 p, ap (λ (z : ℕ). z % n) e ∙ run_mod n (x / n + 1) 0 p)
