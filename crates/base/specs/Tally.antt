-- The sum of a figure over years that follow each other, and how many of them pass a test. Definitions only.
use Rattle.std.specs.Prelude.{ℕ, zero, suc, ◌+◌, Bool, cond}

-- f s + f (s + 1) + .. + f (s + k − 1)
unfoldable pub sum_over : (f : ℕ → ℕ) (s k : ℕ) → ℕ
sum_over f s zero = 0
sum_over f s (suc k) = sum_over f s k + f (s + k)

-- how many of the k years from s on
abbrev pub how_many : (test : ℕ → Bool) (s k : ℕ) → ℕ
how_many test s k = sum_over (λ e. cond (test e) 1 0) s k
