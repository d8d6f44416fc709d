-- How a running amount moves forward one year: document 01, 'One year's step', rounded as document 02's request 1 says. A rate is given by its
-- factor in millionths: grow = 1,000,000 + f, age = 1,000,000 + g, discount = 1,000,000 + r. Definitions only.
use Rattle.std.specs.Prelude.{ℕ, zero, suc, ◌+◌, ◌-◌, ◌*◌, ◌/◌}

-- n / d, rounded up to a whole number: of units here, of cents in `nominal`
unfoldable pub divided : (n d : ℕ) → ℕ
divided n d = (n + (d - 1)) / d

-- how far `divided` may lie above the quotient and below it, in halves of a unit
unfoldable pub above : ℕ
above = 2

unfoldable pub below : ℕ
below = 0

-- Plain: a becomes a × (1,000,000 + f) / (1,000,000 + r), rounded up
unfoldable pub plain : (grow discount a : ℕ) → ℕ
plain grow discount a = divided (a * grow) discount

-- In service: first a × (1,000,000 + g) / 1,000,000, rounded up; that result then takes the plain step
unfoldable pub in_service : (grow age discount a : ℕ) → ℕ
in_service grow age discount a = plain grow discount (divided (a * age) 1_000_000)

-- a step taken k times
unfoldable pub repeated : {A : Type 0} → ℕ → (A → A) → A → A
repeated zero step x = x
repeated (suc k) step x = step (repeated k step x)
