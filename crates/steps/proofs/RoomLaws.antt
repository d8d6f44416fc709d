-- Why 64 bits suffice for a step: how large a running amount can be, and the products that a step makes of it. A plain step does not raise
-- an amount, a step in service raises it by one unit at most; so a payment made once is at most its amount (`once-le`), and one
-- of 0 stays 0 (`once_free`). Assumes nothing.
use Prim.Native.Nat.{ℕ, zero, suc, ◌+◌, ◌*◌, ◌≤◌, ◌<◌}
use mathlib.Core.Path.{◌≡◌, refl}
use native.Mathlib.Nat.{mul-le-mul, mul-le-mul_left, le_trans, le_of_mul-le-mul_left}
use native.Mathlib.Omega.{arith}
use Rattle.steps.specs.Step.{divided, plain, in_service, repeated}
use Rattle.steps.specs.Payment.{rounded, once}
use Rattle.steps.specs.Fit.{largest_payment, PlainFits, ServiceFits}
use Rattle.steps.proofs.RoundingLaws.{divided_near, divided-le}

-- the dividends of the two divisions
pub plain-room : (grow discount a : ℕ) → PlainFits grow discount a → a * grow ≤ 15_000_000_000_000_000_000
plain-room grow discount a h =
    let k : a * grow ≤ largest_payment * 1_200_000 = mul-le-mul h.room (le_trans h.grown h.high) in omega arith

pub age_room : (grow age discount a : ℕ) → ServiceFits grow age discount a → a * age ≤ 15_000_000_000_000_000_000
age_room grow age discount a h =
    let k : a * age ≤ largest_payment * 1_300_000 = mul-le-mul h.plainly.room h.aged in omega arith

-- b m ≤ a g + m, so b m f ≤ a f g + m f ≤ a m r + m r
grown_of : (m a b f g r : ℕ) → 0 < m → b * m ≤ a * g + m → f * g ≤ m * r → f ≤ r → b * f ≤ (a + 1) * r
grown_of m a b f g r positive h k l =
    le_of_mul-le-mul_left {k = m} (
    let h' : f * (b * m) ≤ f * (a * g + m) = mul-le-mul_left f h in
    let k' : a * (f * g) ≤ a * (m * r) = mul-le-mul_left a k in
    let l' : m * f ≤ m * r = mul-le-mul_left m l in
    omega arith) positive

module _ (grow age discount : ℕ) (positive : 0 < discount) (grown : grow ≤ discount) (product : grow * age ≤ 1_000_000 * discount) where
  -- after ageing and growth the amount is at most one unit above where it was
  pub aged-room : (a : ℕ) → divided (a * age) 1_000_000 * grow ≤ (a + 1) * discount
  aged-room a =
      grown_of 1_000_000 a (divided (a * age) 1_000_000) grow age discount (omega arith)
      (divided_near (a * age) 1_000_000 (omega arith)) product grown

  in_service-le : (a : ℕ) → in_service grow age discount a ≤ a + 1
  unfolding in_service plain
  in_service-le a = divided-le (divided (a * age) 1_000_000 * grow) discount positive (a + 1) (aged-room a)

  pub services_le : (k a : ℕ) → repeated k (in_service grow age discount) a ≤ a + k
  unfolding repeated
  services_le zero a = omega arith
  services_le (suc k) a = omega (arith, in_service-le (repeated k (in_service grow age discount) a), services_le k a)

pub aged_fits :
    (grow age discount a : ℕ) → ServiceFits grow age discount a → divided (a * age) 1_000_000 * grow ≤ 15_000_000_000_000_000_000
aged_fits grow age discount a h =
    let p = h.plainly in
    let k : (a + 1) * discount ≤ (largest_payment + 1) * 1_200_000 = mul-le-mul {n₂ = largest_payment + 1} (omega arith) p.high in
    let room = aged-room grow age discount (omega arith) p.grown h.product a in
    omega arith

module _ (grow discount : ℕ) (positive : 0 < discount) (grown : grow ≤ discount) where
  plain-le : (a : ℕ) → plain grow discount a ≤ a
  unfolding plain
  plain-le a = divided-le (a * grow) discount positive a (mul-le-mul_left a grown)

  pub plains_le : (k a : ℕ) → repeated k (plain grow discount) a ≤ a
  unfolding repeated
  plains_le zero a = omega arith
  plains_le (suc k) a = le_trans (plain-le (repeated k (plain grow discount) a)) (plains_le k a)

-- the room for a plain step lasts through plain steps
pub plains_fit : (grow discount k a : ℕ) → PlainFits grow discount a → PlainFits grow discount (repeated k (plain grow discount) a)
plains_fit grow discount k a h =
    record {
      low = h.low;
      high = h.high;
      grown = h.grown;
      room = le_trans (plains_le grow discount (omega arith) h.grown k a) h.room;
    }

-- and the room for so many steps in service lasts through them
pub services_fit :
    (grow age discount years k a : ℕ) → ServiceFits grow age discount (a + years) → k ≤ years
    → ServiceFits grow age discount (repeated k (in_service grow age discount) a)
services_fit grow age discount years k a h few =
    let p = h.plainly in
    let up = services_le grow age discount (omega (arith, p.low)) p.grown h.product k a in
    record {
      plainly = record { low = p.low; high = p.high; grown = p.grown; room = omega (arith, p.room) };
      aged = h.aged;
      product = h.product;
    }

-- an amount of a sheet leaves room
pub amount_fits :
    (grow discount amount : ℕ) → 1_000_000 ≤ discount → discount ≤ 1_200_000 → grow ≤ discount → amount ≤ 1_000_000_000
    → PlainFits grow discount (amount * 10_000)
amount_fits grow discount amount low high grown few = record { low = low; high = high; grown = grown; room = omega arith }

pub once-le : (discount amount grow year : ℕ) → 0 < discount → grow ≤ discount → rounded discount (once amount grow year) ≤ amount * 10_000
unfolding rounded once repeated
once-le discount amount grow year positive grown = plains_le grow discount positive grown year (amount * 10_000)

-- an amount of 0 stays 0
plains_free : (grow discount : ℕ) → 0 < discount → (u : ℕ) → repeated u (plain grow discount) 0 ≡ 0
unfolding repeated plain
plains_free grow discount positive zero = refl
plains_free grow discount positive (suc u) =
    rw (plains_free grow discount positive u) (omega (arith, divided-le (0 * grow) discount positive 0 (omega arith)))

pub once_free : (discount : ℕ) → 0 < discount → (grow u : ℕ) → rounded discount (once 0 grow u) ≡ 0
unfolding rounded once repeated
once_free discount positive grow u = plains_free grow discount positive u
