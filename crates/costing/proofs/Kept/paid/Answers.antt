-- The answers that no tactic finds.
use Prim.Native.Nat.{ℕ, ◌+◌}
use mathlib.Core.Path.{◌≡◌, ap, ◌∙◌}
use native.Mathlib.Omega.{arith}
use Rattle.costing.specs.Arc.{paid, worth}
use Rattle.costing.specs.Walk.{overhauls_at, walk_at}
use Rattle.costing.proofs.WalkLaws.{walk-paid, walk-years, walk_stands}
use Rattle.costing.proofs.Kept.paid.Goals as goal

pub returns : goal.returns
returns c =
    let loop = c.loop-n in
    let all : loop.n ≡ c.args.years = omega arith in
    walk-paid _ _ _ loop.invariant.1 (omega arith)
    ∙ ap (λ (n : ℕ). worth c.args.self (paid c.args.self n)) all

pub open-walk-requires : goal.open-walk-requires
open-walk-requires c = c.requires.0

pub loop-n-init : goal.loop-n-init
loop-n-init c = (omega arith, c.open-walk.ensures)

pub overhauls_at-requires : goal.overhauls_at-requires
overhauls_at-requires c = (c.requires.0, omega arith)

pub year-walk-requires : goal.year-walk-requires
year-walk-requires c =
    let stands = c.loop-n.invariant.1 in
    let years = walk-years c.args.self c.loop-n.walk _ stands in
    let due : ℕ → ℕ = λ n. worth c.args.self (overhauls_at c.args.self n) in
    record {
      steppable = (c.requires.0, omega arith);
      self_value = walk_stands _ _ _ stands;
      due_value = c.overhauls_at.ensures ∙ ap due (omega arith);
    }

pub loop-n-preserved : goal.loop-n-preserved
loop-n-preserved c =
    let loop = c.loop-n in
    let years = walk-years c.args.self loop.walk loop.n loop.invariant.1 in
    (omega arith, c.year-walk.ensures ∙ ap (λ (n : ℕ). walk_at c.args.self (n + 1)) years)
