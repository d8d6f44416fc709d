-- An overhaul that is due adds its figure in its year, any other nothing. Assumes nothing.
use Prim.Native.Nat.{ℕ, ◌+◌, ◌*◌}
use mathlib.Core.Path.{◌≡◌, refl, subst, ◌∙◌}
use native.Mathlib.Omega.{arith}
use lib.Dec.{ltb}
use lib.ListN.{get_or}
use borrow.Author.Tests.{lt-ltb, le-ltb}
use Rattle.steps.specs.Payment.{once}
use Rattle.steps.specs.Fit.{largest_payment}
use Rattle.costing.specs.Arc.{paid_if}
use Rattle.spreading.specs.Raised.{Raised, first_overhauls}
use Rattle.spreading.specs.Asks.{before_payment, before_arc}
use Rattle.spreading.proofs.RaisedLaws.{raised_if, raised_unless, overhauls_none, overhauls_next, overhauls_all}
use Rattle.spreading.proofs.SizeLaws.{kept_payable, ledger_small, first_most, room_after, room_within}
use Rattle.spreading.proofs.adding.add_overhauls.Goals.{then-age-years, else-age-years}
use Rattle.spreading.proofs.adding.add_overhauls.Goals as goal

pub loop-j-init : goal.loop-j-init
loop-j-init g c =
    record { in_range = omega arith; same_length = refl; raised = overhauls_none (g.L.Ledger.figure c.args.ledger) c.args.words.now c.args.kept c.args.years }

pub add_once-requires : goal.add_once-requires
add_once-requires g c =
    let a = c.args in
    let l = c.loop-j in
    let ready = g.L.Ledger.ready a.ledger in
    let counts = g.L.Ledger.counts a.ledger in
    let φ = g.L.Ledger.figure a.ledger in
    let ok = c.requires.0 in
    let o = ok.terms.overhauls in
    let from = ok.from in
    let years = c.requires.2 in
    let small = ledger_small ready a.kept ok c.requires.1 φ (g.met.L.Ledger.small a.ledger) a.years c.requires.2 in
    let j = l.j in (
      kept_payable ready a.kept ok c.requires.1 _ _ _ (o.amount j c.loop-j-test.true) o.grow.high,
      room_within counts (a.kept.from + a.years) before_payment _ before_payment l.words
          (room_after φ counts _ before_arc (8 * largest_payment) before_payment a.words.now l.words _ c.requires.3 l.invariant.same_length l.invariant.raised
          (first_most φ a.kept ok a.years small a.years j (omega arith)) (omega arith))
          (omega (arith, c.if-age-years.true)) (omega arith),
      omega (arith, c.if-age-years.true),
    )

pub loop-j-preserved : goal.loop-j-preserved
loop-j-preserved g c =
    let a = c.args in
    let l = c.loop-j in
    let φ = g.L.Ledger.figure a.ledger in
    let o = a.kept.terms.overhauls in
    let age = get_or o.ages l.j 0 in
    let q = once (get_or o.amounts l.j 0) o.grow (a.kept.from + age) in
    let new = c.if-age-years.words in
    let raised : Raised φ l.words new (paid_if (ltb age a.years) q) =
    elim c.if-age-years.branch [
      | then-age-years w ↦
          rw w.words-is
          (raised_if φ l.words w.add_once.new.words (ltb age a.years) q (lt-ltb age a.years w.if-age-years.true) w.add_once.ensures)
      | else-age-years w ↦
          rw w.words-is
          (raised_unless φ l.words (ltb age a.years) q (le-ltb age a.years w.if-age-years.false))
    ] in
    record {
      in_range = omega (arith, c.loop-j-test.true);
      same_length = c.if-age-years.auto.words ∙ l.invariant.same_length;
      raised = overhauls_next φ a.words.now a.kept a.years l.j l.words new l.invariant.raised raised;
    }

pub returns : goal.returns
returns g c =
    let a = c.args in
    let φ = g.L.Ledger.figure a.ledger in
    let l = c.loop-j in
    let e : l.j ≡ a.kept.terms.overhauls.count = omega (arith, l.invariant.in_range) in
    overhauls_all φ a.words.now a.kept a.years l.words
    (subst (λ (j : ℕ). Raised φ a.words.now l.words (first_overhauls a.kept a.years j)) e l.invariant.raised)
