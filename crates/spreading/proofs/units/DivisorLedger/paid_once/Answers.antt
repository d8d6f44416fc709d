-- An amount of a sheet leaves room for its steps. Assumes nothing.
use Rattle.steps.specs.Payment.{once}
use Rattle.steps.proofs.RoomLaws.{amount_fits}
use Rattle.spreading.proofs.units.DivisorLedger.paid_once.Goals as goal

pub paid_once-requires : goal.paid_once-requires
unfolding once
paid_once-requires c =
    let h = c.requires.0 in
    let n = h.suits.number in
    rw n (amount_fits c.args.grow h.discount c.args.amount h.low h.high h.rates.grown h.amount)
