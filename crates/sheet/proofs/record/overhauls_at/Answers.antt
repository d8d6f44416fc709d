-- `overhauls_at` reads the overhauls of a record. Assumes nothing.
use Rattle.sheet.specs.Sheet.{overhaul_at, option_at}
use Rattle.sheet.specs.Parsed.{overhauls_of}
use Rattle.sheet.proofs.record.overhauls_at.Goals as goal

pub returns : goal.returns
unfolding overhaul_at option_at overhauls_of
returns c =
    λ long i.
    record {
      grow = c.factor_at.ensures i;
      count = c.u8_at.ensures.0 i;
      ages = c.ages_at-ages.ensures i;
      amounts = c.amounts_at-amounts.ensures i;
    }
