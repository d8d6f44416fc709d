-- `terms_at` reads a record. Assumes nothing.
use native.Mathlib.Omega.{arith}
use Rattle.sheet.specs.Sheet.{option_at}
use Rattle.sheet.specs.Parsed.{terms_of}
use Rattle.sheet.proofs.record.terms_at.Goals as goal

pub removal_at-removal-requires : goal.removal_at-removal-requires
removal_at-removal-requires c = λ long. omega (arith, c.requires.1 long)

pub returns : goal.returns
unfolding option_at terms_of
returns c =
    λ i.
    record {
      shortest = c.u16_at.ensures.0 i;
      longest = c.u16_at-2.ensures.0 i;
      investment = c.once_at.ensures i;
      maintenance = c.flow_at.ensures i;
      electricity = c.flow_at-2.ensures i;
      overhauls = c.overhauls_at-overhauls.ensures c.args.long i;
      removal = c.removal_at-removal.ensures i;
    }
