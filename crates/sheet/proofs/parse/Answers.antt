-- `parse` reads the sheet's three records, its horizon and its discount factor. Assumes nothing.
use mathlib.Core.List.{[], ◌∷◌}
use Rattle.sheet.specs.Parsed.{parsed}
use Rattle.sheet.proofs.parse.Goals as goal

pub returns : goal.returns
unfolding parsed
returns c =
    λ i.
    record {
      horizon = c.horizon_of.ensures i;
      discount = c.discount_of.ensures i;
      options = c.terms_of-maintain.ensures i ∷ c.terms_of-renovate.ensures i ∷ c.terms_of-replace.ensures i ∷ [];
    }
