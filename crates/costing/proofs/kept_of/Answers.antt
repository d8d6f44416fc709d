-- The activity's terms, with its motors' year. Assumes nothing.
use Rattle.costing.proofs.kept_of.Goals as goal

pub returns : goal.returns
returns c = rw (c.since_of.ensures, c.place.ensures) at c.kept_on.ensures
