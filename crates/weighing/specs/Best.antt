-- The running choice on the numbers that the code keeps: a least total and the first end of the list that has it. `BestLaws.antt` shows that
-- it follows the choice of entries. Definitions only.
use Rattle.std.specs.Prelude.{ℕ}
use Rattle.base.specs.Lists.{first_of}
use Rattle.choice.specs.Running.{Entry, Keeping}
use Rattle.weighing.specs.declared.Best.{Best}

-- what the code keeps of an entry
abbrev pub in_short : Entry → Best
in_short t = record { total = t.total; end = first_of t.ends }

-- a running choice on these: what stands behind an end is its total
abbrev pub numbers : Keeping
numbers =
    record {
      Choice = Best;
      Behind = ℕ;
      total = λ best. best.total;
      left = λ total. total;
      taken = λ total end behind. record { total = total; end = end };
    }
