-- What is looked up is what is stepped: the table keeps its rule, which is computed once over its numbers. Assumes nothing.
use Prim.Native.Nat.{◌+◌, ◌*◌}
use mathlib.Core.Path.{refl}
use Rattle.steps.specs.Step.{divided, plain}
use Rattle.yearbook.specs.declared.table.TheConstants.{FACTORS}
use Rattle.yearbook.proofs.TableLaws.{table_read}
use Rattle.yearbook.proofs.looked_up.Goals as goal

pub returns : goal.returns
unfolding divided plain
returns c = table_read FACTORS refl c.args.place c.args.year (c.args.place * 301 + c.args.year) refl c.requires.0 c.requires.1
