-- The words are those that are asked, by what is written to them. Assumes nothing.
use mathlib.Core.Path.{sym, subst}
use Rattle.checking.specs.Fit.{Fit}
use Rattle.tails.specs.Cheapest.{CheapestWords}
use Rattle.tails.proofs.WordLaws.{words_cheapest}
use Rattle.tails.proofs.tail_words.Goals as goal

pub returns-clause-cheapest : goal.returns-clause-cheapest
returns-clause-cheapest c p read =
    let words = c.args.words.now in
    subst (CheapestWords p words) (sym (c.fill.ensures.words p read)) (words_cheapest p (subst Fit read c.requires.0.fit) words c.requires.1)
