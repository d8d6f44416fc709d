-- `nimovalsa_budget` returns what `budget` answers, and leaves what it leaves; its promises hold of what was returned. Assumes nothing.
use mathlib.Core.Path.{sym, subst, ◌∙◌}
use Rattle.base.specs.declared.Answer.{Answer}
use Rattle.budget.specs.Promises.{PromisedBudget}
use Rattle.budget.proofs.EndedLaws.{budget_packs}
use Rattle.nimovalsa.proofs.PackedLaws.{returns_same}
use Rattle.nimovalsa.proofs.nimovalsa_budget.Goals as goal

pub returns : goal.returns
returns c =
    let a = c.args in
    let h = c.budget.ensures in
    let lists = c.budget.new in
    let promised =
    subst
    (λ (x : Answer). PromisedBudget a.sheet.now a.plan.now a.general a.units.now a.cents.now x lists.units lists.cents)
    (sym (c.pack.ensures.reads ∙ c.from.ensures)) h.promised in
    record {
      answer = returns_same (c.from.ensures ∙ h.answer) c.pack.ensures;
      units = h.units;
      cents = h.cents;
      promised = promised;
    }

pub pack-requires : goal.pack-requires
pack-requires c = rw (c.from.ensures, c.budget.ensures.answer) (budget_packs _ _ _ _ _)
