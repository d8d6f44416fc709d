-- How the code holds a sheet: the same fields, with each rate as its factor, 1,000,000 + rate, and the overhauls' ages and amounts in
-- two lists of eight. And the terms that are read where there is no option. Definitions only.
use Rattle.std.specs.Prelude.{◌+◌, []}
use Rattle.base.specs.Lists.{listed}
use Rattle.sheet.specs.Sheet.{Expense, OptionRecord, PlanningSheet, factor}
use Rattle.sheet.specs.declared.Flow.{Flow}
use Rattle.sheet.specs.declared.Overhauls.{Overhauls}
use Rattle.sheet.specs.declared.Sheet.{Sheet}
use Rattle.sheet.specs.declared.Terms.{Terms}

unfoldable pub flow_of : Expense → Flow
flow_of e = record { amount = e.amount; grow = factor e.inflation; age = 1_000_000 + e.ageing }

unfoldable pub overhauls_of : OptionRecord → Overhauls
overhauls_of o =
    record {
      grow = factor o.overhaul_inflation;
      count = o.overhaul_count;
      ages = listed 8 (λ j. (o.overhaul j).age);
      amounts = listed 8 (λ j. (o.overhaul j).amount);
    }

unfoldable pub terms_of : OptionRecord → Terms
terms_of o =
    record {
      shortest = o.shortest;
      longest = o.longest;
      investment = flow_of o.investment;
      maintenance = flow_of o.maintenance;
      electricity = flow_of o.electricity;
      overhauls = overhauls_of o;
      removal = flow_of o.removal;
    }

unfoldable pub parsed : PlanningSheet → Sheet
parsed p =
    record {
      horizon = p.horizon;
      discount = 1_000_000 + p.rate;
      options = listed 3 (λ k. terms_of (p.option k));
    }

-- what the code's array of options would give past its end
abbrev pub no_terms : Terms
no_terms =
    record {
      shortest = 0;
      longest = 0;
      investment = record { amount = 0; grow = 0; age = 0 };
      maintenance = record { amount = 0; grow = 0; age = 0 };
      electricity = record { amount = 0; grow = 0; age = 0 };
      overhauls = record { grow = 0; count = 0; ages = []; amounts = [] };
      removal = record { amount = 0; grow = 0; age = 0 };
    }
