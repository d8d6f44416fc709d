-- Refusal 7 of the five inflations of a record. Assumes nothing.
use mathlib.Core.Path.{ap}
use mathlib.Core.Bool.{◌&&◌}
use Rattle.sheet.specs.Parsed.{terms_of, flow_of, overhauls_of}
use Rattle.sheet.specs.declared.Terms.{Terms}
use Rattle.checking.specs.Refusals.{inflations_ok}
use Rattle.checking.proofs.option.inflations_ok.Goals as goal

pub returns : goal.returns
unfolding inflations_ok terms_of flow_of overhauls_of
returns c =
    λ r o d t.
    let i = c.inflation_ok-investment.ensures r o.investment.inflation d (ap (λ (v : Terms). v.investment.grow) t) in
    let m = c.inflation_ok-maintenance.ensures r o.maintenance.inflation d (ap (λ (v : Terms). v.maintenance.grow) t) in
    let e = c.inflation_ok-electricity.ensures r o.electricity.inflation d (ap (λ (v : Terms). v.electricity.grow) t) in
    let w = c.inflation_ok-overhauls.ensures r o.overhaul_inflation d (ap (λ (v : Terms). v.overhauls.grow) t) in
    let x = c.inflation_ok-removal.ensures r o.removal.inflation d (ap (λ (v : Terms). v.removal.grow) t) in
    λ n. i n && m n && e n && w n && x n
