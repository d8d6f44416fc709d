-- Refusal 8 of maintenance and electricity. Assumes nothing.
use mathlib.Core.Path.{ap}
use mathlib.Core.Bool.{◌&&◌}
use Rattle.sheet.specs.Parsed.{terms_of}
use Rattle.sheet.specs.declared.Terms.{Terms}
use Rattle.checking.specs.Refusals.{ageings_ok}
use Rattle.checking.proofs.option.ageings_ok.Goals as goal

pub returns : goal.returns
unfolding ageings_ok terms_of
returns c =
    λ r o d t.
    let m = c.ageing_ok.ensures r o.maintenance d (ap (λ (v : Terms). v.maintenance) t) in
    let e = c.ageing_ok-2.ensures r o.electricity d (ap (λ (v : Terms). v.electricity) t) in
    λ n. m n && e n
