-- How many arcs a sheet that passes its checks can offer: from one year at most 120 replacements (`replace-arcs-le`), and 121 arcs of any option
-- (`arcs-from-le`), since no life is longer than 120 years; so at most 120 × T + 14,762 in all (`arcs-offered-le`). Assumes nothing.
use Prim.Native.Nat.{ℕ, suc, ◌+◌, ◌-◌, ◌*◌, ◌≤◌, ◌<◌}
use mathlib.Core.Path.{◌≡◌, refl, ap}
use mathlib.Core.Bool.{true}
use mathlib.Core.Logic.{⊎_elim}
use native.Mathlib.Omega.{arith}
use Rattle.base.proofs.TallyLaws.{sum-le, many_within, where_le}
use Rattle.sheet.specs.Sheet.{PlanningSheet, maintain, renovate, replace}
use Rattle.sheet.specs.Parsed.{terms_of, parsed, no_terms}
use Rattle.sheet.specs.declared.Terms.{Terms}
use Rattle.sheet.proofs.ParsedLaws.{terms_read}
use Rattle.checking.specs.Fit.{Fit}
use Rattle.costing.specs.Offered.{offered}
use Rattle.costing.proofs.OfferedLaws.{offered-iff}
use Rattle.chain.specs.Counting.{arcs_from, renovate_arcs, replace_arcs, arcs_offered}
use Rattle.chain.proofs.FeasibleLaws.{replace_forward}

module _ (p : PlanningSheet) (fit : Fit (parsed p)) where
  longest_le : (option : ℕ) → option ≤ 2 → (p.option option).longest ≤ 120
  unfolding terms_of
  longest_le option known =
      let terms = terms_read (parsed p) p refl option no_terms (omega arith) in
      omega (arith, ap (λ (t : Terms). t.longest) terms, (fit.options option no_terms (omega arith)).longest)

  -- an arc that is offered ends within 120 years
  offered_among : (option y e : ℕ) → offered p option y e ≡ true → (y ≤ e) × (e < y + 121)
  offered_among option y e on =
      let o = (offered-iff p option y e).0 on in
      let most = longest_le option o.known in
      (o.forward, ⊎_elim (λ l. omega (arith, l.2)) (λ z. omega (arith, z.0, o.forward)) o.lasting)

  pub arcs-from-le : (option y : ℕ) → arcs_from p option y ≤ 121
  unfolding arcs_from
  arcs-from-le option y = omega (arith, many_within (offered p option y) y y 121 (offered_among option y) (suc (p.horizon - y)))

  -- a replacement has at least a year
  pub replace-arcs-le : (y : ℕ) → arcs_from p replace y ≤ 120
  unfolding arcs_from
  replace-arcs-le y =
      omega (
        arith,
        many_within (offered p replace y) y (y + 1) 120
            (λ e on. (omega (arith, replace_forward p y e ((offered-iff p replace y e).0 on)), omega (arith, (offered_among replace y e on).1)))
            (suc (p.horizon - y)),
      )

  pub renovate-arcs-le : renovate_arcs p ≤ 14_641
  unfolding renovate_arcs
  renovate-arcs-le =
      let most = where_le (offered p maintain 0) 0 (arcs_from p renovate) 121 (suc p.horizon) (λ i on. arcs-from-le renovate i) in
      omega (arith, most, many_within (offered p maintain 0) 0 0 121 (offered_among maintain 0) (suc p.horizon))

  pub arcs-offered-le : arcs_offered p ≤ 120 * p.horizon + 14_762
  unfolding replace_arcs
  arcs-offered-le =
      omega
      (arith, arcs-from-le maintain 0, renovate-arcs-le, sum-le (arcs_from p replace) 0 120 p.horizon (λ y l m. replace-arcs-le y))
