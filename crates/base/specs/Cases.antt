-- Lists of cases that are evaluated from definitions. Definitions only.
use Rattle.std.specs.Prelude.{◌≡◌, List, [], ◌∷◌}

-- what the rules give, and what document 01 says that they give
pub record Case : Type 1 where
  pub Figure : Type 0
  pub given : Figure
  pub expected : Figure

-- every case of a list holds
abbrev pub AllHold : List Case → Type 0
AllHold [] = Unit {0}
AllHold (c ∷ cs) = (c.given ≡ c.expected) × AllHold cs
