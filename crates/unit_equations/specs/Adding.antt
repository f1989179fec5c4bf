-- A part that may be added to a model.
use Rattle.std.specs.Prelude.{◌≡◌, ◌≢◌, ℕ, ◌<◌, All, true, false, IsTrue, List, ◌++◌, map}
use Rattle.std.specs.List.{IsDistinct}
use Rattle.std.specs.Str.{bytes_eq}
use Rattle.mixed_model.specs.Names.{has_name, is_label}
use Rattle.term_model.specs.Putting.{IsPlaced}
use Rattle.term_model.specs.Systems.{System}
use Rattle.unit_equations.specs.Parts.{Summand, UnitPart}

-- a constant other than 0, below p, or a symbol
pub record IsFilledSummand (p : ℕ) (summand : Summand) : Type 0 where
  pub below : summand.constant < p
  pub constant : summand.symbol ≡ false → summand.constant ≢ 0
  pub symbol : summand.symbol ≡ true → summand.constant ≡ 0

-- what an equation has stands at different unknowns among these
pub record AreSummands (p : ℕ) (unknowns : List (List ℕ)) (summands : List Summand) : Type 0 where
  pub there : All (λ summand. has_name unknowns summand.unknown ≡ true) summands
  pub distinct : IsDistinct bytes_eq (map (λ summand. summand.unknown) summands)
  pub filled : All (IsFilledSummand p) summands

-- The names of a part are new beside those of a model, and its equations stand over the unknowns of both.
pub record IsNewPart (p : ℕ) (equations unknowns : List (List ℕ)) (part : UnitPart) : Type 0 where
  pub equation_labels : All (λ equation. IsTrue (is_label equation.name)) part.equations
  pub unknown_labels : All (λ name. IsTrue (is_label name)) part.unknowns
  pub equations_distinct : IsDistinct bytes_eq (equations ++ map (λ equation. equation.name) part.equations)
  pub unknowns_distinct : IsDistinct bytes_eq (unknowns ++ part.unknowns)
  pub summands : All (λ equation. AreSummands p (unknowns ++ part.unknowns) equation.summands) part.equations

-- each term of a system stands at an equation and an unknown of it
abbrev pub ArePlaced : System → Type 0
ArePlaced system = All (IsPlaced system.equations system.unknowns) system.terms
