-- What stands at a place of an equation, as contracts see it.
use Rattle.std.specs.Prelude.{ℕ, Bool, Option}

-- An entry: the column of its unknown, the number of its constant, and whether it has a symbol.
pub record RowEntry : Type 0 where
  pub column : ℕ
  pub constant : Option ℕ
  pub symbol : Bool
