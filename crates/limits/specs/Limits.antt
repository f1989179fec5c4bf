-- How large an input, a model and its matrices may be.
use Rattle.std.specs.Prelude.{ℕ, ◌+◌, ◌/◌, cond, leb, max, min}

-- how many bytes an input has at most
abbrev pub input_limit : ℕ
input_limit = 8388608

-- how many equations a model has at most, and how many unknowns
abbrev pub equation_limit : ℕ
equation_limit = 4096

-- how many columns a layered matrix has at most, and any matrix rows or columns
abbrev pub column_limit : ℕ
column_limit = 8192

-- the room that is taken where there was so much and so much is asked for: where it grows, at least an eighth more, as
-- far as the limit of rows and columns
abbrev pub grown : ℕ → ℕ → ℕ
grown had asked = cond (leb asked had) had (max asked (min (had + had / 8) column_limit))
