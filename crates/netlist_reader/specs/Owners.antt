-- The device whose terms may stand at a place.
use Rattle.std.specs.Prelude.{ℕ, List, codes, if◌then◌else◌}
use Rattle.std.specs.List.{before_first, after_first}
use Rattle.std.specs.Str.{bytes_eq}
use Rattle.line_lexer.specs.Numbers.{is_point}

-- Its name follows the equation's word, and in the equation of a node's currents the current's.
abbrev pub owner_of : List ℕ → List ℕ → List ℕ
owner_of equation unknown =
    if bytes_eq (before_first is_point equation) (codes "kcl") then after_first is_point unknown
    else after_first is_point equation
