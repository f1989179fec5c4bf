-- How numbers stand in a text.
use Rattle.std.specs.Prelude.{ℕ, List, ◌∷◌, ◌++◌, decimal}

-- a mark and a number
abbrev pub with_mark : ℕ → ℕ → List ℕ
with_mark mark number = mark ∷ decimal number

-- a number behind a space
abbrev pub spaced : ℕ → List ℕ
spaced number = with_mark 32 number

-- the item `key=value` behind a space
abbrev pub item : ℕ → ℕ → List ℕ
item key value = spaced key ++ with_mark 61 value
