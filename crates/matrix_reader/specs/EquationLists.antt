-- What the lines of an equation list give, each line as its words: equations, and the names of unknowns.
use Rattle.std.specs.Prelude.{ℕ, List, [], ◌∷◌, map, fold, drop, if◌then◌else◌, codes}
use Rattle.std.specs.List.{flat_map}
use Rattle.std.specs.Str.{bytes_eq}
use Rattle.mixed_model.specs.Names.{see}
use Rattle.matrix_reader.specs.Items.{unknown_of}

-- an equation of a list: its name, and its items
pub record Equation : Type 0 where
  pub name : List ℕ
  pub items : List (List ℕ)

-- the equation that a line gives, where it gives one
abbrev pub equation_of : List (List ℕ) → List Equation
equation_of [] = []
equation_of (word ∷ []) = []
equation_of (word ∷ name ∷ items) =
    if bytes_eq word (codes "eq") then record { name = name; items = items } ∷ [] else []

-- the names of unknowns that stand in a line, in order
abbrev pub names_in : List (List ℕ) → List (List ℕ)
names_in [] = []
names_in (word ∷ words) =
    if bytes_eq word (codes "eq") then map unknown_of (drop 1 words)
    else (if bytes_eq word (codes "unknown") then words else [])

-- the equations of some lines
abbrev pub equations_in : List (List (List ℕ)) → List Equation
equations_in lines = flat_map equation_of lines

-- their names
abbrev pub equation_names : List (List (List ℕ)) → List (List ℕ)
equation_names lines = map (λ equation. equation.name) (equations_in lines)

-- the unknowns of some lines, in the order in which they first stand
abbrev pub unknowns_in : List (List (List ℕ)) → List (List ℕ)
unknowns_in lines = fold see [] (flat_map names_in lines)
