-- Terms of equations, and what they say of a place.
use Rattle.std.specs.Prelude.{ℕ, ◌%◌, Bool, true, false, ◌&&◌, List, ◌++◌, map, codes, sum_by, if◌then◌else◌}
use Rattle.std.specs.List.{flat_map, list_any}
use Rattle.std.specs.Str.{bytes_eq}

-- a word, a point and a name
abbrev pub dotted : List ℕ → List ℕ → List ℕ
dotted word name = word ++ codes "." ++ name

-- the names that things have of their own, in order: each of a thing's words, a point and its name
abbrev pub own_names_of : {X : Type 0} → (X → List ℕ) → (X → List (List ℕ)) → List X → List (List ℕ)
own_names_of name words things = flat_map (λ thing. map (λ word. dotted word (name thing)) (words thing)) things

-- A term: what an equation has at an unknown, as a number that is added there, or a symbol.
pub record Term : Type 0 where
  pub equation : List ℕ
  pub unknown : List ℕ
  pub constant : ℕ
  pub symbol : Bool

abbrev pub constant : List ℕ → List ℕ → ℕ → Term
constant equation unknown n = record { equation = equation; unknown = unknown; constant = n; symbol = false }

abbrev pub symbol : List ℕ → List ℕ → Term
symbol equation unknown = record { equation = equation; unknown = unknown; constant = 0; symbol = true }

-- whether a term stands in this equation at this unknown
abbrev pub stands_at : List ℕ → List ℕ → Term → Bool
stands_at equation unknown term = bytes_eq equation term.equation && bytes_eq unknown term.unknown

-- What some terms say of a place: the sum of the constants there, modulo p. So 1 and -1 leave nothing.
abbrev pub said_of : ℕ → List Term → List ℕ → List ℕ → ℕ
said_of p terms equation unknown =
    sum_by (λ term. if stands_at equation unknown term then term.constant else 0) terms % p

-- whether some terms say that a symbol stands there
abbrev pub symbol_said : List Term → List ℕ → List ℕ → Bool
symbol_said terms equation unknown = list_any (λ term. stands_at equation unknown term && term.symbol) terms
