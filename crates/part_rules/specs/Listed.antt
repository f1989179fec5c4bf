-- Arcs that stand in a list, arcs within parts, and places that are marked.
use Rattle.std.specs.Prelude.{ℕ, ◌<◌, ◌≡◌, ◌↔◌, ◌&&◌, ◌||◌, Bool, true, false, eqb, List, [], ◌∷◌, length, slice_index_or}
use Rattle.std.specs.List.{All}
use Rattle.closed_sets.specs.Walks.{FromSome, ToSome}

-- whether the list has the pair of x and y
abbrev pub arc_in : List (ℕ × ℕ) → ℕ → ℕ → Bool
arc_in [] x y = false
arc_in (arc ∷ arcs) x y = (eqb arc.0 x && eqb arc.1 y) || arc_in arcs x y

-- pairs of places below n
abbrev pub AreArcs : ℕ → List (ℕ × ℕ) → Type 0
AreArcs n arcs = All (λ arc. (arc.0 < n) × (arc.1 < n)) arcs

-- x leads to y, and both stand in the same part
abbrev pub inner : (ℕ → ℕ → Bool) → (ℕ → ℕ) → ℕ → ℕ → Bool
inner arc part x y = arc x y && eqb (part x) (part y)

-- the set of the places that are marked
abbrev pub marked : List Bool → ℕ → Bool
marked marks x = slice_index_or marks x false

-- of n places those are marked that are reached from a start
pub record AreReached (arc : ℕ → ℕ → Bool) (n : ℕ) (starts : ℕ → Bool) (marks : List Bool) : Type 0 where
  pub count : length marks ≡ n
  pub tells : (y : ℕ) → y < n → (marked marks y ≡ true) ↔ FromSome arc n starts y

-- of n places those are marked that reach an end
pub record AreReaching (arc : ℕ → ℕ → Bool) (n : ℕ) (ends : ℕ → Bool) (marks : List Bool) : Type 0 where
  pub count : length marks ≡ n
  pub tells : (x : ℕ) → x < n → (marked marks x ≡ true) ↔ ToSome arc n ends x
