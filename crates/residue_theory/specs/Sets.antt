-- Sets of numbers. A set is a test, and is looked at below a bound.
use Rattle.std.specs.Prelude.{ℕ, zero, suc, ◌<◌, ◌≡◌, Bool, ◌&&◌, ◌||◌, not, eqb, true, false, List}
use Rattle.std.specs.List.{list_any}

-- every number
abbrev pub everything : ℕ → Bool
everything j = true

-- no number
abbrev pub nothing : ℕ → Bool
nothing j = false

-- the one number v
abbrev pub only : ℕ → ℕ → Bool
only v j = eqb j v

-- X with v taken out
abbrev pub without : (ℕ → Bool) → ℕ → ℕ → Bool
without X v j = X j && not (eqb j v)

-- X with v put in
abbrev pub with_one : (ℕ → Bool) → ℕ → ℕ → Bool
with_one X v j = X j || eqb j v

-- the members of both
abbrev pub both : (ℕ → Bool) → (ℕ → Bool) → ℕ → Bool
both X Y j = X j && Y j

-- the members of one or the other
abbrev pub either : (ℕ → Bool) → (ℕ → Bool) → ℕ → Bool
either X Y j = X j || Y j

-- each member of Y below n is one of X
abbrev pub IsWithin : ℕ → (ℕ → Bool) → (ℕ → Bool) → Type 0
IsWithin n Y X = (j : ℕ) → j < n → Y j ≡ true → X j ≡ true

-- no number below n is in both
abbrev pub IsApart : ℕ → (ℕ → Bool) → (ℕ → Bool) → Type 0
IsApart n X Y = (j : ℕ) → j < n → X j ≡ true → Y j ≡ false

-- X has a member below n
abbrev pub some_below : ℕ → (ℕ → Bool) → Bool
some_below zero X = false
some_below (suc n) X = some_below n X || X n

-- whether a list holds a number
abbrev pub has : List ℕ → ℕ → Bool
has list x = list_any (λ item. eqb item x) list
