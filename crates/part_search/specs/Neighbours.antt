-- The places that arcs lead to, in a list for each place.
use Rattle.std.specs.Prelude.{ℕ, ◌<◌, ◌≡◌, Bool, true, ◌&&◌, ◌||◌, eqb, List, [], Vec, map, length, slice_index_or}
use Rattle.residue_theory.specs.Sets.{has}

-- the list of x
abbrev pub list_at : {Z : Type 0} → List (Vec ℕ Z) → ℕ → List ℕ
list_at lists x = slice_index_or (map (λ list. list.items) lists) x []

-- whether the list of x holds y
abbrev pub listed : {Z : Type 0} → List (Vec ℕ Z) → ℕ → ℕ → Bool
listed lists x y = has (list_at lists x) y

-- the list of `from` holds `to` too
pub record IsNeighbour {Z : Type 0} (lists now : List (Vec ℕ Z)) (from to : ℕ) : Type 0 where
  pub count : length now ≡ length lists
  pub holds : (x y : ℕ) → listed now x y ≡ listed lists x y || (eqb from x && eqb to y)

-- there is a list for each of n places, and they tell the arcs, which lead to places below n
pub record AreLists {Z : Type 0} (arc : ℕ → ℕ → Bool) (n : ℕ) (lists : List (Vec ℕ Z)) : Type 0 where
  pub count : length lists ≡ n
  pub tells : (x y : ℕ) → listed lists x y ≡ arc x y
  pub below : (x y : ℕ) → listed lists x y ≡ true → y < n
