-- Which line of a text is refused, where the values that fit have the lines of a text each.
use Rattle.std.specs.Prelude.{ℕ, ◌+◌, ◌≤◌, ◌≡◌, List, ◌++◌, length, take}
use Rattle.std.specs.List.{concat}

-- The text begins with so many lines of a value that fits.
abbrev pub HasLines : {A : Type 0} → (A → Type 0) → (A → List (List ℕ)) → ℕ → List ℕ → Type 0
HasLines {A} Fits lines count text =
    (a : A) × Fits a × (count ≤ length (lines a)) × (rest : List ℕ) × (text ≡ concat (take count (lines a)) ++ rest)

-- So many, and not one more.
pub record HasJust {A : Type 0} (Fits : A → Type 0) (lines : A → List (List ℕ)) (count : ℕ)
    (text : List ℕ) : Type 0 where
  pub these : HasLines Fits lines count text
  pub no_more : HasLines Fits lines (count + 1) text → ⊥
