-- A surplus equation more with its conflict set.
use Rattle.std.specs.Prelude.{ℕ, ◌≡◌, ◌⊎◌, List, [], ◌∷◌, ◌++◌}
use Rattle.equation_choice.specs.ConflictLists.{HasNoneWith, IsFirstWith, set_at}
use Rattle.study_answers.specs.declared.conflicts.Conflict.{Conflict}

-- where no set holds the equation nothing is put; else the equation is put last, with the first set that holds it
abbrev pub AddsConflict : List (List ℕ) → ℕ → List Conflict → List Conflict → Type 0
AddsConflict sets e old now =
    (HasNoneWith sets e × (now ≡ old))
    ⊎ ((k : ℕ) × IsFirstWith sets e k × (now ≡ old ++ record { equation = e; set = set_at sets k } ∷ []))
