-- Bytes that are taken and appended, seen where a source or a sink tells of them.
use Rattle.std.specs.Prelude.{◌≡◌, ℕ, ◌≤◌, List, [], ◌++◌, length, Option, Some, None}

-- these bytes were taken from the front of what was left, where it is told
abbrev pub Took : Option (List ℕ) → Option (List ℕ) → List ℕ → Type 0
Took None after bytes = Unit {0}
Took (Some before) None bytes = ⊥
Took (Some before) (Some after) bytes = before ≡ bytes ++ after

-- these bytes were put behind what was written, where it is told
abbrev pub Appended : Option (List ℕ) → Option (List ℕ) → List ℕ → Type 0
Appended None after bytes = Unit {0}
Appended (Some before) None bytes = ⊥
Appended (Some before) (Some after) bytes = after ≡ before ++ bytes

-- nothing is left, where it is told
abbrev pub Ended : Option (List ℕ) → Type 0
Ended None = Unit {0}
Ended (Some rest) = rest ≡ []

-- exactly this many bytes were taken
abbrev pub TookExactly : ℕ → Option (List ℕ) → Option (List ℕ) → Type 0
TookExactly n before after = (bytes : List ℕ) × (length bytes ≡ n) × Took before after bytes

-- at most this many bytes were taken
abbrev pub TookAtMost : ℕ → Option (List ℕ) → Option (List ℕ) → Type 0
TookAtMost n before after = (bytes : List ℕ) × (length bytes ≤ n) × Took before after bytes
