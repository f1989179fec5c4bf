-- What a desk prints of a text is one thing, and not long.
use Rattle.std.specs.Prelude.{ℕ, ◌≡◌, ◌≤◌, List, length}
use Rattle.residue_theory.specs.Residues.{IsPrime}
use Rattle.desk_texts.specs.Rooms.{said_room}
use Rattle.desk_texts.specs.Said.{IsSaidOf}

-- a text has at most one answer
abbrev pub TextsHaveOneAnswer : Type 0
TextsHaveOneAnswer =
    (p : ℕ) (input text other : List ℕ) → IsPrime p → IsSaidOf p input text → IsSaidOf p input other → other ≡ text

-- an answer is no longer than the room that its text's length gives
abbrev pub TextsAreShort : Type 0
TextsAreShort = (p : ℕ) (input text : List ℕ) → IsSaidOf p input text → length text ≤ said_room (length input)
