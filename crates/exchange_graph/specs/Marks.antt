-- Sets told by marks.
use Rattle.std.specs.Prelude.{ℕ, Bool, false, List, slice_index_or}

-- the set of the places that are marked
abbrev pub members_of : List Bool → ℕ → Bool
members_of marks y = slice_index_or marks y false
