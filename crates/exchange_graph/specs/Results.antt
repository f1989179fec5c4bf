-- What callers see of a search.
use Rattle.std.specs.Prelude.{ℕ, Bool, List, slice_index}
use Rattle.exchange_graph.specs.Marks.{members_of}

-- how many places there are, the marks of the reached ones and of those that searches in turn reached in vain, the
-- start with which the next search in turn begins, the places of the walk, how many were looked at in the last search
-- for a walk, and how many looks there have been in all
pub record Found : Type 0 where
  pub places : ℕ
  pub marks : List Bool
  pub vain : List Bool
  pub next : ℕ
  pub walk : List ℕ
  pub looks : ℕ
  pub all_looks : ℕ

-- the reached set
abbrev pub reached_of : Found → ℕ → Bool
reached_of r = members_of r.marks

-- what searches in turn reached in vain and left out for good
abbrev pub vain_of : Found → ℕ → Bool
vain_of r = members_of r.vain

-- the walk's k-th place
abbrev pub step_of : Found → ℕ → ℕ
step_of r k = slice_index r.walk k
