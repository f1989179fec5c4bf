-- Pairs of numbers, kept as two lists: a relation of left and right numbers that is a partial injection both ways.
use Rattle.std.specs.Prelude.{ℕ, ◌<◌, ◌≤◌, ◌≡◌, List, length, map, max, replicate, Option, Some, None, slice_index_or, slice_set}
use Rattle.std.specs.List.{insert, remove}
use Rattle.std.specs.Option.{option_map}
use Rattle.linear_algebra.specs.Parts.{skip, unskip}

-- for each left number perhaps its right one, and for each right number perhaps its left one; and for how many left
-- numbers and right ones there is room
pub record PairLists : Type 0 where
  pub rights : List (Option ℕ)
  pub lefts : List (Option ℕ)
  pub left_room : ℕ
  pub right_room : ℕ

abbrev pub right_at : PairLists → ℕ → Option ℕ
right_at p left = slice_index_or p.rights left None

abbrev pub left_at : PairLists → ℕ → Option ℕ
left_at p right = slice_index_or p.lefts right None

-- each item of a list names an item of the other, which names it back
abbrev pub PointsBack : List (Option ℕ) → List (Option ℕ) → Type 0
PointsBack a b = (i j : ℕ) → slice_index_or a i None ≡ Some j → (j < length b) × (slice_index_or b j None ≡ Some i)

-- the two lists tell one relation, so that no number has two others
pub record IsOneToOne (p : PairLists) : Type 0 where
  pub rights_point : PointsBack p.rights p.lefts
  pub lefts_point : PointsBack p.lefts p.rights

abbrev pub no_pairs : ℕ → ℕ → PairLists
no_pairs lefts rights = record {
  rights = replicate lefts None;
  lefts = replicate rights None;
  left_room = 0;
  right_room = 0;
}

-- with a pair more
abbrev pub paired : PairLists → ℕ → ℕ → PairLists
paired p left right = record p {
  rights = slice_set p.rights left (Some right);
  lefts = slice_set p.lefts right (Some left);
}

-- without a pair
abbrev pub parted : PairLists → ℕ → ℕ → PairLists
parted p left right = record p { rights = slice_set p.rights left None; lefts = slice_set p.lefts right None }

-- each number in a list, moved
abbrev pub all_moved : (ℕ → ℕ) → List (Option ℕ) → List (Option ℕ)
all_moved f list = map (option_map f) list

-- with a left number more, v, which is in no pair
abbrev pub left_inserted : PairLists → ℕ → PairLists
left_inserted p v = record p { rights = insert p.rights v None; lefts = all_moved (skip v) p.lefts }

-- without the left number v, which is in no pair
abbrev pub left_removed : PairLists → ℕ → PairLists
left_removed p v = record p { rights = remove p.rights v; lefts = all_moved (unskip v) p.lefts }

-- with a right number more, v, which is in no pair
abbrev pub right_inserted : PairLists → ℕ → PairLists
right_inserted p v = record p { rights = all_moved (skip v) p.rights; lefts = insert p.lefts v None }

-- without the right number v, which is in no pair
abbrev pub right_removed : PairLists → ℕ → PairLists
right_removed p v = record p { rights = all_moved (unskip v) p.rights; lefts = remove p.lefts v }

-- with room for so many left numbers and right ones
abbrev pub with_pair_room : PairLists → ℕ → ℕ → PairLists
with_pair_room p lefts rights = record p {
  left_room = max p.left_room lefts;
  right_room = max p.right_room rights;
}

-- the pairs are one-to-one, and the lists are as long as they may become
pub record ArePairsStored (p : PairLists) (left_capacity right_capacity : ℕ) : Type 0 where
  pub one_to_one : IsOneToOne p
  pub left_room : p.left_room ≤ left_capacity
  pub right_room : p.right_room ≤ right_capacity
