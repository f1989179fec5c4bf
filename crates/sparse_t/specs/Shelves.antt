-- Lists of numbers that come and go, and the room that is kept for them.
use Rattle.std.specs.Prelude.{ℕ, ◌+◌, ◌<◌, ◌≤◌, ◌≡◌, true, false, List, [], length, map, max, slice_index, slice_index_or}
use Rattle.std.specs.List.{insert, remove}
use Rattle.smallvec.specs.SmallVec.{SmallVec}
use Rattle.linear_algebra.specs.Parts.{skip, unskip}
use Rattle.residue_theory.specs.Sets.{has}
use Rattle.sparse_t.specs.Columns.{capacity_at}

-- some lists; for how many lists there is room, and for how many numbers in each
pub record ShelfLists : Type 0 where
  pub lists : List (List ℕ)
  pub count : ℕ
  pub width : ℕ

abbrev pub shelf_list : ShelfLists → ℕ → List ℕ
shelf_list s i = slice_index_or s.lists i []

-- so many numbers fit in each of the lists
abbrev pub AreWide : ℕ → List (SmallVec ℕ) → Type 0
AreWide width lists = (i : ℕ) → i < length lists → width ≤ capacity_at lists i

-- with the spare lists there are enough, and each is wide enough
pub record IsShelf (count width : ℕ) (lists spare : List (SmallVec ℕ)) (capacity spare_capacity : ℕ) : Type 0 where
  pub enough : count ≤ length lists + length spare
  pub room : count ≤ capacity
  pub spare_room : count ≤ spare_capacity
  pub wide : AreWide width lists
  pub spare_wide : AreWide width spare

abbrev pub list_put : ShelfLists → ℕ → List ℕ → ShelfLists
list_put s at list = record s { lists = insert s.lists at list }

abbrev pub list_taken : ShelfLists → ℕ → ShelfLists
list_taken s at = record s { lists = remove s.lists at }

-- each number from v on is greater by one
abbrev pub numbers_raised : ShelfLists → ℕ → ShelfLists
numbers_raised s v = record s { lists = map (map (skip v)) s.lists }

-- each number after v is smaller by one
abbrev pub numbers_lowered : ShelfLists → ℕ → ShelfLists
numbers_lowered s v = record s { lists = map (map (unskip v)) s.lists }

abbrev pub with_shelf_room : ShelfLists → ℕ → ℕ → ShelfLists
with_shelf_room s count width = record s { count = max s.count count; width = max s.width width }

-- the list with a number more, at its place
pub record IsNumberPut (number : ℕ) (list now : List ℕ) : Type 0 where
  pub place : ℕ
  pub within : place ≤ length list
  pub now_is : now ≡ insert list place number
  pub less : (k : ℕ) → k < place → slice_index list k < number
  pub greater : (k : ℕ) → place ≤ k → k < length list → number < slice_index list k

-- the list without a number that it holds
pub record IsNumberTaken (number : ℕ) (list now : List ℕ) : Type 0 where
  pub place : ℕ
  pub within : place < length list
  pub number_is : slice_index list place ≡ number
  pub now_is : now ≡ remove list place

-- the lists of the columns have changed so, and the others hold what they held
pub record AreListsChanged (Changes : List ℕ → List ℕ → Type 0) (lists now : List (List ℕ))
    (columns : List ℕ) : Type 0 where
  pub count : length now ≡ length lists
  pub changed : (j : ℕ) → j < length lists → has columns j ≡ true →
      Changes (slice_index_or lists j []) (slice_index_or now j [])
  pub others : (j : ℕ) → j < length lists → has columns j ≡ false → slice_index_or now j [] ≡ slice_index_or lists j []
