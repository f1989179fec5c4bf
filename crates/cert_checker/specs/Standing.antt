-- Numbers that stand in lists, each list with the number of its part.
use Rattle.std.specs.Prelude.{ℕ, ◌+◌, ◌<◌, ◌≡◌, ◌≢◌, true, cond, List, [], ◌∷◌, ◌++◌, map, length, slice_index}
use Rattle.residue_theory.specs.Sets.{has}
use Rattle.cert_text.specs.Contents.{Contents}
use Rattle.cert_text.specs.Readings.{StandsOnce, place_of}
use Rattle.cert_text.specs.declared.part.CcfPart.{CcfPart}
use Rattle.cert_text.specs.declared.shape.Shape.{Shape}
use Rattle.cert_checker.specs.declared.standing.Member.{Member}
use Rattle.cert_checker.specs.declared.standing.Member.TheVariants.{Column, QRow, TRow}

-- no number of the list has a part
abbrev pub IsUnplaced : List ℕ → List ℕ → Type 0
IsUnplaced places list = (x : ℕ) → x < length places → has list x ≡ true → slice_index places x ≡ 0

-- the numbers of the list have this part now, and the others what they had
abbrev pub IsPlacedList : List ℕ → List ℕ → ℕ → List ℕ → Type 0
IsPlacedList places list part now = (x : ℕ) → x < length places →
    slice_index now x ≡ cond (has list x) part (slice_index places x)

-- each number has a part
abbrev pub AreSet : List ℕ → Type 0
AreSet places = (x : ℕ) → x < length places → slice_index places x ≢ 0

-- each number below n stands in exactly one of the lists, and places tells in which, counted from 1
pub record TellsPlaces (n : ℕ) (lists : List (List ℕ)) (places : List ℕ) : Type 0 where
  pub once : StandsOnce n lists
  pub count : length places ≡ n
  pub place : (x : ℕ) → x < n → slice_index places x ≡ place_of lists x + 1

-- the first tail, the blocks and the last tail
abbrev pub part_list : Contents → List CcfPart
part_list c = c.first ∷ (map (λ block. block.part) c.blocks ++ c.last ∷ [])

-- the numbers of one kind in a part
abbrev pub list_in : Member → CcfPart → List ℕ
list_in Column part = part.columns
list_in QRow part = part.q_rows
list_in TRow part = part.t_rows

-- and in each part
abbrev pub lists_in : Member → Contents → List (List ℕ)
lists_in member c = map (list_in member) (part_list c)

-- how many there are
abbrev pub count_in : Member → Shape → ℕ
count_in Column shape = shape.columns
count_in QRow shape = shape.q_rows
count_in TRow shape = shape.t_rows

abbrev pub Not : Type 0 → Type 0
Not P = P → ⊥
