-- The blocks of a form with numbers at its symbols: their rows, and what solving them tells.
use Rattle.std.specs.Prelude.{ℕ, ◌+◌, ◌-◌, ◌%◌, ◌<◌, ◌≤◌, ◌≡◌, false, cond, ltb, List, [], length, map, slice_index, slice_index_or}
use Rattle.std.specs.List.{All}
use Rattle.residue_theory.specs.Sets.{everything, has}
use Rattle.linear_algebra.specs.Columns.{IsIndependent}
use Rattle.cert_text.specs.Contents.{numbered_rows}
use Rattle.cert_text.specs.Ranges.{AreRising}
use Rattle.cert_text.specs.Readings.{entry_at}
use Rattle.cert_text.specs.declared.part.CcfBlock.{CcfBlock}
use Rattle.cert_text.specs.declared.part.CcfPart.{CcfPart}
use Rattle.block_solver.specs.declared.answer.Outcome.{Outcome}
use Rattle.block_solver.specs.declared.answer.Outcome.TheVariants.{Dependent, Solved}
use Rattle.block_solver.specs.Rows.{AreKeysRising, row_sum}

-- P and T with numbers, each a list of rows, and their right sides
pub record BlockSystem : Type 0 where
  pub p : List (List (ℕ × ℕ))
  pub t : List (List (ℕ × ℕ))
  pub p_right : List ℕ
  pub t_right : List ℕ

-- the system of rows and right sides of values, each seen by its number
abbrev pub block_system : {T : Type 0} → (T → ℕ) → List (List (ℕ × T)) → List (List (ℕ × T)) → List T → List T →
    BlockSystem
block_system number p t p_right t_right = record {
  p = numbered_rows number p;
  t = numbered_rows number t;
  p_right = map number p_right;
  t_right = map number t_right;
}

-- row r of a part: its Q rows, and then its T rows
abbrev pub part_row : BlockSystem → CcfPart → ℕ → List (ℕ × ℕ)
part_row s part r = cond (ltb r (length part.q_rows)) (slice_index_or s.p (slice_index part.q_rows r) [])
    (slice_index_or s.t (slice_index part.t_rows (r - length part.q_rows)) [])

abbrev pub part_right : BlockSystem → CcfPart → ℕ → ℕ
part_right s part r = cond (ltb r (length part.q_rows)) (slice_index s.p_right (slice_index part.q_rows r))
    (slice_index s.t_right (slice_index part.t_rows (r - length part.q_rows)))

-- the diagonal part, by places of rows and columns in the lists of the part
abbrev pub part_matrix : BlockSystem → CcfPart → ℕ → ℕ → ℕ
part_matrix s part r c = entry_at (part_row s part r) (slice_index part.columns c)

-- its columns are independent
abbrev pub IsRegularPart : ℕ → BlockSystem → CcfPart → Type 0
IsRegularPart p s part = IsIndependent p (part_matrix s part) (length part.columns) (length part.columns) everything

-- each row of the part holds for x
abbrev pub PartHolds : ℕ → BlockSystem → CcfPart → List ℕ → Type 0
PartHolds p s part x = (r : ℕ) → r < length part.columns → row_sum (part_row s part r) x % p ≡ part_right s part r % p

-- the numbers are what x leaves of the right sides of the part
pub record LeavesPart (p : ℕ) (s : BlockSystem) (part : CcfPart) (x sides : List ℕ) : Type 0 where
  pub count : length sides ≡ length part.columns
  pub left : (r : ℕ) → r < length part.columns → (slice_index sides r + row_sum (part_row s part r) x) % p
      ≡ part_right s part r % p

-- now has the first n of the numbers at the first n of the columns, and differs from old at the columns alone
pub record PutsNumbers (columns old now numbers : List ℕ) (n : ℕ) : Type 0 where
  pub count : length now ≡ length old
  pub put : (c : ℕ) → c < n → slice_index now (slice_index columns c) ≡ slice_index numbers c
  pub others : (j : ℕ) → has columns j ≡ false → slice_index now j ≡ slice_index old j

-- now differs from old at the columns of the part alone
pub record ChangesPart (part : CcfPart) (old now : List ℕ) : Type 0 where
  pub count : length now ≡ length old
  pub others : (j : ℕ) → has part.columns j ≡ false → slice_index now j ≡ slice_index old j

-- the columns and rows of a part are in range, with as many rows as columns
pub record FitsSystem (s : BlockSystem) (n : ℕ) (part : CcfPart) : Type 0 where
  pub columns : AreRising n part.columns
  pub q_rows : All (λ i. i < length s.p) part.q_rows
  pub t_rows : All (λ i. i < length s.t) part.t_rows
  pub p_rising : All AreKeysRising s.p
  pub t_rising : All AreKeysRising s.t
  pub square : length part.q_rows + length part.t_rows ≡ length part.columns

-- the parts of blocks fit the system, no column stands in two of them, and at a row of a later block and a column of an
-- earlier one there is no entry
pub record FitBlocks (s : BlockSystem) (n : ℕ) (blocks : List CcfBlock) : Type 0 where
  pub each : (k : ℕ) (d : CcfBlock) → k < length blocks → FitsSystem s n (slice_index_or blocks k d).part
  pub apart : (j k c : ℕ) (d e : CcfBlock) → j < k → k < length blocks →
      c < length (slice_index_or blocks j d).part.columns →
      has (slice_index_or blocks k e).part.columns (slice_index (slice_index_or blocks j d).part.columns c) ≡ false
  pub triangular : (j k r c : ℕ) (d e : CcfBlock) → j < k → k < length blocks →
      r < length (slice_index_or blocks k e).part.columns → c < length (slice_index_or blocks j d).part.columns →
      entry_at (part_row s (slice_index_or blocks k e).part r)
      (slice_index (slice_index_or blocks j d).part.columns c) ≡ 0

-- the blocks from k on are regular and hold for x, which is 0 at the columns of the blocks before
pub record IsSolving (p : ℕ) (s : BlockSystem) (n : ℕ) (blocks : List CcfBlock) (x : List ℕ) (k : ℕ) : Type 0 where
  pub count : length x ≡ n
  pub zero : (j c : ℕ) (d : CcfBlock) → j < k → j < length blocks →
      c < length (slice_index_or blocks j d).part.columns →
      slice_index x (slice_index (slice_index_or blocks j d).part.columns c) ≡ 0
  pub regular : (j : ℕ) (d : CcfBlock) → k ≤ j → j < length blocks → IsRegularPart p s (slice_index_or blocks j d).part
  pub holds : (j : ℕ) (d : CcfBlock) → k ≤ j → j < length blocks → PartHolds p s (slice_index_or blocks j d).part x

-- what the blocks of a system give: all are regular and hold for the numbers, or block k, counted from 1, is the last
-- that is not regular
abbrev pub IsOutcomeOf : {T : Type 0} → (T → ℕ) → ℕ → BlockSystem → ℕ → List CcfBlock → Outcome T → Type 0
IsOutcomeOf number p s n blocks (Dependent k) = (0 < k) × (k ≤ length blocks) ×
    ((d : CcfBlock) → IsRegularPart p s (slice_index_or blocks (k - 1) d).part → ⊥) ×
    ((j : ℕ) (d : CcfBlock) → k ≤ j → j < length blocks → IsRegularPart p s (slice_index_or blocks j d).part)
IsOutcomeOf number p s n blocks (Solved x) = (length x ≡ n) ×
    ((j : ℕ) (d : CcfBlock) → j < length blocks → IsRegularPart p s (slice_index_or blocks j d).part) ×
    ((j : ℕ) (d : CcfBlock) → j < length blocks → PartHolds p s (slice_index_or blocks j d).part (map number x))
