-- What is left of the text of a layered matrix once a piece of it is put.
use Rattle.std.proofs.Common.{◌≡◌, ℕ, zero, suc, ◌+◌, ◌-◌, ◌<◌, ◌≤◌, false, not, eqb, List, [], ◌∷◌, ◌++◌, length, get_or, drop}
use Rattle.std.proofs.Common.{slice_index, Some, ap, ◌∙◌, arith}
use Rattle.std.proofs.lemmas.Bool.Decides.{nat_tests}
use Rattle.std.specs.List.{slice_get}
use Rattle.std.proofs.Math.ListN.{drop_of_length-le}
use Rattle.mixed_model.specs.Models.{MixedModel}
use Rattle.mixed_model.specs.declared.origin.Origin.{Origin}
use Rattle.text_writer.proofs.Putting.{drop_next}
use Rattle.answer_texts.specs.LayerTexts.{column_line, column_lines, q_entry_text, row_entries_text, named_row_lines}
use Rattle.mixed_model.specs.Names.{name_at}

-- an item that was got stands there
pub got_or : {A : Type 0} (xs : List A) (i : ℕ) (d x : A) → slice_get xs i ≡ Some x → get_or xs i d ≡ x
got_or [] i d x got = absurd cc
got_or (y ∷ ys) zero d x got = cc
got_or (y ∷ ys) (suc i) d x got = got_or ys i d x got

pub columns_left : (model : MixedModel) (origins : List Origin) (i : ℕ) (origin : Origin) → i < length origins → slice_get origins i ≡ Some origin →
    column_lines model (i + 1) (drop i origins) ≡ column_line model (i + 1) origin ++ column_lines model (i + 1 + 1) (drop (i + 1) origins)
columns_left model origins i origin within got =
    ap (column_lines model (i + 1)) (drop_next origins i origin within)
    ∙ ap (λ o. column_line model (i + 1) o ++ column_lines model (i + 1 + 1) (drop (i + 1) origins)) (got_or origins i origin origin got)

pub columns_end : (model : MixedModel) (number : ℕ) (origins : List Origin) (i : ℕ) → length origins ≤ i → column_lines model number (drop i origins) ≡ []
columns_end model number origins i all = ap (column_lines model number) (drop_of_length-le origins all)

pub entries_left : (row : List ℕ) (i d : ℕ) → i < length row →
    row_entries_text (i + 1) (drop i row) ≡ q_entry_text (i + 1) (get_or row i d) ++ row_entries_text (i + 1 + 1) (drop (i + 1) row)
entries_left row i d within = ap (row_entries_text (i + 1)) (drop_next row i d within)

pub entries_end : (column : ℕ) (row : List ℕ) (i : ℕ) → length row ≤ i → row_entries_text column (drop i row) ≡ []
entries_end column row i all = ap (row_entries_text column) (drop_of_length-le row all)

-- entries that are 0 have no text
pub entries_skip : (row : List ℕ) (d i : ℕ) → i + d ≤ length row → ((j : ℕ) → i ≤ j → j < i + d → get_or row j 0 ≡ 0) →
    row_entries_text (i + 1) (drop i row) ≡ row_entries_text (i + d + 1) (drop (i + d) row)
entries_skip row zero i le none = ap (λ k. row_entries_text (k + 1) (drop k row)) (omega arith)
entries_skip row (suc d) i le none =
    entries_left row i 0 (omega arith)
    ∙ ap (λ n. q_entry_text (i + 1) n ++ row_entries_text (i + 1 + 1) (drop (i + 1) row)) (none i (omega arith) (omega arith))
    ∙ entries_skip row d (i + 1) (omega arith) (λ j ge less. none j (omega arith) (omega arith))
    ∙ ap (λ k. row_entries_text (k + 1) (drop k row)) (omega arith)

-- up to the next entry that is not 0
pub entries_next : (row : List ℕ) (i j : ℕ) → i ≤ j → j < length row → ((k : ℕ) → i ≤ k → k < j → get_or row k 0 ≡ 0) →
    row_entries_text (i + 1) (drop i row)
    ≡ q_entry_text (j + 1) (get_or row j 0) ++ row_entries_text (j + 1 + 1) (drop (j + 1) row)
entries_next row i j le less none =
    entries_skip row (j - i) i (omega arith) (λ k ge lt. none k ge (omega arith))
    ∙ ap (λ k. row_entries_text (k + 1) (drop k row)) (there le) ∙ entries_left row j 0 less
  where
    there : i ≤ j → i + (j - i) ≡ j
    there le = omega arith

-- and to the end where there is none
pub entries_none : (row : List ℕ) (i : ℕ) → i ≤ length row → ((k : ℕ) → i ≤ k → k < length row → get_or row k 0 ≡ 0) →
    row_entries_text (i + 1) (drop i row) ≡ []
entries_none row i le none =
    entries_skip row (length row - i) i (omega arith) (λ k ge lt. none k ge (omega arith))
    ∙ ap (λ k. row_entries_text (k + 1) (drop k row)) (there le) ∙ entries_end (length row + 1) row (length row) (omega arith)
  where
    there : i ≤ length row → i + (length row - i) ≡ length row
    there le = omega arith

pub unmarked : (n : ℕ) → not (eqb n 0) ≡ false → n ≡ 0
unmarked n e = grind (arith, nat_tests)

pub rows_left : (line : ℕ → List ℕ → List ℕ → List ℕ) (names : List (List ℕ)) (origins : List ℕ) (rows : List (List ℕ)) (k : ℕ) → k < length rows →
    named_row_lines line names origins k (drop k rows) ≡ line (k + 1) (name_at names (slice_index origins k))
    (get_or rows k []) ++ named_row_lines line names origins (k + 1) (drop (k + 1) rows)
rows_left line names origins rows k within = ap (named_row_lines line names origins k) (drop_next rows k [] within)

pub rows_end : (line : ℕ → List ℕ → List ℕ → List ℕ) (names : List (List ℕ)) (origins : List ℕ) (rows : List (List ℕ)) (k : ℕ) → length rows ≤ k →
    named_row_lines line names origins k (drop k rows) ≡ []
rows_end line names origins rows k all = ap (named_row_lines line names origins k) (drop_of_length-le rows all)
