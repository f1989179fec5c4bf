-- A row or a column leaves a sparse tableau.
use Rattle.std.proofs.Common.{◌≡◌, ℕ, ◌+◌, ◌%◌, ◌<◌, ◌≢◌, ◌⊎◌, [], inl, inr, refl, sym, subst, ap, ◌∙◌, arith, length, slice_index_or, slice_set}
use Rattle.std.proofs.Math.Nat.{mod-eq_of_lt}
use Rattle.std.proofs.lemmas.Bool.Decides.{nat_tests}
use Rattle.std.proofs.lemmas.List.{get_or-set_same, get_or-set_other}
use Rattle.std.proofs.lemmas.List.Edits.{length-remove, length-swap, swap_is, get_or-remove_below}
use Rattle.std.specs.List.{remove, swap}
use Rattle.residue_theory.proofs.SumLaws.{nat_cases}
use Rattle.linear_algebra.specs.Parts.{skip}
use Rattle.number_pairs.proofs.MoveLaws.{removed_other}
use Rattle.sparse_q.specs.Rows.{number_at}
use Rattle.sparse_q.specs.Tables.{SparseTable, sparse_rows, number_in, IsColumnTaken, with_table_rows_swapped, without_table_row}
use Rattle.tableau_edit_laws.specs.Edits.{last_for}
use Rattle.sparse_tableau.specs.Leaves.{IsLineReplaced, IsRowGone, IsRowReplaced}

-- an entry that is not zero is not zero modulo p
pub entry-some : (n x p : ℕ) → n ≡ x → n < p → n ≢ 0 → x % p ≢ 0
entry-some n x p e below ne z = ne (e ∙ sym (mod-eq_of_lt (subst (λ k. k < p) e below)) ∙ z)

-- ---- a row whose place the last one takes
pub row-replaced : (a : SparseTable) (r last : ℕ) → r < sparse_rows a → last + 1 ≡ sparse_rows a →
    IsRowReplaced a (without_table_row (with_table_rows_swapped a r last) last) r
row-replaced a r last rl end = record {
  rows_are = omega (arith, gone);
  width_same = refl;
  room = record { row_room = refl; column_room = refl };
  numbers = λ i j il.
      ap (λ xs. number_at xs j) (get_or-remove_below (swap a.rows r last) last [] i (omega (arith, il, gone)) in_swapped
      ∙ ap (λ rows. slice_index_or rows i []) (sym (swap_is a.rows r last [] rl (omega arith)))
      ∙ get_or-set_other (slice_set a.rows r (slice_index_or a.rows last [])) last i (slice_index_or a.rows r []) [] (λ q. omega (arith, il, gone)))
      ∙ moved i j (nat_cases i r);
}
  where
    in_swapped : last < length (swap a.rows r last)
    in_swapped = omega (arith, length-swap a.rows r last)

    gone : length (remove (swap a.rows r last) last) + 1 ≡ sparse_rows a
    gone = omega (arith, length-remove (swap a.rows r last) last in_swapped, length-swap a.rows r last)

    place : (i : ℕ) → i ≡ r → last_for (sparse_rows a) r i ≡ last
    place i q = grind (arith, nat_tests)

    place_other : (i : ℕ) → i ≢ r → last_for (sparse_rows a) r i ≡ i
    place_other i ne = grind (arith, nat_tests)

    moved : (i j : ℕ) → (i ≡ r) ⊎ (i ≢ r) →
        number_at (slice_index_or (slice_set a.rows r (slice_index_or a.rows last [])) i []) j ≡ number_in a (last_for (sparse_rows a) r i) j
    moved i j (inl q) = ap (λ xs. number_at xs j) (ap (λ k. slice_index_or (slice_set a.rows r (slice_index_or a.rows last [])) k []) q
        ∙ get_or-set_same a.rows r (slice_index_or a.rows last []) [] rl) ∙ ap (λ k. number_in a k j) (sym (place i q))
    moved i j (inr ne) = ap (λ xs. number_at xs j) (get_or-set_other a.rows r i (slice_index_or a.rows last []) [] ne)
        ∙ ap (λ k. number_in a k j) (sym (place_other i ne))

pub line-replaced : (a b c : SparseTable) (r v : ℕ) → IsRowReplaced a b r → IsColumnTaken b c v → IsLineReplaced a c r v
line-replaced a b c r v rows column = record {
  rows_are = omega (arith, rows.rows_are, column.rows_same);
  width_is = omega (arith, rows.width_same, column.width_less);
  room = record { row_room = column.row_room ∙ rows.room.row_room; column_room = column.column_room ∙ rows.room.column_room };
  numbers = λ i j il. column.numbers i j ∙ rows.numbers i (skip v j) (subst (λ n. i < n) column.rows_same il);
}

pub row-gone : (a : SparseTable) (r : ℕ) → r < sparse_rows a → IsRowGone a (without_table_row a r) r
row-gone a r rl = record {
  rows_are = omega (arith, length-remove a.rows r rl);
  width_same = refl;
  room = record { row_room = refl; column_room = refl };
  numbers = λ i j. ap (λ xs. number_at xs j) (removed_other [] a.rows r i rl);
}
