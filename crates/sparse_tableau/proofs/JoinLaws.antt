-- A row or a column joins a sparse tableau.
use Rattle.std.proofs.Common.{◌≡◌, ℕ, ◌+◌, ◌<◌, ◌≤◌, ◌≢◌, [], List, cond, eqb, inl, inr, refl, sym, subst, ap, ◌∙◌, arith, length, map, slice_index_or}
use Rattle.std.proofs.lemmas.Bool.Decides.{nat_tests}
use Rattle.std.proofs.lemmas.List.{length-map, get_or-map, get_or_past}
use Rattle.std.proofs.lemmas.List.Edits.{length-insert, get_or-insert_at}
use Rattle.residue_theory.proofs.SumLaws.{nat_cases}
use Rattle.residue_theory.proofs.SetLaws.{lt_cases}
use Rattle.linear_algebra.specs.Parts.{skip}
use Rattle.linear_algebra_laws.proofs.SkipLaws.{skip-first, skip-other}
use Rattle.number_pairs.proofs.MoveLaws.{inserted_other}
use Rattle.sparse_q.specs.Rows.{Item, number_at, columns_raised}
use Rattle.sparse_q.proofs.EditLaws.{raised-number, raised-none}
use Rattle.sparse_q.specs.Tables.{SparseTable, sparse_rows, sparse_row, number_in, HasSize, IsRowSet, with_empty_row, with_empty_column}
use Rattle.sparse_tableau.specs.Sparse.{HasSameRoom}
use Rattle.sparse_tableau.specs.Joins.{IsRowPut, IsColumnPut, IsEmptyRowIn, IsEmptyColumnIn, IsUnitIn}
use Rattle.sparse_tableau.proofs.TransformLaws.{room-set, size-set}
use Rattle.sparse_tableau.proofs.RoomLaws.{same-room}

-- ---- a row and a column of items
-- the first k numbers of row r of b are those of x
pub record IsRowPutTo (a b : SparseTable) (r : ℕ) (x : ℕ → ℕ) (k : ℕ) : Type 0 where
  pub size : HasSize (sparse_rows a) a.width b
  pub room : HasSameRoom a b
  pub here : (j : ℕ) → j < k → number_in b r j ≡ x j
  pub others : (i j : ℕ) → i ≢ r → number_in b i j ≡ number_in a i j

pub row_put-none : (a : SparseTable) (r : ℕ) (x : ℕ → ℕ) → IsRowPutTo a a r x 0
row_put-none a r x = record {
  size = record { rows_are = refl; width_is = refl };
  room = same-room a;
  here = λ j l. absurd (omega arith);
  others = λ i j ne. refl;
}

here-put : (j n m : ℕ) → cond (eqb j j) n m ≡ n
here-put j n m = grind (arith, nat_tests)

there-put : (c j n m : ℕ) → c ≢ j → cond (eqb c j) n m ≡ m
there-put c j n m ne = grind (arith, nat_tests)

pub row_put-next : (a b c : SparseTable) (r : ℕ) (x : ℕ → ℕ) (k n : ℕ) → IsRowPutTo a b r x k → n ≡ x k →
    IsRowSet b c r (λ j. cond (eqb j k) n (number_in b r j)) → IsRowPutTo a c r x (k + 1)
row_put-next a b c r x k n so_far is put = record {
  size = size-set (sparse_rows a) a.width b c r _ so_far.size put;
  room = room-set a b c r _ so_far.room put;
  here = λ j l. elim (nat_cases j k) [
    | inl q ↦ subst (λ t. number_in c r t ≡ x t) (sym q) (put.changed k ∙ here-put k n (number_in b r k) ∙ is)
    | inr ne ↦ put.changed j ∙ there-put j k n (number_in b r j) ne ∙ so_far.here j (omega arith)
  ];
  others = λ i j ne. put.others i j ne ∙ so_far.others i j ne;
}

pub row_put-all : (a b : SparseTable) (r : ℕ) (x : ℕ → ℕ) (k : ℕ) → IsRowPutTo a b r x k → a.width ≤ k → IsRowPut a b r x
row_put-all a b r x k so_far le = record {
  size = so_far.size;
  room = so_far.room;
  here = λ j l. so_far.here j (omega arith);
  others = so_far.others;
}

-- the first k numbers of column v of b are those of x
pub record IsColumnPutTo (a b : SparseTable) (v : ℕ) (x : ℕ → ℕ) (k : ℕ) : Type 0 where
  pub size : HasSize (sparse_rows a) a.width b
  pub room : HasSameRoom a b
  pub here : (i : ℕ) → i < k → number_in b i v ≡ x i
  pub others : (i j : ℕ) → j ≢ v → number_in b i j ≡ number_in a i j

pub column_put-none : (a : SparseTable) (v : ℕ) (x : ℕ → ℕ) → IsColumnPutTo a a v x 0
column_put-none a v x = record {
  size = record { rows_are = refl; width_is = refl };
  room = same-room a;
  here = λ i l. absurd (omega arith);
  others = λ i j ne. refl;
}

pub column_put-next : (a b c : SparseTable) (v : ℕ) (x : ℕ → ℕ) (k n : ℕ) → IsColumnPutTo a b v x k → n ≡ x k →
    IsRowSet b c k (λ j. cond (eqb j v) n (number_in b k j)) → IsColumnPutTo a c v x (k + 1)
column_put-next a b c v x k n so_far is put = record {
  size = size-set (sparse_rows a) a.width b c k _ so_far.size put;
  room = room-set a b c k _ so_far.room put;
  here = λ i l. elim (nat_cases i k) [
    | inl q ↦ subst (λ t. number_in c t v ≡ x t) (sym q) (put.changed v ∙ here-put v n (number_in b k v) ∙ is)
    | inr ne ↦ put.others i v ne ∙ so_far.here i (omega arith)
  ];
  others = λ i j ne. elim (nat_cases i k) [
    | inl q ↦ subst (λ t. number_in c t j ≡ number_in a t j) (sym q)
        (put.changed j ∙ there-put j v n (number_in b k j) ne ∙ so_far.others k j ne)
    | inr other ↦ put.others i j other ∙ so_far.others i j ne
  ];
}

pub column_put-all : (a b : SparseTable) (v : ℕ) (x : ℕ → ℕ) (k : ℕ) → IsColumnPutTo a b v x k → sparse_rows a ≤ k → IsColumnPut a b v x
column_put-all a b v x k so_far le = record {
  size = so_far.size;
  room = so_far.room;
  here = λ i l. so_far.here i (omega arith);
  others = so_far.others;
}

-- ---- an empty row and an empty column
pub empty_row-in : (a : SparseTable) (r : ℕ) → r ≤ sparse_rows a → IsEmptyRowIn a (with_empty_row a r) r
empty_row-in a r le = record {
  size = record { rows_are = length-insert a.rows r [] le; width_is = refl };
  room = record { row_room = refl; column_room = refl };
  here = λ j. ap (λ xs. number_at xs j) (get_or-insert_at a.rows r [] [] le);
  others = λ i j. ap (λ xs. number_at xs j) (inserted_other [] a.rows r i [] le);
}

raised-at : (v : ℕ) (rows : List (List Item)) (i : ℕ) →
    slice_index_or (map (columns_raised v) rows) i [] ≡ columns_raised v (slice_index_or rows i [])
raised-at v rows i = elim (lt_cases i (length rows)) [
  | inl less ↦ get_or-map (columns_raised v) rows i [] [] less
  | inr ge ↦ get_or_past (map (columns_raised v) rows) i [] (omega (arith, length-map rows (columns_raised v)))
      ∙ ap (columns_raised v) (sym (get_or_past rows i [] ge))
]

pub empty_column-in : (a : SparseTable) (v : ℕ) → IsEmptyColumnIn a (with_empty_column a v) v
empty_column-in a v = record {
  size = record { rows_are = length-map a.rows (columns_raised v); width_is = refl };
  room = record { row_room = refl; column_room = refl };
  here = λ i. ap (λ xs. number_at xs v) (raised-at v a.rows i) ∙ raised-none v (sparse_row a i);
  others = λ i j. ap (λ xs. number_at xs (skip v j)) (raised-at v a.rows i) ∙ raised-number v (sparse_row a i) j;
}

-- a unit in the corner of a row and a column that join
pub unit-in : (a b c d : SparseTable) (v n : ℕ) → IsEmptyColumnIn a b v → IsEmptyRowIn b c (sparse_rows a) → n ≡ 1 →
    IsRowSet c d (sparse_rows a) (λ j. cond (eqb j v) n (number_in c (sparse_rows a) j)) → IsUnitIn a d v
unit-in a b c d v n column row one put = record {
  size = record {
    rows_are = put.size.rows_are ∙ row.size.rows_are ∙ ap (λ k. k + 1) column.size.rows_are;
    width_is = put.size.width_is ∙ row.size.width_is ∙ column.size.width_is;
  };
  room = record {
    row_room = put.row_room ∙ row.room.row_room ∙ column.room.row_room;
    column_room = put.column_room ∙ row.room.column_room ∙ column.room.column_room;
  };
  corner = put.changed v ∙ here-put v n (number_in c m v) ∙ one;
  row = λ j. put.changed (skip v j) ∙ there-put (skip v j) v n (number_in c m (skip v j)) (skip-other v j) ∙ row.here (skip v j);
  column = λ i il. put.others i v (λ q. omega arith) ∙ stays i v il ∙ column.here i;
  others = λ i j il. put.others i (skip v j) (λ q. omega arith) ∙ stays i (skip v j) il ∙ column.others i j;
}
  where
    m : ℕ
    m = sparse_rows a

    stays : (i j : ℕ) → i < sparse_rows a → number_in c i j ≡ number_in b i j
    stays i j il = ap (λ k. number_in c k j) (sym (skip-first (sparse_rows a) i il)) ∙ row.others i j
