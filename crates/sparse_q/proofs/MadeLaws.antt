-- Sparse matrices that are made row by row, and rows that are made column by column.
use Rattle.std.proofs.Common.{◌≡◌, ℕ, ◌+◌, ◌<◌, ◌≤◌, ◌≢◌, inl, inr, Bool, true, false, cond, eqb, List, [], ◌∷◌, ◌++◌, map}
use Rattle.std.proofs.Common.{take, length, slice_index, slice_index_or, slice_set, replicate, refl, sym, subst, ap, ◌∙◌}
use Rattle.std.proofs.Common.{arith}
use Rattle.std.specs.List.{All}
use Rattle.std.proofs.Math.Path.{fun_ext}
use Rattle.std.proofs.lemmas.Bool.Decides.{nat_tests}
use Rattle.std.proofs.lemmas.List.{map-append, get_or_append_left, get_or_at, get_or-map, length-map, length_push}
use Rattle.std.proofs.lemmas.List.{length-set, length-take-le, get_or_past, get_or-take, get_or-set_same, get_or-set_other}
use Rattle.std.proofs.lemmas.List.{take_all, get_or-replicate, length-replicate}
use Rattle.std.proofs.lemmas.List.Elements.{All-push}
use Rattle.residue_theory.proofs.SumLaws.{nat_cases}
use Rattle.residue_theory.proofs.SetLaws.{differ}
use Rattle.dense_q.specs.Tables.{Table, IsMatrix, HasSameSize, height, row_at, entry, table_with_entry, zero_table, IsTableOf}
use Rattle.sparse_q.specs.Rows.{Item, Row, IsEntryRow, IsRising, item_or, number_at, EndsBefore, with_last}
use Rattle.sparse_q.specs.Storage.{AreSparseRows}
use Rattle.sparse_q.specs.Tables.{SparseTable, sparse_rows, number_in, HasSize}
use Rattle.sparse_q.proofs.RowLaws.{number-last, number-before, number-taken, last-before, lt_or_past}
use Rattle.sparse_q.proofs.TableLaws.{table_of}

-- ---- a row
-- the items stand before column n, and tell the numbers f there
pub record IsFilledTo (f : ℕ → ℕ) (xs : List Item) (n : ℕ) : Type 0 where
  pub before : EndsBefore xs n
  pub numbers : (j : ℕ) → j < n → number_at xs j ≡ f j

pub filled-none : (f : ℕ → ℕ) → IsFilledTo f [] 0
filled-none f = record { before = λ i l. absurd (omega arith); numbers = λ j l. absurd (omega arith) }

pub filled-next : (f : ℕ → ℕ) (xs : List Item) (n v : ℕ) → IsFilledTo f xs n → v ≡ f n →
    IsFilledTo f (with_last xs n v) (n + 1)
filled-next f xs n v so_far is = record {
  before = last-before xs n v (n + 1) so_far.before (omega arith);
  numbers = λ j l. number-last xs n v j ∙ elim (nat_cases n j) [
    | inl q ↦ subst (λ k. number_at xs k + cond (eqb n k) v 0 ≡ f k) q
        (ap (λ z. z + cond (eqb n n) v 0) (number-before xs n n so_far.before (omega arith)) ∙ same ∙ is)
    | inr ne ↦ other j ne ∙ so_far.numbers j (omega arith)
  ];
}
  where
    same : 0 + cond (eqb n n) v 0 ≡ v
    same = grind (arith, nat_tests)

    other : (j : ℕ) → n ≢ j → number_at xs j + cond (eqb n j) v 0 ≡ number_at xs j
    other j ne = grind (arith, nat_tests)

-- where nothing is told there are no items
pub filled-past : (f : ℕ → ℕ) (xs : List Item) (n m : ℕ) → IsFilledTo f xs n → n ≤ m →
    ((j : ℕ) → n ≤ j → j < m → f j ≡ 0) → IsFilledTo f xs m
filled-past f xs n m filled le none = record {
  before = λ i l. omega (arith, filled.before i l);
  numbers = λ j l. elim (lt_or_past j n) [
    | inl before ↦ filled.numbers j before
    | inr after ↦ number-before xs n j filled.before after ∙ sym (none j after l)
  ];
}

pub filled-all : (f : ℕ → ℕ) (xs : List Item) (n : ℕ) → IsFilledTo f xs n → ((j : ℕ) → n ≤ j → f j ≡ 0) → (j : ℕ) →
    number_at xs j ≡ f j
filled-all f xs n filled rest j = elim (lt_or_past j n) [
  | inl l ↦ filled.numbers j l
  | inr le ↦ number-before xs n j filled.before le ∙ sym (rest j le)
]

-- ---- a matrix
-- the first n rows are made, each of w columns, with the numbers a
pub record IsMadeTo (w : ℕ) (a : ℕ → ℕ → ℕ) (rows : List Row) (n : ℕ) : Type 0 where
  pub count : length rows ≡ n
  pub full : All (λ r. r.width ≡ w) rows
  pub numbers : (i j : ℕ) → i < n → number_in (table_of w rows) i j ≡ a i j

pub made-none : (w : ℕ) (a : ℕ → ℕ → ℕ) → IsMadeTo w a [] 0
made-none w a = record { count = refl; full = λ k d l. absurd (omega arith); numbers = λ i j l. absurd (omega arith) }

pub made-next : (w : ℕ) (a : ℕ → ℕ → ℕ) (rows more : List Row) (n : ℕ) (row : Row) → IsMadeTo w a rows n →
    more ≡ rows ++ row ∷ [] → row.width ≡ w → ((j : ℕ) → number_at row.items j ≡ a n j) → IsMadeTo w a more (n + 1)
made-next w a rows more n row so_far e wide is = subst (λ rs. IsMadeTo w a rs (n + 1)) (sym e) (record {
  count = length_push rows row ∙ ap (λ k. k + 1) so_far.count;
  full = All-push (λ r. r.width ≡ w) rows row so_far.full wide;
  numbers = λ i j l. ap (λ zs. number_at (slice_index_or zs i []) j) (map-append (λ (r : Row). r.items) rows
      (row ∷ [])) ∙ elim (nat_cases i n) [
        | inl q ↦ ap (λ zs. number_at zs j) (get_or_at lists row.items [] [] i (long ∙ sym q)) ∙ is j
            ∙ ap (λ k. a k j) (sym q)
        | inr ne ↦ ap (λ zs. number_at zs j) (get_or_append_left lists (row.items ∷ []) [] i (omega (arith, long)))
            ∙ so_far.numbers i j (omega arith)
      ];
})
  where
    lists : List (List Item)
    lists = map (λ (r : Row). r.items) rows

    long : length lists ≡ n
    long = length-map rows (λ (r : Row). r.items) ∙ so_far.count

-- past the last row there is nothing
past-rows : (w n : ℕ) (rows : List Row) (i j : ℕ) → length rows ≡ n → n ≤ i → number_in (table_of w rows) i j ≡ 0
past-rows w n rows i j count le = ap (λ zs. number_at zs j) (get_or_past (map (λ (r : Row). r.items) rows) i []
    (omega (arith, length-map rows (λ (r : Row). r.items))))

pub made-all : (w : ℕ) (a : ℕ → ℕ → ℕ) (rows : List Row) (n : ℕ) → IsMadeTo w a rows n →
    ((i j : ℕ) → n ≤ i → a i j ≡ 0) → number_in (table_of w rows) ≡ a
made-all w a rows n made rest = fun_ext (λ i. fun_ext (λ j. elim (lt_or_past i n) [
  | inl l ↦ made.numbers i j l
  | inr le ↦ past-rows w n rows i j made.count le ∙ sym (rest i j le)
]))

pub made-size : (w w' h : ℕ) (a : ℕ → ℕ → ℕ) (rows : List Row) (n : ℕ) → IsMadeTo w a rows n → n ≡ h → w' ≡ w →
    HasSize h w (table_of w' rows)
made-size w w' h a rows n made e wide = record {
  rows_are = length-map rows (λ (r : Row). r.items) ∙ made.count
      ∙ e;
  width_is = wide;
}

pub made-stored : (w w' : ℕ) (a : ℕ → ℕ → ℕ) (rows : List Row) (n spare : ℕ) → IsMadeTo w a rows n → n ≤ 8192 →
    w ≤ 8192 → w' ≡ w → spare ≡ w → AreSparseRows w' rows spare
made-stored w w' a rows n spare made few narrow wide spare_is = record {
  full = subst (λ u. All (λ r. r.width ≡ u) rows) (sym wide) made.full;
  spare_full = spare_is ∙ sym wide;
  few = omega (arith, made.count);
  narrow = omega arith;
}

-- ---- a sparse matrix has none past its last row
pub past-items : (m : SparseTable) (i j : ℕ) → sparse_rows m ≤ i → number_in m i j ≡ 0
past-items m i j le = ap (λ zs. number_at zs j) (get_or_past m.rows i [] le)

-- a row that is not listed has no number in the column
pub unlisted : (bit : Bool) (number : ℕ) → bit ≡ false → (number ≢ 0 → bit ≡ true) → number ≡ 0
unlisted bit number f listed = elim (nat_cases number 0) [
  | inl q ↦ q
  | inr ne ↦ absurd (differ f (listed ne))
]

-- ---- a dense matrix has no entries outside
pub past-row : (q : Table) (i j : ℕ) → height q ≤ i → entry q i j ≡ 0
past-row q i j far = ap (λ row. slice_index row j) (get_or_past q.rows i [] far)

pub past-column : (q : Table) (i j : ℕ) → IsMatrix q → q.width ≤ j → entry q i j ≡ 0
past-column q i j matrix le = elim (lt_or_past i (height q)) [
  | inl l ↦ get_or_past (row_at q i) j 0 (let wide : length (row_at q i) ≡ q.width = matrix.full i [] l in omega arith)
  | inr past ↦ past-row q i j past
]

-- ---- a row that is put into a dense matrix
taken-before : (xs : List Item) (n : ℕ) → IsRising xs → n < length xs → EndsBefore (take n xs) (item_or 0 xs n).column
taken-before xs n rising l i il =
    let less : i < n = omega (arith, length-take-le n xs (omega arith)) in
    subst (λ x. x.column < (item_or 0 xs n).column)
    (sym (get_or-take n xs i (record { column = 0; number = 0 }) less)) (rising i n less l)

-- m is before with the first n items of xs put into row i, where there were zeros
pub record IsPutTo (before : Table) (i : ℕ) (xs : List Item) (m : Table) (n : ℕ) : Type 0 where
  pub size : HasSameSize m before
  pub wide : length (row_at m i) ≡ before.width
  pub numbers : (j : ℕ) → entry m i j ≡ number_at (take n xs) j
  pub others : (t j : ℕ) → t ≢ i → entry m t j ≡ entry before t j

pub put-none : (before : Table) (i : ℕ) (xs : List Item) → IsMatrix before → i < height before →
    ((j : ℕ) → entry before i j ≡ 0) → IsPutTo before i xs before 0
put-none before i xs matrix l zero = record {
  size = record { height_same = refl; width_same = refl };
  wide = matrix.full i [] l;
  numbers = zero;
  others = λ t j ne. refl;
}

pub put-next : (p : ℕ) (before : Table) (i : ℕ) (xs : List Item) (m now : Table) (n c v : ℕ) →
    IsEntryRow p before.width xs → i < height before → IsPutTo before i xs m n → n < length xs →
    c ≡ (item_or 0 xs n).column → v ≡ (item_or 0 xs n).number → now ≡ table_with_entry m i c v → IsPutTo before i xs now
    (n + 1)
put-next p before i xs m now n c v row il so_far l c_is v_is e = subst (λ t. IsPutTo before i xs t (n + 1)) (sym e)
    (record {
      size = record {
        height_same = length-set m.rows i (slice_set (row_at m i) c v)
            ∙ so_far.size.height_same;
        width_same = so_far.size.width_same;
      };
      wide = ap (λ r. length r) at_i ∙ length-set (row_at m i) c v ∙ so_far.wide;
      numbers = λ j. ap (λ r. slice_index r j) at_i ∙ elim (nat_cases j c) [
        | inl q ↦ subst (λ k. slice_index (slice_set (row_at m i) c v) k ≡ number_at (take (n + 1) xs) k) (sym q)
            (get_or-set_same (row_at m i) c v 0 inside ∙ new)
        | inr ne ↦ get_or-set_other (row_at m i) c j v 0 ne ∙ so_far.numbers j ∙ old j ne
      ];
      others = λ t j ne. ap (λ r. slice_index r j) (get_or-set_other m.rows i t (slice_set (row_at m i) c v) [] ne)
          ∙ so_far.others t j ne;
    })
  where
    at_i : row_at (table_with_entry m i c v) i ≡ slice_set (row_at m i) c v
    at_i = get_or-set_same m.rows i (slice_set (row_at m i) c v) [] (omega (arith, so_far.size.height_same))

    inside : c < length (row_at m i)
    inside = omega (arith, so_far.wide, row.narrow n l)

    hit : v ≡ number_at (take n xs) (item_or 0 xs n).column + cond
        (eqb (item_or 0 xs n).column (item_or 0 xs n).column) (item_or 0 xs n).number 0
    hit = v_is ∙ same (item_or 0 xs n).column (item_or 0 xs n).number
        ∙ ap (λ z. z + cond (eqb (item_or 0 xs n).column (item_or 0 xs n).column) (item_or 0 xs n).number 0)
        (sym (number-before (take n xs) (item_or 0 xs n).column (item_or 0 xs n).column
        (taken-before xs n row.rising l) (omega arith)))
      where
        same : (x y : ℕ) → y ≡ 0 + cond (eqb x x) y 0
        same x y = grind (arith, nat_tests)

    new : v ≡ number_at (take (n + 1) xs) c
    new = subst (λ k. v ≡ number_at (take (n + 1) xs) k) (sym c_is)
        (hit ∙ sym (number-taken 0 xs n (item_or 0 xs n).column l))

    old : (j : ℕ) → j ≢ c → number_at (take n xs) j ≡ number_at (take (n + 1) xs) j
    old j ne = miss (item_or 0 xs n).column (item_or 0 xs n).number (number_at (take n xs) j)
        (λ q. ne (sym q ∙ sym c_is)) ∙ sym (number-taken 0 xs n j l)
      where
        miss : (x y z : ℕ) → x ≢ j → z ≡ z + cond (eqb x j) y 0
        miss x y z apart = grind (arith, nat_tests)

pub put-all : (before : Table) (i : ℕ) (xs : List Item) (m : Table) (n : ℕ) → IsPutTo before i xs m n →
    length xs ≤ n → (j : ℕ) → entry m i j ≡ number_at xs j
put-all before i xs m n put le j = put.numbers j ∙ ap (λ zs. number_at zs j) (take_all n xs le)

-- the same, for entries that stand for items
module _ {A : Type 0} (f : A → Item) (p w : ℕ) (before : Table) (items ys : List A) (n : ℕ) (a : A)
    (row : IsEntryRow p w (map f items)) (wide : w ≡ before.width) (same : ys ≡ items) (l : n < length ys)
    (is : a ≡ slice_index_or ys n a) where
  there : f a ≡ item_or 0 (map f ys) n
  there = ap f is ∙ sym (get_or-map f ys n a (record { column = 0; number = 0 }) l)

  put-row : IsEntryRow p before.width (map f ys)
  put-row = subst (λ u. IsEntryRow p u (map f ys)) wide (subst (λ zs. IsEntryRow p w (map f zs)) (sym same) row)

  pub put-narrow : (f a).column < before.width
  put-narrow = subst (λ x. x.column < before.width) (sym there) (put-row.narrow n (omega (arith, length-map ys f)))

  pub put-entry : (i : ℕ) (m now : Table) → i < height before → IsPutTo before i (map f ys) m n →
      now ≡ table_with_entry m i (f a).column (f a).number → IsPutTo before i (map f ys) now (n + 1)
  put-entry i m now il so_far e =
      put-next p before i (map f ys) m now n (f a).column (f a).number put-row il so_far
      (omega (arith, length-map ys f)) (ap (λ (x : Item). x.column) there) (ap (λ (x : Item). x.number) there) e

-- ---- a dense matrix
-- the first n rows of m hold the numbers of s, and the others zeros
pub record IsDenseTo (s : SparseTable) (m : Table) (n : ℕ) : Type 0 where
  pub tall : height m ≡ sparse_rows s
  pub wide : m.width ≡ s.width
  pub done : (i j : ℕ) → i < n → entry m i j ≡ number_in s i j
  pub rest : (i j : ℕ) → n ≤ i → entry m i j ≡ 0

zero-at : (w j : ℕ) → slice_index (replicate w 0) j ≡ 0
zero-at w j = elim (lt_or_past j w) [
  | inl l ↦ get_or-replicate w j 0 0 l
  | inr le ↦ get_or_past (replicate w 0) j 0 (omega (arith, length-replicate {A = ℕ} w 0))
]

zero-entry : (h w i j : ℕ) → entry (zero_table h w) i j ≡ 0
zero-entry h w i j = elim (lt_or_past i h) [
  | inl l ↦ ap (λ row. slice_index row j) (get_or-replicate h i (replicate w 0) [] l) ∙ zero-at w j
  | inr le ↦ past-row (zero_table h w) i j (omega (arith, length-replicate {A = List ℕ} h (replicate w 0)))
]

pub dense-none : (s : SparseTable) (m : Table) (h w : ℕ) → m ≡ zero_table h w → h ≡ sparse_rows s → w ≡ s.width →
    IsDenseTo s m 0
dense-none s m h w e tall wide = record {
  tall = ap height e ∙ length-replicate h (replicate w 0) ∙ tall;
  wide = ap (λ (t : Table). t.width) e ∙ wide;
  done = λ i j l. absurd (omega arith);
  rest = λ i j l. ap (λ t. entry t i j) e ∙ zero-entry h w i j;
}

pub dense-next : (s : SparseTable) (m now : Table) (n : ℕ) (row : Row) → IsDenseTo s m n → HasSameSize now m →
    ((j : ℕ) → entry now n j ≡ number_at row.items j) → ((t j : ℕ) → t ≢ n → entry now t j ≡ entry m t j) →
    ((j : ℕ) → number_at row.items j ≡ number_in s n j) → IsDenseTo s now (n + 1)
dense-next s m now n row so_far size here others is = record {
  tall = size.height_same ∙ so_far.tall;
  wide = size.width_same ∙ so_far.wide;
  done = λ i j l. elim (nat_cases i n) [
    | inl q ↦ subst (λ k. entry now k j ≡ number_in s k j) (sym q) (here j ∙ is j)
    | inr ne ↦ others i j ne ∙ so_far.done i j (omega arith)
  ];
  rest = λ i j l. others i j (λ q. omega arith) ∙ so_far.rest i j (omega arith);
}

pub dense-all : (s : SparseTable) (m : Table) (n : ℕ) → IsDenseTo s m n → sparse_rows s ≤ n → IsTableOf (sparse_rows s)
    s.width (number_in s) m
dense-all s m n made le = record {
  height_is = made.tall;
  width_is = made.wide;
  entries = λ i j il jl. made.done i j
      (omega arith);
}
