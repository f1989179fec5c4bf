-- Tables by the items of their rows.
use Rattle.std.proofs.Common.{◌≡◌, ℕ, suc, zero, ◌+◌, ◌-◌, ◌<◌, ◌≤◌, ◌≢◌, inl, inr, cond, eqb, not}
use Rattle.std.proofs.Common.{List, [], ◌∷◌, ◌++◌, take, length, map, replicate, slice_index, slice_index_or, slice_set, get_or}
use Rattle.std.proofs.Common.{refl, ap, sym, subst, ◌∙◌, arith, length-append, add-one}
use Rattle.std.specs.List.{range_with_len}
use Rattle.std.proofs.lemmas.List.{length-map, get_or-map, ext_get_or, get_or_past, length-set, get_or-set_same, get_or-set_other}
use Rattle.std.proofs.lemmas.List.{map-append, map-set, set-get_or, get_or_append_left, get_or_at, take_more, take_all, length-take-le}
use Rattle.std.proofs.lemmas.Bool.{cases_lt}
use Rattle.std.proofs.lemmas.Bool.Decides.{nat_tests}
use Rattle.residue_theory.proofs.SumLaws.{nat_cases}
use Rattle.dense_q.specs.Tables.{Table, IsMatrix, IsTableOf, AreResidues, entry, height, row_at, table_with_entry, with_last_row}
use Rattle.residue_theory.specs.Ranges.{HasNone, IsLeast}
use Rattle.row_entries.specs.Rows.{Item, has_number, number_at, item_or, EndsBefore, IsEntryRow, with_last}
use Rattle.row_entries.specs.Tables.{IsFilled, AreEntryRows, numbers_of, table_of}
use Rattle.row_entries.proofs.RowLaws.{number-before, number-last, number-here, number-below, item, pushed-row}

range-length : (a n : ℕ) → length (range_with_len a n) ≡ n
range-length a zero = refl
range-length a (suc n) = ap (λ k. suc k) (range-length (a + 1) n)

range-at : (a n i : ℕ) → i < n → get_or (range_with_len a n) i 0 ≡ a + i
range-at a zero i l = absurd (omega arith)
range-at a (suc n) zero l = omega arith
range-at a (suc n) (suc i) l = range-at (a + 1) n i (omega arith) ∙ omega arith

-- ---- the numbers of a row
pub numbers-length : (w : ℕ) (xs : List Item) → length (numbers_of w xs) ≡ w
numbers-length w xs = length-map (range_with_len 0 w) (number_at xs) ∙ range-length 0 w

numbers-below : (w : ℕ) (xs : List Item) (j : ℕ) → j < w → slice_index (numbers_of w xs) j ≡ number_at xs j
numbers-below w xs j l = get_or-map (number_at xs) (range_with_len 0 w) j 0 0 (omega (arith, range-length 0 w))
    ∙ ap (number_at xs) place
  where
    place : get_or (range_with_len 0 w) j 0 ≡ j
    place = range-at 0 w j l ∙ omega arith

pub numbers-at : (w : ℕ) (xs : List Item) (j : ℕ) → EndsBefore xs w → slice_index (numbers_of w xs) j ≡ number_at xs j
numbers-at w xs j narrow = elim (cases_lt j w) [
  | inl l ↦ numbers-below w xs j l
  | inr ge ↦ get_or_past (numbers_of w xs) j 0 (omega (arith, numbers-length w xs)) ∙ sym (number-before xs w j narrow ge)
]

pub numbers-none : (w : ℕ) → numbers_of w [] ≡ replicate w 0
numbers-none w = zeros 0 w
  where
    zeros : (a n : ℕ) → map (number_at []) (range_with_len a n) ≡ replicate n 0
    zeros a zero = refl
    zeros a (suc n) = ap (λ ys. 0 ∷ ys) (zeros (a + 1) n)

-- one number more, at a column where there was none
pub numbers-last : (w : ℕ) (xs : List Item) (c n : ℕ) → c < w → number_at xs c ≡ 0 →
    numbers_of w (with_last xs c n) ≡ slice_set (numbers_of w xs) c n
numbers-last w xs c n less none =
    ext_get_or 0 (numbers_of w (with_last xs c n)) (slice_set (numbers_of w xs) c n)
    (numbers-length w (with_last xs c n) ∙ sym (length-set (numbers_of w xs) c n ∙ numbers-length w xs))
    (λ j l. at j (omega (arith, numbers-length w (with_last xs c n))))
  where
    at : (j : ℕ) → j < w → get_or (numbers_of w (with_last xs c n)) j 0 ≡ get_or (slice_set (numbers_of w xs) c n) j 0
    at j l = elim (nat_cases j c) [
      | inl same ↦
          numbers-below w (with_last xs c n) j l ∙ number-last xs c n j
          ∙ subst (λ k. number_at xs k + cond (eqb c k) n 0 ≡ get_or (slice_set (numbers_of w xs) c n) k 0) (sym same)
          (ap (λ m. m + cond (eqb c c) n 0) none ∙ hit
          ∙ sym (get_or-set_same (numbers_of w xs) c n 0 (omega (arith, numbers-length w xs))))
      | inr ne ↦
          numbers-below w (with_last xs c n) j l ∙ number-last xs c n j ∙ miss ne (number_at xs j)
          ∙ sym (numbers-below w xs j l) ∙ sym (get_or-set_other (numbers_of w xs) c j n 0 ne)
    ]
      where
        hit : 0 + cond (eqb c c) n 0 ≡ n
        hit = grind (arith, nat_tests)

        miss : j ≢ c → (m : ℕ) → m + cond (eqb c j) n 0 ≡ m
        miss ne m = grind (arith, nat_tests)

-- ---- the table
module _ (p w : ℕ) (rows : List (List Item)) (stored : AreEntryRows p w rows) where
  pub row-is : (i : ℕ) → i < length rows → row_at (table_of w rows) i ≡ numbers_of w (slice_index_or rows i [])
  row-is i l = get_or-map (numbers_of w) rows i [] [] l

  pub row-stored : (i : ℕ) → i < length rows → IsEntryRow p w (slice_index_or rows i [])
  row-stored i l = stored.full i [] l

  pub entry-is : (i j : ℕ) → i < length rows → entry (table_of w rows) i j ≡ number_at (slice_index_or rows i []) j
  entry-is i j l = ap (λ row. slice_index row j) (row-is i l)
      ∙ numbers-at w (slice_index_or rows i []) j (row-stored i l).narrow

  pub is-matrix : IsMatrix (table_of w rows)
  is-matrix = record {
    full = λ i d l. row-long i d (omega (arith, length-map rows (numbers_of w)));
    few = omega (arith, stored.few, length-map rows (numbers_of w));
    narrow = stored.narrow;
  }
    where
      row-long : (i : ℕ) (d : List ℕ) → i < length rows → length (get_or (map (numbers_of w) rows) i d) ≡ w
      row-long i d l = ap (λ row. length row) (get_or-map (numbers_of w) rows i [] d l)
          ∙ numbers-length w (slice_index_or rows i [])

  pub are-residues : 0 < p → AreResidues p (map (numbers_of w) rows)
  are-residues positive i d l j e jl =
      subst (λ row. get_or row j e < p) (sym there)
      (subst (λ n. n < p) (sym (get_or-map (number_at xs) (range_with_len 0 w) j 0 e (omega (arith, long))))
      (number-below p xs (get_or (range_with_len 0 w) j 0) positive row.rising row.below))
    where
      xs : List Item
      xs = slice_index_or rows i []

      within : i < length rows
      within = omega (arith, length-map rows (numbers_of w))

      row : IsEntryRow p w xs
      row = row-stored i within

      there : get_or (map (numbers_of w) rows) i d ≡ numbers_of w xs
      there = get_or-map (numbers_of w) rows i [] d within

      long : j < length (range_with_len 0 w)
      long = omega (arith, ap (λ row. length row) there, length-map (range_with_len 0 w) (number_at xs))

  -- where the entries of a row are zero from a column on, its items end before it
  pub ends-before : (i c : ℕ) → i < length rows →
      ((j : ℕ) → c ≤ j → j < w → entry (table_of w rows) i j ≡ 0) → EndsBefore (slice_index_or rows i []) c
  ends-before i c l none t tl = elim (cases_lt (item_or 0 xs t).column c) [
    | inl less ↦ less
    | inr ge ↦ absurd (row.some t tl (sym (number-here xs t row.rising tl) ∙ sym (entry-is i (item_or 0 xs t).column l)
        ∙ none (item_or 0 xs t).column ge (row.narrow t tl)))
  ]
    where
      xs : List Item
      xs = slice_index_or rows i []

      row : IsEntryRow p w xs
      row = row-stored i l

  -- one entry more
  pub put-stored : (i c n : ℕ) → i < length rows → EndsBefore (slice_index_or rows i []) c → c < w → n ≢ 0 → n < p →
      AreEntryRows p w (slice_set rows i (slice_index_or rows i [] ++ item c n ∷ []))
  put-stored i c n l before less ne below = record {
    full = λ k d kl. here k d (omega (arith, length-set rows i more));
    few = omega (arith, stored.few, length-set rows i more);
    narrow = stored.narrow;
  }
    where
      more : List Item
      more = slice_index_or rows i [] ++ item c n ∷ []

      here : (k : ℕ) (d : List Item) → k < length rows → IsEntryRow p w (get_or (slice_set rows i more) k d)
      here k d kl = elim (nat_cases k i) [
        | inl same ↦ subst (λ t. IsEntryRow p w (get_or (slice_set rows i more) t d)) (sym same)
            (subst (IsEntryRow p w) (sym (get_or-set_same rows i more d l))
            (pushed-row p w (slice_index_or rows i []) c n (row-stored i l) before less ne below))
        | inr ne_i ↦ subst (IsEntryRow p w) (sym (get_or-set_other rows i k more d ne_i)) (stored.full k d kl)
      ]

  pub put-table : (i c n : ℕ) → i < length rows → EndsBefore (slice_index_or rows i []) c → c < w → n ≢ 0 →
      table_of w (slice_set rows i (slice_index_or rows i [] ++ item c n ∷ [])) ≡ table_with_entry (table_of w rows) i c n
  put-table i c n l before less ne =
      ap (λ rs. record { width = w; rows = rs })
      (map-set (numbers_of w) rows i (xs ++ item c n ∷ [])
      ∙ ap (λ row. slice_set (map (numbers_of w) rows) i row)
      (ap (numbers_of w) (sym (kept (xs ++ item c n ∷ []))) ∙ numbers-last w xs c n less (number-before xs c c before (omega arith))
      ∙ ap (λ row. slice_set row c n) (sym (row-is i l))))
    where
      xs : List Item
      xs = slice_index_or rows i []

      kept : (ys : List Item) → cond (eqb n 0) xs ys ≡ ys
      kept ys = grind (arith, nat_tests)

  -- a zero more is no change
  pub put-zero : (i c : ℕ) → i < length rows → EndsBefore (slice_index_or rows i []) c → c < w →
      table_of w rows ≡ table_with_entry (table_of w rows) i c 0
  put-zero i c l before less =
      ap (λ rs. record { width = w; rows = rs })
      (sym (set-get_or (map (numbers_of w) rows) i [])
      ∙ ap (λ row. slice_set (map (numbers_of w) rows) i row)
      (row-is i l ∙ numbers-last w xs c 0 less (number-before xs c c before (omega arith))
      ∙ ap (λ row. slice_set row c 0) (sym (row-is i l))))
    where
      xs : List Item
      xs = slice_index_or rows i []

-- ---- a row of zeros below the last one
pub added-table : (w : ℕ) (rows : List (List Item)) →
    table_of w (rows ++ [] ∷ []) ≡ with_last_row (table_of w rows) (replicate w 0)
added-table w rows = ap (λ rs. record { width = w; rows = rs })
    (map-append (numbers_of w) rows ([] ∷ []) ∙ ap (λ row. map (numbers_of w) rows ++ row ∷ []) (numbers-none w))

pub added-stored : (p w : ℕ) (rows : List (List Item)) → AreEntryRows p w rows → length rows < 8192 →
    AreEntryRows p w (rows ++ [] ∷ [])
added-stored p w rows stored room = record {
  full = λ i d l. elim (nat_cases i (length rows)) [
    | inl last ↦ subst (IsEntryRow p w) (sym (get_or_at rows [] [] d i (sym last))) none
    | inr ne ↦ subst (IsEntryRow p w) (sym (get_or_append_left rows ([] ∷ []) d i (omega (arith, length-append rows ([] ∷ [])))))
        (stored.full i d (omega (arith, length-append rows ([] ∷ []))))
  ];
  few = omega (arith, length-append rows ([] ∷ []));
  narrow = stored.narrow;
}
  where
    none : IsEntryRow p w []
    none = record {
      rising = λ i j l jl. absurd (omega arith);
      narrow = λ i l. absurd (omega arith);
      some = λ i l. absurd (omega arith);
      below = λ i l. absurd (omega arith);
    }

-- one column more
range-next : (a n : ℕ) → range_with_len a (suc n) ≡ range_with_len a n ++ (a + n) ∷ []
range-next a zero = ap (λ k. k ∷ []) (omega arith)
range-next a (suc n) = ap (λ ys. a ∷ ys) (range-next (a + 1) n ∙ ap (λ k. range_with_len (a + 1) n ++ k ∷ []) (omega arith))

pub numbers-next : (xs : List Item) (c : ℕ) → numbers_of (c + 1) xs ≡ numbers_of c xs ++ number_at xs c ∷ []
numbers-next xs c =
    ap (λ k. numbers_of k xs) (add-one c) ∙ ap (map (number_at xs)) (range-next 0 c)
    ∙ map-append (number_at xs) (range_with_len 0 c) ((0 + c) ∷ [])
    ∙ ap (λ k. numbers_of c xs ++ number_at xs k ∷ []) (omega arith)

-- a row more, which has no item
pub one_more : {V : Type 0} (f : V → List Item) (rows now : List V) (v : V) → now ≡ rows ++ v ∷ [] → f v ≡ [] →
    map f now ≡ map f rows ++ [] ∷ []
one_more f rows now v is none =
    ap (map f) is ∙ map-append f rows (v ∷ []) ∙ ap (λ xs. map f rows ++ xs ∷ []) none

-- the rows up to one more of them
pub taken-more : {V : Type 0} (f : V → List Item) (all now more : List V) (k : ℕ) (v w : V) → k < length all →
    map f now ≡ take k (map f all) → more ≡ now ++ v ∷ [] → w ≡ get_or all k w → f v ≡ f w →
    map f more ≡ take (k + 1) (map f all)
taken-more f all now more k v w l so_far is at same =
    ap (map f) is ∙ map-append f now (v ∷ []) ∙ ap (λ xs. xs ++ f v ∷ []) so_far
    ∙ ap (λ x. take k (map f all) ++ x ∷ []) (same ∙ ap f at ∙ sym (get_or-map f all k w [] l))
    ∙ sym (take_more (map f all) k [] (omega (arith, length-map all f)))

pub taken-all : {V : Type 0} (f : V → List Item) (rows all now : List V) (k : ℕ) → all ≡ rows → length all ≤ k →
    map f now ≡ take k (map f all) → map f now ≡ map f rows
taken-all f rows all now k is past so_far =
    so_far ∙ take_all k (map f all) (omega (arith, length-map all f)) ∙ ap (map f) is

pub table-more : {V : Type 0} (f : V → List Item) (w k : ℕ) (all : List V) (v : V) (m now : Table) (row : List ℕ) →
    k < length all → m ≡ table_of w (take k (map f all)) → v ≡ get_or all k v → row ≡ numbers_of w (f v) →
    now ≡ with_last_row m row → now ≡ table_of w (take (k + 1) (map f all))
table-more f w k all v m now row l so_far at is more =
    more ∙ ap (λ t. with_last_row t row) so_far
    ∙ ap (λ rs. record { width = w; rows = rs })
    (ap (λ r. map (numbers_of w) (take k (map f all)) ++ r ∷ [])
    (is ∙ ap (numbers_of w) (ap f at ∙ sym (get_or-map f all k v [] l)))
    ∙ sym (map-append (numbers_of w) (take k (map f all)) (get_or (map f all) k [] ∷ []))
    ∙ ap (map (numbers_of w)) (sym (take_more (map f all) k [] (omega (arith, length-map all f)))))

pub table-room : {V : Type 0} (f : V → List Item) (w k : ℕ) (all : List V) (m : Table) → k < length all →
    m ≡ table_of w (take k (map f all)) → height m ≡ k
table-room f w k all m l so_far =
    ap height so_far ∙ length-map (take k (map f all)) (numbers_of w)
    ∙ length-take-le k (map f all) (omega (arith, length-map all f))

pub row-kept : {V : Type 0} (f : V → List Item) (p w : ℕ) (rows all : List V) (k : ℕ) (v : V) → AreEntryRows p w (map f rows) →
    all ≡ rows → k < length all → v ≡ get_or all k v → IsEntryRow p w (f v)
row-kept f p w rows all k v stored is l at =
    subst (IsEntryRow p w) (get_or-map f rows k v [] (omega (arith, ap length is)) ∙ ap f (sym (at ∙ ap (λ vs. get_or vs k v) is)))
    (row-stored p w (map f rows) stored k (omega (arith, ap length is, length-map rows f)))

-- ---- a table whose rows are those of values of another type
module _ {V : Type 0} (f : V → List Item) (p w : ℕ) (rows : List V) (table : Table) (is : table_of w (map f rows) ≡ table)
    (stored : AreEntryRows p w (map f rows)) where
  pub height-is : height table ≡ length rows
  height-is = ap height (sym is) ∙ length-map (map f rows) (numbers_of w) ∙ length-map rows f

  width-is : table.width ≡ w
  width-is = ap (λ (t : Table). t.width) (sym is)

  there : (i : ℕ) (v : V) → i < height table → v ≡ get_or rows i v → get_or (map f rows) i [] ≡ f v
  there i v l at = get_or-map f rows i v [] (omega (arith, height-is)) ∙ ap f (sym at)

  within : (i : ℕ) → i < height table → i < length (map f rows)
  within i l = omega (arith, height-is, length-map rows f)

  pub row-of : (i : ℕ) (v : V) → i < height table → v ≡ get_or rows i v → IsEntryRow p w (f v)
  row-of i v l at = subst (IsEntryRow p w) (there i v l at) (row-stored p w (map f rows) stored i (within i l))

  pub entry-of : (i j : ℕ) (v : V) → i < height table → v ≡ get_or rows i v → entry table i j ≡ number_at (f v) j
  entry-of i j v l at = ap (λ t. entry t i j) (sym is) ∙ entry-is p w (map f rows) stored i j (within i l)
      ∙ ap (λ xs. number_at xs j) (there i v l at)

  module _ (i c : ℕ) (l : i < height table) (narrow : c < table.width)
      (none : (j : ℕ) → c ≤ j → j < table.width → entry table i j ≡ 0) where
    before : EndsBefore (get_or (map f rows) i []) c
    before = ends-before p w (map f rows) stored i c (within i l)
        (λ j le jl. ap (λ t. entry t i j) is ∙ none j le (omega (arith, width-is)))

    less : c < w
    less = omega (arith, width-is)

    pub table-zero : table ≡ table_with_entry table i c 0
    table-zero = sym is ∙ put-zero p w (map f rows) stored i c (within i l) before less ∙ ap (λ t. table_with_entry t i c 0) is

    module _ (v now : V) (at : v ≡ get_or rows i v) (n : ℕ) (ne : n ≢ 0) (e : f now ≡ f v ++ item c n ∷ []) where
      replaced : map f (slice_set rows i now) ≡ slice_set (map f rows) i (get_or (map f rows) i [] ++ item c n ∷ [])
      replaced = map-set f rows i now
          ∙ ap (slice_set (map f rows) i) (e ∙ ap (λ xs. xs ++ item c n ∷ []) (sym (there i v l at)))

      pub stored-with : n < p → AreEntryRows p w (map f (slice_set rows i now))
      stored-with below = subst (AreEntryRows p w) (sym replaced)
          (put-stored p w (map f rows) stored i c n (within i l) before less ne below)

      pub table-with : table_of w (map f (slice_set rows i now)) ≡ table_with_entry table i c n
      table-with = ap (table_of w) replaced ∙ put-table p w (map f rows) stored i c n (within i l) before less ne
          ∙ ap (λ t. table_with_entry t i c n) is

  -- a value that tells the same row
  pub rows-same : (i : ℕ) (v now : V) → i < height table → v ≡ get_or rows i v → f now ≡ f v →
      map f (slice_set rows i now) ≡ map f rows
  rows-same i v now l at e = map-set f rows i now ∙ ap (slice_set (map f rows) i) (e ∙ sym (there i v l at))
      ∙ set-get_or (map f rows) i []

  -- what is told of a row is told of the table
  module _ (i from : ℕ) where
    has-same : (v : V) → i < height table → v ≡ get_or rows i v → (j : ℕ) → not (eqb (entry table i j) 0) ≡ has_number (f v) j
    has-same v l at j = ap (λ n. not (eqb n 0)) (entry-of i j v l at)

    pub least-told : (y : ℕ) (v : V) → i < height table → v ≡ get_or rows i v →
        ((q u : ℕ) → IsEntryRow q u (f v) → IsLeast (has_number (f v)) from u y) →
        IsLeast (λ j. not (eqb (entry table i j) 0)) from table.width y
    least-told y v l at told = (let it = told p w (row-of i v l at) in record {
      from_on = it.from_on;
      before_end = omega (arith, it.before_end, width-is);
      holds = has-same v l at y ∙ it.holds;
      none_before = λ j le less. has-same v l at j ∙ it.none_before j le less;
    })

    pub none-told : (v : V) → i < height table → v ≡ get_or rows i v →
        ((q u : ℕ) → IsEntryRow q u (f v) → HasNone (has_number (f v)) from u) →
        HasNone (λ j. not (eqb (entry table i j) 0)) from table.width
    none-told v l at told j le less = has-same v l at j ∙ told p w (row-of i v l at) j le (omega (arith, width-is))

-- ---- a table that is filled place by place
pub filled-put : (old m now : Table) (i c v : ℕ) (numbers : ℕ → ℕ) → IsFilled old m i c numbers →
    i < height old → c < old.width → now ≡ table_with_entry m i c v → v ≡ numbers c → IsFilled old now i (c + 1) numbers
filled-put old m now i c v numbers so_far l cl is same = subst (λ t. IsFilled old t i (c + 1) numbers) (sym is) (record {
  size = record {
    height_same = length-set m.rows i (slice_set (row_at m i) c v) ∙ so_far.size.height_same;
    width_same = so_far.size.width_same;
  };
  long = ap length row ∙ length-set (row_at m i) c v ∙ so_far.long;
  here = λ j jl. elim (nat_cases j c) [
    | inl q ↦ ap (λ k. entry (table_with_entry m i c v) i k) q ∙ hit ∙ same ∙ ap numbers (sym q)
    | inr ne ↦ miss j ne ∙ so_far.here j (omega arith)
  ];
  rest = λ j le. miss j (λ q. omega arith) ∙ so_far.rest j (omega arith);
  others = λ k j ne. ap (λ row. slice_index row j) (get_or-set_other m.rows i k (slice_set (row_at m i) c v) [] ne)
      ∙ so_far.others k j ne;
})
  where
    row : row_at (table_with_entry m i c v) i ≡ slice_set (row_at m i) c v
    row = get_or-set_same m.rows i (slice_set (row_at m i) c v) [] (omega (arith, so_far.size.height_same))

    miss : (j : ℕ) → j ≢ c → entry (table_with_entry m i c v) i j ≡ entry m i j
    miss j ne = ap (λ r. slice_index r j) row ∙ get_or-set_other (row_at m i) c j v 0 ne

    hit : entry (table_with_entry m i c v) i c ≡ v
    hit = ap (λ r. slice_index r c) row ∙ get_or-set_same (row_at m i) c v 0 (omega (arith, so_far.long))

pub filled-none : (m : Table) (i : ℕ) (numbers : ℕ → ℕ) → IsMatrix m → i < height m → ((j : ℕ) → entry m i j ≡ 0) →
    IsFilled m m i 0 numbers
filled-none m i numbers matrix l zeros = record {
  size = record { height_same = refl; width_same = refl };
  long = matrix.full i [] l;
  here = λ j jl. absurd (omega arith);
  rest = λ j le. zeros j;
  others = λ k j ne. refl;
}

-- a row more, first zero and then filled
module _ (k w : ℕ) (a : ℕ → ℕ → ℕ) (m added : Table) (so_far : IsTableOf k w a m)
    (is : added ≡ with_last_row m (replicate m.width 0)) where
  added-height : height added ≡ k + 1
  added-height = ap height is ∙ length-append m.rows (replicate m.width 0 ∷ []) ∙ ap (λ n. n + 1) so_far.height_is

  added-width : added.width ≡ w
  added-width = ap (λ (t : Table). t.width) is ∙ so_far.width_is

  pub added-zero : (j : ℕ) → entry added (height added - 1) j ≡ 0
  added-zero j =
      ap (λ i. entry added i j) (omega (arith, added-height) ∙ sym so_far.height_is)
      ∙ ap (λ t. entry t (height m) j) is
      ∙ ap (λ r. slice_index r j) (get_or_at m.rows (replicate m.width 0) [] [] (height m) refl)
      ∙ zeros m.width j
    where
      zeros : (n j : ℕ) → slice_index (replicate n 0) j ≡ 0
      zeros zero j = refl
      zeros (suc n) zero = refl
      zeros (suc n) (suc j) = zeros n j

  pub table-next : (now : Table) → IsFilled added now (height added - 1) w (a k) → IsTableOf (k + 1) w a now
  table-next now filled = record {
    height_is = filled.size.height_same ∙ added-height;
    width_is = filled.size.width_same ∙ added-width;
    entries = λ i j il jl. elim (nat_cases i k) [
      | inl q ↦ ap (λ x. entry now x j) (q ∙ sym last) ∙ filled.here j jl ∙ ap (λ x. a x j) (sym q)
      | inr ne ↦ filled.others i j (λ q. ne (q ∙ last)) ∙ ap (λ t. entry t i j) is
          ∙ ap (λ r. slice_index r j) (get_or_append_left m.rows (replicate m.width 0 ∷ []) [] i
          (omega (arith, so_far.height_is))) ∙ so_far.entries i j (omega arith) jl
    ];
  }
    where
      last : height added - 1 ≡ k
      last = omega (arith, added-height)
