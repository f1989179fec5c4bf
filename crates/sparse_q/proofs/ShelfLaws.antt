-- Rows that change one after another, rows that are put beside others, and the room that is kept for them.
use Rattle.std.proofs.Common.{◌≡◌, ℕ, ◌+◌, ◌-◌, ◌<◌, ◌≤◌, suc, zero, inl, inr, Some, List, [], ◌∷◌, ◌++◌, length, map, take}
use Rattle.std.proofs.Common.{drop, slice_index_or, slice_set, refl, ap, sym, subst, ◌∙◌, arith, length-append}
use Rattle.std.specs.List.{All, insert, remove, swap}
use Rattle.std.proofs.lemmas.List.{length-map, length-set, get_or-map, get_or-set_same, get_or-set_other, get_or_default, get_or_past, ext_get_or}
use Rattle.std.proofs.lemmas.List.Elements.{All-append, All-cons, All-drop, All-map, All-pop, All-push, All-set, All-take}
use Rattle.std.proofs.lemmas.List.Edits.{length-swap}
use Rattle.residue_theory.proofs.SumLaws.{nat_cases}
use Rattle.sparse_q.specs.Rows.{Row, AreRowsChanged, IsRowCut, IsRowWidened, number_at, row_raised, columns_raised}
use Rattle.linear_algebra.specs.Parts.{skip}
use Rattle.sparse_q.specs.Storage.{AreSparseRows, HasShelf}
use Rattle.sparse_q.specs.Tables.{SparseTable, IsColumnTaken}
use Rattle.sparse_q.proofs.RowLaws.{lt_or_past}
use Rattle.sparse_q.proofs.TableLaws.{roomy_table}

-- ---- rows that change one after another
-- the first n of the rows have changed so, and the others are as they were
pub record AreChangedTo (Changes : Row → Row → Type 0) (rows now : List Row) (n : ℕ) : Type 0 where
  pub count : length now ≡ length rows
  pub done : (i : ℕ) (d : Row) → i < n → i < length rows → Changes (slice_index_or rows i d) (slice_index_or now i d)
  pub rest : (i : ℕ) (d : Row) → n ≤ i → slice_index_or now i d ≡ slice_index_or rows i d

pub changed-none : (Changes : Row → Row → Type 0) (rows : List Row) → AreChangedTo Changes rows rows 0
changed-none Changes rows = record { count = refl; done = λ i d l. absurd (omega (arith, l)); rest = λ i d le. refl }

pub changed-next : (Changes : Row → Row → Type 0) (rows now : List Row) (n : ℕ) (e new : Row) → AreChangedTo Changes rows now n →
    n < length now → Changes (slice_index_or now n e) new → AreChangedTo Changes rows (slice_set now n new) (n + 1)
changed-next Changes rows now n e new so_far l change = record {
  count = length-set now n new ∙ so_far.count;
  done = λ i d less il. elim (nat_cases i n) [
    | inl q ↦ subst (λ k. Changes (slice_index_or rows k d) (slice_index_or (slice_set now n new) k d)) (sym q)
        (subst (Changes (slice_index_or rows n d)) (sym (get_or-set_same now n new d l))
        (subst (λ r. Changes r new) (get_or_default now n e d l ∙ so_far.rest n d (omega arith)) change))
    | inr ne ↦ subst (Changes (slice_index_or rows i d)) (sym (get_or-set_other now n i new d ne))
        (so_far.done i d (omega (arith, less, ne)) il)
  ];
  rest = λ i d le. get_or-set_other now n i new d (λ q. omega (arith, le, q)) ∙ so_far.rest i d (omega (arith, le));
}

pub changed-all : (Changes : Row → Row → Type 0) (rows now : List Row) (n : ℕ) → AreChangedTo Changes rows now n → length rows ≤ n →
    AreRowsChanged Changes rows now
changed-all Changes rows now n so_far le = record {
  count = so_far.count;
  changed = λ i d l. so_far.done i d (omega (arith, l, le)) l;
}

-- rows of which each is a function of what it was
pub changed-map : (f : Row → Row) (rows now : List Row) → AreRowsChanged (λ r s. s ≡ f r) rows now → now ≡ map f rows
changed-map f rows now changed = ext_get_or (record { width = 0; room = 0; items = [] }) now (map f rows)
    (changed.count ∙ sym (length-map rows f))
    (λ i l. let low : i < length rows = omega (arith, l, changed.count) in
    changed.changed i (record { width = 0; room = 0; items = [] }) low
    ∙ sym (get_or-map f rows i (record { width = 0; room = 0; items = [] }) (record { width = 0; room = 0; items = [] }) low))

-- ---- rows with more room
pub widened-one : (r : Row) → IsRowWidened r r
widened-one r = record { width_same = refl; items_same = refl; room_more = omega arith }

pub widened-items : (rows now : List Row) → AreRowsChanged IsRowWidened rows now → map (λ (r : Row). r.items) now ≡ map (λ (r : Row). r.items) rows
widened-items rows now changed = ext_get_or [] (map (λ (r : Row). r.items) now) (map (λ (r : Row). r.items) rows)
    (length-map now (λ (r : Row). r.items) ∙ changed.count ∙ sym (length-map rows (λ (r : Row). r.items)))
    (λ i l. let low : i < length rows = omega (arith, l, changed.count, length-map now (λ (r : Row). r.items)) in
    get_or-map (λ (r : Row). r.items) now i none [] (omega (arith, low, changed.count))
    ∙ (changed.changed i none low).items_same ∙ sym (get_or-map (λ (r : Row). r.items) rows i none [] low))
  where
    none : Row
    none = record { width = 0; room = 0; items = [] }

widened-each : (P Q : Row → Type 0) (rows now : List Row) → AreRowsChanged IsRowWidened rows now →
    ((r s : Row) → IsRowWidened r s → P r → Q s) → All P rows → All Q now
widened-each P Q rows now changed more all = λ i d l.
    let low : i < length rows = omega (arith, l, changed.count) in
    more (slice_index_or rows i d) (slice_index_or now i d) (changed.changed i d low) (all i d low)

pub widened-widths : (w : ℕ) (rows now : List Row) → AreRowsChanged IsRowWidened rows now → All (λ (r : Row). r.width ≡ w) rows →
    All (λ (r : Row). r.width ≡ w) now
widened-widths w rows now changed = widened-each (λ (r : Row). r.width ≡ w) (λ (r : Row). r.width ≡ w) rows now changed
    (λ r s more same. more.width_same ∙ same)

pub widened-rooms : (w : ℕ) (rows now : List Row) → AreRowsChanged IsRowWidened rows now → All (λ (r : Row). w ≤ r.room) rows →
    All (λ (r : Row). w ≤ r.room) now
widened-rooms w rows now changed = widened-each (λ (r : Row). w ≤ r.room) (λ (r : Row). w ≤ r.room) rows now changed
    (λ r s more wide. omega (arith, wide, more.room_more))

-- ---- the rows of a matrix, and its shelf
all-insert : (P : Row → Type 0) (rows : List Row) (i : ℕ) (row : Row) → All P rows → P row → All P (insert rows i row)
all-insert P rows i row all new = All-append P (take i rows) (row ∷ drop i rows) (All-take P i rows all)
    (All-cons P row (drop i rows) new (All-drop P i rows all))

all-remove : (P : Row → Type 0) (rows : List Row) (i : ℕ) → All P rows → All P (remove rows i)
all-remove P rows i all = All-append P (take i rows) (drop (suc i) rows) (All-take P i rows all) (All-drop P (suc i) rows all)

insert-length : (rows : List Row) (i : ℕ) (row : Row) → i ≤ length rows → length (insert rows i row) ≡ length rows + 1
insert-length rows zero row l = omega arith
insert-length [] (suc i) row l = absurd (omega (arith, l))
insert-length (r ∷ rows) (suc i) row l = let e : length (insert rows i row) ≡ length rows + 1 = insert-length rows i row (omega (arith, l)) in omega (arith, e)

remove-length : (rows : List Row) (i : ℕ) → i < length rows → length (remove rows i) + 1 ≡ length rows
remove-length [] i l = absurd (omega (arith, l))
remove-length (r ∷ rows) zero l = omega arith
remove-length (r ∷ rows) (suc i) l = let e : length (remove rows i) + 1 ≡ length rows = remove-length rows i (omega (arith, l)) in omega (arith, e)

module _ (w spare_width spare row_room column_room capacity shelf_capacity : ℕ) (rows shelf : List Row)
    (stored : AreSparseRows w rows spare_width × HasShelf rows shelf spare row_room column_room capacity shelf_capacity) where
  pub row-in : (at : ℕ) (new rest : List Row) (old row : Row) (more shelf_more : ℕ) → at ≤ length rows → length rows < 8192 →
      new ≡ insert rows at row → shelf ≡ rest ++ old ∷ [] → row.width ≡ w → row.room ≡ old.room → capacity ≤ more → shelf_capacity ≤ shelf_more →
      AreSparseRows w new spare_width × HasShelf new rest spare row_room column_room more shelf_more
  row-in at new rest old row more shelf_more le few is popped wide roomy wider shelf_wider = (
    record {
      full = subst (All (λ (r : Row). r.width ≡ w)) (sym is) (all-insert (λ (r : Row). r.width ≡ w) rows at row stored.0.full wide);
      spare_full = stored.0.spare_full;
      few = omega (arith, few, ap (λ rs. length rs) is, insert-length rows at row le);
      narrow = stored.0.narrow;
    },
    record {
      rows_wide = subst (All (λ (r : Row). column_room ≤ r.room)) (sym is)
          (all-insert (λ (r : Row). column_room ≤ r.room) rows at row stored.1.rows_wide
          (omega (arith, roomy, parts.1)));
      shelf_wide = parts.0;
      spare_wide = stored.1.spare_wide;
      few = stored.1.few;
      enough = omega (
        arith,
        stored.1.enough,
        ap (λ rs. length rs) is,
        insert-length rows at row le,
        ap (λ rs. length rs) popped,
        length-append rest (old ∷ []),
      );
      rows_fit = omega (arith, stored.1.rows_fit, wider);
      shelf_fits = omega (arith, stored.1.shelf_fits, shelf_wider);
    },
  )
    where
      parts : All (λ (r : Row). column_room ≤ r.room) rest × (column_room ≤ old.room)
      parts = All-pop (λ (r : Row). column_room ≤ r.room) shelf rest (Some old) popped stored.1.shelf_wide

  left : (at : ℕ) (new : List Row) → at < length rows → new ≡ remove rows at → AreSparseRows w new spare_width
  left at new l is = record {
    full = subst (All (λ (r : Row). r.width ≡ w)) (sym is) (all-remove (λ (r : Row). r.width ≡ w) rows at stored.0.full);
    spare_full = stored.0.spare_full;
    few = omega (arith, stored.0.few, ap (λ rs. length rs) is, remove-length rows at l);
    narrow = stored.0.narrow;
  }

  pub row-out : (at : ℕ) (new kept : List Row) (row : Row) (more shelf_more : ℕ) → at < length rows → new ≡ remove rows at →
      row ≡ slice_index_or rows at row → kept ≡ shelf ++ row ∷ [] → capacity ≤ more → shelf_capacity ≤ shelf_more →
      AreSparseRows w new spare_width × HasShelf new kept spare row_room column_room more shelf_more
  row-out at new kept row more shelf_more l is row_is put wider shelf_wider = (
    left at new l is,
    record {
      rows_wide = subst (All (λ (r : Row). column_room ≤ r.room)) (sym is) (all-remove (λ (r : Row). column_room ≤ r.room) rows at stored.1.rows_wide);
      shelf_wide = subst (All (λ (r : Row). column_room ≤ r.room)) (sym put)
          (All-push (λ (r : Row). column_room ≤ r.room) shelf row stored.1.shelf_wide
          (subst (λ (r : Row). column_room ≤ r.room) (sym row_is) (stored.1.rows_wide at row l)));
      spare_wide = stored.1.spare_wide;
      few = stored.1.few;
      enough = omega (arith, stored.1.enough, ap (λ rs. length rs) is, remove-length rows at l, ap (λ rs. length rs) put, length-append shelf (row ∷ []));
      rows_fit = omega (arith, stored.1.rows_fit, wider);
      shelf_fits = omega (arith, stored.1.shelf_fits, shelf_wider);
    },
  )

  pub row-gone : (at : ℕ) (new : List Row) (more : ℕ) → at < length rows → new ≡ remove rows at → row_room ≤ length shelf → capacity ≤ more →
      AreSparseRows w new spare_width × HasShelf new shelf spare row_room column_room more shelf_capacity
  row-gone at new more l is full wider = (
    left at new l is,
    record {
      rows_wide = subst (All (λ (r : Row). column_room ≤ r.room)) (sym is) (all-remove (λ (r : Row). column_room ≤ r.room) rows at stored.1.rows_wide);
      shelf_wide = stored.1.shelf_wide;
      spare_wide = stored.1.spare_wide;
      few = stored.1.few;
      enough = omega (arith, full);
      rows_fit = omega (arith, stored.1.rows_fit, wider);
      shelf_fits = stored.1.shelf_fits;
    },
  )

  pub column-in : (at wide_now room_now : ℕ) (new : List Row) → new ≡ map (row_raised at) rows → w < 8192 → wide_now ≡ w + 1 →
      room_now ≡ spare →
      AreSparseRows (w + 1) new wide_now × HasShelf new shelf room_now row_room column_room capacity shelf_capacity
  column-in at wide_now room_now new is narrow wide roomy = (
    record {
      full = subst (All (λ (r : Row). r.width ≡ w + 1)) (sym is) (All-map (λ (r : Row). r.width ≡ w + 1) (row_raised at) rows
          (λ i d l. ap (λ n. n + 1) (stored.0.full i d l)));
      spare_full = wide;
      few = omega (arith, stored.0.few, ap (λ rs. length rs) is, length-map rows (row_raised at));
      narrow = omega (arith, narrow);
    },
    record {
      rows_wide = subst (All (λ (r : Row). column_room ≤ r.room)) (sym is)
          (All-map (λ (r : Row). column_room ≤ r.room) (row_raised at) rows stored.1.rows_wide);
      shelf_wide = stored.1.shelf_wide;
      spare_wide = omega (arith, stored.1.spare_wide, roomy);
      few = stored.1.few;
      enough = omega (arith, stored.1.enough, ap (λ rs. length rs) is, length-map rows (row_raised at));
      rows_fit = stored.1.rows_fit;
      shelf_fits = stored.1.shelf_fits;
    },
  )

  pub column-out : (at wide_now room_now : ℕ) (new : List Row) → AreRowsChanged (IsRowCut at) rows new → at < w → wide_now ≡ w - 1 →
      room_now ≡ spare →
      AreSparseRows (w - 1) new wide_now × HasShelf new shelf room_now row_room column_room capacity shelf_capacity
  column-out at wide_now room_now new cut inside wide roomy = (
    record {
      full = λ i d l.
          let low : i < length rows = omega (arith, l, cut.count) in
          let one = cut.changed i d low in
          omega (arith, one.width_less, stored.0.full i d low);
      spare_full = wide;
      few = omega (arith, stored.0.few, cut.count);
      narrow = omega (arith, stored.0.narrow);
    },
    record {
      rows_wide = λ i d l.
          let low : i < length rows = omega (arith, l, cut.count) in
          let one = cut.changed i d low in
          omega (arith, one.room_same, stored.1.rows_wide i d low);
      shelf_wide = stored.1.shelf_wide;
      spare_wide = omega (arith, stored.1.spare_wide, roomy);
      few = stored.1.few;
      enough = omega (arith, stored.1.enough, cut.count);
      rows_fit = stored.1.rows_fit;
      shelf_fits = stored.1.shelf_fits;
    },
  )

  pub roomier : (new kept : List Row) (wide_now now rows_now columns_now more shelf_more : ℕ) → AreRowsChanged IsRowWidened rows new → wide_now ≡ spare_width →
      All (λ (r : Row). columns_now ≤ r.room) new → All (λ (r : Row). columns_now ≤ r.room) kept → columns_now ≤ now → columns_now ≤ 8192 →
      rows_now ≤ length new + length kept → rows_now ≤ more → rows_now ≤ shelf_more →
      AreSparseRows w new wide_now × HasShelf new kept now rows_now columns_now more shelf_more
  roomier new kept wide_now now rows_now columns_now more shelf_more changed same_width wide shelf_wide spare_wide few enough fit shelf_fit = (
    record {
      full = widened-widths w rows new changed stored.0.full;
      spare_full = same_width ∙ stored.0.spare_full;
      few = omega (arith, stored.0.few, changed.count);
      narrow = stored.0.narrow;
    },
    record { rows_wide = wide; shelf_wide = shelf_wide; spare_wide = spare_wide; few = few; enough = enough; rows_fit = fit; shelf_fits = shelf_fit },
  )

pub raised-items-of : (v : ℕ) (rows : List Row) →
    map (λ (r : Row). r.items) (map (row_raised v) rows) ≡ map (columns_raised v) (map (λ (r : Row). r.items) rows)
raised-items-of v [] = refl
raised-items-of v (r ∷ rows) = ap (λ xs. columns_raised v r.items ∷ xs) (raised-items-of v rows)

-- what is left of a matrix without a column
pub column-taken : (w o v : ℕ) (rows new : List Row) (m : SparseTable) (at : ℕ) → roomy_table w rows o v ≡ m → at < w →
    AreRowsChanged (IsRowCut at) rows new → IsColumnTaken m (roomy_table (w - 1) new o v) at
column-taken w o v rows new m at view inside cut = subst (λ t. IsColumnTaken t (roomy_table (w - 1) new o v) at) view (record {
  rows_same = length-map new (λ (r : Row). r.items) ∙ cut.count ∙ sym (length-map rows (λ (r : Row). r.items));
  width_less = omega (arith, inside);
  row_room = refl;
  column_room = refl;
  numbers = λ i j. elim (lt_or_past i (length rows)) [
    | inl low ↦
        ap (λ xs. number_at xs j) (get_or-map (λ (r : Row). r.items) new i none [] (omega (arith, low, cut.count)))
        ∙ (cut.changed i none low).numbers j
        ∙ ap (λ xs. number_at xs (skip at j)) (sym (get_or-map (λ (r : Row). r.items) rows i none [] low))
    | inr le ↦
        ap (λ xs. number_at xs j) (get_or_past (map (λ (r : Row). r.items) new) i [] (omega (arith, le, cut.count, length-map new (λ (r : Row). r.items))))
        ∙ ap (λ xs. number_at xs (skip at j))
        (sym (get_or_past (map (λ (r : Row). r.items) rows) i [] (omega (arith, le, length-map rows (λ (r : Row). r.items)))))
  ];
})
  where
    none : Row
    none = record { width = 0; room = 0; items = [] }

-- ---- rows in each other's place
all-swap : (P : Row → Type 0) (xs : List Row) (i j : ℕ) → i < length xs → j < length xs → All P xs → All P (swap xs i j)
all-swap P [] i j il jl h = h
all-swap P (d ∷ ys) i j il jl h = All-set P (slice_set (d ∷ ys) i (slice_index_or (d ∷ ys) j d)) j
    (slice_index_or (d ∷ ys) i d) (h i d il) (All-set P (d ∷ ys) i (slice_index_or (d ∷ ys) j d) (h j d jl) h)

pub rows-swapped : (w spare_width spare row_room column_room capacity shelf_capacity more : ℕ) (rows shelf new : List Row) (i k : ℕ) →
    i < length rows → k < length rows → new ≡ swap rows i k → capacity ≤ more →
    AreSparseRows w rows spare_width × HasShelf rows shelf spare row_room column_room capacity shelf_capacity →
    AreSparseRows w new spare_width × HasShelf new shelf spare row_room column_room more shelf_capacity
rows-swapped w spare_width spare row_room column_room capacity shelf_capacity more rows shelf new i k il kl is wider stored = (
  record {
    full = subst (All (λ (r : Row). r.width ≡ w)) (sym is) (all-swap (λ (r : Row). r.width ≡ w) rows i k il kl stored.0.full);
    spare_full = stored.0.spare_full;
    few = omega (arith, count, stored.0.few);
    narrow = stored.0.narrow;
  },
  record {
    rows_wide = subst (All (λ (r : Row). column_room ≤ r.room)) (sym is)
        (all-swap (λ (r : Row). column_room ≤ r.room) rows i k il kl stored.1.rows_wide);
    shelf_wide = stored.1.shelf_wide;
    spare_wide = stored.1.spare_wide;
    few = stored.1.few;
    enough = omega (arith, count, stored.1.enough);
    rows_fit = omega (arith, stored.1.rows_fit, wider);
    shelf_fits = stored.1.shelf_fits;
  },
)
  where
    count : length new ≡ length rows
    count = ap (λ rs. length rs) is ∙ length-swap rows i k
