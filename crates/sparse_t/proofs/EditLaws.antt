-- Patterns whose rows and columns come and go: what is stored stays a pattern with the rows of each column beside it.
use Rattle.std.proofs.Common.{◌≡◌, ◌≢◌, ℕ, ◌+◌, ◌<◌, ◌≤◌, Bool, true, false, List, [], length, map, get_or, refl, sym, ◌∙◌, ap, subst, inl, inr, arith}
use Rattle.std.proofs.lemmas.List.{get_or-map, length-map}
use Rattle.std.proofs.lemmas.List.Edits.{length-insert, get_or-insert_at, length-remove}
use Rattle.std.specs.List.{insert, remove}
use Rattle.std.specs.List.Sorted.{IsStrictlyIncreasing}
use Rattle.limits.specs.Limits.{column_limit}
use Rattle.linear_algebra.specs.Parts.{skip, unskip}
use Rattle.residue_theory.specs.Sets.{has}
use Rattle.number_pairs.proofs.MoveLaws.{inserted_other, removed_other, skip_back, within_skip, skip_within}
use Rattle.sparse_t.specs.Lists.{AreAllBelow}
use Rattle.sparse_t.specs.Incidences.{Incidence, IsIncidence, AreRowsAt}
use Rattle.sparse_t.specs.Shelves.{ShelfLists, shelf_list, IsNumberPut, IsNumberTaken, AreListsChanged, list_put, list_taken, numbers_raised, numbers_lowered}
use Rattle.smallvec.specs.SmallVec.{SmallVec}
use Rattle.sparse_t.specs.Columns.{AreIndexed, list_items_at}
use Rattle.sparse_t.specs.Edits.{RoomyIncidence, IsRoomy}
use Rattle.sparse_t.proofs.ListLaws.{nat_cases, has-member}
use Rattle.sparse_t.proofs.ShelfLaws.{all-insert, all-remove}
use Rattle.sparse_t.proofs.NumberLaws.{skip_other, rising-skip, below-skip, has-skip, has-gap, rising-unskip, below-unskip, has-unskip}
use Rattle.sparse_t.proofs.NumberLaws.{put-rising, put-below, put-there, put-others, taken-rising, taken-below, taken-gone, taken-others}
use Rattle.sparse_t.proofs.NumberLaws.{rising-length}

module _ (rows columns : ShelfLists) (row_room column_room : ℕ) (S : IsRoomy rows columns row_room column_room) where
  raised-list : (s : ShelfLists) (v j : ℕ) → j < length s.lists → shelf_list (numbers_raised s v) j ≡ map (skip v) (shelf_list s j)
  raised-list s v j l = get_or-map (map (skip v)) s.lists j [] [] l

  lowered-list : (s : ShelfLists) (v j : ℕ) → j < length s.lists → shelf_list (numbers_lowered s v) j ≡ map (unskip v) (shelf_list s j)
  lowered-list s v j l = get_or-map (map (unskip v)) s.lists j [] [] l

  pub columns-small : (i : ℕ) → i < length columns.lists → AreAllBelow column_limit (shelf_list columns i)
  columns-small i l k kl = omega (arith, (S.rows_of i l).below k kl, S.incidence.few)

  -- a row comes
  module _ (v : ℕ) (row : List ℕ) (le : v ≤ length rows.lists) (up : IsStrictlyIncreasing row)
      (below : AreAllBelow (length columns.lists) row) (few : length rows.lists < column_limit) (room : length rows.lists < row_room)
      (wide : length columns.lists ≤ column_room) where
    pub raised-count : length (numbers_raised columns v).lists ≡ length columns.lists
    raised-count = length-map columns.lists (map (skip v))

    pub raised-rising : (j : ℕ) → j < length (numbers_raised columns v).lists → IsStrictlyIncreasing (shelf_list (numbers_raised columns v) j)
    raised-rising j l = let jl : j < length columns.lists = omega (arith, raised-count, l) in
        subst IsStrictlyIncreasing (sym (raised-list columns v j jl)) (rising-skip v (shelf_list columns j) (S.rows_of j jl).rising)

    pub raised-missing : (j : ℕ) → j < length (numbers_raised columns v).lists → has (shelf_list (numbers_raised columns v) j) v ≡ false
    raised-missing j l = let jl : j < length columns.lists = omega (arith, raised-count, l) in
        ap (λ xs. has xs v) (raised-list columns v j jl) ∙ has-gap v (shelf_list columns j)

    pub raised-room : (j : ℕ) → j < length (numbers_raised columns v).lists → length (shelf_list (numbers_raised columns v) j) < columns.width
    raised-room j l = let jl : j < length columns.lists = omega (arith, raised-count, l) in
        let A = S.rows_of j jl in
        omega (
          arith,
          ap length (raised-list columns v j jl),
          length-map (shelf_list columns j) (skip v),
          rising-length (length rows.lists) (shelf_list columns j) A.rising A.below,
          room,
          S.column_width,
        )

    pub row-fits : length row ≤ rows.width
    row-fits = omega (arith, rising-length (length columns.lists) row up below, wide, S.row_width)

    module _ (now : ShelfLists) (C : AreListsChanged (IsNumberPut v) (numbers_raised columns v).lists now.lists row) where
      pub entered-count : length now.lists ≡ length columns.lists
      entered-count = C.count ∙ raised-count

      -- what the list of a column has become
      module _ (j : ℕ) (jl : j < length columns.lists) where
        jr : j < length (numbers_raised columns v).lists
        jr = omega (arith, raised-count, jl)

        told : has row j ≡ true → IsNumberPut v (map (skip v) (shelf_list columns j)) (shelf_list now j)
        told h = subst (λ xs. IsNumberPut v xs (shelf_list now j)) (raised-list columns v j jl) (C.changed j jr h)

        kept : has row j ≡ false → shelf_list now j ≡ map (skip v) (shelf_list columns j)
        kept h = C.others j jr h ∙ raised-list columns v j jl

        entered-facts : (b : Bool) → has row j ≡ b → IsStrictlyIncreasing (shelf_list now j)
            × AreAllBelow (length rows.lists + 1) (shelf_list now j) × (has (shelf_list now j) v ≡ has row j)
            × ((k : ℕ) → has (shelf_list now j) (skip v k) ≡ has (shelf_list columns j) k)
        entered-facts true h =
            let list = shelf_list columns j in
            let A = S.rows_of j jl in (
              put-rising v (map (skip v) list) (shelf_list now j) (told h) (rising-skip v list A.rising),
              put-below v (map (skip v) list) (shelf_list now j) (told h) (length rows.lists + 1)
                  (below-skip v (length rows.lists) list A.below) (omega (arith, le)),
              put-there v (map (skip v) list) (shelf_list now j) (told h) ∙ sym h,
              λ k. put-others v (map (skip v) list) (shelf_list now j) (told h) (skip v k) (skip_other v k) ∙ has-skip v list k,
            )
        entered-facts false h =
            let list = shelf_list columns j in
            let A = S.rows_of j jl in (
              subst IsStrictlyIncreasing (sym (kept h)) (rising-skip v list A.rising),
              subst (AreAllBelow (length rows.lists + 1)) (sym (kept h)) (below-skip v (length rows.lists) list A.below),
              ap (λ xs. has xs v) (kept h) ∙ (has-gap v list ∙ sym h),
              λ k. ap (λ xs. has xs (skip v k)) (kept h) ∙ has-skip v list k,
            )

        entered-rows : AreRowsAt (record { width = length now.lists; rows = insert rows.lists v row }) j (shelf_list now j)
        entered-rows =
            let F = entered-facts (has row j) refl in
            let count = length-insert rows.lists v row le in
            record {
              rising = F.0;
              below = subst (λ n. AreAllBelow n (shelf_list now j)) (sym count) F.1;
              exact = λ i il. elim (nat_cases i v) [
                | inl q ↦ subst (λ k. has (shelf_list now j) k ≡ has (get_or (insert rows.lists v row) k []) j) (sym q)
                    (F.2 ∙ ap (λ r. has r j) (sym (get_or-insert_at rows.lists v row [] le)))
                | inr ne ↦ subst (λ k. has (shelf_list now j) k ≡ has (get_or (insert rows.lists v row) k []) j) (skip_back v i ne)
                    (F.3 (unskip v i) ∙ ((S.rows_of j jl).exact (unskip v i)
                    (within_skip v (unskip v i) (length rows.lists) le (omega (arith, skip_back v i ne, il, count)))
                    ∙ ap (λ r. has r j) (sym (inserted_other [] rows.lists v (unskip v i) row le))))
              ];
            }

      pub roomy-row_in : now.count ≡ columns.count → now.width ≡ columns.width → IsRoomy (list_put rows v row) now row_room column_room
      roomy-row_in count wide = record {
        incidence = record {
          rising = all-insert [] IsStrictlyIncreasing rows.lists v S.incidence.rising row le up;
          below = subst (λ n. (i : ℕ) → i < length (insert rows.lists v row) → AreAllBelow n (get_or (insert rows.lists v row) i []))
              (sym entered-count) (all-insert [] (AreAllBelow (length columns.lists)) rows.lists v S.incidence.below row le below);
          few = omega (arith, few, length-insert rows.lists v row le);
        };
        rows_of = λ j l. entered-rows j (omega (arith, entered-count, l));
        row_count = S.row_count;
        row_width = S.row_width;
        column_count = omega (arith, count, S.column_count);
        column_width = omega (arith, wide, S.column_width);
      }

  -- a row goes
  module _ (v : ℕ) (l : v < length rows.lists) where
    pub leaving-there : (j : ℕ) → has (shelf_list rows v) j ≡ true → has (shelf_list columns j) v ≡ true
    leaving-there j h =
        let m = has-member (shelf_list rows v) j h in
        (S.rows_of j (omega (arith, m.2, S.incidence.below v l m.0 m.1))).exact v l ∙ h

    module _ (left : ShelfLists) (C : AreListsChanged (IsNumberTaken v) columns.lists left.lists (shelf_list rows v)) where
      module _ (j : ℕ) (jl : j < length columns.lists) where
        left-facts : (b : Bool) → has (shelf_list rows v) j ≡ b → IsStrictlyIncreasing (shelf_list left j)
            × AreAllBelow (length rows.lists) (shelf_list left j) × (has (shelf_list left j) v ≡ false)
            × ((i : ℕ) → i ≢ v → has (shelf_list left j) i ≡ has (shelf_list columns j) i)
        left-facts true h =
            let T = C.changed j jl h in
            let A = S.rows_of j jl in (
              taken-rising v (shelf_list columns j) (shelf_list left j) T A.rising,
              taken-below v (shelf_list columns j) (shelf_list left j) T A.rising (length rows.lists) A.below,
              taken-gone v (shelf_list columns j) (shelf_list left j) T A.rising,
              taken-others v (shelf_list columns j) (shelf_list left j) T A.rising,
            )
        left-facts false h =
            let E = C.others j jl h in
            let A = S.rows_of j jl in (
              subst IsStrictlyIncreasing (sym E) A.rising,
              subst (AreAllBelow (length rows.lists)) (sym E) A.below,
              ap (λ xs. has xs v) E ∙ (A.exact v l ∙ h),
              λ i ne. ap (λ xs. has xs i) E,
            )

        left-rows : AreRowsAt (record { width = length (numbers_lowered left v).lists; rows = remove rows.lists v }) j
            (shelf_list (numbers_lowered left v) j)
        left-rows =
            let F = left-facts (has (shelf_list rows v) j) refl in
            let count = length-remove rows.lists v l in
            let E = lowered-list left v j (omega (arith, C.count, jl)) in
            let list = shelf_list left j in
            record {
              rising = subst IsStrictlyIncreasing (sym E) (rising-unskip v list F.2 F.0);
              below = subst (AreAllBelow (length (remove rows.lists v))) (sym E)
                  (below-unskip v list F.2 (length (remove rows.lists v)) (omega (arith, count, l))
                  (subst (λ n. AreAllBelow n list) (sym count) F.1));
              exact = λ i il. ap (λ xs. has xs i) E ∙ (has-unskip v list i F.2 ∙ (F.3 (skip v i) (skip_other v i)
                  ∙ ((S.rows_of j jl).exact (skip v i) (omega (arith, skip_within v i (length (remove rows.lists v)) il, count))
                  ∙ ap (λ r. has r j) (sym (removed_other [] rows.lists v i l)))));
            }

      pub lowered-count : length (numbers_lowered left v).lists ≡ length columns.lists
      lowered-count = length-map left.lists (map (unskip v)) ∙ C.count

      pub roomy-row_out : left.count ≡ columns.count → left.width ≡ columns.width →
          IsRoomy (list_taken rows v) (numbers_lowered left v) row_room column_room
      roomy-row_out count wide = record {
        incidence = record {
          rising = all-remove [] IsStrictlyIncreasing rows.lists v S.incidence.rising l;
          below = subst (λ n. (i : ℕ) → i < length (remove rows.lists v) → AreAllBelow n (get_or (remove rows.lists v) i []))
              (sym lowered-count) (all-remove [] (AreAllBelow (length columns.lists)) rows.lists v S.incidence.below l);
          few = omega (arith, S.incidence.few, length-remove rows.lists v l);
        };
        rows_of = λ j jl. left-rows j (omega (arith, lowered-count, jl));
        row_count = S.row_count;
        row_width = S.row_width;
        column_count = omega (arith, count, S.column_count);
        column_width = omega (arith, wide, S.column_width);
      }

  -- a column comes
  module _ (v : ℕ) (le : v ≤ length columns.lists) where
    pub rows-small : length columns.lists < column_limit → (i : ℕ) → i < length rows.lists → AreAllBelow column_limit (shelf_list rows i)
    rows-small few i l k kl = omega (arith, S.incidence.below i l k kl, few)

    rows-raised : length (numbers_raised rows v).lists ≡ length rows.lists
    rows-raised = length-map rows.lists (map (skip v))

    column-rows : (j : ℕ) → j < length (insert columns.lists v []) →
        AreRowsAt (record { width = length (insert columns.lists v []); rows = (numbers_raised rows v).lists }) j (shelf_list (list_put columns v []) j)
    column-rows j jl = elim (nat_cases j v) [
      | inl q ↦ subst (λ k. AreRowsAt (record { width = length (insert columns.lists v []); rows = (numbers_raised rows v).lists }) k
          (shelf_list (list_put columns v []) k))
          (sym q) (subst (AreRowsAt (record { width = length (insert columns.lists v []); rows = (numbers_raised rows v).lists }) v)
          (sym (get_or-insert_at columns.lists v [] [] le)) none)
      | inr ne ↦ subst (λ k. AreRowsAt (record {
        width = length (insert columns.lists v []);
        rows =
            (numbers_raised rows v).lists;
      }) k (shelf_list (list_put columns v []) k))
          (skip_back v j ne) (some (unskip v j) (within_skip v (unskip v j) (length columns.lists) le
          (omega (arith, skip_back v j ne, jl, length-insert columns.lists v [] le))))
    ]
      where
        none : AreRowsAt (record { width = length (insert columns.lists v []); rows = (numbers_raised rows v).lists }) v []
        none = record {
          rising = λ k kl. absurd (omega (arith, kl));
          below = λ k kl. absurd (omega (arith, kl));
          exact = λ i il. sym (ap (λ r. has r v) (raised-list rows v i (omega (arith, rows-raised, il))) ∙ has-gap v (shelf_list rows i));
        }

        some : (k : ℕ) → k < length columns.lists → AreRowsAt (record { width = length (insert columns.lists v []); rows = (numbers_raised rows v).lists })
            (skip v k) (shelf_list (list_put columns v []) (skip v k))
        some k kl =
            let A = S.rows_of k kl in
            subst (AreRowsAt (record { width = length (insert columns.lists v []); rows = (numbers_raised rows v).lists }) (skip v k))
            (sym (inserted_other [] columns.lists v k [] le))
            (record {
              rising = A.rising;
              below = subst (λ n. AreAllBelow n (shelf_list columns k)) (sym rows-raised) A.below;
              exact = λ i il. let here : i < length rows.lists = omega (arith, rows-raised, il) in
                  A.exact i here ∙ sym (ap (λ r. has r (skip v k)) (raised-list rows v i here) ∙ has-skip v (shelf_list rows i) k);
            })

    pub roomy-column_in : IsRoomy (numbers_raised rows v) (list_put columns v []) row_room column_room
    roomy-column_in = record {
      incidence = record {
        rising = λ i l. let here : i < length rows.lists = omega (arith, rows-raised, l) in
            subst IsStrictlyIncreasing (sym (raised-list rows v i here)) (rising-skip v (shelf_list rows i) (S.incidence.rising i here));
        below = λ i l. let here : i < length rows.lists = omega (arith, rows-raised, l) in
            subst (λ n. AreAllBelow n (shelf_list (numbers_raised rows v) i)) (sym (length-insert columns.lists v [] le))
            (subst (AreAllBelow (length columns.lists + 1)) (sym (raised-list rows v i here))
            (below-skip v (length columns.lists) (shelf_list rows i) (S.incidence.below i here)));
        few = omega (arith, rows-raised, S.incidence.few);
      };
      rows_of = column-rows;
      row_count = S.row_count;
      row_width = S.row_width;
      column_count = S.column_count;
      column_width = S.column_width;
    }

  -- a column goes
  module _ (v : ℕ) (l : v < length columns.lists) (bare : (i : ℕ) → i < length rows.lists → has (shelf_list rows i) v ≡ false) where
    rows-lowered : length (numbers_lowered rows v).lists ≡ length rows.lists
    rows-lowered = length-map rows.lists (map (unskip v))

    pub roomy-column_out : IsRoomy (numbers_lowered rows v) (list_taken columns v) row_room column_room
    roomy-column_out = record {
      incidence = record {
        rising = λ i il. let here : i < length rows.lists = omega (arith, rows-lowered, il) in
            subst IsStrictlyIncreasing (sym (lowered-list rows v i here))
            (rising-unskip v (shelf_list rows i) (bare i here) (S.incidence.rising i here));
        below = λ i il. let here : i < length rows.lists = omega (arith, rows-lowered, il) in
            let count = length-remove columns.lists v l in
            subst (AreAllBelow (length (remove columns.lists v))) (sym (lowered-list rows v i here))
            (below-unskip v (shelf_list rows i) (bare i here) (length (remove columns.lists v)) (omega (arith, count, l))
            (subst (λ n. AreAllBelow n (shelf_list rows i)) (sym count) (S.incidence.below i here)));
        few = omega (arith, rows-lowered, S.incidence.few);
      };
      rows_of = λ j jl.
          let A = S.rows_of (skip v j) (omega (arith, skip_within v j (length (remove columns.lists v)) jl, length-remove columns.lists v l)) in
          subst (AreRowsAt (record { width = length (remove columns.lists v); rows = (numbers_lowered rows v).lists }) j)
          (sym (removed_other [] columns.lists v j l))
          (record {
            rising = A.rising;
            below = subst (λ n. AreAllBelow n (shelf_list columns (skip v j))) (sym rows-lowered) A.below;
            exact = λ i il. let here : i < length rows.lists = omega (arith, rows-lowered, il) in
                A.exact i here ∙ sym (ap (λ r. has r j) (lowered-list rows v i here) ∙ has-unskip v (shelf_list rows i) j (bare i here));
          });
      row_count = S.row_count;
      row_width = S.row_width;
      column_count = S.column_count;
      column_width = S.column_width;
    }

-- a pattern after an edit, as it is seen
pub seen-edited : (rows columns : ShelfLists) (row_room column_room : ℕ) (t : RoomyIncidence) (f : Incidence → Incidence) (now later : ShelfLists) →
    record { pattern = record { width = length columns.lists; rows = rows.lists }; row_room = row_room; column_room = column_room } ≡ t →
    length later.lists ≡ (f (record { width = length columns.lists; rows = rows.lists })).width →
    now.lists ≡ (f (record { width = length columns.lists; rows = rows.lists })).rows →
    record { pattern = record { width = length later.lists; rows = now.lists }; row_room = row_room; column_room = column_room }
    ≡ record t { pattern = f t.pattern }
seen-edited rows columns row_room column_room t f now later view width told =
    ap (λ (w : ℕ). let s : RoomyIncidence = record {
      pattern = record { width = w; rows = now.lists };
      row_room = row_room;
      column_room = column_room;
    } in s) width
    ∙ (ap (λ (rs : List (List ℕ)). let s : RoomyIncidence = record {
      pattern = record {
        width = (f (record { width = length columns.lists; rows = rows.lists })).width;
        rows = rs;
      };
      row_room = row_room;
      column_room = column_room;
    } in s) told
    ∙ ap (λ (s : RoomyIncidence). let r : RoomyIncidence = record s { pattern = f s.pattern } in r) view)

-- the same lists, with more room
pub roomy-wider : (rows columns : ShelfLists) (row_room column_room : ℕ) → IsRoomy rows columns row_room column_room →
    (now later : ShelfLists) (m n : ℕ) → now.lists ≡ rows.lists → later.lists ≡ columns.lists →
    m ≤ now.count → n ≤ now.width → n ≤ later.count → m ≤ later.width → IsRoomy now later m n
roomy-wider rows columns row_room column_room S now later m n e h row_count row_width column_count column_width = record {
  incidence = subst (λ (ys : List (List ℕ)). IsIncidence (record { width = length ys; rows = now.lists })) (sym h)
      (subst (λ (xs : List (List ℕ)). IsIncidence (record { width = length columns.lists; rows = xs })) (sym e) S.incidence);
  rows_of = subst (λ (ys : List (List ℕ)). (j : ℕ) → j < length ys → AreRowsAt (record { width = length ys; rows = now.lists }) j (get_or ys j [])) (sym h)
      (subst (λ (xs : List (List ℕ)). (j : ℕ) → j < length columns.lists
      → AreRowsAt (record { width = length columns.lists; rows = xs }) j (get_or columns.lists j [])) (sym e) S.rows_of);
  row_count = row_count;
  row_width = row_width;
  column_count = column_count;
  column_width = column_width;
}

-- the lists of a pattern, with no room for more
pub roomy-open : (rows columns : List (SmallVec ℕ)) → AreIndexed rows columns → (s t : ShelfLists) →
    s ≡ record { lists = map (λ list. list.items) rows; count = 0; width = 0 } →
    t ≡ record { lists = map (λ list. list.items) columns; count = 0; width = 0 } → IsRoomy s t 0 0
roomy-open rows columns S s t e h = subst (λ (u : ShelfLists). IsRoomy s u 0 0) (sym h) (subst (λ (u : ShelfLists). IsRoomy u
    (record { lists = map (λ list. list.items) columns; count = 0; width = 0 }) 0 0) (sym e) (record {
      incidence = subst (λ n. IsIncidence (record { width = n; rows = map (λ (list : SmallVec ℕ). list.items) rows })) (sym count) S.incidence;
      rows_of = λ j l. subst
          (λ n. AreRowsAt (record { width = n; rows = map (λ (list : SmallVec ℕ). list.items) rows }) j (list_items_at columns j)) (sym count)
          (S.rows_of j (omega (arith, count, l)));
      row_count = omega arith;
      row_width = omega arith;
      column_count = omega arith;
      column_width = omega arith;
    }))
  where
    count : length (map (λ (list : SmallVec ℕ). list.items) columns) ≡ length columns
    count = length-map columns (λ (list : SmallVec ℕ). list.items)

pub rows_of-seen : (rows columns : ShelfLists) (row_room column_room : ℕ) (t : RoomyIncidence) (j : ℕ) → IsRoomy rows columns row_room column_room →
    record { pattern = record { width = length columns.lists; rows = rows.lists }; row_room = row_room; column_room = column_room } ≡ t →
    j < t.pattern.width → AreRowsAt t.pattern j (shelf_list columns j)
rows_of-seen rows columns row_room column_room t j S view l = subst (λ (u : RoomyIncidence). AreRowsAt u.pattern j (shelf_list columns j)) view
    (S.rows_of j (omega (arith, l, ap (λ (u : RoomyIncidence). u.pattern.width) view)))
