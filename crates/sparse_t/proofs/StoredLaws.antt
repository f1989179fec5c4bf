-- What is stored of a pattern.
use Rattle.std.proofs.Common.{◌≡◌, ℕ, ◌<◌, List, [], ◌∷◌, ◌++◌, length, get_or, map, sym, ◌∙◌, ap, subst, arith}
use Rattle.std.proofs.lemmas.List.{length-map, map-append}
use Rattle.std.specs.List.Sorted.{IsStrictlyIncreasing}
use Rattle.smallvec.specs.SmallVec.{SmallVec}
use Rattle.sparse_t.specs.Lists.{AreAllBelow}
use Rattle.sparse_t.specs.Incidences.{Incidence, IsIncidence, AreRowsAt, incidence_rows, columns_at, incidence_with_row}
use Rattle.sparse_t.specs.Columns.{list_items_at, HasSameItems, IsEntered, AreIndexed}
use Rattle.sparse_t.proofs.ColumnLaws.{items-read}
use Rattle.sparse_t.proofs.IncidenceLaws.{incidence-last, rows_of-last}

abbrev seen : List (SmallVec ℕ) → List (SmallVec ℕ) → Incidence
seen rows columns = record { width = length columns; rows = map (λ row. row.items) rows }

pub row-stored : (p : Incidence) (w : ℕ) (rows : List (SmallVec ℕ)) (i : ℕ) (v : SmallVec ℕ) → record { width = w; rows = map (λ row. row.items) rows } ≡ p →
    IsIncidence (record { width = w; rows = map (λ row. row.items) rows }) → i < incidence_rows p → v ≡ get_or rows i v →
    IsStrictlyIncreasing v.items × AreAllBelow p.width v.items × (columns_at p i ≡ v.items)
row-stored p w rows i v e S l r = (subst IsStrictlyIncreasing here (I.rising i l), subst (AreAllBelow p.width) here (I.below i l), here)
  where
    I : IsIncidence p
    I = subst IsIncidence e S

    within : i < length rows
    within = omega (arith, length-map rows (λ (row : SmallVec ℕ). row.items), ap incidence_rows e, l)

    here : columns_at p i ≡ v.items
    here = ap (λ q. columns_at q i) (sym e) ∙ items-read rows i v within r

pub column-stored : (p : Incidence) (rows columns : List (SmallVec ℕ)) (j : ℕ) (v : SmallVec ℕ) → record {
  width =
      length columns;
  rows = map (λ row. row.items) rows;
} ≡ p → AreIndexed rows columns → j < p.width →
    v ≡ get_or columns j v →
    AreRowsAt p j v.items
column-stored p rows columns j v e S l r =
    subst (λ q. AreRowsAt q j v.items) e
    (subst (λ ys. AreRowsAt (seen rows columns) j ys) (items-read columns j v within r) (S.rows_of j within))
  where
    within : j < length columns
    within = omega (arith, ap (λ (q : Incidence). q.width) e, l)

pub stored-kept : (rows now columns later : List (SmallVec ℕ)) → now ≡ rows → HasSameItems columns later → AreIndexed rows columns → AreIndexed now later
stored-kept rows now columns later same H S = subst (λ rs. AreIndexed rs later) (sym same) (record {
  incidence = subst IsIncidence width S.incidence;
  rows_of = λ j l. let jl : j < length columns = omega (arith, H.count, l) in
      subst (λ q. AreRowsAt q j (list_items_at later j)) width (subst (λ ys. AreRowsAt (seen rows columns) j ys) (sym (H.items j jl)) (S.rows_of j jl));
})
  where
    width : seen rows columns ≡ seen rows later
    width = ap (λ (w : ℕ). let p : Incidence = record { width = w; rows = map (λ row. row.items) rows } in p) (sym H.count)

pub stored-push : (rows now columns later : List (SmallVec ℕ)) (v : SmallVec ℕ) (row : List ℕ) (number : ℕ) →
    AreIndexed rows columns → now ≡ rows ++ v ∷ [] → v.items ≡ row → number ≡ length rows →
    IsEntered columns later row number →
    IsStrictlyIncreasing row → AreAllBelow (length columns) row → length rows < 8192 → AreIndexed now later
stored-push rows now columns later v row number S pushed held count E up below few = record {
  incidence = subst IsIncidence (sym after)
      (incidence-last (seen rows columns) row S.incidence up below
      (omega (arith, length-map rows (λ (r : SmallVec ℕ). r.items))));
  rows_of = λ j l. let jl : j < length columns = omega (arith, E.count, l) in
      subst (λ q. AreRowsAt q j (list_items_at later j)) (sym after) (rows_of-last (seen rows columns) row j (list_items_at columns j)
      (list_items_at later j) (S.rows_of j jl)
      (λ h. E.entered j jl h ∙ ap (λ n. list_items_at columns j ++ n ∷ []) number_is) (E.others j jl));
}
  where
    number_is : number ≡ incidence_rows (seen rows columns)
    number_is = count ∙ sym (length-map rows (λ (r : SmallVec ℕ). r.items))

    rows_after : map (λ (r : SmallVec ℕ). r.items) now ≡ map (λ (r : SmallVec ℕ). r.items) rows ++ row ∷ []
    rows_after = ap (map (λ (r : SmallVec ℕ). r.items)) pushed
        ∙ (map-append (λ (r : SmallVec ℕ). r.items) rows (v ∷ [])
        ∙ ap (λ r. map (λ (s : SmallVec ℕ). s.items) rows ++ r ∷ []) held)

    after : seen now later ≡ incidence_with_row (seen rows columns) row
    after = ap (λ (w : ℕ). let p : Incidence = record { width = w; rows = map (λ r. r.items) now } in p) E.count
        ∙ ap (λ (rs : List (List ℕ)). let p : Incidence = record { width = length columns; rows = rs } in p) rows_after
