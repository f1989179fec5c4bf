-- One row more.
use Rattle.std.proofs.Common.{◌≡◌, ℕ, ◌+◌, ◌<◌, Bool, true, false, ◌||◌, List, [], ◌∷◌, ◌++◌, take, nat_eq, refl, sym, ◌∙◌, ap, subst, inl}
use Rattle.std.proofs.Common.{inr, arith, length-append}
use Rattle.std.proofs.Math.ListN.{get_or-append}
use Rattle.std.proofs.Math.Seq.{get_or-append_seam}
use Rattle.std.proofs.lemmas.List.{take_more}
use Rattle.std.specs.List.Sorted.{IsStrictlyIncreasing}
use Rattle.residue_theory.specs.Sets.{has}
use Rattle.sparse_t.specs.Lists.{AreAllBelow}
use Rattle.sparse_t.specs.Incidences.{Incidence, IsIncidence, AreRowsAt, incidence_rows, columns_at, incidence_with_row}
use Rattle.sparse_t.proofs.ListLaws.{lt_cases, has-none, has-append, nat_eq-itself, nat_eq-apart, rising-append, below-append}

module _ (p : Incidence) (row : List ℕ) where
  pub row_count-last : incidence_rows (incidence_with_row p row) ≡ incidence_rows p + 1
  row_count-last = omega (arith, length-append p.rows (row ∷ []))

  row-early : (i : ℕ) → i < incidence_rows p → columns_at (incidence_with_row p row) i ≡ columns_at p i
  row-early i l = get_or-append p.rows (row ∷ []) [] i l

  row-last : (i : ℕ) → i ≡ incidence_rows p → columns_at (incidence_with_row p row) i ≡ row
  row-last i e = ap (λ k. columns_at (incidence_with_row p row) k) e ∙ get_or-append_seam p.rows row [] []

  -- what each row of p and the last one have, each row has
  each-row : (P : List ℕ → Type 0) → ((i : ℕ) → i < incidence_rows p → P (columns_at p i)) → P row → (i : ℕ) →
      i < incidence_rows (incidence_with_row p row) → P (columns_at (incidence_with_row p row) i)
  each-row P early last i l = elim (lt_cases i (incidence_rows p)) [
    | inl less ↦ subst P (sym (row-early i less)) (early i less)
    | inr ge ↦ let here : i ≡ incidence_rows p = omega (arith, row_count-last) in subst P (sym (row-last i here)) last
  ]

  pub incidence-last : IsIncidence p → IsStrictlyIncreasing row → AreAllBelow p.width row → incidence_rows p < 8192 → IsIncidence (incidence_with_row p row)
  incidence-last I up below few = record {
    rising = each-row IsStrictlyIncreasing I.rising up;
    below = each-row (AreAllBelow p.width) I.below below;
    few = omega (arith, row_count-last);
  }

  none_late : (list : List ℕ) → AreAllBelow (incidence_rows p) list → has list (incidence_rows p) ≡ false
  none_late list below = has-none list (incidence_rows p) (λ k l q. omega (arith, below k l))

  or_false : (b : Bool) → (b || false) ≡ b
  or_false true = refl
  or_false false = refl

  or_true : (b : Bool) → (b || true) ≡ true
  or_true true = refl
  or_true false = refl

  -- the rows of a column that the last row touches
  pub rows_of-touched : (j : ℕ) (list : List ℕ) → AreRowsAt p j list → has row j ≡ true → AreRowsAt (incidence_with_row p row) j (list ++ incidence_rows p ∷ [])
  rows_of-touched j list A h = record {
    rising = rising-append list (incidence_rows p) A.rising A.below;
    below = below-append (incidence_rows p) (incidence_rows (incidence_with_row p row)) list (incidence_rows p) A.below
        (omega (arith, row_count-last)) (omega (arith, row_count-last));
    exact = λ i l. elim (lt_cases i (incidence_rows p)) [
      | inl less ↦ has-append list (incidence_rows p) i
          ∙ (ap (λ b. has list i || b) (nat_eq-apart (incidence_rows p) i (λ q. omega arith))
          ∙ (or_false (has list i) ∙ (A.exact i less ∙ ap (λ r. has r j) (sym (row-early i less)))))
      | inr ge ↦ let here : i ≡ incidence_rows p = omega (arith, row_count-last) in
          has-append list (incidence_rows p) i
          ∙ (ap (λ b. has list i || b) (ap (λ k. nat_eq (incidence_rows p) k) here ∙ nat_eq-itself (incidence_rows p))
          ∙ (or_true (has list i) ∙ (sym h ∙ ap (λ r. has r j) (sym (row-last i here)))))
    ];
  }

  pub rows_of-untouched : (j : ℕ) (list : List ℕ) → AreRowsAt p j list → has row j ≡ false → AreRowsAt (incidence_with_row p row) j list
  rows_of-untouched j list A h = record {
    rising = A.rising;
    below = λ k l. omega (arith, A.below k l, row_count-last);
    exact = λ i l. elim (lt_cases i (incidence_rows p)) [
      | inl less ↦ A.exact i less ∙ ap (λ r. has r j) (sym (row-early i less))
      | inr ge ↦ let here : i ≡ incidence_rows p = omega (arith, row_count-last) in
          ap (λ k. has list k) here ∙ (none_late list A.below ∙ (sym h ∙ ap (λ r. has r j) (sym (row-last i here))))
    ];
  }

  pub rows_of-last : (j : ℕ) (list now : List ℕ) → AreRowsAt p j list →
      (has row j ≡ true → now ≡ list ++ incidence_rows p ∷ []) → (has row j ≡ false → now ≡ list) →
      AreRowsAt (incidence_with_row p row) j now
  rows_of-last j list now A touched untouched = go (has row j) refl
    where
      go : (b : Bool) → has row j ≡ b → AreRowsAt (incidence_with_row p row) j now
      go true h = subst (λ ys. AreRowsAt (incidence_with_row p row) j ys) (sym (touched h)) (rows_of-touched j list A h)
      go false h = subst (λ ys. AreRowsAt (incidence_with_row p row) j ys) (sym (untouched h)) (rows_of-untouched j list A h)

-- a copy takes the next row
pub copied-next : (p q r : Incidence) (i : ℕ) (row : List ℕ) → q ≡ record p { rows = take i p.rows } →
    r ≡ incidence_with_row q row → columns_at p i ≡ row → i < incidence_rows p → r ≡ record p { rows = take (i + 1) p.rows }
copied-next p q r i row e f g l = f
    ∙ (ap (λ m. incidence_with_row m row) e ∙ ap (λ (rs : List (List ℕ)). let m : Incidence = record p { rows = rs } in m)
    (ap (λ y. take i p.rows ++ y ∷ []) (sym g) ∙ sym (take_more p.rows i [] l)))
