-- What makes a column an end, what a move does to it, and how the marks change.
use Rattle.std.proofs.Common.{◌≡◌, ◌≢◌, ◌%◌, ◌<◌, ◌∙◌, ◌||◌, ℕ, Bool, true, false, List, Option, is_some, inl, inr, sym, ap, subst}
use Rattle.residue_theory.proofs.SetLaws.{differ, zero_cases}
use Rattle.residue_theory.proofs.SumLaws.{nat_cases}
use Rattle.sparse_t.specs.Incidences.{incidence_rows, touches}
use Rattle.bipartite_matching.specs.Matchings.{Matching}
use Rattle.row_transform.specs.Tableaus.{TableauState}
use Rattle.exchange_graph.specs.Marks.{members_of}
use Rattle.mixed_augmentation_laws.specs.Moves.{TakesRow, TakesMate}
use Rattle.mixed_matrices.specs.LayeredMatrices.{LayeredMatrix}
use Rattle.independent_matching.specs.declared.marks.Marks.{Marks}
use Rattle.independent_matching.specs.declared.resting.Resting.{Resting}
use Rattle.independent_matching.specs.declared.row.Row.{Row}
use Rattle.independent_matching.specs.Marks.{AreTouchedByRow, IsChangedAt, IsEndMark, IsQMark, IsTMark, IsTouched, marked_row}
use Rattle.independent_matching.specs.Sides.{AreRowsLeft, IsFreeQRow, in_q, layers_of, number, tableau_of_pair}

-- ---- a column takes a row
module _ (p : ℕ) (S S' : TableauState) (M M' : Matching) (v : ℕ) (below : v < S.columns) (layers : layers_of S' M' ≡ layers_of S M) (row : ℕ) where
  same_rows : S'.rows ≡ S.rows
  same_rows = ap (λ (L : LayeredMatrix). L.q_rows) layers

  same_columns : S'.columns ≡ S.columns
  same_columns = ap (λ (L : LayeredMatrix). L.columns) layers

  -- a mark that stays right, since the column has the same free Q rows
  kept-mark : (by_q : List (Option ℕ)) (x : ℕ) → ((i : ℕ) → IsFreeQRow p S x i → IsFreeQRow p S' x i) →
      ((i : ℕ) → IsFreeQRow p S' x i → IsFreeQRow p S x i) → IsQMark p S by_q x → IsQMark p S' by_q x
  kept-mark by_q x to from mark = record {
    some = λ i e. to i (mark.some i e);
    none = λ e i E. mark.none e i (from i E);
  }

  -- no pivot, and all stays
  pub mate-mark : TakesMate (layers_of S M) (tableau_of_pair S M) (tableau_of_pair S' M') row v →
      (by_q : List (Option ℕ)) (x : ℕ) → IsQMark p S by_q x → IsQMark p S' by_q x
  mate-mark K by_q x = kept-mark by_q x
      (λ i E. record {
        below = subst (λ n. i < n) (sym same_rows) E.below;
        entry = λ z. E.entry (ap (λ a. a i x % p) (sym K.entries) ∙ z);
        bare = λ b bl h e. E.bare b (subst (λ n. b < n) same_columns bl) (ap (λ B. B b) (sym K.same_base) ∙ h) (ap (λ R. R b) (sym K.same_rows) ∙ e);
      })
      (λ i E. record {
        below = subst (λ n. i < n) same_rows E.below;
        entry = λ z. E.entry (ap (λ a. a i x % p) K.entries ∙ z);
        bare = λ b bl h e. E.bare b (subst (λ n. b < n) (sym same_columns) bl) (ap (λ B. B b) K.same_base ∙ h) (ap (λ R. R b) K.same_rows ∙ e);
      })

  -- a column without an entry in the pivot's row stays, and the other rows without base stay so
  module _ (no_base : S.base v ≡ false) (K : TakesRow p (layers_of S M) (tableau_of_pair S M) (tableau_of_pair S' M') row v) where
    module _ (x : ℕ) (xl : x < S.columns) (zero : S.p row x % p ≡ 0) where
      still-free : (i : ℕ) → IsFreeQRow p S x i → IsFreeQRow p S' x i
      still-free i E = record {
        below = subst (λ n. i < n) (sym same_rows) E.below;
        entry = λ z. E.entry (sym (K.pivoted.keeps x xl zero i E.below) ∙ z);
        bare = λ b bl h e. let here : b < S.columns = subst (λ n. b < n) same_columns bl in elim (nat_cases b v) [
          | inl q ↦ other (sym e ∙ ap S'.row q ∙ K.taken.at_row)
          | inr ne ↦ let was = K.taken.only b here ne h in E.bare b here was.0 (sym was.2 ∙ e)
        ];
      }
        where
          other : i ≢ row
          other q = E.entry (subst (λ k. S.p k x % p ≡ 0) (sym q) zero)

      was-free : (i : ℕ) → IsFreeQRow p S' x i → IsFreeQRow p S x i
      was-free i E = record {
        below = here;
        entry = λ z. E.entry (K.pivoted.keeps x xl zero i here ∙ z);
        bare = λ b bl h e.
            let apart : b ≢ v = λ q. differ (subst (λ y. S.base y ≡ false) (sym q) no_base) h in
            let kept : S'.base b ≡ true = K.taken.kept b bl apart h (λ q. other (sym e ∙ q)) in
            E.bare b (subst (λ n. b < n) (sym same_columns) bl) kept ((K.taken.only b bl apart kept).2 ∙ e);
      }
        where
          here : i < S.rows
          here = subst (λ n. i < n) same_rows E.below

          other : i ≢ row
          other q = E.bare v (subst (λ n. v < n) (sym same_columns) below) K.taken.member (K.taken.at_row ∙ sym q)

    pub untouched-mark : (by_q : List (Option ℕ)) (m : Marks) → AreTouchedByRow p S m row → (x : ℕ) →
        x < S.columns → (IsTouched m x → ⊥) → IsQMark p S by_q x → IsQMark p S' by_q x
    untouched-mark by_q m A x l none mark = elim (zero_cases (S.p row x % p)) [
      | inl zero ↦ kept-mark by_q x (still-free x l zero) (was-free x l zero) mark
      | inr entry ↦ absurd (none (A x l entry))
    ]

-- ---- the marks for T after a walk
module _ (S S' : TableauState) (M M' : Matching) (layers : layers_of S' M' ≡ layers_of S M) (end : Row) (rows : AreRowsLeft M M' end) where
  same_height : incidence_rows M'.pattern ≡ incidence_rows M.pattern
  same_height = ap (λ (L : LayeredMatrix). L.t_rows) layers

  same_touches : (i x : ℕ) → touches M'.pattern i x ≡ touches M.pattern i x
  same_touches i x = ap (λ (L : LayeredMatrix). L.t i x) layers

  pub left-mark : (by_t : List Bool) (x : ℕ) → IsTMark M by_t x → (in_q end ≡ false → touches M'.pattern (number end) x ≡ false) → IsTMark M' by_t x
  left-mark by_t x mark apart = record {
    some = λ h. let (i, E) = mark.some h in (
      i,
      record {
        below = subst (λ n. i < n) (sym same_height) E.below;
        touching = same_touches i x ∙ E.touching;
        loose = (rows i).1 (
          E.loose,
          λ e. differ (subst (λ k. touches M'.pattern k x ≡ false) (ap number e)
              (apart (ap in_q e))) (same_touches i x ∙ E.touching),
        );
      },
    );
    none = λ h i E. mark.none h i (record {
      below = subst (λ n. i < n) same_height E.below;
      touching = sym (same_touches i x) ∙ E.touching;
      loose = ((rows i).0 E.loose).0;
    });
  }

pub same-q : (p : ℕ) (S : TableauState) (by_q now : List (Option ℕ)) (x : ℕ) → marked_row now x ≡ marked_row by_q x → IsQMark p S by_q x → IsQMark p S now x
same-q p S by_q now x e mark = record { some = λ i h. mark.some i (sym e ∙ h); none = λ h. mark.none (sym e ∙ h) }

-- ---- one column's marks change
module _ (r r' : Resting) (m now : Marks) (x : ℕ) (C : IsChangedAt r r' m now x) (y : ℕ) (ne : y ≢ x) where
  pub other-end : IsEndMark r m y → IsEndMark r' now y
  other-end h = C.ends y ne ∙ h ∙ ap (λ t. t || is_some (marked_row m.by_q.items y)) (sym (C.by_t y ne))
      ∙ ap (λ o. members_of r'.by_t.items y || is_some o) (sym (C.by_q y ne))

  pub other-t : (M : Matching) → IsTMark M r.by_t.items y → IsTMark M r'.by_t.items y
  other-t M mark = record {
    some = λ h. mark.some (sym (C.by_t y ne) ∙ h);
    none = λ h. mark.none (sym (C.by_t y ne) ∙ h);
  }

  pub other-q : (p : ℕ) (S : TableauState) → IsQMark p S m.by_q.items y → IsQMark p S now.by_q.items y
  other-q p S = same-q p S m.by_q.items now.by_q.items y (C.by_q y ne)
