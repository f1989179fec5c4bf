-- Edits of a pair one after another: where the next row or column stands.
use Rattle.std.proofs.Common.{◌≡◌, ℕ, ◌+◌, ◌-◌, ◌%◌, ◌<◌, ◌≤◌, true, Option, Some, None, IfSome, refl, ap, sym, subst, ◌∙◌, ◌⊎◌, inl, inr, arith}
use Rattle.residue_theory.proofs.SetLaws.{lt_cases}
use Rattle.linear_algebra.specs.Parts.{skip}
use Rattle.linear_algebra_laws.proofs.SkipLaws.{skip-first, skip-later}
use Rattle.sparse_t.specs.Incidences.{incidence_rows}
use Rattle.bipartite_matching.specs.Matchings.{Matching}
use Rattle.row_transform.specs.Tableaus.{TableauState}
use Rattle.mixed_matrices.specs.LayeredMatrices.{AreSameLayers, LayeredMatrix}
use Rattle.mixed_edit_laws.specs.Changes.{IsWiderLayers}
use Rattle.mixed_edit_laws.specs.Removed.{IsEmptyColumnOut}
use Rattle.mixed_edit_laws.specs.Rests.{column_rest}
use Rattle.row_transform.specs.Edits.{Room}
use Rattle.independent_matching.specs.declared.places.EquationPlaces.{EquationPlaces}
use Rattle.independent_matching.specs.Edits.{HasPairRoom, IsColumnOutAt, IsEdited, IsEmptyColumnAt, IsQRowOutAt, IsThinned, IsTRowOutAt, IsWidened, KeepsRoom}

-- ---- where rows stand that go
module _ (p : ℕ) (least : ℕ) (S : TableauState) (M : Matching) where
  pub q-at : (at : Option ℕ) (L K : LayeredMatrix) → IsQRowOutAt p at L K → IsEdited p L least S M → IfSome at (λ row. row < S.rows)
  q-at None L K out E = tt
  q-at (Some e) L K out E = omega (arith, out.below, E.same.q_rows)

  pub t-at : (at : Option ℕ) (L K : LayeredMatrix) → IsTRowOutAt p at L K → IsEdited p L least S M → IfSome at (λ row. row < incidence_rows M.pattern)
  t-at None L K out E = tt
  t-at (Some e) L K out E = omega (arith, out.below, E.same.t_rows)

  pub column-at : (at : Option ℕ) (L K : LayeredMatrix) → IsColumnOutAt p at L K → IsEdited p L least S M → IfSome at (IsEmptyColumnAt p S M)
  column-at None L K out E = tt
  column-at (Some v) L K out E = record {
    below = vl;
    q = λ i il. E.same.q i v il vl ∙ out.q_zero i (subst (λ n. i < n) E.same.q_rows il);
    t = λ i il. E.same.t i v il vl ∙ out.t_none i (subst (λ n. i < n) E.same.t_rows il);
  }
    where
      vl : v < S.columns
      vl = omega (arith, out.below, E.same.columns)

-- T without a Q row
kept-t : (p : ℕ) (at : Option ℕ) (L K : LayeredMatrix) → IsQRowOutAt p at L K → (i j : ℕ) → i < L.t_rows → j < L.columns → K.t i j ≡ L.t i j
kept-t p None L K out i j il jl = sym (out.t i j il jl)
kept-t p (Some e) L K out i j il jl = out.t i j il jl

-- ---- sizes of a matrix with a row or a column more
pub q-count : (p : ℕ) (at : Option ℕ) (L K : LayeredMatrix) → IsQRowOutAt p at L K →
    IfSome at (λ e. (e ≤ K.q_rows) × (K.q_rows + 1 ≡ L.q_rows)) × (K.q_rows ≤ L.q_rows) × (K.t_rows ≡ L.t_rows) × (K.columns ≡ L.columns)
q-count p None L K out = (tt, omega (arith, out.q_rows), sym out.t_rows, sym out.columns)
q-count p (Some e) L K out = ((omega (arith, out.below, out.q_rows), out.q_rows), omega (arith, out.q_rows), out.t_rows, out.columns)

pub t-count : (p : ℕ) (at : Option ℕ) (L K : LayeredMatrix) → IsTRowOutAt p at L K →
    IfSome at (λ e. (e ≤ K.t_rows) × (K.t_rows + 1 ≡ L.t_rows)) × (K.t_rows ≤ L.t_rows) × (K.q_rows ≡ L.q_rows) × (K.columns ≡ L.columns)
t-count p None L K out = (tt, omega (arith, out.t_rows), sym out.q_rows, sym out.columns)
t-count p (Some e) L K out = ((omega (arith, out.below, out.t_rows), out.t_rows), omega (arith, out.t_rows), out.q_rows, out.columns)

pub column-count : (p : ℕ) (at : Option ℕ) (L K : LayeredMatrix) → IsColumnOutAt p at L K →
    IfSome at (λ v. (v ≤ K.columns) × (K.columns + 1 ≡ L.columns)) × (K.columns ≤ L.columns) × (K.q_rows ≡ L.q_rows) × (K.t_rows ≡ L.t_rows)
column-count p None L K out = (tt, omega (arith, out.columns), sym out.q_rows, sym out.t_rows)
column-count p (Some v) L K out = ((omega (arith, out.below, out.columns), out.columns), omega (arith, out.columns), out.q_rows, out.t_rows)

-- ---- columns between the unknowns and the auxiliary ones
pub layers-widened : (p : ℕ) (L K : LayeredMatrix) (u w : ℕ) → IsWiderLayers L K u w → (0 % p ≡ 0) → IsWidened p L K u w
layers-widened p L K u w W zero_is = record {
  q_rows = W.q_rows;
  t_rows = W.t_rows;
  columns = W.columns;
  q = λ i j il jl. ap (λ x. x % p) (W.q i j il jl);
  t = W.t;
  q_behind = λ i k il kl. ap (λ x. x % p) (W.q_auxiliary i k il kl);
  t_behind = W.t_auxiliary;
  q_empty = λ i j il ul jl. ap (λ x. x % p) (W.q_empty i j il ul jl) ∙ zero_is;
  t_empty = W.t_empty;
}

pub widened-start : (p : ℕ) (L K : LayeredMatrix) (u : ℕ) → u ≤ L.columns → IsWidened p L K u u → AreSameLayers p L K
widened-start p L K u ul W = record {
  q_rows = sym W.q_rows;
  t_rows = sym W.t_rows;
  columns = omega (arith, W.columns);
  q = λ i j il jl. elim (cases j) [
    | inl l ↦ sym (W.q i j il l)
    | inr g ↦ let e : u + (j - u) ≡ j = omega (arith, g) in
        ap (λ k. L.q i k % p) (sym e) ∙ (sym (W.q_behind i (j - u) il (subst (λ k. k < L.columns) (sym e) jl)) ∙ ap (λ k. K.q i k % p) e)
  ];
  t = λ i j il jl. elim (cases j) [
    | inl l ↦ sym (W.t i j il l)
    | inr g ↦ let e : u + (j - u) ≡ j = omega (arith, g) in
        ap (λ k. L.t i k) (sym e) ∙ (sym (W.t_behind i (j - u) il (subst (λ k. k < L.columns) (sym e) jl)) ∙ ap (λ k. K.t i k) e)
  ];
}
  where
    cases : (j : ℕ) → (j < u) ⊎ (u ≤ j)
    cases j = lt_cases j u

module _ (p : ℕ) (L K : LayeredMatrix) (u w : ℕ) (ul : u ≤ L.columns) (uw : u ≤ w) (W : IsWidened p L K u (w + 1)) where
  abbrev less : LayeredMatrix
  less = column_rest true w K

  before : (j : ℕ) → j < w → skip w j ≡ j
  before j l = skip-first w j l

  behind : (k : ℕ) → skip w (w + k) ≡ w + 1 + k
  behind k = skip-later w (w + k) (omega arith) ∙ omega arith

  pub widened-less : IsWidened p L less u w
  widened-less = record {
    q_rows = W.q_rows;
    t_rows = W.t_rows;
    columns = omega (arith, W.columns, ul, uw);
    q = λ i j il jl. ap (λ k. K.q i k % p) (before j (omega (arith, jl, uw))) ∙ W.q i j il jl;
    t = λ i j il jl. ap (λ k. K.t i k) (before j (omega (arith, jl, uw))) ∙ W.t i j il jl;
    q_behind = λ i k il kl. ap (λ n. K.q i n % p) (behind k) ∙ W.q_behind i k il kl;
    t_behind = λ i k il kl. ap (λ n. K.t i n) (behind k) ∙ W.t_behind i k il kl;
    q_empty = λ i j il ujl jl. ap (λ k. K.q i k % p) (before j jl) ∙ W.q_empty i j il ujl (omega (arith, jl));
    t_empty = λ i j il ujl jl. ap (λ k. K.t i k) (before j jl) ∙ W.t_empty i j il ujl (omega (arith, jl));
  }

  pub widened-out : IsEmptyColumnOut p K less w
  widened-out = record {
    below = omega (arith, W.columns, ul);
    q_rows = refl;
    t_rows = refl;
    columns = omega (arith, W.columns, ul);
    q_zero = λ i il. W.q_empty i w (subst (λ n. i < n) W.q_rows il) uw (omega arith);
    t_none = λ i il. W.t_empty i w (subst (λ n. i < n) W.t_rows il) uw (omega arith);
    q = λ i j _ _. refl;
    t = λ i j _ _. refl;
  }

-- ---- room
pub room-kept : (q t n : ℕ) (r s : Room) (M N : Matching) → KeepsRoom r s M N → HasPairRoom q t n r M → HasPairRoom q t n s N
room-kept q t n r s M N (same, rows, columns) has = record {
  rows_of_q = subst (λ k. q ≤ k.rows) (sym same) has.rows_of_q;
  columns_of_q = subst (λ k. n ≤ k.columns) (sym same) has.columns_of_q;
  rows_of_t = subst (λ k. t ≤ k) (sym rows) has.rows_of_t;
  columns_of_t = subst (λ k. n ≤ k) (sym columns) has.columns_of_t;
}

pub room-less : (q t n a b d : ℕ) (r : Room) (M : Matching) → a ≤ q → b ≤ t → d ≤ n → HasPairRoom q t n r M → HasPairRoom a b d r M
room-less q t n a b d r M aq bt dn has = record {
  rows_of_q = omega (arith, aq, has.rows_of_q);
  columns_of_q = omega (arith, dn, has.columns_of_q);
  rows_of_t = omega (arith, bt, has.rows_of_t);
  columns_of_t = omega (arith, dn, has.columns_of_t);
}

-- ---- where rows stand that come
pub told-of : {P Q : ℕ → Type 0} (o : Option ℕ) → IfSome o P → ((x : ℕ) → P x → Q x) → IfSome o Q
told-of None h f = tt
told-of (Some x) h f = f x h

-- K is L with an equation more, and there is room for it
module _ (p : ℕ) (K L : LayeredMatrix) (at : EquationPlaces) (thinned : IsThinned p K L at) (least : ℕ) (room : Room) where
  abbrev qc : IfSome at.q (λ e. (e ≤ thinned.without_q.q_rows) × (thinned.without_q.q_rows + 1 ≡ K.q_rows)) × (thinned.without_q.q_rows ≤ K.q_rows)
      × (thinned.without_q.t_rows ≡ K.t_rows) × (thinned.without_q.columns ≡ K.columns)
  qc = q-count p at.q K thinned.without_q thinned.q

  abbrev tc : IfSome at.t (λ e. (e ≤ thinned.without_t.t_rows) × (thinned.without_t.t_rows + 1 ≡ thinned.without_q.t_rows))
      × (thinned.without_t.t_rows ≤ thinned.without_q.t_rows) × (thinned.without_t.q_rows ≡ thinned.without_q.q_rows)
      × (thinned.without_t.columns ≡ thinned.without_q.columns)
  tc = t-count p at.t thinned.without_q thinned.without_t thinned.t

  abbrev zc : IfSome at.column (λ v. (v ≤ L.columns) × (L.columns + 1 ≡ thinned.without_t.columns)) × (L.columns ≤ thinned.without_t.columns)
      × (L.q_rows ≡ thinned.without_t.q_rows) × (L.t_rows ≡ thinned.without_t.t_rows)
  zc = column-count p at.column thinned.without_t L thinned.column

  pub thinner : (L.q_rows ≤ K.q_rows) × (L.t_rows ≤ K.t_rows) × (L.columns ≤ K.columns)
  thinner = (
    omega (arith, qc.1, tc.2, zc.2),
    omega (arith, qc.2, tc.1, zc.3),
    omega (arith, qc.3, tc.3, zc.1),
  )

  -- the T row is that of K
  pub put-t-row : IfSome at.t (λ e. (j : ℕ) → j < thinned.without_q.columns → thinned.without_q.t e j ≡ K.t e j)
  put-t-row = told-of at.t tc.0 (λ e h j jl. kept-t p at.q K thinned.without_q thinned.q e j (omega (arith, h.0, h.1, qc.2)) (omega (arith, jl, qc.3)))

  -- before the column
  module _ (S : TableauState) (M : Matching) (E : IsEdited p L least S M) where
    pub put-column : IfSome at.column (λ v. v ≤ S.columns)
    put-column = told-of at.column zc.0 (λ v h. omega (arith, h.0, E.same.columns))

    pub put-column-few : (limit : ℕ) → K.columns ≤ limit → IfSome at.column (λ v. S.columns < limit)
    put-column-few limit few = told-of at.column zc.0 (λ v h. omega (arith, h.1, E.same.columns, qc.3, tc.3, few))

    pub put-column-room : HasPairRoom K.q_rows K.t_rows K.columns room M →
        IfSome at.column (λ v. HasPairRoom S.rows (incidence_rows M.pattern) (S.columns + 1) room M)
    put-column-room has = told-of at.column zc.0 (λ v h. room-less K.q_rows K.t_rows K.columns S.rows (incidence_rows M.pattern) (S.columns + 1) room M
        (omega (arith, E.same.q_rows, thinner.0)) (omega (arith, E.same.t_rows, thinner.1)) (omega (arith, h.1, E.same.columns, qc.3, tc.3)) has)

  -- before the T row
  module _ (S : TableauState) (M : Matching) (E : IsEdited p thinned.without_t least S M) where
    pub put-t : IfSome at.t (λ e. e ≤ incidence_rows M.pattern)
    put-t = told-of at.t tc.0 (λ e h. omega (arith, h.0, E.same.t_rows))

    pub put-t-there : IfSome at.t (λ e. e < K.t_rows)
    put-t-there = told-of at.t tc.0 (λ e h. omega (arith, h.0, h.1, qc.2))

    pub put-t-few : (limit : ℕ) → K.t_rows ≤ limit → IfSome at.t (λ e. incidence_rows M.pattern < limit)
    put-t-few limit few = told-of at.t tc.0 (λ e h. omega (arith, h.1, E.same.t_rows, qc.2, few))

    pub put-t-width : (n : ℕ) → n ≡ K.columns → IfSome at.t (λ e. M.pattern.width ≡ n)
    put-t-width n is = told-of at.t tc.0 (λ e h. omega (arith, is, E.width, E.same.columns, qc.3, tc.3))

    pub put-t-room : HasPairRoom K.q_rows K.t_rows K.columns room M →
        IfSome at.t (λ e. HasPairRoom 0 (incidence_rows M.pattern + 1) M.pattern.width room M)
    put-t-room has = told-of at.t tc.0 (λ e h. room-less K.q_rows K.t_rows K.columns 0 (incidence_rows M.pattern + 1) M.pattern.width room M
        (omega arith) (omega (arith, h.1, E.same.t_rows, qc.2)) (omega (arith, E.width, E.same.columns, qc.3, tc.3)) has)

  -- before the Q row
  module _ (S : TableauState) (M : Matching) (E : IsEdited p thinned.without_q least S M) where
    pub put-q : IfSome at.q (λ e. e ≤ S.rows)
    put-q = told-of at.q qc.0 (λ e h. omega (arith, h.0, E.same.q_rows))

    pub put-q-few : (limit : ℕ) → K.q_rows ≤ limit → IfSome at.q (λ e. S.rows < limit)
    put-q-few limit few = told-of at.q qc.0 (λ e h. omega (arith, h.1, E.same.q_rows, few))

    pub put-q-count : (n : ℕ) → IfSome at.q (λ e. n ≡ K.columns) → IfSome at.q (λ e. n ≡ S.columns)
    put-q-count n is = told-of at.q is (λ e h. omega (arith, h, E.same.columns, qc.3))

    pub put-q-room : HasPairRoom K.q_rows K.t_rows K.columns room M → IfSome at.q (λ e. HasPairRoom (S.rows + 1) 0 S.columns room M)
    put-q-room has = told-of at.q qc.0 (λ e h. room-less K.q_rows K.t_rows K.columns (S.rows + 1) 0 S.columns room M
        (omega (arith, h.1, E.same.q_rows)) (omega arith) (omega (arith, E.same.columns, qc.3)) has)
