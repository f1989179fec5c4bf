-- Without a split equation the rank is that of the layered matrix without its T row: the auxiliary column is then the unit
-- column of its Q row.
use Rattle.std.proofs.Common.{◌≡◌, ℕ, zero, suc, ◌+◌, ◌-◌, ◌<◌, ◌≤◌, ◌≢◌, Bool, true, false, cond, not, ◌&&◌, eqb, ltb, inl}
use Rattle.std.proofs.Common.{inr, refl, ap, sym, subst, ◌∙◌, arith}
use Rattle.residue_theory.proofs.SetLaws.{both_true, differ, eqb_from, eqb_true, lt_cases, not_true}
use Rattle.residue_theory.proofs.SumLaws.{member-without, nat_cases}
use Rattle.residue_theory.specs.Residues.{IsPrime}
use Rattle.residue_theory.specs.Sets.{both, everything, without}
use Rattle.residue_theory.specs.Sums.{size_on}
use Rattle.linear_algebra_laws.proofs.Entries.{above-low, above-top}
use Rattle.mixed_matrices.specs.LayeredMatrices.{LayeredMatrix, layered_part, layered_value}
use Rattle.mixed_matrices.specs.Layerings.{IsLayering, Origins}
use Rattle.mixed_matrices.specs.Models.{MixedMatrix, numbers}
use Rattle.mixed_matrices.specs.Removals.{mixed_part}
use Rattle.mixed_matrices.specs.StructuralRanks.{IsLayeredRank}
use Rattle.mixed_pair_laws.proofs.RemovedRows.{greatest-moved}
use Rattle.mixed_layering_laws.proofs.LayeredKernels.{ltb-first, ltb-next}
use Rattle.mixed_layering_laws.proofs.Members.{member-at, member-index, members-distinct}
use Rattle.mixed_report_laws.proofs.EmptiedSymbolRows.{symbol-part}
use Rattle.mixed_report_laws.proofs.PartEntries.{part-none, part-zero, row-gone, row-kept, symbol-gone, symbol-kept, without-no}
use Rattle.mixed_report_laws.proofs.SwappedRows.{AreSwapped, swapped-back, swapped-there}

module _ (p : ℕ) (prime : IsPrime p) (M : MixedMatrix) (A D : ℕ → Bool) (L : LayeredMatrix) (O : Origins) (lay : IsLayering M A D L O) (d : ℕ)
    (dl : d < L.t_rows) (split : A (O.of_t d) ≡ true) where
  abbrev i : ℕ
  i = O.of_t d

  abbrev e : ℕ
  e = size_on A (O.of_t d)

  abbrev k : ℕ
  k = size_on (both A D) (O.of_t d)

  il : i < M.rows
  il = lay.t_rows.below d dl

  has_t : D (O.of_t d) ≡ true
  has_t = lay.t_rows.member d dl

  e-below : e < L.q_rows
  e-below = member-index A M.rows O.of_q L.q_rows lay.q_rows (O.of_t d) il split

  k-below : k < O.split
  k-below = member-index (both A D) M.rows O.of_z O.split lay.auxiliary (O.of_t d) il (both_true (A (O.of_t d)) (D (O.of_t d)) split has_t)

  e-origin : O.of_q e ≡ i
  e-origin = member-at A M.rows O.of_q L.q_rows lay.q_rows (O.of_t d) il split

  k-origin : O.of_z k ≡ i
  k-origin = member-at (both A D) M.rows O.of_z O.split lay.auxiliary (O.of_t d) il (both_true (A (O.of_t d)) (D (O.of_t d)) split has_t)

  other_q : (x : ℕ) → x < L.q_rows → x ≢ e → O.of_q x ≢ i
  other_q x xl ne q = ne (sym (lay.q_rows.place x xl) ∙ ap (λ y. size_on A y) q)

  other_t : (x : ℕ) → x < L.t_rows → x ≢ d → O.of_t x ≢ i
  other_t x xl ne q = ne (members-distinct D M.rows O.of_t L.t_rows lay.t_rows x d xl dl q)

  other_z : (x : ℕ) → x < O.split → x ≢ k → O.of_z x ≢ i
  other_z x xl ne q = ne (sym (lay.auxiliary.place x xl) ∙ ap (λ y. size_on (both A D) y) q)

  -- both rows of the equation emptied at the unknowns
  abbrev pub cut : LayeredMatrix
  cut = record {
    q_rows = L.q_rows;
    t_rows = L.t_rows;
    columns = L.columns;
    q = λ x j. cond (eqb x e && ltb j M.columns) 0 (L.q x j);
    t = λ x j. not (eqb x d && ltb j M.columns) && L.t x j;
  }

  eqb_no : (a b : ℕ) → a ≢ b → eqb a b ≡ false
  eqb_no a b ne = not_true (eqb a b) (λ h. ne (eqb_true a b h))

  q_cut : (s u : Bool) (x : ℕ) → s ≡ true → u ≡ true → cond (s && u) 0 x ≡ 0
  q_cut s u x a b = grind arith

  q_first : (s u : Bool) (x : ℕ) → s ≡ false → cond (s && u) 0 x ≡ x
  q_first s u x a = grind arith

  q_second : (s u : Bool) (x : ℕ) → u ≡ false → cond (s && u) 0 x ≡ x
  q_second s u x a = grind arith

  t_cut : (s u x : Bool) → s ≡ true → u ≡ true → not (s && u) && x ≡ false
  t_cut s u x a b = grind arith

  t_first : (s u x : Bool) → s ≡ false → not (s && u) && x ≡ x
  t_first s u x a = grind arith

  t_second : (s u x : Bool) → u ≡ false → not (s && u) && x ≡ x
  t_second s u x a = grind arith

  pub cut-layering : IsLayering (mixed_part (without everything i) everything M) A D cut O
  cut-layering = record {
    constants = λ x j xl jl h. part-zero (without everything i x && everything j) (M.constant x j) (lay.constants x j xl jl h);
    symbols = λ x j xl jl h. part-none (without everything i x) (everything j) (M.symbol x j) (lay.symbols x j xl jl h);
    q_rows = lay.q_rows;
    t_rows = lay.t_rows;
    auxiliary = lay.auxiliary;
    columns = lay.columns;
    q = λ x j xl jl. elim (nat_cases x e) [
      | inl q ↦ q_cut (eqb x e) (ltb j M.columns) (L.q x j) (eqb_from x e q) (ltb-first M.columns j jl)
          ∙ sym (row-gone (without everything i (O.of_q x)) (M.constant (O.of_q x) j) (without-no i (O.of_q x) (ap O.of_q q ∙ e-origin)))
      | inr ne ↦ q_first (eqb x e) (ltb j M.columns) (L.q x j) (eqb_no x e ne) ∙ lay.q x j xl jl
          ∙ sym (row-kept (without everything i (O.of_q x)) (M.constant (O.of_q x) j) (member-without everything i (O.of_q x) refl (other_q x xl ne)))
    ];
    q_auxiliary = λ x y xl yl. q_second (eqb x e) (ltb (M.columns + y) M.columns) (L.q x (M.columns + y)) (ltb-next M.columns y)
        ∙ lay.q_auxiliary x y xl yl;
    t = λ x j xl jl. elim (nat_cases x d) [
      | inl q ↦ t_cut (eqb x d) (ltb j M.columns) (L.t x j) (eqb_from x d q) (ltb-first M.columns j jl)
          ∙ sym (symbol-gone (without everything i (O.of_t x)) (M.symbol (O.of_t x) j) (without-no i (O.of_t x) (ap O.of_t q)))
      | inr ne ↦ t_first (eqb x d) (ltb j M.columns) (L.t x j) (eqb_no x d ne) ∙ lay.t x j xl jl
          ∙ sym (symbol-kept (without everything i (O.of_t x)) (M.symbol (O.of_t x) j)
          (member-without everything i (O.of_t x) refl (other_t x xl ne)))
    ];
    t_auxiliary = λ x y xl yl. t_second (eqb x d) (ltb (M.columns + y) M.columns) (L.t x (M.columns + y)) (ltb-next M.columns y)
        ∙ lay.t_auxiliary x y xl yl;
  }

  -- ---- the auxiliary column of the equation
  q_other : (x : ℕ) → x < L.q_rows → x ≢ e → L.q x (M.columns + k) ≡ 0
  q_other x xl ne = lay.q_auxiliary x k xl k-below ∙ ap (λ b. cond b 1 0) (eqb_no (O.of_q x) (O.of_z k) (λ q. other_q x xl ne (q ∙ k-origin)))

  q_own : L.q e (M.columns + k) ≡ suc zero
  q_own = lay.q_auxiliary e k e-below k-below ∙ one (eqb (O.of_q e) (O.of_z k)) (eqb_from (O.of_q e) (O.of_z k) (e-origin ∙ sym k-origin))
    where
      one : (s : Bool) → s ≡ true → (λ (y : ℕ). cond s y 0) 1 ≡ suc zero
      one s h = grind arith

  t_other : (x : ℕ) → x < L.t_rows → x ≢ d → L.t x (M.columns + k) ≡ false
  t_other x xl ne = lay.t_auxiliary x k xl k-below ∙ eqb_no (O.of_t x) (O.of_z k) (λ q. other_t x xl ne (q ∙ k-origin))

  unset : (b : Bool) (x : ℕ) → b ≡ false → cond b x 0 ≡ 0
  unset b x h = ap (λ s. cond s x 0) h

  -- a column of the layered matrix is an unknown, or an auxiliary one
  past : (j : ℕ) → M.columns ≤ j → ltb j M.columns ≡ false
  past j g = subst (λ y. ltb y M.columns ≡ false) (let q : M.columns + (j - M.columns) ≡ j = omega arith in q) (ltb-next M.columns (j - M.columns))

  -- without T row d
  abbrev first : LayeredMatrix
  first = layered_part everything (without everything d) everything L

  module _ (w : ℕ → ℕ → ℕ) where
    by_row : (P : ℕ → Type 0) → ((x : ℕ) → x < L.q_rows → P x) → ((x : ℕ) → x < L.t_rows → P (L.q_rows + x)) → (x : ℕ) → x < L.q_rows + L.t_rows → P x
    by_row P top low x xl = elim (lt_cases x L.q_rows) [
      | inl l ↦ top x l
      | inr g ↦ subst P (let q : L.q_rows + (x - L.q_rows) ≡ x = omega arith in q) (low (x - L.q_rows) (omega arith))
    ]

    g-column : (x : ℕ) → x < L.q_rows + L.t_rows → x ≢ e → layered_value first w x (M.columns + k) ≡ 0
    g-column = by_row (λ x. x ≢ e → layered_value first w x (M.columns + k) ≡ 0)
        (λ x xl ne. above-top L.q_rows first.q (numbers first.t w) x (M.columns + k) xl ∙ q_other x xl ne)
        (λ x xl ne. above-low L.q_rows first.q (numbers first.t w) x (M.columns + k)
        ∙ unset (first.t x (M.columns + k)) (w x (M.columns + k)) (not_true (first.t x (M.columns + k)) (λ h.
        differ (t_other x xl (symbol-part p prime L d dl x (M.columns + k) h).1) (symbol-part p prime L d dl x (M.columns + k) h).0)))

    h-column : (x : ℕ) → x < L.q_rows + L.t_rows → x ≢ e → x ≢ L.q_rows + d → layered_value cut w x (M.columns + k) ≡ 0
    h-column = by_row (λ x. x ≢ e → x ≢ L.q_rows + d → layered_value cut w x (M.columns + k) ≡ 0)
        (λ x xl ne _. above-top L.q_rows cut.q (numbers cut.t w) x (M.columns + k) xl
        ∙ q_second (eqb x e) (ltb (M.columns + k) M.columns) (L.q x (M.columns + k)) (ltb-next M.columns k) ∙ q_other x xl ne)
        (λ x xl _ ne. above-low L.q_rows cut.q (numbers cut.t w) x (M.columns + k) ∙ unset (cut.t x (M.columns + k)) (w x (M.columns + k))
        (t_second (eqb x d) (ltb (M.columns + k) M.columns) (L.t x (M.columns + k)) (ltb-next M.columns k)
        ∙ t_other x xl (λ q. ne (ap (λ y. L.q_rows + y) q))))

    same-symbol : (x j : ℕ) → x ≢ d → first.t x j ≡ cut.t x j
    same-symbol x j ne = symbol-kept (without everything d x) (L.t x j) (member-without everything d x refl ne)
        ∙ sym (t_first (eqb x d) (ltb j M.columns) (L.t x j) (eqb_no x d ne))

    same-entry : (x j : ℕ) → x ≢ e → x ≢ L.q_rows + d → layered_value first w x j ≡ layered_value cut w x j
    same-entry x j ne nd = elim (lt_cases x L.q_rows) [
      | inl l ↦ above-top L.q_rows first.q (numbers first.t w) x j l
          ∙ sym (above-top L.q_rows cut.q (numbers cut.t w) x j l ∙ q_first (eqb x e) (ltb j M.columns) (L.q x j) (eqb_no x e ne))
      | inr g ↦ subst (λ y. layered_value first w y j ≡ layered_value cut w y j) (let q : L.q_rows + (x - L.q_rows) ≡ x = omega arith in q)
          (above-low L.q_rows first.q (numbers first.t w) (x - L.q_rows) j
          ∙ ap (λ b. cond b (w (x - L.q_rows) j) 0) (same-symbol (x - L.q_rows) j (λ q. nd (omega (arith, q))))
          ∙ sym (above-low L.q_rows cut.q (numbers cut.t w) (x - L.q_rows) j))
    ]

    h-e : (j : ℕ) → j < L.columns → j ≢ M.columns + k → layered_value cut w e j ≡ 0
    h-e j jl ne = above-top L.q_rows cut.q (numbers cut.t w) e j e-below ∙ elim (lt_cases j M.columns) [
      | inl l ↦ q_cut (eqb e e) (ltb j M.columns) (L.q e j) (eqb_from e e refl) (ltb-first M.columns j l)
      | inr g ↦ q_second (eqb e e) (ltb j M.columns) (L.q e j) (past j g)
          ∙ subst (λ y. L.q e y ≡ 0) (let q : M.columns + (j - M.columns) ≡ j = omega arith in q)
          (lay.q_auxiliary e (j - M.columns) e-below (omega (arith, lay.columns))
          ∙ ap (λ b. cond b 1 0) (eqb_no (O.of_q e) (O.of_z (j - M.columns))
          (λ q. other_z (j - M.columns) (omega (arith, lay.columns)) (λ r. ne (omega (arith, r))) (sym q ∙ e-origin))))
    ]

    h-t : (j : ℕ) → j < L.columns → j ≢ M.columns + k → layered_value cut w (L.q_rows + d) j ≡ 0
    h-t j jl ne = above-low L.q_rows cut.q (numbers cut.t w) d j ∙ unset (cut.t d j) (w d j) (elim (lt_cases j M.columns) [
      | inl l ↦ t_cut (eqb d d) (ltb j M.columns) (L.t d j) (eqb_from d d refl) (ltb-first M.columns j l)
      | inr g ↦ t_second (eqb d d) (ltb j M.columns) (L.t d j) (past j g)
          ∙ subst (λ y. L.t d y ≡ false) (let q : M.columns + (j - M.columns) ≡ j = omega arith in q)
          (lay.t_auxiliary d (j - M.columns) dl (omega (arith, lay.columns))
          ∙ eqb_no (O.of_t d) (O.of_z (j - M.columns)) (λ q. other_z (j - M.columns) (omega (arith, lay.columns)) (λ r. ne (omega (arith, r)))
          (sym q)))
    ])

    swapped : AreSwapped (L.q_rows + L.t_rows) L.columns (layered_value first w) (layered_value cut w) e (L.q_rows + d) (M.columns + k)
    swapped = record {
      same = λ x j ne nd. same-entry x j ne nd;
      g_column = g-column;
      g_row = λ j. above-low L.q_rows first.q (numbers first.t w) d j
          ∙ unset (first.t d j) (w d j) (not_true (first.t d j) (λ h. (symbol-part p prime L d dl d j h).1 refl));
      g_one = above-top L.q_rows first.q (numbers first.t w) e (M.columns + k) e-below ∙ q_own;
      h_column = h-column;
      h_e = h-e;
      h_t = h-t;
      h_one = above-top L.q_rows cut.q (numbers cut.t w) e (M.columns + k) e-below
          ∙ q_second (eqb e e) (ltb (M.columns + k) M.columns) (L.q e (M.columns + k)) (ltb-next M.columns k) ∙ q_own;
    }

  inside : e < L.q_rows + L.t_rows
  inside = omega (arith, e-below)

  column : M.columns + k < L.columns
  column = omega (arith, lay.columns, k-below)

  pub cut-first : (r : ℕ) → IsLayeredRank p cut r → IsLayeredRank p first r
  cut-first = greatest-moved p (L.q_rows + L.t_rows) L.columns (L.q_rows + L.t_rows) L.columns (layered_value cut) (layered_value first)
      (λ w r K. (
        w,
        swapped-back p prime (L.q_rows + L.t_rows) L.columns (layered_value first w) (layered_value cut w) e (L.q_rows + d)
            (M.columns + k) inside column (swapped w) r K,
      ))
      (λ w r K. (
        w,
        swapped-there p prime (L.q_rows + L.t_rows) L.columns (layered_value first w) (layered_value cut w) e (L.q_rows + d)
            (M.columns + k) inside column (swapped w) r K,
      ))

  pub first-cut : (r : ℕ) → IsLayeredRank p first r → IsLayeredRank p cut r
  first-cut = greatest-moved p (L.q_rows + L.t_rows) L.columns (L.q_rows + L.t_rows) L.columns (layered_value first) (layered_value cut)
      (λ w r K. (
        w,
        swapped-there p prime (L.q_rows + L.t_rows) L.columns (layered_value first w) (layered_value cut w) e (L.q_rows + d)
            (M.columns + k) inside column (swapped w) r K,
      ))
      (λ w r K. (
        w,
        swapped-back p prime (L.q_rows + L.t_rows) L.columns (layered_value first w) (layered_value cut w) e (L.q_rows + d)
            (M.columns + k) inside column (swapped w) r K,
      ))
