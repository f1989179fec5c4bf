-- What the tests on rows say, of Q rows and of T rows.
use Rattle.std.proofs.Common.{◌≡◌, ◌≢◌, ℕ, ◌+◌, ◌-◌, ◌%◌, ◌<◌, Bool, true, false, eqb, ltb, not, ◌&&◌, ◌⊎◌, inl, inr}
use Rattle.std.proofs.Common.{refl, ap, sym, ◌∙◌, arith}
use Rattle.std.proofs.lemmas.Bool.Decides.{nat_tests}
use Rattle.residue_theory.proofs.SetLaws.{both-first, both-second, both_true, differ, eqb_from, eqb_true, lt_cases}
use Rattle.residue_theory.proofs.SetLaws.{not_true, some_below-found, some_below-holds}
use Rattle.residue_theory.specs.Sets.{some_below}
use Rattle.mixed_matrices.specs.Arcs.{is_free}
use Rattle.mixed_matrices.specs.LayeredMatrices.{LayeredMatrix}
use Rattle.mixed_matrices.specs.Layerings.{Origins}
use Rattle.mixed_matrices.specs.Tableaus.{Tableau}
use Rattle.row_choice_laws.proofs.OwnTableaus.{false-not, less-test, more-test, not-false, pass, pick}
use Rattle.row_choice_laws.specs.RowSearches.{origin_of_row, is_column_of, has_row_entry, is_bare_row, is_open}
use Rattle.row_choice_laws.specs.RowSearches.{is_row_of}
use Rattle.row_choice_laws.specs.RowSearches.{row_leads}

nonzero_test : (x : ℕ) → x ≢ 0 → not (eqb x 0) ≡ true
nonzero_test x ne = grind (arith, nat_tests)

nonzero_tells : (x : ℕ) → not (eqb x 0) ≡ true → x ≢ 0
nonzero_tells x h = grind (arith, nat_tests)

low : (m t : ℕ) → ltb (m + t) m ≡ false
low m t = more-test (m + t) m (omega arith)

back : (m t : ℕ) → m + t - m ≡ t
back m t = omega arith

pub row-cases : (L : LayeredMatrix) (r : ℕ) → r < L.q_rows + L.t_rows → (r < L.q_rows) ⊎ ((t : ℕ) × (t < L.t_rows) × (r ≡ L.q_rows + t))
row-cases L r l = elim (lt_cases r L.q_rows) [
  | inl q ↦ inl q
  | inr m ↦ inr (r - L.q_rows, omega (arith, l, m), omega (arith, m))
]

module _ (p : ℕ) (L : LayeredMatrix) (F : Tableau) where
  pub q-entry : (i y : ℕ) → i < L.q_rows → F.P i y % p ≢ 0 → has_row_entry p L F i y ≡ true
  q-entry i y il ne = pick (ltb i L.q_rows) (not (eqb (F.P i y % p) 0)) (L.t (i - L.q_rows) y) (less-test i L.q_rows il) ∙ nonzero_test (F.P i y % p) ne

  pub entry-q : (i y : ℕ) → i < L.q_rows → has_row_entry p L F i y ≡ true → F.P i y % p ≢ 0
  entry-q i y il h = nonzero_tells (F.P i y % p)
      (sym (pick (ltb i L.q_rows) (not (eqb (F.P i y % p) 0)) (L.t (i - L.q_rows) y) (less-test i L.q_rows il)) ∙ h)

  pub t-entry : (t y : ℕ) → has_row_entry p L F (L.q_rows + t) y ≡ L.t t y
  t-entry t y = pass (ltb (L.q_rows + t) L.q_rows) (not (eqb (F.P (L.q_rows + t) y % p) 0)) (L.t (L.q_rows + t - L.q_rows) y) (low L.q_rows t)
      ∙ ap (λ k. L.t k y) (back L.q_rows t)

  pub q-column : (i y : ℕ) → i < L.q_rows → F.base y ≡ true → F.row y ≡ i → is_column_of L F i y ≡ true
  q-column i y il b q = pick (ltb i L.q_rows) (F.base y && eqb (F.row y) i) (F.matched y && eqb (F.mate y) (i - L.q_rows)) (less-test i L.q_rows il)
      ∙ both_true (F.base y) (eqb (F.row y) i) b (eqb_from (F.row y) i q)

  pub column-q : (i y : ℕ) → i < L.q_rows → is_column_of L F i y ≡ true → (F.base y ≡ true) × (F.row y ≡ i)
  column-q i y il h = (both-first (F.base y) (eqb (F.row y) i) here, eqb_true (F.row y) i (both-second (F.base y) (eqb (F.row y) i) here))
    where
      here : F.base y && eqb (F.row y) i ≡ true
      here = sym (pick (ltb i L.q_rows) (F.base y && eqb (F.row y) i) (F.matched y && eqb (F.mate y) (i - L.q_rows)) (less-test i L.q_rows il)) ∙ h

  t-column_test : (t y : ℕ) → is_column_of L F (L.q_rows + t) y ≡ F.matched y && eqb (F.mate y) t
  t-column_test t y = pass (ltb (L.q_rows + t) L.q_rows) (F.base y && eqb (F.row y) (L.q_rows + t)) (F.matched y && eqb (F.mate y) (L.q_rows + t - L.q_rows))
      (low L.q_rows t) ∙ ap (λ k. F.matched y && eqb (F.mate y) k) (back L.q_rows t)

  pub t-column : (t y : ℕ) → F.matched y ≡ true → F.mate y ≡ t → is_column_of L F (L.q_rows + t) y ≡ true
  t-column t y m q = t-column_test t y ∙ both_true (F.matched y) (eqb (F.mate y) t) m (eqb_from (F.mate y) t q)

  pub column-t : (t y : ℕ) → is_column_of L F (L.q_rows + t) y ≡ true → (F.matched y ≡ true) × (F.mate y ≡ t)
  column-t t y h = (both-first (F.matched y) (eqb (F.mate y) t) here, eqb_true (F.mate y) t (both-second (F.matched y) (eqb (F.mate y) t) here))
    where
      here : F.matched y && eqb (F.mate y) t ≡ true
      here = sym (t-column_test t y) ∙ h

  pub leads-holds : (r s y : ℕ) → y < L.columns → has_row_entry p L F r y ≡ true → is_column_of L F s y ≡ true → row_leads p L F r s ≡ true
  unfolding row_leads
  leads-holds r s y yl e c = some_below-holds L.columns (λ z. has_row_entry p L F r z && is_column_of L F s z) y yl
      (both_true (has_row_entry p L F r y) (is_column_of L F s y) e c)

  pub leads-found : (r s : ℕ) → row_leads p L F r s ≡ true → (y : ℕ) × (y < L.columns) × (has_row_entry p L F r y ≡ true) × (is_column_of L F s y ≡ true)
  unfolding row_leads
  leads-found r s h = go (some_below-found L.columns (λ z. has_row_entry p L F r z && is_column_of L F s z) h)
    where
      go : (y : ℕ) × (y < L.columns) × (has_row_entry p L F r y && is_column_of L F s y ≡ true) →
          (y : ℕ) × (y < L.columns) × (has_row_entry p L F r y ≡ true) × (is_column_of L F s y ≡ true)
      go (y, yl, e) = (y, yl, both-first (has_row_entry p L F r y) (is_column_of L F s y) e, both-second (has_row_entry p L F r y) (is_column_of L F s y) e)

  pub open-holds : (r y : ℕ) → y < L.columns → has_row_entry p L F r y ≡ true → is_free F y ≡ true → is_open p L F r ≡ true
  unfolding is_open
  open-holds r y yl e f = some_below-holds L.columns (λ z. has_row_entry p L F r z && is_free F z) y yl (both_true (has_row_entry p L F r y) (is_free F y) e f)

  pub open-found : (r : ℕ) → is_open p L F r ≡ true → (y : ℕ) × (y < L.columns) × (has_row_entry p L F r y ≡ true) × (is_free F y ≡ true)
  unfolding is_open
  open-found r h = go (some_below-found L.columns (λ z. has_row_entry p L F r z && is_free F z) h)
    where
      go : (y : ℕ) × (y < L.columns) × (has_row_entry p L F r y && is_free F y ≡ true) →
          (y : ℕ) × (y < L.columns) × (has_row_entry p L F r y ≡ true) × (is_free F y ≡ true)
      go (y, yl, e) = (y, yl, both-first (has_row_entry p L F r y) (is_free F y) e, both-second (has_row_entry p L F r y) (is_free F y) e)

  pub bare-tells : (r y : ℕ) → is_bare_row L F r ≡ true → y < L.columns → is_column_of L F r y ≡ true → ⊥
  unfolding is_bare_row
  bare-tells r y h yl c = differ (not-false (some_below L.columns (is_column_of L F r)) h) (some_below-holds L.columns (is_column_of L F r) y yl c)

  pub column-not_bare : (r y : ℕ) → y < L.columns → is_column_of L F r y ≡ true → is_bare_row L F r ≡ false
  column-not_bare r y yl c = not_true (is_bare_row L F r) (λ h. bare-tells r y h yl c)

  pub bare-or_column : (r : ℕ) → (is_bare_row L F r ≡ true) ⊎ ((y : ℕ) × (y < L.columns) × (is_column_of L F r y ≡ true))
  unfolding is_bare_row
  bare-or_column r = go (some_below L.columns (is_column_of L F r)) refl
    where
      go : (b : Bool) → some_below L.columns (is_column_of L F r) ≡ b → (not (some_below L.columns (is_column_of L F r)) ≡ true)
          ⊎ ((y : ℕ) × (y < L.columns) × (is_column_of L F r y ≡ true))
      go true e = inr (some_below-found L.columns (is_column_of L F r) e)
      go false e = inl (false-not (some_below L.columns (is_column_of L F r)) e)

module _ (L : LayeredMatrix) (O : Origins) where
  pub q-equation : (i : ℕ) → i < L.q_rows → origin_of_row L O i ≡ O.of_q i
  q-equation i il = pick (ltb i L.q_rows) (O.of_q i) (O.of_t (i - L.q_rows)) (less-test i L.q_rows il)

  pub t-equation : (t : ℕ) → origin_of_row L O (L.q_rows + t) ≡ O.of_t t
  t-equation t = pass (ltb (L.q_rows + t) L.q_rows) (O.of_q (L.q_rows + t)) (O.of_t (L.q_rows + t - L.q_rows)) (low L.q_rows t) ∙ ap O.of_t (back L.q_rows t)

  module _ (K : ℕ → Bool) where
    pub q-row : (i : ℕ) → i < L.q_rows → K (O.of_q i) ≡ true → is_row_of L O K i ≡ true
    q-row i il h = ap K (q-equation i il) ∙ h

    pub row-q : (i : ℕ) → i < L.q_rows → is_row_of L O K i ≡ true → K (O.of_q i) ≡ true
    row-q i il h = sym (ap K (q-equation i il)) ∙ h

    pub t-row : (t : ℕ) → K (O.of_t t) ≡ true → is_row_of L O K (L.q_rows + t) ≡ true
    t-row t h = ap K (t-equation t) ∙ h

    pub row-t : (t : ℕ) → is_row_of L O K (L.q_rows + t) ≡ true → K (O.of_t t) ≡ true
    row-t t h = sym (ap K (t-equation t)) ∙ h
