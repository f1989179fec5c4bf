-- A pair that grows along a walk back from a row, column by column.
use Rattle.std.proofs.Common.{◌≡◌, ◌≢◌, ℕ, suc, ◌+◌, ◌-◌, ◌%◌, ◌<◌, ◌≤◌, Bool, true, false, cond, ltb, ◌⊎◌, inl, inr}
use Rattle.std.proofs.Common.{Option, Some, None, refl, ap, sym, subst, ◌∙◌, arith, unwrap_or}
use Rattle.residue_theory.proofs.SetLaws.{differ, lt_cases}
use Rattle.residue_theory.specs.Sets.{only, with_one}
use Rattle.search_laws.specs.Searches.{IsShortest}
use Rattle.mixed_matrices.specs.Arcs.{is_free}
use Rattle.mixed_matrices.specs.LayeredMatrices.{LayeredMatrix}
use Rattle.mixed_matrices.specs.Layerings.{Origins}
use Rattle.mixed_matrices.specs.Models.{MixedMatrix}
use Rattle.mixed_matrices.specs.Tableaus.{HasTableau, Tableau}
use Rattle.mixed_pair_laws.proofs.ArcFacts.{free-holds}
use Rattle.mixed_augmentation_laws.specs.Moves.{IsRoute, IsStage, Route, TakesMate, TakesRow}
use Rattle.mixed_augmentation_laws.proofs.Moves.{end-tableau, row-entry, row-no_base, stage-mate, stage-row, stage-start, test_cases}
use Rattle.sparse_t.specs.Incidences.{Incidence}
use Rattle.bipartite_matching.specs.Matchings.{Matching}
use Rattle.row_transform.specs.Edits.{KeepsZeroColumns}
use Rattle.row_transform.specs.Tableaus.{TableauState}
use Rattle.independent_matching.specs.Engines.{layers}
use Rattle.independent_matching.specs.Sides.{layers_of, tableau_of_pair}
use Rattle.row_choice_laws.specs.ColumnSearches.{leads_back, row_place, rows_along}
use Rattle.row_choice_laws.specs.Growth.{AreColumnsAlong, IsRowStage, route_back}
use Rattle.row_choice_laws.specs.RowSearches.{IsJoining, has_row_entry, is_bare_row, is_open, places, row_leads}
use Rattle.row_choice_laws.specs.States.{IsSameOutside}
use Rattle.row_choice_laws.proofs.ColumnWalks.{along-columns, along-shortest, inner-not_free}
use Rattle.row_choice_laws.proofs.LoopStates.{pivot-keeps}
use Rattle.row_choice_laws.proofs.OwnTableaus.{less-test, more-test, pass, pick, test-more}
use Rattle.row_choice_laws.proofs.RowStages.{rows-begin, rows-take_mate, rows-take_row}
use Rattle.row_choice_laws.proofs.WalksBack.{back-route, test-less}
use Rattle.equation_choice.specs.Pairs.{CanTakePlace, HasGrownBack, HasTakenPlace, place_held}

-- S has stayed at all equations but those that are kept with one that joins
abbrev HasStayedOutside : ℕ → LayeredMatrix → (ℕ → ℕ → ℕ) → Tableau → ℕ → (ℕ → ℕ → ℕ) → Type 0
HasStayedOutside p L S F s V = (M : MixedMatrix) (A : ℕ → Bool) (O : Origins) (K : ℕ → Bool) (f : ℕ) → IsJoining p M A L O S F K f →
    (s < L.q_rows → O.of_q s ≡ f) → IsSameOutside p L O (with_one K f) S V

-- of the columns at 0 .. at k of a walk back from the row s the first i have moved, and the next one takes the row
pub record IsGrowing (p : ℕ) (q : ℕ → ℕ → ℕ) (S₀ : TableauState) (M₀ : Matching) (s : ℕ) (at : ℕ → ℕ) (k i row : ℕ) (S : TableauState)
    (M : Matching) : Type 0 where
  pub shape : layers_of S M ≡ layers_of S₀ M₀
  pub pattern : M.pattern ≡ M₀.pattern
  pub stage : IsStage p (layers q S₀ M₀) (tableau_of_pair S₀ M₀) (route_back (layers q S₀ M₀) (rows_along (layers q S₀ M₀) (tableau_of_pair S₀ M₀) s at) at k)
      (suc k - i) (tableau_of_pair S M)
  pub row_stage : IsRowStage (layers q S₀ M₀) (tableau_of_pair S₀ M₀)
      (route_back (layers q S₀ M₀) (rows_along (layers q S₀ M₀) (tableau_of_pair S₀ M₀) s at) at k) (suc k - i) (tableau_of_pair S M)
  pub same : HasStayedOutside p (layers q S₀ M₀) S₀.s (tableau_of_pair S₀ M₀) s S.s
  pub row_is : i ≤ k → row ≡ rows_along (layers q S₀ M₀) (tableau_of_pair S₀ M₀) s at i

module _ (p : ℕ) (q : ℕ → ℕ → ℕ) (S₀ : TableauState) (M₀ : Matching)
    (T : HasTableau p (layers q S₀ M₀) (tableau_of_pair S₀ M₀))
    (s : ℕ) (sl : s < places (layers_of S₀ M₀)) (bare : is_bare_row (layers_of S₀ M₀) (tableau_of_pair S₀ M₀) s ≡ true)
    (at : ℕ → ℕ) (k : ℕ) (W : IsShortest (leads_back p (layers q S₀ M₀) (tableau_of_pair S₀ M₀)) S₀.columns
    (has_row_entry p (layers q S₀ M₀) (tableau_of_pair S₀ M₀) s) (is_free (tableau_of_pair S₀ M₀)) at k) where
  abbrev L : LayeredMatrix
  L = layers q S₀ M₀

  abbrev F : Tableau
  F = tableau_of_pair S₀ M₀

  abbrev rows : ℕ → ℕ
  rows = rows_along L F s at

  abbrev R : Route
  R = route_back L rows at k

  -- the test does not ask for the matrix Q
  bare-here : is_bare_row L F s ≡ true
  unfolding is_bare_row
  bare-here = bare

  columns : AreColumnsAlong p L F rows at k
  columns = along-columns p L F T s sl bare-here at k W

  shortest : IsShortest (row_leads p L F) (places L) (only s) (is_open p L F) rows k
  shortest = along-shortest p L F T s sl bare-here at k W

  pub growing-route : IsRoute p L F R
  growing-route = back-route p L F s rows k shortest T bare-here at columns

  abbrev Grows : ℕ → ℕ → TableauState → Matching → Type 0
  Grows = IsGrowing p q S₀ M₀ s at k

  pub growing-start : Grows 0 s S₀ M₀
  growing-start = record {
    shape = refl;
    pattern = refl;
    stage = subst (λ i. IsStage p L F R i F) (omega arith) (stage-start p L F R T growing-route);
    row_stage = subst (λ i. IsRowStage L F R i F) (omega arith) (rows-begin p L F R T growing-route);
    same = λ M A O K f join own i j il jl out. refl;
    row_is = λ _. refl;
  }

  last-own : (O : Origins) (f : ℕ) → (s < L.q_rows → O.of_q s ≡ f) → R.in_q R.last ≡ true → O.of_q (R.row R.last) ≡ f
  last-own O f own h = go (lt_cases s L.q_rows)
    where
      first : rows (k - k) ≡ s
      first = let z : 0 ≡ k - k = omega arith in subst (λ j. rows j ≡ s) z refl

      go : (s < L.q_rows) ⊎ (L.q_rows ≤ s) → O.of_q (R.row R.last) ≡ f
      go (inl l) = ap O.of_q (pick (ltb (rows (k - k)) L.q_rows) (rows (k - k)) (rows (k - k) - L.q_rows) h ∙ first) ∙ own l
      go (inr g) = absurd (differ (ap (λ x. ltb x L.q_rows) first ∙ more-test s L.q_rows g) h)

  module _ (i row : ℕ) (S : TableauState) (M : Matching) (V : Grows i row S M) (le : i ≤ k) where
    abbrev G : Tableau
    G = tableau_of_pair S M

    abbrev j : ℕ
    j = k - i

    here : k - j ≡ i
    here = omega (arith, le)

    stage_now : IsStage p L F R (suc j) G
    stage_now = subst (λ n. IsStage p L F R n G) (let e : suc k - i ≡ suc (k - i) = omega (arith, le) in e) V.stage

    rows_now : IsRowStage L F R (suc j) G
    rows_now = subst (λ n. IsRowStage L F R n G) (let e : suc k - i ≡ suc (k - i) = omega (arith, le) in e) V.row_stage

    at_is : R.at j ≡ at i
    at_is = ap at here

    row_now : row ≡ rows i
    row_now = V.row_is le

    count : S.rows ≡ L.q_rows
    count = ap (λ (N : LayeredMatrix). N.q_rows) V.shape

    over : layers q S M ≡ L
    over = ap (λ (N : LayeredMatrix). record N { q = q }) V.shape

    to-q : row < S.rows → R.in_q j ≡ true
    to-q l = ap (λ n. ltb (rows n) L.q_rows) here ∙ less-test (rows i) L.q_rows (omega (arith, l, row_now, count))

    to-t : S.rows ≤ row → R.in_q j ≡ false
    to-t l = ap (λ n. ltb (rows n) L.q_rows) here ∙ more-test (rows i) L.q_rows (omega (arith, l, row_now, count))

    of-q : R.in_q j ≡ true → row < S.rows
    of-q h = let l : rows i < L.q_rows = test-less (rows i) L.q_rows (sym (ap (λ n. ltb (rows n) L.q_rows) here) ∙ h) in omega (arith, l, row_now, count)

    of-t : R.in_q j ≡ false → S.rows ≤ row
    of-t h = let l : L.q_rows ≤ rows i = test-more (rows i) L.q_rows (sym (ap (λ n. ltb (rows n) L.q_rows) here) ∙ h) in omega (arith, l, row_now, count)

    row-q : R.in_q j ≡ true → R.row j ≡ row
    row-q h = pick (ltb (rows (k - j)) L.q_rows) (rows (k - j)) (rows (k - j) - L.q_rows) h ∙ ap rows here ∙ sym row_now

    row-t : R.in_q j ≡ false → R.row j ≡ row - S.rows
    row-t h = pass (ltb (rows (k - j)) L.q_rows) (rows (k - j)) (rows (k - j) - L.q_rows) h
        ∙ ap (λ n. rows n - L.q_rows) here ∙ (let e : rows i - L.q_rows ≡ row - S.rows = omega (arith, row_now, count) in e)

    j_le : j ≤ R.last
    j_le = omega arith

    pub growing-below : at i < S.columns
    growing-below = subst (λ n. at i < n) (sym (ap (λ (N : LayeredMatrix). N.columns) V.shape)) (W.below i le)

    pub growing-width : M₀.pattern.width ≡ S₀.columns → M.pattern.width ≡ S.columns
    growing-width w = ap (λ (P : Incidence). P.width) V.pattern ∙ w ∙ sym (ap (λ (N : LayeredMatrix). N.columns) V.shape)

    pub growing-can : CanTakePlace p (layers_of S M) G row (at i)
    growing-can = subst (λ N. CanTakePlace p N G row (at i)) (sym V.shape) (record {
      of_q = λ l. let h : R.in_q j ≡ true = to-q (subst (λ n. row < n) (sym count) l) in (
        subst (λ x. S.p row x % p ≢ 0) at_is (subst (λ r. S.p r (R.at j) % p ≢ 0) (row-q h) (row-entry p L F R T growing-route j G G stage_now h)),
        subst (λ x. S.base x ≡ false) at_is (row-no_base p L F R T growing-route j G G stage_now h),
      );
      of_t = λ g. let h : R.in_q j ≡ false = to-t (subst (λ n. n ≤ row) (sym count) g) in
          let same : R.row j ≡ row - L.q_rows = row-t h ∙ ap (λ n. row - n) count in (
            subst (λ r. r < L.t_rows) same (growing-route.mate_below j j_le h),
            subst (λ x. L.t (row - L.q_rows) x ≡ true) at_is (subst (λ r. L.t r (R.at j) ≡ true) same (growing-route.symbol j j_le h)),
            λ y yl m e. stage_now.mate_place j refl h y yl m (e ∙ sym same),
          );
    })

    module _ (S' : TableauState) (M' : Matching) (taken : HasTakenPlace p S S' M M' row (at i)) where
      abbrev H : Tableau
      H = tableau_of_pair S' M'

      takes-q : R.in_q j ≡ true → TakesRow p L G H (R.row j) (R.at j)
      takes-q h = subst (λ x. TakesRow p L G H (R.row j) x) (sym at_is) (subst (λ r. TakesRow p L G H r (at i)) (sym (row-q h))
          (subst (λ N. TakesRow p N G H row (at i)) over (taken.of_q q (of-q h))))

      takes-t : R.in_q j ≡ false → TakesMate L G H (R.row j) (R.at j)
      takes-t h = subst (λ x. TakesMate L G H (R.row j) x) (sym at_is) (subst (λ r. TakesMate L G H r (at i)) (sym (row-t h))
          (subst (λ N. TakesMate N G H (row - S.rows) (at i)) over (taken.of_t q (of-t h))))

      stage_next : IsStage p L F R j H
      stage_next = elim (test_cases (R.in_q j)) [
        | inl h ↦ stage-row p L F R T growing-route j G H stage_now h (takes-q h)
        | inr h ↦ stage-mate p L F R T growing-route j G H stage_now h (takes-t h)
      ]

      rows_next : IsRowStage L F R j H
      rows_next = elim (test_cases (R.in_q j)) [
        | inl h ↦ rows-take_row p L F R T growing-route j G H stage_now rows_now h (takes-q h)
        | inr h ↦ rows-take_mate p L F R T growing-route j G H stage_now rows_now h (takes-t h)
      ]

      same_next : HasStayedOutside p L S₀.s F s S'.s
      same_next N A O K f join own = elim (test_cases (R.in_q j)) [
        | inl h ↦ pivot-keeps p N A L O S₀.s F K f join R growing-route (last-own O f own) j S.s S'.s j_le h (V.same N A O K f join own)
            (subst (λ r. KeepsZeroColumns p L.q_rows S.s S'.s r) (sym (row-q h)) (subst (λ n. KeepsZeroColumns p n S.s S'.s row) count
            (taken.columns_of_s (of-q h))))
        | inr h ↦ subst (λ V. IsSameOutside p L O (with_one K f) S₀.s V) (sym (taken.same_s (of-t h))) (V.same N A O K f join own)
      ]

      -- the row that the column had is taken next
      held-next : i + 1 ≤ k → place_held (layers_of S M) G (at i) ≡ Some (row_place L F (at i))
      held-next less = go (F.base (at i)) refl
        where
          same_base : G.base (at i) ≡ F.base (at i)
          same_base = subst (λ x. G.base x ≡ F.base x) at_is (stage_now.same_base j (omega arith))

          same_match : G.matched (at i) ≡ F.matched (at i)
          same_match = subst (λ x. G.matched x ≡ F.matched x) at_is (stage_now.same_match j (omega arith))

          same_row : F.base (at i) ≡ true → G.row (at i) ≡ F.row (at i)
          same_row = subst (λ x. F.base x ≡ true → G.row x ≡ F.row x) at_is (stage_now.same_row j (omega arith))

          same_mate : F.matched (at i) ≡ true → G.mate (at i) ≡ F.mate (at i)
          same_mate = subst (λ x. F.matched x ≡ true → G.mate x ≡ F.mate x) at_is (stage_now.same_mate j (omega arith))

          not_free : is_free F (at i) ≡ false
          not_free = inner-not_free p L F T s sl bare-here at k W i (omega (arith, less))

          mated : (b : Bool) → F.matched (at i) ≡ b → F.base (at i) ≡ false → F.matched (at i) ≡ true
          mated true m b = m
          mated false m b = absurd (differ not_free (free-holds F (at i) b m))

          go : (b : Bool) → F.base (at i) ≡ b → place_held (layers_of S M) G (at i) ≡ Some (row_place L F (at i))
          go true b = pick (G.base (at i)) (Some (G.row (at i))) (cond (G.matched (at i)) (Some (S.rows + G.mate (at i))) None) (same_base ∙ b)
              ∙ ap Some (same_row b ∙ sym (pick (F.base (at i)) (F.row (at i)) (L.q_rows + F.mate (at i)) b))
          go false b = let m : F.matched (at i) ≡ true = mated (F.matched (at i)) refl b in
              pass (G.base (at i)) (Some (G.row (at i))) (cond (G.matched (at i)) (Some (S.rows + G.mate (at i))) None) (same_base ∙ b)
              ∙ pick (G.matched (at i)) (Some (S.rows + G.mate (at i))) None (same_match ∙ m)
              ∙ ap Some ((let e : S.rows + G.mate (at i) ≡ L.q_rows + F.mate (at i) = omega (arith, count, same_mate m) in e)
              ∙ sym (pass (F.base (at i)) (F.row (at i)) (L.q_rows + F.mate (at i)) b))

      pub growing-next : (next : Option ℕ) → next ≡ place_held (layers_of S M) G (at i) → Grows (i + 1) (unwrap_or next row) S' M'
      growing-next next is = record {
        shape = taken.layers ∙ V.shape;
        pattern = taken.pattern ∙ V.pattern;
        stage = subst (λ n. IsStage p L F R n H) (let e : k - i ≡ suc k - (i + 1) = omega (arith, le) in e) stage_next;
        row_stage = subst (λ n. IsRowStage L F R n H) (let e : k - i ≡ suc k - (i + 1) = omega (arith, le) in e) rows_next;
        same = same_next;
        row_is = λ less. ap (λ o. unwrap_or o row) (is ∙ held-next less) ∙
            (let e : suc i ≡ i + 1 = omega arith in subst (λ n. row_place L F (at i) ≡ rows n) e refl);
      }

  -- after the last move
  module _ (i row : ℕ) (S : TableauState) (M : Matching) (V : Grows i row S M) (done : i ≡ k + 1) where
    end_is : suc k - i ≡ 0
    end_is = omega (arith, done)

    pub grown-tableau : HasTableau p L (tableau_of_pair S M)
    grown-tableau = end-tableau p L F R T growing-route (tableau_of_pair S M) (subst (λ n. IsStage p L F R n (tableau_of_pair S M)) end_is V.stage)

    pub grown-back : HasGrownBack p L S₀.s S.s F (tableau_of_pair S M) s at k
    grown-back = record { rows = subst (λ n. IsRowStage L F R n (tableau_of_pair S M)) end_is V.row_stage; same = V.same }
