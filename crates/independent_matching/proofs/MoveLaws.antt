-- The moves along a walk, over a tableau and a matching.
use Rattle.std.proofs.Common.{◌-◌, ◌≡◌, ◌≢◌, ◌+◌, ◌%◌, ◌<◌, ◌≤◌, ◌∙◌, ℕ, zero, suc, Bool, true, false, not, ◌&&◌, ◌||◌}
use Rattle.std.proofs.Common.{Option, Some, None, cond, inl, inr, refl, sym, ap, subst, arith}
use Rattle.residue_theory.proofs.SetLaws.{differ}
use Rattle.residue_theory.specs.Sums.{size_on}
use Rattle.bipartite_matching.specs.Matchings.{Matching}
use Rattle.row_transform.specs.Tableaus.{TableauState}
use Rattle.mixed_matrices.specs.Arcs.{is_free}
use Rattle.mixed_matrices.specs.LayeredMatrices.{LayeredMatrix}
use Rattle.mixed_matrices.specs.Pairs.{pair_size}
use Rattle.mixed_matrices.specs.Tableaus.{Tableau, HasTableau}
use Rattle.mixed_augmentation_laws.specs.Moves.{Route, IsRoute, IsStage, TakesRow, TakesMate, route}
use Rattle.mixed_augmentation_laws.proofs.Moves.{end-size, end-tableau, row-entry, row-no_base, stage-mate, stage-row, stage-start, test_cases}
use Rattle.mixed_augmentation_laws.proofs.Routes.{route-last_row, route-last_to}
use Rattle.mixed_augmentation_laws.proofs.Counting.{route-pivots}
use Rattle.mixed_augmentation_laws.specs.Sealed.{KeepsSealed}
use Rattle.mixed_augmentation_laws.proofs.Sealed.{mate-keeps, row-keeps}
use Rattle.independent_matching.specs.declared.row.Row.{Row}
use Rattle.independent_matching.specs.declared.row.Row.TheVariants.{Q, T}
use Rattle.independent_matching.specs.Sides.{CanTake, IsFreeTaken, IsMoving, Takes, in_q, layers_of, number, row_had, size_of, tableau_of_pair}

some_is_no_none : {A : Type 0} (a : A) → Some a ≡ None → ⊥
some_is_no_none a e = cc

same_some : (a b : Row) → Some a ≡ Some b → a ≡ b
same_some a b e = cc

-- the row that a column has
pub had-base : (F : Tableau) (x : ℕ) → F.base x ≡ true → row_had F x ≡ Some (Q (F.row x))
had-base F x b = ap (λ c. cond c (Some (Q (F.row x))) (cond (F.matched x) (Some (T (F.mate x))) None)) b

pub had-mate : (F : Tableau) (x : ℕ) → F.base x ≡ false → F.matched x ≡ true → row_had F x ≡ Some (T (F.mate x))
had-mate F x b m = ap (λ c. cond c (Some (Q (F.row x))) (cond (F.matched x) (Some (T (F.mate x))) None)) b ∙ ap (λ c. cond c (Some (T (F.mate x))) None) m

pub had-none : (F : Tableau) (x : ℕ) → F.base x ≡ false → F.matched x ≡ false → row_had F x ≡ None
had-none F x b m = ap (λ c. cond c (Some (Q (F.row x))) (cond (F.matched x) (Some (T (F.mate x))) None)) b ∙ ap (λ c. cond c (Some (T (F.mate x))) None) m

-- a free column is none of the pair
free-used : (F : Tableau) (x : ℕ) → is_free F x ≡ not (F.base x || F.matched x)
unfolding is_free
free-used F x = neither (F.base x) (F.matched x)
  where
    neither : (a b : Bool) → (not a && not b) ≡ not (a || b)
    neither a b = grind arith

module _ (p : ℕ) (S₀ : TableauState) (M₀ : Matching) (tableau : HasTableau p (layers_of S₀ M₀) (tableau_of_pair S₀ M₀)) (at : ℕ → ℕ) (last : ℕ) (end : Row)
    (W : IsRoute p (layers_of S₀ M₀) (tableau_of_pair S₀ M₀) (route (tableau_of_pair S₀ M₀) at last (in_q end) (number end))) where
  abbrev F₀ : Tableau
  F₀ = tableau_of_pair S₀ M₀

  abbrev L₀ : LayeredMatrix
  L₀ = layers_of S₀ M₀

  abbrev R : Route
  R = route F₀ at last (in_q end) (number end)

  pub moving-start : IsMoving p S₀ M₀ R S₀ M₀ (Some end) (last + 1)
  moving-start = record {
    layers = refl;
    width = refl;
    stage = subst (λ i. IsStage p L₀ F₀ R i F₀) (omega arith) (stage-start p L₀ F₀ R tableau W);
    none = λ e. absurd (omega arith);
    some = λ j e. let here : j ≡ last = omega arith in (
      end,
      refl,
      sym (ap (λ i. R.in_q i) here ∙ route-last_row F₀ at last (in_q end) (number end)),
      sym
          (ap (λ i. R.row i) here ∙ route-last_to F₀ at last (in_q end) (number end)),
    );
  }

  module _ (S : TableauState) (M : Matching) (next : Option Row) (row : Row) (left : ℕ) (V : IsMoving p S₀ M₀ R S M next left) (is : next ≡ Some row) where
    pub moving-positive : 0 < left
    moving-positive = go left V.none
      where
        go : (n : ℕ) → (n ≡ 0 → next ≡ None) → 0 < n
        go zero none = absurd (some_is_no_none row (sym is ∙ none refl))
        go (suc n) none = omega arith

    -- column at i moves
    module _ (i : ℕ) (at_left : i + 1 ≡ left) where
      stage_now : IsStage p L₀ F₀ R (suc i) (tableau_of_pair S M)
      stage_now = subst (λ k. IsStage p L₀ F₀ R k (tableau_of_pair S M)) {x = left} (omega (arith, at_left)) V.stage

      i_le : i ≤ last
      i_le = omega (arith, stage_now.le)

      pub moving-below : at i < S₀.columns
      moving-below = W.below i i_le

      pub moving-apart : S.base (at i) ≡ true → (tableau_of_pair S M).matched (at i) ≡ true → ⊥
      moving-apart b m = differ (tableau.apart (at i) moving-below (sym (stage_now.same_base i (omega arith)) ∙ b))
          (sym (stage_now.same_match i (omega arith)) ∙ m)

      moving-columns : S.columns ≡ S₀.columns
      moving-columns = ap (λ (L : LayeredMatrix). L.columns) V.layers

      takes_row : (r : Row) × (next ≡ Some r) × (in_q r ≡ R.in_q i) × (number r ≡ R.row i)
      takes_row = V.some i at_left

      same_row : takes_row.0 ≡ row
      same_row = same_some takes_row.0 row (sym takes_row.1 ∙ is)

      in_q_is : in_q row ≡ R.in_q i
      in_q_is = subst (λ r. in_q r ≡ R.in_q i) same_row takes_row.2

      number_is : R.row i ≡ number row
      number_is = sym (subst (λ r. number r ≡ R.row i) same_row takes_row.3)

      pub can-take : CanTake p (layers_of S M) (tableau_of_pair S M) row (at i)
      can-take = subst (λ L. CanTake p L (tableau_of_pair S M) row (at i)) (sym V.layers) (record {
        of_q = λ q. (
          subst (λ r. r < L₀.q_rows) number_is (W.row_below i i_le (sym in_q_is ∙ q)),
          subst (λ r. S.p r (at i) % p ≢ 0) number_is (row-entry p L₀ F₀ R tableau W i (tableau_of_pair S M) (tableau_of_pair S M) stage_now (sym in_q_is ∙ q)),
          row-no_base p L₀ F₀ R tableau W i (tableau_of_pair S M) (tableau_of_pair S M) stage_now (sym in_q_is ∙ q),
        );
        of_t = λ t. (
          subst (λ r. r < L₀.t_rows) number_is (W.mate_below i i_le (sym in_q_is ∙ t)),
          subst (λ r. L₀.t r (at i) ≡ true) number_is (W.symbol i i_le (sym in_q_is ∙ t)),
          λ y yl m e. stage_now.mate_place i refl (sym in_q_is ∙ t) y yl m (e ∙ sym number_is),
        );
      })

      pub moving-count : size_on R.in_q left ≡ size_on R.in_q i + cond (in_q row) 1 0
      moving-count = ap (λ k. size_on R.in_q k) {x = left} {y = suc i} (omega (arith, at_left)) ∙ ap (λ c. size_on R.in_q i + cond c 1 0) (sym in_q_is)

      module _ (S' : TableauState) (M' : Matching) (same : layers_of S' M' ≡ layers_of S M) (pattern : M'.pattern ≡ M.pattern)
          (takes : Takes p (layers_of S M) (tableau_of_pair S M) (tableau_of_pair S' M') row (at i)) where
        takes_here : Takes p L₀ (tableau_of_pair S M) (tableau_of_pair S' M') row (at i)
        takes_here = subst (λ L. Takes p L (tableau_of_pair S M) (tableau_of_pair S' M') row (at i)) V.layers takes

        stage_next : (b : Bool) → in_q row ≡ b → IsStage p L₀ F₀ R i (tableau_of_pair S' M')
        stage_next true q = stage-row p L₀ F₀ R tableau W i (tableau_of_pair S M) (tableau_of_pair S' M') stage_now (sym in_q_is ∙ q)
            (subst (λ r. TakesRow p L₀ (tableau_of_pair S M) (tableau_of_pair S' M') r (at i)) (sym number_is) (takes_here.of_q q))
        stage_next false t = stage-mate p L₀ F₀ R tableau W i (tableau_of_pair S M) (tableau_of_pair S' M') stage_now (sym in_q_is ∙ t)
            (subst (λ r. TakesMate L₀ (tableau_of_pair S M) (tableau_of_pair S' M') r (at i)) (sym number_is) (takes_here.of_t t))

        -- the columns from which no end is reached stay
        pub moving-keeps : KeepsSealed p L₀ F₀ (tableau_of_pair S M) → KeepsSealed p L₀ F₀ (tableau_of_pair S' M')
        moving-keeps K = go (in_q row) refl
          where
            go : (b : Bool) → in_q row ≡ b → KeepsSealed p L₀ F₀ (tableau_of_pair S' M')
            go true q = row-keeps p L₀ F₀ R tableau W i i_le (tableau_of_pair S M) (tableau_of_pair S' M') K (sym in_q_is ∙ q)
                (subst (λ r. TakesRow p L₀ (tableau_of_pair S M) (tableau_of_pair S' M') r (at i)) (sym number_is) (takes_here.of_q q))
            go false t = mate-keeps p L₀ F₀ R tableau W i i_le (tableau_of_pair S M) (tableau_of_pair S' M') K (sym in_q_is ∙ t)
                (subst (λ r. TakesMate L₀ (tableau_of_pair S M) (tableau_of_pair S' M') r (at i)) (sym number_is) (takes_here.of_t t))

        none_left : i ≡ 0 → row_had (tableau_of_pair S M) (at i) ≡ None
        none_left e = had-none (tableau_of_pair S M) (at i)
            (stage_now.same_base i (omega arith) ∙ ap (λ k. F₀.base (at k)) e ∙ W.first.0)
            (stage_now.same_match i (omega arith) ∙ ap (λ k. F₀.matched (at k)) e ∙ W.first.1)

        row_left : (j : ℕ) → j + 1 ≡ i → (r : Row) × (row_had (tableau_of_pair S M) (at i) ≡ Some r) × (in_q r ≡ R.in_q j) × (number r ≡ R.row j)
        row_left j e = elim (test_cases (R.in_q j)) [ inl q ↦ base_case q | inr t ↦ mate_case t ]
          where
            next_is : suc j ≡ i
            next_is = omega (arith, e)

            base_case : R.in_q j ≡ true → (r : Row) × (row_had (tableau_of_pair S M) (at i) ≡ Some r) × (in_q r ≡ R.in_q j) × (number r ≡ R.row j)
            base_case q =
                let held : (F₀.base (at i) ≡ true) × (F₀.row (at i) ≡ R.row j) = subst (λ k. (F₀.base (at k) ≡ true)
                × (F₀.row (at k) ≡ R.row j)) next_is (W.row_left j (omega (arith, i_le, e)) q) in (
                  Q (S.row (at i)),
                  had-base (tableau_of_pair S M) (at i) (stage_now.same_base i (omega arith)
                      ∙ held.0),
                  sym q,
                  stage_now.same_row i (omega arith) held.0 ∙ held.1,
                )

            mate_case : R.in_q j ≡ false → (r : Row) × (row_had (tableau_of_pair S M) (at i) ≡ Some r) × (in_q r ≡ R.in_q j) × (number r ≡ R.row j)
            mate_case t =
                let held : (F₀.matched (at i) ≡ true) × (F₀.mate (at i) ≡ R.row j) =
                subst (λ k. (F₀.matched (at k) ≡ true) × (F₀.mate (at k) ≡ R.row j)) next_is
                (W.mate_left j (omega (arith, i_le, e)) t) in (
                  T ((tableau_of_pair S M).mate (at i)),
                  had-mate (tableau_of_pair S M) (at i)
                      (stage_now.same_base i (omega arith) ∙ no_base held.0) (stage_now.same_match i (omega arith)
                      ∙ held.0),
                  sym t,
                  stage_now.same_mate i (omega arith) held.0 ∙ held.1,
                )
              where
                no_base : F₀.matched (at i) ≡ true → F₀.base (at i) ≡ false
                no_base m = elim (test_cases (F₀.base (at i))) [ inl b ↦ absurd (differ (tableau.apart (at i) moving-below b) m) | inr n ↦ n ]

        pub moving-next : IsMoving p S₀ M₀ R S' M' (row_had (tableau_of_pair S M) (at i)) i
        moving-next = record {
          layers = same ∙ V.layers;
          width = ap (λ m. m.width) pattern ∙ V.width;
          stage = stage_next (in_q row) refl;
          none = none_left;
          some = row_left;
        }

    -- the column that moves is one of the columns
    pub step-below : (x : ℕ) → x ≡ at (left - 1) → x < S₀.columns
    step-below x e = subst (λ y. y < S₀.columns) (sym e) (moving-below (left - 1) (omega (arith, moving-positive)))

  module _ (S : TableauState) (M : Matching) (next : Option Row) (left : ℕ) (V : IsMoving p S₀ M₀ R S M next left) (done : next ≡ None) where
    moving-done : left ≡ 0
    moving-done = go left V.some
      where
        go : (n : ℕ) → ((j : ℕ) → j + 1 ≡ n → (r : Row) × (next ≡ Some r) × (in_q r ≡ R.in_q j) × (number r ≡ R.row j)) → n ≡ 0
        go zero some = refl
        go (suc n) some = let (r, is, _, _) = some n (omega arith) in absurd (some_is_no_none r (sym is ∙ done))

    stage_end : IsStage p L₀ F₀ R 0 (tableau_of_pair S M)
    stage_end = subst (λ k. IsStage p L₀ F₀ R k (tableau_of_pair S M)) moving-done V.stage

    pub moving-tableau : HasTableau p L₀ (tableau_of_pair S M)
    moving-tableau = end-tableau p L₀ F₀ R tableau W (tableau_of_pair S M) stage_end

    pub moving-size : size_of S M ≡ size_of S₀ M₀ + 1
    moving-size = ap (λ (L : LayeredMatrix). pair_size L S.base (tableau_of_pair S M).matched) V.layers ∙ end-size p L₀ F₀ R tableau W (tableau_of_pair S M)
        stage_end

    pub moving-taken : IsFreeTaken S₀.columns F₀ (tableau_of_pair S M) (at 0)
    moving-taken = record {
      here = free-used (tableau_of_pair S M) (at 0) ∙ ap not (stage_end.used_first refl);
      others = λ y l ne. free-used (tableau_of_pair S M) y ∙ ap not (stage_end.used y l (inr ne)) ∙ sym (free-used F₀ y);
    }

    pub moving-none : size_on R.in_q left ≡ 0
    moving-none = ap (λ k. size_on R.in_q k) moving-done

  pub moving-pivots : size_on R.in_q (last + 1) ≤ size_on S₀.base S₀.columns + 1
  moving-pivots = subst (λ k. size_on R.in_q k ≤ size_on S₀.base S₀.columns + 1) {x = suc last} (omega arith) (route-pivots p L₀ F₀ R W)
