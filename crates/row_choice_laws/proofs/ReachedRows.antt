-- The rows that are reached in vain, and the minimisers of the layered matrix in which the other equations are emptied.
use Rattle.std.proofs.Common.{◌≡◌, ◌≢◌, ℕ, ◌+◌, ◌-◌, ◌%◌, ◌<◌, Bool, true, false, cond, not, eqb, ◌&&◌, ◌||◌, ◌⊎◌, inl}
use Rattle.std.proofs.Common.{inr, refl, ap, sym, subst, ◌∙◌, arith}
use Rattle.residue_theory.proofs.SetLaws.{both-first, both-second, both_true, differ, either-first, either-second}
use Rattle.residue_theory.proofs.SetLaws.{not_true, some_below-found, some_below-holds, zero_cases}
use Rattle.residue_theory.specs.Residues.{IsPrime}
use Rattle.residue_theory.specs.Sets.{both, everything, without}
use Rattle.linear_algebra.specs.Bases.{HasNoBase, IsBase}
use Rattle.linear_algebra.specs.Columns.{IsRank}
use Rattle.linear_algebra.specs.Parts.{without_row}
use Rattle.linear_algebra_laws.proofs.Bases.{base-within}
use Rattle.linear_algebra_laws.proofs.Entries.{identity-other}
use Rattle.linear_algebra_laws.proofs.Ranks.{rank_exists}
use Rattle.linear_algebra_laws.proofs.RowRemoval.{stays-tableau, tableau-stays, without_row-removed}
use Rattle.std.proofs.Math.Nat.{zero-mod}
use Rattle.closed_sets.proofs.ClosedLaws.{reached-closed}
use Rattle.closed_sets.specs.Closed.{IsClosed}
use Rattle.mixed_matrices.specs.Arcs.{IsClosedIn}
use Rattle.mixed_matrices.specs.LayeredMatrices.{LayeredMatrix}
use Rattle.mixed_matrices.specs.Layerings.{IsLayering, Origins}
use Rattle.mixed_matrices.specs.Models.{MixedMatrix}
use Rattle.mixed_matrices.specs.Removals.{IsSurplus, mixed_part}
use Rattle.mixed_matrices.specs.SetFunctions.{IsMinimiser, IsRho, touches_set}
use Rattle.mixed_matrices.specs.Tableaus.{HasTableau, IsTableau, Tableau}
use Rattle.mixed_pair_laws.proofs.ArcFacts.{free-holds}
use Rattle.mixed_pair_laws.proofs.ClosedSets.{Fits, closed-fits, fits-closed}
use Rattle.mixed_pair_laws.proofs.Minimisers.{closed-minimiser, minimiser-closed}
use Rattle.mixed_pair_laws.proofs.RemovedRows.{emptied_equation, left_equation}
use Rattle.mixed_pair_laws.proofs.SameEntries.{same-model}
use Rattle.mixed_pair_laws.proofs.TableauParts.{tableau}
use Rattle.mixed_report_laws.proofs.Tests.{rho-surplus, surplus-rho, surplus-untouched, untouched-surplus}
use Rattle.equation_matroid_laws.proofs.EmptiedLayers.{emptied-layering}
use Rattle.equation_matroid_laws.specs.Conflicts.{IsSurplusAmong}
use Rattle.row_choice_laws.proofs.BlankRows.{blank-none, from-own}
use Rattle.row_choice_laws.proofs.OwnTableaus.{false-not, inner-mate, layers_of, made_of, not-false, other-entry}
use Rattle.row_choice_laws.proofs.OwnTableaus.{other-symbol, outer, outer-no_base, outer-no_match, own-entry}
use Rattle.row_choice_laws.proofs.OwnTableaus.{own-symbol, own-tableau, pass, pick, tableau_of, undone, zero-one}
use Rattle.row_choice_laws.proofs.RowPlaces.{bare-or_column, column-q, column-t, leads-holds, open-holds, q-column}
use Rattle.row_choice_laws.proofs.RowPlaces.{q-entry, q-row, row-cases, row-q, t-column, t-entry, t-row}
use Rattle.row_choice_laws.specs.RowSearches.{IsOnRowsOf, AreRowsReachedInVain, bare_of, is_column_of, has_row_entry}
use Rattle.row_choice_laws.specs.RowSearches.{is_bare_row}
use Rattle.row_choice_laws.specs.RowSearches.{is_open, is_row_of, places, row_leads}

module _ (p : ℕ) (prime : IsPrime p) (M : MixedMatrix) (K : ℕ → Bool) (x : ℕ) (xl : x < M.rows) where
  constants : (k a : Bool) (c : ℕ) → cond (true && a && true) (cond (k && true) c 0) 0 ≡ cond (k && a && true) c 0
  constants true true c = refl
  constants true false c = refl
  constants false true c = refl
  constants false false c = refl

  symbols : (k a s : Bool) → (true && a) && true && (k && true && s) ≡ (k && a) && true && s
  symbols k a s = grind arith

  pub surplus-among : IsSurplus p (mixed_part K everything M) x → IsSurplusAmong p M K x
  surplus-among (r, R, T) = (
    r,
    R,
    same-model p (mixed_part (without everything x) everything (mixed_part K everything M)) (mixed_part (without K x) everything M)
        (record {
          rows = refl;
          columns = refl;
          constants = λ i j _ _. ap (λ y. y % p) (constants (K i) (not (eqb i x)) (M.constant i j));
          symbols = λ i j _ _. symbols (K i) (not (eqb i x)) (M.symbol i j);
        }) r (left_equation p prime (mixed_part K everything M) x xl r T),
  )

  pub among-surplus : IsSurplusAmong p M K x → IsSurplus p (mixed_part K everything M) x
  among-surplus (r, R, T) = (
    r,
    R,
    emptied_equation p prime (mixed_part K everything M) x xl r
        (same-model p (mixed_part (without K x) everything M) (mixed_part (without everything x) everything (mixed_part K everything M))
        (record {
          rows = refl;
          columns = refl;
          constants = λ i j _ _. ap (λ y. y % p) (sym (constants (K i) (not (eqb i x)) (M.constant i j)));
          symbols = λ i j _ _. sym (symbols (K i) (not (eqb i x)) (M.symbol i j));
        }) r T),
  )

module _ (p : ℕ) (prime : IsPrime p) (M : MixedMatrix) (A D : ℕ → Bool) (L : LayeredMatrix) (O : Origins) (lay : IsLayering M A D L O)
    (S U : ℕ → ℕ → ℕ) (F : Tableau) (tab : IsTableau p L S U F) (K W : ℕ → Bool) (on : IsOnRowsOf p L O S F K) (reach : AreRowsReachedInVain p L O F K W) where
  abbrev LK : LayeredMatrix
  LK = layers_of p M A D L O lay S U F tab K on

  abbrev G : Tableau
  G = tableau_of p M A D L O lay S U F tab K on

  abbrev SK : ℕ → ℕ → ℕ
  SK = made_of p M A D L O lay S U F tab K on

  abbrev UK : ℕ → ℕ → ℕ
  UK = undone p M A D L O lay S U F tab K on

  abbrev out : ℕ → Bool
  out = outer p M A D L O lay S U F tab K on

  pub has : HasTableau p LK G
  has = tableau p prime LK SK UK G (own-tableau p M A D L O lay S U F tab K on)

  -- ---- the reached rows
  pub closed : IsClosed (row_leads p L F) (places L) (bare_of L O F K) (is_open p L F) W
  closed = reached-closed (row_leads p L F) (places L) (bare_of L O F K) (is_open p L F) reach.vain W reach.reached

  pub q_place : (i : ℕ) → i < L.q_rows → i < places L
  q_place i il = omega (arith, il)

  pub t_place : (t : ℕ) → t < L.t_rows → L.q_rows + t < places L
  t_place t tl = omega (arith, tl)

  pub reached-own : (r : ℕ) → r < places L → W r ≡ true → is_row_of L O K r ≡ true
  reached-own r rl h = from-own p prime M A D L O lay S U F tab K on r rl ((reach.reached r rl).0 h)

  -- the columns of reached rows
  owned : ℕ → Bool
  owned y = (F.base y && W (F.row y)) || (F.matched y && W (L.q_rows + F.mate y))

  entries-owned : (r y : ℕ) → r < places L → W r ≡ true → y < L.columns → has_row_entry p L F r y ≡ true → owned y ≡ true
  unfolding owned
  entries-owned r y rl h yl e = at (F.base y) refl (F.matched y) refl
    where
      at : (b : Bool) → F.base y ≡ b → (m : Bool) → F.matched y ≡ m → (F.base y && W (F.row y)) || (F.matched y && W (L.q_rows + F.mate y)) ≡ true
      at true b m _ = either-first (F.base y && W (F.row y)) (F.matched y && W (L.q_rows + F.mate y)) (both_true (F.base y) (W (F.row y)) b
          (closed.follows r (F.row y) rl (q_place (F.row y) (tab.base.row_below y yl b)) h
          (leads-holds p L F r (F.row y) y yl e (q-column p L F (F.row y) y (tab.base.row_below y yl b) b refl))))
      at false b true m = either-second (F.base y && W (F.row y)) (F.matched y && W (L.q_rows + F.mate y)) (both_true (F.matched y) (W (L.q_rows + F.mate y)) m
          (closed.follows r (L.q_rows + F.mate y) rl (t_place (F.mate y) (tab.matching.below y yl m)) h
          (leads-holds p L F r (L.q_rows + F.mate y) y yl e (t-column p L F (F.mate y) y m refl))))
      at false b false m = absurd (closed.no_end r rl h (open-holds p L F r y yl e (free-holds F y b m)))

  -- the other columns, but for the auxiliary ones outside K
  pub others : ℕ → Bool
  others y = not (owned y) && not (out y)

  others-make : (y : ℕ) → owned y ≡ false → out y ≡ false → others y ≡ true
  unfolding others
  others-make y a b = both_true (not (owned y)) (not (out y)) (false-not (owned y) a) (false-not (out y) b)

  others-owned : (y : ℕ) → others y ≡ true → owned y ≡ false
  unfolding others
  others-owned y h = not-false (owned y) (both-first (not (owned y)) (not (out y)) h)

  others-out : (y : ℕ) → others y ≡ true → out y ≡ false
  unfolding others
  others-out y h = not-false (out y) (both-second (not (owned y)) (not (out y)) h)

  -- a row of K that is not reached has a column, one of the others
  unreached-column : (r : ℕ) → r < places L → is_row_of L O K r ≡ true → W r ≡ false →
      (y : ℕ) × (y < L.columns) × (is_column_of L F r y ≡ true) × (others y ≡ true)
  unfolding owned
  unreached-column r rl k w = go (bare-or_column p L F r)
    where
      go : (is_bare_row L F r ≡ true) ⊎ ((y : ℕ) × (y < L.columns) × (is_column_of L F r y ≡ true)) →
          (y : ℕ) × (y < L.columns) × (is_column_of L F r y ≡ true) × (others y ≡ true)
      go (inl bare) = absurd (differ w (closed.holds_starts r rl (both_true (is_row_of L O K r) (is_bare_row L F r) k bare)))
      go (inr (y, yl, c)) = (y, yl, c, at (row-cases L r rl))
        where
          in_base : (b v m u : Bool) → v ≡ false → m ≡ false → (b && v) || (m && u) ≡ false
          in_base b v m u h k = grind arith

          in_match : (b v m u : Bool) → b ≡ false → u ≡ false → (b && v) || (m && u) ≡ false
          in_match b v m u h k = grind arith

          at : (r < L.q_rows) ⊎ ((t : ℕ) × (t < L.t_rows) × (r ≡ L.q_rows + t)) → others y ≡ true
          at (inl ql) = let (b, q) = column-q p L F r y ql c in
              others-make y (in_base (F.base y) (W (F.row y)) (F.matched y) (W (L.q_rows + F.mate y)) (subst (λ s. W s ≡ false) (sym q) w) (tab.apart y yl b))
              (not_true (out y) (λ o. outer-no_base p M A D L O lay S U F tab K on y yl o b))
          at (inr (t, tl, q)) = let (m, e) = column-t p L F t y (subst (λ s. is_column_of L F s y ≡ true) q c) in
              others-make y (in_match (F.base y) (W (F.row y)) (F.matched y) (W (L.q_rows + F.mate y))
              (not_true (F.base y) (λ b. differ (tab.apart y yl b) m))
              (subst (λ s. W s ≡ false) (q ∙ ap (λ s. L.q_rows + s) (sym e)) w))
              (not_true (out y) (λ o. outer-no_match p M A D L O lay S U F tab K on y yl o m))

  -- they are a closed set
  others-fit : Fits p LK G others
  unfolding owned
  others-fit = record {
    free = λ y yl b m. others-make y (neither (F.base y) (W (F.row y)) (F.matched y) (W (L.q_rows + F.mate y)) b (second (F.matched y) (out y) m))
        (third (F.matched y) (out y) m);
    q = q;
    t = t;
  }
    where
      neither : (b v m u : Bool) → b ≡ false → m ≡ false → (b && v) || (m && u) ≡ false
      neither b v m u h k = grind arith

      second : (m o : Bool) → m || o ≡ false → m ≡ false
      second m o h = grind arith

      third : (m o : Bool) → m || o ≡ false → o ≡ false
      third m o h = grind arith

      q : (x i : ℕ) → x < L.columns → others x ≡ true → i < L.q_rows → G.P i x % p ≢ 0 → (b : ℕ) × (b < L.columns) × (both F.base others b ≡ true)
          × (F.row b ≡ i)
      q x i xl xh il ne = at (K (O.of_q i)) refl (W i) refl
        where
          at : (k : Bool) → K (O.of_q i) ≡ k → (w : Bool) → W i ≡ w → (b : ℕ) × (b < L.columns) × (both F.base others b ≡ true) × (F.row b ≡ i)
          at false k w _ = absurd (differ (others-out x xh) (other-entry p M A D L O lay S U F tab K on i x il xl k ne))
          at true k true w = absurd (differ (others-owned x xh) (entries-owned i x (q_place i il) w xl
              (q-entry p L F i x il (λ z. ne (ap (λ y. y % p) (own-entry p M A D L O lay S U F tab K on i x k) ∙ z)))))
          at true k false w = let (b, bl, c, h) = unreached-column i (q_place i il) (q-row L O K i il k) w in
              let (bh, e) = column-q p L F i b il c in (b, bl, both_true (F.base b) (others b) bh h, e)

      t : (x i : ℕ) → x < L.columns → others x ≡ true → i < L.t_rows → LK.t i x ≡ true → (y : ℕ) × (y < L.columns) × (both G.matched others y ≡ true)
          × (G.mate y ≡ i)
      t x i xl xh il s = at (K (O.of_t i)) refl (W (L.q_rows + i)) refl
        where
          at : (k : Bool) → K (O.of_t i) ≡ k → (w : Bool) → W (L.q_rows + i) ≡ w → (y : ℕ) × (y < L.columns) × (both G.matched others y ≡ true)
              × (G.mate y ≡ i)
          at false k w _ = absurd (differ (others-out x xh) (other-symbol p M A D L O lay S U F tab K on i x il xl k s))
          at true k true w = absurd (differ (others-owned x xh) (entries-owned (L.q_rows + i) x (t_place i il) w xl
              (t-entry p L F i x ∙ sym (own-symbol p M A D L O lay S U F tab K on i x k) ∙ s)))
          at true k false w = let (y, yl, c, h) = unreached-column (L.q_rows + i) (t_place i il) (t-row L O K i k) w in
              let (m, e) = column-t p L F i y c in (
                y,
                yl,
                both_true (G.matched y) (others y) (either-first (F.matched y) (out y) m) h,
                inner-mate p M A D L O lay S U F tab K on y yl (others-out y h) ∙ e,
              )

  pub others-closed : IsClosedIn p LK G others
  others-closed = fits-closed p prime LK G has others others-fit

  others-minimiser : IsMinimiser p LK others
  others-minimiser = closed-minimiser p prime LK G has others others-closed

  -- ---- any minimiser
  module _ (Y : ℕ → Bool) (small : IsMinimiser p LK Y) where
    fit : Fits p LK G Y
    fit = closed-fits p prime LK G has Y (minimiser-closed p prime LK G has others others-closed Y small)

    -- a reached row has no entry in Y
    no-entry : (r z : ℕ) → r < places L → W r ≡ true → z < L.columns → Y z ≡ true → has_row_entry p L F r z ≡ true → ⊥
    no-entry r z rl h = blank-none p prime M A D L O lay S U F tab K on Y fit r z rl ((reach.reached r rl).0 h)

  -- ---- a base within a closed set
  module _ (X : ℕ → Bool) (fit : Fits p LK G X) where
    base_within : IsBase p G.P L.q_rows L.columns (both F.base X) F.row
    base_within = base-within p G.P L.q_rows L.columns (both F.base X) F.base F.row (λ b bl h. both-first (F.base b) (X b) h) has.base

    zeros : (i j : ℕ) → i < L.q_rows → j < L.columns → X j ≡ true → HasNoBase L.columns (both F.base X) F.row i → G.P i j % p ≡ 0
    zeros i j il jl jh none = elim (zero_cases (G.P i j % p)) [ inl z ↦ z | inr ne ↦ absurd (bad (fit.q j i jl jh il ne)) ]
      where
        bad : (b : ℕ) × (b < L.columns) × (both F.base X b ≡ true) × (F.row b ≡ i) → ⊥
        bad (b, bl, bh, o) = none b bl bh o

  module _ (big : 2 < p) where
    abbrev MK : MixedMatrix
    MK = mixed_part K everything M

    layK : IsLayering MK A D LK O
    layK = emptied-layering M A D L O lay K

    -- ---- an equation with a T row
    module _ (d : ℕ) (dl : d < L.t_rows) (k : K (O.of_t d) ≡ true) where
      row_below : O.of_t d < M.rows
      row_below = lay.t_rows.below d dl

      pub surplus-reached : IsSurplusAmong p M K (O.of_t d) → W (L.q_rows + d) ≡ true
      surplus-reached s = at (W (L.q_rows + d)) refl
        where
          at : (w : Bool) → W (L.q_rows + d) ≡ w → W (L.q_rows + d) ≡ true
          at true w = w
          at false w = let (y, yl, c, h) = unreached-column (L.q_rows + d) (t_place d dl) (t-row L O K d k) w in
              let (m, e) = column-t p L F d y c in
              absurd (differ (surplus-untouched p prime big MK A D LK O layK d dl (among-surplus p prime M K (O.of_t d) row_below s) others others-minimiser)
              (some_below-holds L.columns (both others (LK.t d)) y yl (both_true (others y) (LK.t d y) h
              (own-symbol p M A D L O lay S U F tab K on d y k ∙ subst (λ i. L.t i y ≡ true) e (tab.matching.symbol y yl m)))))

      pub reached-surplus : W (L.q_rows + d) ≡ true → IsSurplusAmong p M K (O.of_t d)
      reached-surplus w = surplus-among p prime M K (O.of_t d) row_below (untouched-surplus p prime big MK A D LK O layK d dl untouched)
        where
          untouched : (Y : ℕ → Bool) → IsMinimiser p LK Y → touches_set LK Y d ≡ false
          untouched Y small = not_true (touches_set LK Y d) (λ h. found (some_below-found L.columns (both Y (LK.t d)) h))
            where
              found : (y : ℕ) × (y < L.columns) × (both Y (LK.t d) y ≡ true) → ⊥
              found (y, yl, h) = no-entry Y small (L.q_rows + d) y (t_place d dl) w yl (both-first (Y y) (LK.t d y) h)
                  (t-entry p L F d y ∙ sym (own-symbol p M A D L O lay S U F tab K on d y k) ∙ both-second (Y y) (LK.t d y) h)

    -- ---- an equation without one
    module _ (e : ℕ) (el : e < L.q_rows) (k : K (O.of_q e) ≡ true) (no_t : D (O.of_q e) ≡ false) where
      q_below : O.of_q e < M.rows
      q_below = lay.q_rows.below e el

      abbrev pub IsUsed : Type 0
      IsUsed = (i : ℕ) × (i < L.q_rows) × (W i ≡ true) × (S i e % p ≢ 0)

      pub surplus-used : IsSurplusAmong p M K (O.of_q e) → IsUsed
      surplus-used s = go (rank_exists p prime LK.q L.q_rows L.columns others) (rank_exists p prime (without_row e LK.q) (L.q_rows - 1) L.columns others)
        where
          shown : (i : ℕ) × (i < L.q_rows) × HasNoBase L.columns (both F.base others) F.row i × (SK i e % p ≢ 0) → IsUsed
          shown (i, il, none, ne) = at (K (O.of_q i)) refl (W i) refl
            where
              at : (b : Bool) → K (O.of_q i) ≡ b → (w : Bool) → W i ≡ w → IsUsed
              at false b w _ = absurd (ne (ap (λ y. y % p) (pass (K (O.of_q i)) (S i e) (cond (eqb i e) 1 0) b
                  ∙ identity-other i e (λ q. differ b (subst (λ j. K (O.of_q j) ≡ true) (sym q) k))) ∙ zero-mod p))
              at true b true w = (i, il, w, (λ z. ne (ap (λ y. y % p) (pick (K (O.of_q i)) (S i e) (cond (eqb i e) 1 0) b) ∙ z)))
              at true b false w = let (y, yl, c, h) = unreached-column i (q_place i il) (q-row L O K i il b) w in
                  let (bh, q) = column-q p L F i y il c in absurd (none y yl (both_true (F.base y) (others y) bh h) q)

          go : (u : ℕ) × IsRho p LK others u → (v : ℕ) × IsRank p (without_row e LK.q) (L.q_rows - 1) L.columns others v → IsUsed
          go (u, R) (v, T) = shown (stays-tableau p prime L.q_rows (L.q_rows - 1) L.columns LK.q (without_row e LK.q) e
              (without_row-removed p L.q_rows L.columns LK.q e el) SK UK G.P (both F.base others) F.row others
              (own-tableau p M A D L O lay S U F tab K on).inverse (own-tableau p M A D L O lay S U F tab K on).product
              (base_within others others-fit) (λ b bl h. both-second (F.base b) (others b) h) (zeros others others-fit) u v R T
              (surplus-rho p prime big MK A D LK O layK e el no_t (among-surplus p prime M K (O.of_q e) q_below s) others others-minimiser u v R T))

      pub used-surplus : IsUsed → IsSurplusAmong p M K (O.of_q e)
      used-surplus (i, il, w, ne) = surplus-among p prime M K (O.of_q e) q_below (rho-surplus p prime big MK A D LK O layK e el no_t stays)
        where
          own : K (O.of_q i) ≡ true
          own = row-q L O K i il (reached-own i (q_place i il) w)

          stays : (Y : ℕ → Bool) → IsMinimiser p LK Y → (u v : ℕ) → IsRho p LK Y u → IsRank p (without_row e LK.q) (L.q_rows - 1) L.columns Y v → v ≡ u
          stays Y small u v R T = tableau-stays p prime L.q_rows (L.q_rows - 1) L.columns LK.q (without_row e LK.q) e
              (without_row-removed p L.q_rows L.columns LK.q e el) SK UK G.P (both F.base Y) F.row Y
              (own-tableau p M A D L O lay S U F tab K on).inverse (own-tableau p M A D L O lay S U F tab K on).product
              (base_within Y (fit Y small)) (λ b bl h. both-second (F.base b) (Y b) h) (zeros Y (fit Y small)) u v R T i il none
              (λ z. ne (ap (λ y. y % p) (sym (pick (K (O.of_q i)) (S i e) (cond (eqb i e) 1 0) own)) ∙ z))
            where
              none : HasNoBase L.columns (both F.base Y) F.row i
              none b bl bh q = no-entry Y small i b (q_place i il) w bl (both-second (F.base b) (Y b) bh)
                  (q-entry p L F i b il (λ z. zero-one (F.P (F.row b) b % p) (subst (λ j. F.P j b % p ≡ 0) (sym q) z)
                  (tab.base.one b bl (both-first (F.base b) (Y b) bh))))
