-- A search over the columns, against the arcs, is a search backwards over the rows.
use Rattle.std.proofs.Common.{◌≡◌, ◌≢◌, ℕ, zero, suc, ◌+◌, ◌%◌, ◌<◌, ◌≤◌, Bool, true, false, eqb, ◌&&◌, ◌⊎◌, inl, inr}
use Rattle.std.proofs.Common.{refl, ap, sym, subst, ◌∙◌, arith}
use Rattle.residue_theory.proofs.CountLaws.{size-everything, size-injection}
use Rattle.residue_theory.proofs.SetLaws.{both-first, both-second, both_true, differ, either-first, either-second}
use Rattle.residue_theory.proofs.SetLaws.{either_cases, eqb_from, eqb_true, some_below-found, some_below-holds}
use Rattle.residue_theory.proofs.SumLaws.{nat_cases}
use Rattle.residue_theory.specs.Sets.{everything, only, some_below}
use Rattle.closed_sets.proofs.Hulls.{follows-from}
use Rattle.closed_sets.proofs.WalkLaws.{from-arc, reaches-arc, reaches-self}
use Rattle.closed_sets.specs.Closed.{Follows, IsReachedSet, NoEndReached}
use Rattle.closed_sets.specs.Walks.{FromSome, Reaches, Walk}
use Rattle.search_laws.proofs.ShortestWalks.{one_end, places_differ}
use Rattle.search_laws.specs.Searches.{IsShortest}
use Rattle.mixed_matrices.specs.Arcs.{is_free}
use Rattle.mixed_matrices.specs.LayeredMatrices.{LayeredMatrix}
use Rattle.mixed_matrices.specs.Tableaus.{HasTableau, Tableau}
use Rattle.mixed_pair_laws.proofs.ArcFacts.{LeadsInQ, LeadsInT, free-holds, free-tells, leads-q, leads-t, leads-tells}
use Rattle.row_choice_laws.proofs.OwnTableaus.{pass, pick}
use Rattle.row_choice_laws.proofs.RowPlaces.{bare-tells, column-q, column-t, entry-q, leads-found, leads-holds}
use Rattle.row_choice_laws.proofs.RowPlaces.{open-found, open-holds, q-column, q-entry, row-cases, t-column, t-entry}
use Rattle.row_choice_laws.specs.ColumnSearches.{leads_back, row_place, rows_along, rows_from}
use Rattle.row_choice_laws.specs.Growth.{AreColumnsAlong}
use Rattle.row_choice_laws.specs.RowSearches.{is_column_of, has_row_entry, is_bare_row, is_open, places, row_leads}

module _ (p : ℕ) (L : LayeredMatrix) (F : Tableau) (T : HasTableau p L F) where
  -- ---- a column and its row
  Placed : ℕ → ℕ → Type 0
  Placed y r = (r < places L) × (is_column_of L F r y ≡ true)

  -- a column that is not free has its row
  has-place : (y : ℕ) → y < L.columns → is_free F y ≡ false → Placed y (row_place L F y)
  unfolding Placed
  has-place y yl n = at (F.base y) refl (F.matched y) refl
    where
      at : (b : Bool) → F.base y ≡ b → (m : Bool) → F.matched y ≡ m → (row_place L F y < places L) × (is_column_of L F (row_place L F y) y ≡ true)
      at true b m _ = let e : row_place L F y ≡ F.row y = pick (F.base y) (F.row y) (L.q_rows + F.mate y) b in
          let l : F.row y < L.q_rows = T.base.row_below y yl b in
          (omega (arith, e, l), subst (λ r. is_column_of L F r y ≡ true) (sym e) (q-column p L F (F.row y) y l b refl))
      at false b true m = let e : row_place L F y ≡ L.q_rows + F.mate y = pass (F.base y) (F.row y) (L.q_rows + F.mate y) b in
          let l : F.mate y < L.t_rows = T.matching.below y yl m in
          (omega (arith, e, l), subst (λ r. is_column_of L F r y ≡ true) (sym e) (t-column p L F (F.mate y) y m refl))
      at false b false m = absurd (differ n (free-holds F y b m))

  one-column : (r y z : ℕ) → r < places L → y < L.columns → z < L.columns → is_column_of L F r y ≡ true → is_column_of L F r z ≡ true → y ≡ z
  one-column r y z rl yl zl c d = at (row-cases L r rl)
    where
      at : (r < L.q_rows) ⊎ ((t : ℕ) × (t < L.t_rows) × (r ≡ L.q_rows + t)) → y ≡ z
      at (inl ql) = let (a, q) = column-q p L F r y ql c in let (b, e) = column-q p L F r z ql d in T.base.distinct y z yl zl a b (q ∙ sym e)
      at (inr (t, tl, g)) = let (a, q) = column-t p L F t y (subst (λ k. is_column_of L F k y ≡ true) g c) in
          let (b, e) = column-t p L F t z (subst (λ k. is_column_of L F k z ≡ true) g d) in T.matching.distinct y z yl zl a b (q ∙ sym e)

  one-row : (r t y : ℕ) → r < places L → t < places L → y < L.columns → is_column_of L F r y ≡ true → is_column_of L F t y ≡ true → r ≡ t
  one-row r t y rl tl yl a b = go (row-cases L r rl) (row-cases L t tl)
    where
      go : (r < L.q_rows) ⊎ ((i : ℕ) × (i < L.t_rows) × (r ≡ L.q_rows + i)) → (t < L.q_rows) ⊎ ((i : ℕ) × (i < L.t_rows) × (t ≡ L.q_rows + i)) → r ≡ t
      go (inl rq) (inl tq) = sym (column-q p L F r y rq a).1 ∙ (column-q p L F t y tq b).1
      go (inl rq) (inr (i, il, e)) = absurd (differ (T.apart y yl (column-q p L F r y rq a).0)
          (column-t p L F i y (subst (λ x. is_column_of L F x y ≡ true) e b)).0)
      go (inr (i, il, e)) (inl tq) = absurd (differ (T.apart y yl (column-q p L F t y tq b).0)
          (column-t p L F i y (subst (λ x. is_column_of L F x y ≡ true) e a)).0)
      go (inr (i, il, e)) (inr (j, jl, g)) = e ∙ ap (λ x. L.q_rows + x) (sym (column-t p L F i y (subst (λ x. is_column_of L F x y ≡ true) e a)).1
          ∙ (column-t p L F j y (subst (λ x. is_column_of L F x y ≡ true) g b)).1) ∙ sym g

  column-not_free : (r y : ℕ) → r < places L → is_column_of L F r y ≡ true → is_free F y ≡ true → ⊥
  column-not_free r y rl c f = go (row-cases L r rl)
    where
      go : (r < L.q_rows) ⊎ ((i : ℕ) × (i < L.t_rows) × (r ≡ L.q_rows + i)) → ⊥
      go (inl rq) = differ (free-tells F y f).0 (column-q p L F r y rq c).0
      go (inr (i, il, e)) = differ (free-tells F y f).1 (column-t p L F i y (subst (λ x. is_column_of L F x y ≡ true) e c)).0

  -- column x leads back to another column y exactly where its row has an entry at y
  back-holds : (r x y : ℕ) → r < places L → x ≢ y → is_column_of L F r x ≡ true → has_row_entry p L F r y ≡ true → leads_back p L F x y ≡ true
  back-holds r x y rl ne c e = go (row-cases L r rl)
    where
      go : (r < L.q_rows) ⊎ ((i : ℕ) × (i < L.t_rows) × (r ≡ L.q_rows + i)) → leads_back p L F x y ≡ true
      go (inl rq) = let (b, q) = column-q p L F r x rq c in
          leads-q p L F y x (λ g. ne (sym g)) b (subst (λ k. F.P k y % p ≢ 0) (sym q) (entry-q p L F r y rq e))
      go (inr (i, il, g)) = let (m, q) = column-t p L F i x (subst (λ k. is_column_of L F k x ≡ true) g c) in
          leads-t p L F y x (λ h. ne (sym h)) m (subst (λ k. L.t k y ≡ true) (sym q)
          (sym (t-entry p L F i y) ∙ subst (λ k. has_row_entry p L F k y ≡ true) g e))

  back-tells : (x y : ℕ) → x < L.columns → leads_back p L F x y ≡ true → (r : ℕ) × (r < places L) × (is_column_of L F r x ≡ true)
      × (has_row_entry p L F r y ≡ true) × (r ≡ row_place L F x)
  back-tells x y xl h = go (leads-tells p L F y x h)
    where
      go : LeadsInQ p L F y x ⊎ LeadsInT p L F y x → (r : ℕ) × (r < places L) × (is_column_of L F r x ≡ true) × (has_row_entry p L F r y ≡ true)
          × (r ≡ row_place L F x)
      go (inl (b, ne)) = let l : F.row x < L.q_rows = T.base.row_below x xl b in (
        F.row x,
        omega (arith, l),
        q-column p L F (F.row x) x l b refl,
        q-entry p L F (F.row x) y l ne,
        sym (pick (F.base x) (F.row x) (L.q_rows + F.mate x) b),
      )
      go (inr (m, s)) = let l : F.mate x < L.t_rows = T.matching.below x xl m in (
        L.q_rows + F.mate x,
        omega (arith, l),
        t-column p L F (F.mate x) x m refl,
        t-entry p L F (F.mate x) y ∙ s,
        sym (pass (F.base x) (F.row x) (L.q_rows + F.mate x) (off (F.base x) refl)),
      )
        where
          off : (b : Bool) → F.base x ≡ b → F.base x ≡ false
          off false b = b
          off true b = absurd (differ (T.apart x xl b) m)

  module _ (s : ℕ) (sl : s < places L) where
    -- a walk of rows gives one of columns that is no longer
    Shorter : ℕ → ℕ → Type 0
    Shorter z m = (y : ℕ) × (k : ℕ) × (y < L.columns) × (has_row_entry p L F s y ≡ true) × (k ≤ m) × Walk (leads_back p L F) L.columns y z k

    to-columns : (m r z : ℕ) → r < places L → Walk (row_leads p L F) (places L) s r m → z < L.columns → has_row_entry p L F r z ≡ true → Shorter z m
    unfolding Shorter
    to-columns zero r z rl w zl e = (z, 0, zl, subst (λ k. has_row_entry p L F k z ≡ true) (sym w) e, omega arith, refl)
    to-columns (suc m) r z rl (q, ql, w, a) zl e = found (leads-found p L F q r a) (λ y yl g. to-columns m q y ql w yl g)
      where
        found : (y : ℕ) × (y < L.columns) × (has_row_entry p L F q y ≡ true) × (is_column_of L F r y ≡ true) →
            ((y : ℕ) → y < L.columns → has_row_entry p L F q y ≡ true → Shorter y m) →
            (y : ℕ) × (k : ℕ) × (y < L.columns) × (has_row_entry p L F s y ≡ true) × (k ≤ suc m) × Walk (leads_back p L F) L.columns y z k
        found (y, yl, g, c) ih = longer (ih y yl g) (nat_cases y z)
          where
            longer : Shorter y m → (y ≡ z) ⊎ (y ≢ z) →
                (y : ℕ) × (k : ℕ) × (y < L.columns) × (has_row_entry p L F s y ≡ true) × (k ≤ suc m) × Walk (leads_back p L F) L.columns y z k
            longer (x, k, xl, h, le, v) (inl i) = (x, k, xl, h, omega (arith, le), subst (λ u. Walk (leads_back p L F) L.columns x u k) i v)
            longer (x, k, xl, h, le, v) (inr ne) = (x, suc k, xl, h, omega (arith, le), (y, yl, v, back-holds r y z rl ne c e))

    -- and a walk of columns one of rows
    to-rows : (m x y r : ℕ) → x < L.columns → y < L.columns → has_row_entry p L F s x ≡ true → Walk (leads_back p L F) L.columns x y m →
        is_column_of L F r y ≡ true → Reaches (row_leads p L F) (places L) s r
    to-rows zero x y r xl yl h w c = reaches-arc (row_leads p L F) (places L) s s r (reaches-self (row_leads p L F) (places L) s) sl
        (leads-holds p L F s r x xl h (subst (λ u. is_column_of L F r u ≡ true) (sym w) c))
    to-rows (suc m) x y r xl yl h (z, zl, w, a) c = let (q, ql, d, e, _) = back-tells z y zl a in
        reaches-arc (row_leads p L F) (places L) s q r (to-rows m x z q xl zl h w d) ql (leads-holds p L F q r y yl e c)

    -- ---- what is reached in vain
    module _ (X : ℕ → Bool) (reached : IsReachedSet (leads_back p L F) L.columns (has_row_entry p L F s) X)
        (vain : NoEndReached (leads_back p L F) L.columns (has_row_entry p L F s) (is_free F)) where
      start-held : (y : ℕ) → y < L.columns → has_row_entry p L F s y ≡ true → X y ≡ true
      start-held y yl e = (reached y yl).1 (y, yl, e, reaches-self (leads_back p L F) L.columns y)

      arc-held : (x y : ℕ) → x < L.columns → y < L.columns → X x ≡ true → leads_back p L F x y ≡ true → X y ≡ true
      arc-held x y xl yl h a = (reached y yl).1 (from-arc (leads_back p L F) L.columns (has_row_entry p L F s) x y ((reached x xl).0 h) xl a)

      not-free : (y : ℕ) → y < L.columns → X y ≡ true → is_free F y ≡ true → ⊥
      not-free y yl h f = vain y yl f ((reached y yl).0 h)

      rows-cases : (r : ℕ) → rows_from L F s X r ≡ true → (r ≡ s) ⊎ ((y : ℕ) × (y < L.columns) × (X y ≡ true) × (is_column_of L F r y ≡ true))
      unfolding rows_from
      rows-cases r h = go (either_cases (eqb r s) (some_below L.columns (λ y. X y && is_column_of L F r y)) h)
        where
          found : (y : ℕ) × (y < L.columns) × (X y && is_column_of L F r y ≡ true) → (y : ℕ) × (y < L.columns) × (X y ≡ true) × (is_column_of L F r y ≡ true)
          found (y, yl, c) = (y, yl, both-first (X y) (is_column_of L F r y) c, both-second (X y) (is_column_of L F r y) c)

          go : (eqb r s ≡ true) ⊎ (some_below L.columns (λ y. X y && is_column_of L F r y) ≡ true) →
              (r ≡ s) ⊎ ((y : ℕ) × (y < L.columns) × (X y ≡ true) × (is_column_of L F r y ≡ true))
          go (inl e) = inl (eqb_true r s e)
          go (inr c) = inr (found (some_below-found L.columns (λ y. X y && is_column_of L F r y) c))

      rows-first : (r : ℕ) → r ≡ s → rows_from L F s X r ≡ true
      unfolding rows_from
      rows-first r q = either-first (eqb r s) (some_below L.columns (λ y. X y && is_column_of L F r y)) (eqb_from r s q)

      rows-column : (r y : ℕ) → y < L.columns → X y ≡ true → is_column_of L F r y ≡ true → rows_from L F s X r ≡ true
      unfolding rows_from
      rows-column r y yl h c = either-second (eqb r s) (some_below L.columns (λ z. X z && is_column_of L F r z))
          (some_below-holds L.columns (λ z. X z && is_column_of L F r z) y yl (both_true (X y) (is_column_of L F r y) h c))

      -- an entry of a row of the set stands in a reached column
      entry-held : (r y : ℕ) → r < places L → rows_from L F s X r ≡ true → y < L.columns → has_row_entry p L F r y ≡ true → X y ≡ true
      entry-held r y rl h yl e = go (rows-cases r h)
        where
          go : (r ≡ s) ⊎ ((x : ℕ) × (x < L.columns) × (X x ≡ true) × (is_column_of L F r x ≡ true)) → X y ≡ true
          go (inl q) = start-held y yl (subst (λ k. has_row_entry p L F k y ≡ true) q e)
          go (inr (x, xl, xh, c)) = elim (nat_cases x y) [
            | inl q ↦ subst (λ k. X k ≡ true) q xh
            | inr ne ↦ arc-held x y xl yl xh (back-holds r x y rl ne c e)
          ]

      rows-follow : Follows (row_leads p L F) (places L) (rows_from L F s X)
      rows-follow r t rl tl h a = let (y, yl, e, c) = leads-found p L F r t a in rows-column t y yl (entry-held r y rl h yl e) c

      held-from : (r : ℕ) → r < places L → FromSome (row_leads p L F) (places L) (only s) r → rows_from L F s X r ≡ true
      held-from r rl f = follows-from (row_leads p L F) (places L) (only s) (rows_from L F s X) (λ i il h. rows-first i (eqb_true i s h)) rows-follow r rl f

      pub rows-reached : IsReachedSet (row_leads p L F) (places L) (only s) (rows_from L F s X)
      rows-reached r rl = ((λ h. go (rows-cases r h)), held-from r rl)
        where
          go : (r ≡ s) ⊎ ((y : ℕ) × (y < L.columns) × (X y ≡ true) × (is_column_of L F r y ≡ true)) → FromSome (row_leads p L F) (places L) (only s) r
          go (inl q) = (s, sl, eqb_from s s refl, subst (λ k. Reaches (row_leads p L F) (places L) s k) (sym q) (reaches-self (row_leads p L F) (places L) s))
          go (inr (y, yl, h, c)) = let (x, xl, e, (m, w)) = (reached y yl).0 h in (s, sl, eqb_from s s refl, to-rows m x y r xl yl e w c)

      pub rows-vain : NoEndReached (row_leads p L F) (places L) (only s) (is_open p L F)
      rows-vain r rl o f = let (y, yl, e, free) = open-found p L F r o in not-free y yl (entry-held r y rl (held-from r rl f) yl e) free

    -- ---- a walk
    module _ (bare : is_bare_row L F s ≡ true) (at : ℕ → ℕ) (k : ℕ) (W : IsShortest (leads_back p L F) L.columns (has_row_entry p L F s) (is_free F) at k) where
      pub inner-not_free : (i : ℕ) → i < k → is_free F (at i) ≡ false
      inner-not_free i less = off (is_free F (at i)) refl
        where
          off : (b : Bool) → is_free F (at i) ≡ b → is_free F (at i) ≡ false
          off false e = e
          off true e = absurd (let q : i ≡ k = one_end (leads_back p L F) L.columns (has_row_entry p L F s) (is_free F) at k W i (omega (arith, less)) e in
              omega (arith, less, q))

      placed : (i : ℕ) → i < k → (row_place L F (at i) < places L) × (is_column_of L F (row_place L F (at i)) (at i) ≡ true)
      unfolding Placed
      placed i less = has-place (at i) (W.below i (omega (arith, less))) (inner-not_free i less)

      pub along-below : (i : ℕ) → i ≤ k → rows_along L F s at i < places L
      along-below zero le = sl
      along-below (suc i) le = (placed i (omega (arith, le))).0

      next-column : (i : ℕ) → i < k → is_column_of L F (rows_along L F s at (i + 1)) (at i) ≡ true
      next-column i less = subst (λ j. is_column_of L F (rows_along L F s at j) (at i) ≡ true) (let e : suc i ≡ i + 1 = omega arith in e) (placed i less).1

      along-entry : (i : ℕ) → i ≤ k → has_row_entry p L F (rows_along L F s at i) (at i) ≡ true
      along-entry zero le = W.begins
      along-entry (suc i) le = let (r, rl, c, e, q) = back-tells (at i) (at (suc i)) (W.below i (omega (arith, le)))
          (subst (λ j. leads_back p L F (at i) (at j) ≡ true) (let e : i + 1 ≡ suc i = omega arith in e) (W.follows i (omega (arith, le)))) in
          subst (λ x. has_row_entry p L F x (at (suc i)) ≡ true) q e

      pub along-columns : AreColumnsAlong p L F (rows_along L F s at) at k
      along-columns = record { below = W.below; entry = along-entry; column = next-column; free = W.stops }

      -- the rows differ, so there are fewer of them than places
      rows-differ : (i j : ℕ) → i ≤ k → j ≤ k → rows_along L F s at i ≡ rows_along L F s at j → i ≡ j
      rows-differ zero zero il jl q = refl
      rows-differ zero (suc j) il jl q = absurd (bare-tells p L F s (at j) bare (W.below j (omega (arith, jl)))
          (subst (λ r. is_column_of L F r (at j) ≡ true) (sym q) (placed j (omega (arith, jl))).1))
      rows-differ (suc i) zero il jl q = absurd (bare-tells p L F s (at i) bare (W.below i (omega (arith, il)))
          (subst (λ r. is_column_of L F r (at i) ≡ true) q (placed i (omega (arith, il))).1))
      rows-differ (suc i) (suc j) il jl q = ap suc (places_differ (leads_back p L F) L.columns (has_row_entry p L F s) (is_free F) at k W i j
          (omega (arith, il)) (omega (arith, jl))
          (one-column (row_place L F (at j)) (at i) (at j) (placed j (omega (arith, jl))).0 (W.below i (omega (arith, il))) (W.below j (omega (arith, jl)))
          (subst (λ r. is_column_of L F r (at i) ≡ true) q (placed i (omega (arith, il))).1) (placed j (omega (arith, jl))).1))

      fewer-rows : k < places L
      fewer-rows = omega (
        arith,
        size-everything (k + 1),
        size-everything (places L),
        size-injection everything (k + 1) (rows_along L F s at) (places L) everything (λ a l _. along-below a (omega (arith, l))) (λ a l _. refl)
            (λ a b l m _ _ q. rows-differ a b (omega (arith, l)) (omega (arith, m)) q),
      )

      no-shorter : (e m : ℕ) → e < places L → is_open p L F e ≡ true → Walk (row_leads p L F) (places L) s e m → k ≤ m
      unfolding Shorter
      no-shorter e m el o w = found (open-found p L F e o)
        where
          found : (z : ℕ) × (z < L.columns) × (has_row_entry p L F e z ≡ true) × (is_free F z ≡ true) → k ≤ m
          found (z, zl, g, f) = least (to-columns m e z el w zl g)
            where
              least : (y : ℕ) × (n : ℕ) × (y < L.columns) × (has_row_entry p L F s y ≡ true) × (n ≤ m) × Walk (leads_back p L F) L.columns y z n → k ≤ m
              least (y, n, yl, h, le, v) = omega (arith, le, W.least y z n yl zl h f v)

      pub along-shortest : IsShortest (row_leads p L F) (places L) (only s) (is_open p L F) (rows_along L F s at) k
      along-shortest = record {
        fewer = fewer-rows;
        begins = eqb_from s s refl;
        stops = open-holds p L F (rows_along L F s at k) (at k) (W.below k (omega arith)) (along-entry k (omega arith)) W.stops;
        below = along-below;
        follows = λ i less. leads-holds p L F (rows_along L F s at i) (rows_along L F s at (i + 1)) (at i) (W.below i (omega (arith, less)))
            (along-entry i (omega (arith, less))) (next-column i less);
        least = λ a e m al el ah eh w. no-shorter e m el eh (subst (λ x. Walk (row_leads p L F) (places L) x e m) (eqb_true a s ah) w);
      }
