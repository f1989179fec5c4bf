-- A shortest walk backwards over the rows, read from its other end, is a route.
use Rattle.std.proofs.Common.{◌≡◌, ◌≢◌, ℕ, suc, ◌+◌, ◌-◌, ◌%◌, ◌<◌, ◌≤◌, Bool, true, false, ltb, ◌⊎◌, inl, inr, refl}
use Rattle.std.proofs.Common.{ap, sym, subst, ◌∙◌, arith}
use Rattle.std.proofs.lemmas.Bool.Decides.{nat_tests}
use Rattle.residue_theory.proofs.SetLaws.{choose, differ, eqb_true, zero_cases}
use Rattle.residue_theory.proofs.SumLaws.{nat_cases}
use Rattle.residue_theory.specs.Sets.{only}
use Rattle.search_laws.proofs.ShortestWalks.{no_shortcut, one_end, places_differ}
use Rattle.search_laws.specs.Searches.{IsShortest}
use Rattle.mixed_matrices.specs.Arcs.{is_free}
use Rattle.mixed_matrices.specs.LayeredMatrices.{LayeredMatrix}
use Rattle.mixed_matrices.specs.Tableaus.{HasTableau, Tableau}
use Rattle.mixed_pair_laws.proofs.ArcFacts.{free-tells}
use Rattle.mixed_augmentation_laws.specs.Moves.{IsRoute, Route}
use Rattle.row_choice_laws.proofs.OwnTableaus.{pass, pick, test-more}
use Rattle.row_choice_laws.proofs.RowPlaces.{bare-or_column, bare-tells, column-not_bare, column-q, column-t, entry-q}
use Rattle.row_choice_laws.proofs.RowPlaces.{leads-found, leads-holds, open-found, open-holds, q-column, q-entry}
use Rattle.row_choice_laws.proofs.RowPlaces.{row-cases, t-column, t-entry}
use Rattle.row_choice_laws.specs.Growth.{AreColumnsAlong, HasQRow, HasTRow, IsRowStage, route_back}
use Rattle.row_choice_laws.specs.RowSearches.{is_column_of, has_row_entry, is_bare_row, is_open, places, row_leads}

pub test-less : (j k : ℕ) → ltb j k ≡ true → j < k
test-less j k l = grind (arith, nat_tests)

module _ (p : ℕ) (L : LayeredMatrix) (F : Tableau) (s : ℕ) (at : ℕ → ℕ) (k : ℕ)
    (W : IsShortest (row_leads p L F) (places L) (only s) (is_open p L F) at k) where
  pub begins-at : at 0 ≡ s
  begins-at = eqb_true (at 0) s W.begins

  -- ---- its columns
  Column : ℕ → ℕ → Type 0
  Column i y = (y < L.columns) × (has_row_entry p L F (at i) y ≡ true) × ((i < k → is_column_of L F (at (i + 1)) y ≡ true)
      × (i ≡ k → is_free F y ≡ true))

  column-at : (i : ℕ) → i < k + 1 → (y : ℕ) × Column i y
  unfolding Column
  column-at i il = elim (nat_cases i k) [
    | inl q ↦ let (y, yl, e, f) = open-found p L F (at i) (subst (λ j. is_open p L F (at j) ≡ true) (sym q) W.stops) in
        (y, (yl, e, ((λ less. absurd (omega (arith, q, less))), (λ _. f))))
    | inr ne ↦ let (y, yl, e, c) = leads-found p L F (at i) (at (i + 1)) (W.follows i (omega (arith, il, ne))) in
        (y, (yl, e, ((λ _. c), (λ q. absurd (ne q)))))
  ]

  pub columns-along : (col : ℕ → ℕ) × AreColumnsAlong p L F at col k
  unfolding Column
  columns-along = go (choose (k + 1) ℕ 0 Column column-at)
    where
      go : (col : ℕ → ℕ) × ((i : ℕ) → i < k + 1 → Column i (col i)) → (col : ℕ → ℕ) × AreColumnsAlong p L F at col k
      go (col, each) = (
        col,
        record {
          below = λ i le. (each i (omega (arith, le))).0;
          entry = λ i le. (each i (omega (arith, le))).1;
          column = λ i less. (each i (omega (arith, less))).2.0 less;
          free = (each k (omega arith)).2.1 refl;
        },
      )

  -- ---- the route
  module _ (T : HasTableau p L F) (bare : is_bare_row L F s ≡ true) (col : ℕ → ℕ) (C : AreColumnsAlong p L F at col k) where
    one-row : (r t y : ℕ) → r < places L → t < places L → y < L.columns → is_column_of L F r y ≡ true → is_column_of L F t y ≡ true → r ≡ t
    one-row r t y rl tl yl a b = go (row-cases L r rl) (row-cases L t tl)
      where
        go : (r < L.q_rows) ⊎ ((i : ℕ) × (i < L.t_rows) × (r ≡ L.q_rows + i)) → (t < L.q_rows) ⊎ ((i : ℕ) × (i < L.t_rows) × (t ≡ L.q_rows + i)) → r ≡ t
        go (inl rq) (inl tq) = sym (column-q p L F r y rq a).1 ∙ (column-q p L F t y tq b).1
        go (inl rq) (inr (i, il, e)) = absurd (differ (T.apart y yl (column-q p L F r y rq a).0)
            (column-t p L F i y (subst (λ x. is_column_of L F x y ≡ true) e b)).0)
        go (inr (i, il, e)) (inl tq) = absurd (differ (T.apart y yl (column-q p L F t y tq b).0)
            (column-t p L F i y (subst (λ x. is_column_of L F x y ≡ true) e a)).0)
        go (inr (i, il, e)) (inr (j, jl, g)) = e ∙ ap (λ x. L.q_rows + x) (sym (column-t p L F i y (subst (λ x. is_column_of L F x y ≡ true) e a)).1
            ∙ (column-t p L F j y (subst (λ x. is_column_of L F x y ≡ true) g b)).1) ∙ sym g

    free-no_row : (r y : ℕ) → r < places L → is_free F y ≡ true → is_column_of L F r y ≡ true → ⊥
    free-no_row r y rl f c = go (row-cases L r rl)
      where
        go : (r < L.q_rows) ⊎ ((i : ℕ) × (i < L.t_rows) × (r ≡ L.q_rows + i)) → ⊥
        go (inl rq) = differ (free-tells F y f).0 (column-q p L F r y rq c).0
        go (inr (i, il, e)) = differ (free-tells F y f).1 (column-t p L F i y (subst (λ x. is_column_of L F x y ≡ true) e c)).0

    distinct : (a b : ℕ) → a ≤ k → b ≤ k → col a ≡ col b → a ≡ b
    distinct a b al bl q = go (nat_cases a k) (nat_cases b k)
      where
        go : (a ≡ k) ⊎ (a ≢ k) → (b ≡ k) ⊎ (b ≢ k) → a ≡ b
        go (inl x) (inl y) = x ∙ sym y
        go (inl x) (inr y) = absurd (free-no_row (at (b + 1)) (col b) (W.below (b + 1) (omega (arith, bl, y)))
            (subst (λ c. is_free F c ≡ true) (sym (ap col x) ∙ q) C.free) (C.column b (omega (arith, bl, y))))
        go (inr x) (inl y) = absurd (free-no_row (at (a + 1)) (col a) (W.below (a + 1) (omega (arith, al, x)))
            (subst (λ c. is_free F c ≡ true) (sym (ap col y) ∙ sym q) C.free) (C.column a (omega (arith, al, x))))
        go (inr x) (inr y) = let e : a + 1 ≡ b + 1 = places_differ (row_leads p L F) (places L) (only s) (is_open p L F) at k W (a + 1) (b + 1)
            (omega (arith, al, x)) (omega (arith, bl, y)) (one-row (at (a + 1)) (at (b + 1)) (col a) (W.below (a + 1) (omega (arith, al, x)))
            (W.below (b + 1) (omega (arith, bl, y))) (C.below a al) (C.column a (omega (arith, al, x)))
            (subst (λ c. is_column_of L F (at (b + 1)) c ≡ true) (sym q) (C.column b (omega (arith, bl, y))))) in omega (arith, e)

    -- no row has an entry at a column farther on than its own
    far-on : (a b : ℕ) → a < b → b ≤ k → has_row_entry p L F (at a) (col b) ≡ true → ⊥
    far-on a b less le e = go (nat_cases b k)
      where
        go : (b ≡ k) ⊎ (b ≢ k) → ⊥
        go (inl q) = let h : a ≡ k = one_end (row_leads p L F) (places L) (only s) (is_open p L F) at k W a (omega (arith, less, le))
            (open-holds p L F (at a) (col b) (C.below b le) e (subst (λ c. is_free F (col c) ≡ true) (sym q) C.free)) in
            omega (arith, less, q, h)
        go (inr ne) = no_shortcut (row_leads p L F) (places L) (only s) (is_open p L F) at k W a (b + 1) (omega (arith, le, ne)) (omega (arith, less))
            (leads-holds p L F (at a) (at (b + 1)) (col b) (C.below b le) e (C.column b (omega (arith, le, ne))))

    -- the row of the route at a place
    abbrev R : Route
    R = route_back L at col k

    q-at : (j : ℕ) → R.in_q j ≡ true → R.row j ≡ at (k - j)
    q-at j q = pick (ltb (at (k - j)) L.q_rows) (at (k - j)) (at (k - j) - L.q_rows) q

    q-less : (j : ℕ) → R.in_q j ≡ true → at (k - j) < L.q_rows
    q-less j q = test-less (at (k - j)) L.q_rows q

    t-at : (j : ℕ) → R.in_q j ≡ false → L.q_rows + R.row j ≡ at (k - j)
    t-at j t = ap (λ x. L.q_rows + x) (pass (ltb (at (k - j)) L.q_rows) (at (k - j)) (at (k - j) - L.q_rows) t)
        ∙ restored (at (k - j)) L.q_rows (test-more (at (k - j)) L.q_rows t)
      where
        restored : (x m : ℕ) → m ≤ x → m + (x - m) ≡ x
        restored x m le = omega (arith, le)

    next : (j : ℕ) → j < k → k - suc j + 1 ≡ k - j
    next j less = omega (arith, less)

    next-column : (j : ℕ) → j < k → is_column_of L F (at (k - j)) (col (k - suc j)) ≡ true
    next-column j less = subst (λ x. is_column_of L F (at x) (col (k - suc j)) ≡ true) (next j less) (C.column (k - suc j) (omega (arith, less)))

    entry-here : (j : ℕ) → has_row_entry p L F (at (k - j)) (col (k - j)) ≡ true
    entry-here j = C.entry (k - j) (omega arith)

    last-place : at (k - k) ≡ s
    last-place = ap at (let z : k - k ≡ 0 = omega arith in z) ∙ begins-at

    pub back-route : IsRoute p L F (route_back L at col k)
    back-route = record {
      below = λ j le. C.below (k - j) (omega arith);
      differ = λ i j il jl q. let e : k - i ≡ k - j = distinct (k - i) (k - j) (omega arith) (omega arith) q in omega (arith, il, jl, e);
      first = subst (λ x. (F.base (col x) ≡ false) × (F.matched (col x) ≡ false)) (let z : k ≡ k - 0 = omega arith in z) (free-tells F (col k) C.free);
      row_left = λ j less q. let (b, e) = column-q p L F (at (k - j)) (col (k - suc j)) (q-less j q) (next-column j less) in (b, e ∙ sym (q-at j q));
      mate_left = λ j less t. column-t p L F (R.row j) (col (k - suc j))
          (subst (λ x. is_column_of L F x (col (k - suc j)) ≡ true) (sym (t-at j t)) (next-column j less));
      row_end = λ q y yl b e. bare-tells p L F s y bare yl
          (subst (λ x. is_column_of L F x y ≡ true) last-place (q-column p L F (at (k - k)) y (q-less k q) b (e ∙ q-at k q)));
      mate_end = λ t y yl m e. bare-tells p L F s y bare yl
          (subst (λ x. is_column_of L F x y ≡ true) (t-at k t ∙ last-place) (t-column p L F (R.row k) y m e));
      row_below = λ j le q. subst (λ x. x < L.q_rows) (sym (q-at j q)) (q-less j q);
      entry = λ j le q. subst (λ x. F.P x (col (k - j)) % p ≢ 0) (sym (q-at j q)) (entry-q p L F (at (k - j)) (col (k - j)) (q-less j q) (entry-here j));
      mate_below = λ j le t. let l : at (k - j) < places L = W.below (k - j) (omega arith) in omega (arith, l, t-at j t);
      symbol = λ j le t. sym (t-entry p L F (R.row j) (col (k - j)))
          ∙ subst (λ x. has_row_entry p L F x (col (k - j)) ≡ true) (sym (t-at j t)) (entry-here j);
      far = λ i j less le q. elim (zero_cases (F.P (R.row j) (col (k - i)) % p)) [
        | inl z ↦ z
        | inr ne ↦ absurd (far-on (k - j) (k - i) (omega (arith, less, le)) (omega arith)
            (q-entry p L F (at (k - j)) (col (k - i)) (q-less j q) (subst (λ x. F.P x (col (k - i)) % p ≢ 0) (q-at j q) ne)))
      ];
    }

    -- ---- what has a column in the end
    pub first-row : (r : ℕ) → R.in_q k ≡ true → R.row k ≡ r → r ≡ s
    first-row r q e = sym e ∙ q-at k q ∙ last-place

    pub first-t_row : (t : ℕ) → R.in_q k ≡ false → R.row k ≡ t → L.q_rows + t ≡ s
    first-t_row t q e = ap (λ x. L.q_rows + x) (sym e) ∙ t-at k q ∙ last-place

    module _ (G : Tableau) (rows : IsRowStage L F (route_back L at col k) 0 G) where
      pub first-has_column : is_bare_row L G s ≡ false
      first-has_column = go (R.in_q k) refl
        where
          in_q : (q : R.in_q k ≡ true) → HasQRow L G (R.row k) → is_bare_row L G s ≡ false
          in_q q (y, yl, b, e) = column-not_bare p L G s y yl (q-column p L G s y
              (subst (λ x. x < L.q_rows) last-place (q-less k q)) b (first-row (G.row y) q (sym e)))

          in_t : (t : R.in_q k ≡ false) → HasTRow L G (R.row k) → is_bare_row L G s ≡ false
          in_t t (y, yl, m, e) = column-not_bare p L G s y yl (subst (λ x. is_column_of L G x y ≡ true) (first-t_row (G.mate y) t (sym e))
              (t-column p L G (G.mate y) y m refl))

          go : (q : Bool) → R.in_q k ≡ q → is_bare_row L G s ≡ false
          go true q = in_q q (rows.gained_q (omega arith) q)
          go false t = in_t t (rows.gained_t (omega arith) t)

      no_next : (j : ℕ) → suc j ≡ 0 → ⊥
      no_next j e = omega (arith, e)

      keeps-column : (r y : ℕ) → r < places L → y < L.columns → is_column_of L F r y ≡ true → is_bare_row L G r ≡ false
      keeps-column r y rl yl c = go (row-cases L r rl)
        where
          in_q : (b : ℕ) → r < L.q_rows → b ≡ r → HasQRow L G b → is_bare_row L G r ≡ false
          in_q b ql g (z, zl, h, e) = column-not_bare p L G r z zl (q-column p L G r z ql h (e ∙ g))

          in_t : (b t : ℕ) → r ≡ L.q_rows + t → b ≡ t → HasTRow L G b → is_bare_row L G r ≡ false
          in_t b t q g (z, zl, h, e) = column-not_bare p L G r z zl (subst (λ x. is_column_of L G x z ≡ true) (sym q) (t-column p L G t z h (e ∙ g)))

          go : (r < L.q_rows) ⊎ ((t : ℕ) × (t < L.t_rows) × (r ≡ L.q_rows + t)) → is_bare_row L G r ≡ false
          go (inl ql) = let (b, e) = column-q p L F r y ql c in in_q (F.row y) ql e (rows.kept_q y yl b (λ j n. absurd (no_next j n)))
          go (inr (t, tl, q)) = let (m, e) = column-t p L F t y (subst (λ x. is_column_of L F x y ≡ true) q c) in
              in_t (F.mate y) t q e (rows.kept_t y yl m (λ j n. absurd (no_next j n)))

      had-column : (r y : ℕ) → r < places L → r ≢ s → y < L.columns → is_column_of L G r y ≡ true → is_bare_row L F r ≡ false
      had-column r y rl ne yl c = go (row-cases L r rl)
        where
          in_q : r < L.q_rows → G.row y ≡ r → HasQRow L F (G.row y) ⊎ ((R.in_q k ≡ true) × (G.row y ≡ R.row k)) → is_bare_row L F r ≡ false
          in_q ql g (inl (z, zl, h, e)) = column-not_bare p L F r z zl (q-column p L F r z ql h (e ∙ g))
          in_q ql g (inr (q, e)) = absurd (ne (sym g ∙ first-row (G.row y) q (sym e)))

          in_t : (t : ℕ) → r ≡ L.q_rows + t → G.mate y ≡ t → HasTRow L F (G.mate y) ⊎ ((R.in_q k ≡ false) × (G.mate y ≡ R.row k)) → is_bare_row L F r ≡ false
          in_t t q g (inl (z, zl, h, e)) = column-not_bare p L F r z zl (subst (λ x. is_column_of L F x z ≡ true) (sym q) (t-column p L F t z h (e ∙ g)))
          in_t t q g (inr (f, e)) = absurd (ne (q ∙ ap (λ x. L.q_rows + x) (sym g) ∙ first-t_row (G.mate y) f (sym e)))

          go : (r < L.q_rows) ⊎ ((t : ℕ) × (t < L.t_rows) × (r ≡ L.q_rows + t)) → is_bare_row L F r ≡ false
          go (inl ql) = let (b, e) = column-q p L G r y ql c in in_q ql e (rows.only_q y yl b)
          go (inr (t, tl, q)) = let (m, e) = column-t p L G t y (subst (λ x. is_column_of L G x y ≡ true) q c) in in_t t q e (rows.only_t y yl m)

      pub others-same : (r : ℕ) → r < places L → r ≢ s → is_bare_row L G r ≡ is_bare_row L F r
      others-same r rl ne = go (bare-or_column p L G r) (bare-or_column p L F r)
        where
          go : (is_bare_row L G r ≡ true) ⊎ ((y : ℕ) × (y < L.columns) × (is_column_of L G r y ≡ true)) →
              (is_bare_row L F r ≡ true) ⊎ ((y : ℕ) × (y < L.columns) × (is_column_of L F r y ≡ true)) → is_bare_row L G r ≡ is_bare_row L F r
          go (inl a) (inl b) = a ∙ sym b
          go (inl a) (inr (y, yl, c)) = absurd (differ (keeps-column r y rl yl c) a)
          go (inr (y, yl, c)) (inl b) = absurd (differ (had-column r y rl ne yl c) b)
          go (inr (y, yl, c)) (inr (z, zl, d)) = column-not_bare p L G r y yl c ∙ sym (column-not_bare p L F r z zl d)
