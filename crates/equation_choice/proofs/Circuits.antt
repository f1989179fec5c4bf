-- The equations that the rows of a try in vain tell are the circuit of the equation that tried.
use Rattle.std.proofs.Common.{◌≡◌, ◌≢◌, ℕ, ◌+◌, ◌-◌, ◌<◌, Bool, true, false, eqb, ltb, ◌&&◌, ◌⊎◌, ◌↔◌, inl, inr}
use Rattle.std.proofs.Common.{Option, Some, List, length, slice_index, refl, ap, sym, subst, ◌∙◌, arith}
use Rattle.residue_theory.proofs.SetLaws.{both-first, both-second, both_true, differ, either-first, either-second, either_cases, eqb_from, eqb_true}
use Rattle.residue_theory.proofs.SetLaws.{not_true, some_below-found, some_below-holds, with_one-new, with_one-other}
use Rattle.residue_theory.proofs.SumLaws.{nat_cases}
use Rattle.residue_theory.specs.Residues.{IsPrime}
use Rattle.residue_theory.specs.Sets.{some_below, with_one}
use Rattle.residue_theory.specs.Sums.{size_on}
use Rattle.dense_q.specs.Tables.{entry}
use Rattle.mixed_matrices.specs.LayeredMatrices.{LayeredMatrix}
use Rattle.mixed_matrices.specs.Layerings.{IsLayering, Origins, gives_q, has_symbol}
use Rattle.mixed_matrices.specs.Models.{MixedMatrix}
use Rattle.mixed_matrices.specs.Tableaus.{IsTableau, Tableau}
use Rattle.mixed_layering_laws.proofs.Members.{member-at, member-index}
use Rattle.mixed_model.specs.Layers.{AreLayers, Layers}
use Rattle.mixed_model.specs.Models.{MixedModel, mixed_matrix_of}
use Rattle.mixed_layering.specs.Layers.{AreLayersOf, origins_of}
use Rattle.exchange_graph.specs.Marks.{members_of}
use Rattle.bipartite_matching.specs.Matchings.{Matching}
use Rattle.row_transform.specs.Tableaus.{TableauState}
use Rattle.independent_matching.specs.Engines.{layers}
use Rattle.independent_matching.specs.Sides.{layers_of, tableau_of_pair}
use Rattle.equation_matroid_laws.specs.Conflicts.{IsInCircuit}
use Rattle.row_choice_laws.specs.ColumnSearches.{rows_from}
use Rattle.row_choice_laws.specs.RowSearches.{IsJoining, TellsOf, is_bare_row, is_column_of, origin_of_row, places}
use Rattle.row_choice_laws.proofs.OwnTableaus.{less-test, more-test, pass, pick}
use Rattle.row_choice_laws.proofs.RowPlaces.{column-q, column-t, q-column, row-cases, t-column}
use Rattle.equation_choice.specs.Choosers.{AreRowsIn, HasEntered, IsReachedBack, KeepsAmong, first_place}
use Rattle.equation_choice.specs.Pairs.{IsPairOver, place_held}
use Rattle.equation_choice.specs.Told.{IsToldByReached, IsToldByRow, IsToldByTry, TellsCircuit}
use Rattle.equation_choice.proofs.ArcLaws.{held-base, held-mate, same_some, some-held}
use Rattle.equation_choice.proofs.Joins.{bare-first, come-in, first-row, gives-some, lay, refused-told}

-- ---- the rows that are reached
module _ (L : LayeredMatrix) (F : Tableau) (s : ℕ) (X : ℕ → Bool) where
  reached-cases : (r : ℕ) → rows_from L F s X r ≡ true → (r ≡ s) ⊎ ((y : ℕ) × (y < L.columns) × (X y ≡ true) × (is_column_of L F r y ≡ true))
  unfolding rows_from
  reached-cases r h = elim (either_cases (eqb r s) (some_below L.columns (λ y. X y && is_column_of L F r y)) h) [
    | inl e ↦ inl (eqb_true r s e)
    | inr c ↦ let (y, yl, b) = some_below-found L.columns (λ y. X y && is_column_of L F r y) c in
        inr (y, yl, both-first (X y) (is_column_of L F r y) b, both-second (X y) (is_column_of L F r y) b)
  ]

  reached-first : (r : ℕ) → r ≡ s → rows_from L F s X r ≡ true
  unfolding rows_from
  reached-first r q = either-first (eqb r s) (some_below L.columns (λ y. X y && is_column_of L F r y)) (eqb_from r s q)

  reached-column : (r y : ℕ) → y < L.columns → X y ≡ true → is_column_of L F r y ≡ true → rows_from L F s X r ≡ true
  unfolding rows_from
  reached-column r y yl h c = either-second (eqb r s) (some_below L.columns (λ z. X z && is_column_of L F r z))
      (some_below-holds L.columns (λ z. X z && is_column_of L F r z) y yl (both_true (X y) (is_column_of L F r y) h c))

module _ (p : ℕ) (N : MixedMatrix) (A D : ℕ → Bool) (q : ℕ → ℕ → ℕ) (l : Layers) (split : List ℕ) (S : TableauState) (M : Matching)
    (O : Origins) (of_q : O.of_q ≡ slice_index l.q_origins) (of_t : O.of_t ≡ slice_index l.t_origins)
    (some : (x : ℕ) → (A x ≡ true) ⊎ (D x ≡ true)) (lay : IsLayering N A D (layers q S M) O) (U : ℕ → ℕ → ℕ)
    (tab : IsTableau p (layers q S M) S.s U (tableau_of_pair S M)) (K : ℕ → Bool) (e : ℕ)
    (join : IsJoining p N A (layers q S M) O S.s (tableau_of_pair S M) K e) (s : ℕ) (sl : s < places (layers_of S M))
    (of_s : origin_of_row (layers q S M) O s ≡ e) (X : ℕ → Bool)
    (told : TellsOf p D (layers q S M) O S.s K (rows_from (layers q S M) (tableau_of_pair S M) s X) (IsInCircuit p N K e))
    (symbols : List Bool) (marks : (x : ℕ) → x < N.rows → members_of symbols x ≡ D x) where
  abbrev L : LayeredMatrix
  L = layers q S M

  abbrev F : Tableau
  F = tableau_of_pair S M

  abbrev W : ℕ → Bool
  W = rows_from (layers q S M) (tableau_of_pair S M) s X

  -- told by the first row, or by that of a reached column
  abbrev pub Told : ℕ → Type 0
  Told x = IsToldByRow p l S symbols s x ⊎ IsToldByReached p l S M symbols X S.columns x

  -- a row that is reached is one of the equation or of what is kept
  row-of-q : (i : ℕ) → i < S.rows → W i ≡ true → with_one K e (O.of_q i) ≡ true
  row-of-q i il h = elim (reached-cases L F s X i h) [
    | inl same ↦ subst (λ x. with_one K e x ≡ true) (sym (sym (pick (ltb i S.rows) (O.of_q i) (O.of_t (i - S.rows)) (less-test i S.rows il))
        ∙ ap (origin_of_row L O) same ∙ of_s)) (with_one-new K e)
    | inr (y, yl, _, c) ↦ let (b, r) = column-q p L F i y il c in subst (λ x. with_one K e (O.of_q x) ≡ true) r (join.on.base y yl b)
  ]

  row-of-t : (d : ℕ) → d < L.t_rows → W (S.rows + d) ≡ true → with_one K e (O.of_t d) ≡ true
  row-of-t d dl h = elim (reached-cases L F s X (S.rows + d) h) [
    | inl same ↦ subst (λ x. with_one K e x ≡ true) (sym (ap O.of_t place
        ∙ sym (pass (ltb (S.rows + d) S.rows) (O.of_q (S.rows + d)) (O.of_t (S.rows + d - S.rows)) (more-test (S.rows + d) S.rows (omega arith)))
        ∙ ap (origin_of_row L O) same ∙ of_s)) (with_one-new K e)
    | inr (y, yl, _, c) ↦ let (m, r) = column-t p L F d y c in subst (λ x. with_one K e (O.of_t x) ≡ true) r (join.on.matched y yl m)
  ]
    where
      place : d ≡ S.rows + d - S.rows
      place = omega arith

  -- ---- what is told is of the circuit
  by-row : (r x : ℕ) → r < places L → W r ≡ true → IsToldByRow p l S symbols r x → x < N.rows → IsInCircuit p N K e x
  by-row r x rl w at xl = elim (nat_cases x e) [
    | inl same ↦ inl same
    | inr ne ↦ elim at [
      | inl (ql, k, kl, nonzero, o, off) ↦
          let is : O.of_q k ≡ x = ap (λ f. f k) of_q ∙ o in
          let no_t : D x ≡ false = sym (marks x xl) ∙ off in
          let held : K x ≡ true = kept x ne (λ out. nonzero (join.on.made r k ql kl (row-of-q r ql w)
          (subst (λ y. with_one K e y ≡ false) (sym is) out))) in
          subst (λ y. IsInCircuit p N K e y) is ((told.by_q k kl (subst (λ y. K y ≡ true) (sym is) held) (subst (λ y. D y ≡ false) (sym is) no_t)).1
          (r, ql, w, nonzero))
      | inr (g, o) ↦
          let place : S.rows + (r - S.rows) ≡ r = omega (arith, g) in
          let dl : r - S.rows < L.t_rows = omega (arith, g, rl) in
          let is : O.of_t (r - S.rows) ≡ x = ap (λ f. f (r - S.rows)) of_t ∙ o in
          let w' : W (S.rows + (r - S.rows)) ≡ true = subst (λ i. W i ≡ true) (sym place) w in
          let held : K (O.of_t (r - S.rows)) ≡ true = with_one-other K e (O.of_t (r - S.rows)) (row-of-t (r - S.rows) dl w') (λ h. ne (sym is ∙ h)) in
          subst (λ y. IsInCircuit p N K e y) is ((told.by_t (r - S.rows) dl held).1 w')
    ]
  ]
    where
      kept : (x : ℕ) → x ≢ e → (with_one K e x ≡ false → ⊥) → K x ≡ true
      kept x ne some = go (with_one K e x) refl
        where
          go : (b : Bool) → with_one K e x ≡ b → K x ≡ true
          go true h = with_one-other K e x h ne
          go false h = absurd (some h)

  column-placed : (y row : ℕ) → y < S.columns → place_held (layers_of S M) F y ≡ Some row → (row < places L) × (is_column_of L F row y ≡ true)
  column-placed y row yl held = elim (some-held (layers_of S M) F y row held) [
    | inl (b, r) ↦ let low : F.row y < S.rows = tab.base.row_below y yl b in
        (omega (arith, low, r), q-column p L F row y (omega (arith, low, r)) b r)
    | inr (_, m, r) ↦ let low : F.mate y < L.t_rows = tab.matching.below y yl m in
        (omega (arith, low, r), subst (λ i. is_column_of L F i y ≡ true) r (t-column p L F (F.mate y) y m refl))
  ]

  pub told-circuit : (x : ℕ) → x < N.rows → (x ≡ e) ⊎ Told x → IsInCircuit p N K e x
  told-circuit x xl h = elim h [
    | inl same ↦ inl same
    | inr at ↦ elim at [
      | inl first ↦ by-row s x sl (reached-first L F s X s refl) first xl
      | inr (y, yl, (row, on, held, tells)) ↦ let (rl, c) = column-placed y row yl held in
          by-row row x rl (reached-column L F s X row y yl on c) tells xl
    ]
  ]

  -- ---- and all of it is told
  from-row : (r x : ℕ) → W r ≡ true → r < places L → IsToldByRow p l S symbols r x → Told x
  from-row r x w rl tells = elim (reached-cases L F s X r w) [
    | inl same ↦ inl (subst (λ i. IsToldByRow p l S symbols i x) same tells)
    | inr (y, yl, on, c) ↦ inr (y, yl, (r, on, held y yl c (row-cases L r rl), tells))
  ]
    where
      held : (y : ℕ) → y < S.columns → is_column_of L F r y ≡ true → (r < L.q_rows) ⊎ ((t : ℕ) × (t < L.t_rows) × (r ≡ L.q_rows + t)) →
          place_held (layers_of S M) F y ≡ Some r
      held y yl c (inl ql) = let (b, i) = column-q p L F r y ql c in held-base (layers_of S M) F y b ∙ ap Some i
      held y yl c (inr (t, tl, i)) = let (m, j) = column-t p L F t y (subst (λ k. is_column_of L F k y ≡ true) i c) in
          held-mate (layers_of S M) F y (not_true (F.base y) (λ b. differ (tab.apart y yl b) m)) m
          ∙ ap Some (ap (λ k. S.rows + k) j ∙ sym i)

  pub circuit-told-by : (x : ℕ) → x < N.rows → IsInCircuit p N K e x → (x ≡ e) ⊎ Told x
  circuit-told-by x xl h = elim h [
    | inl same ↦ inl same
    | inr (held, ind) ↦ inr (of-kept (D x) refl held (inr (held, ind)))
  ]
    where
      of-kept : (b : Bool) → D x ≡ b → K x ≡ true → IsInCircuit p N K e x → Told x
      of-kept true d held inside =
          let dl : size_on D x < L.t_rows = member-index D N.rows O.of_t L.t_rows lay.t_rows x xl d in
          let is : O.of_t (size_on D x) ≡ x = member-at D N.rows O.of_t L.t_rows lay.t_rows x xl d in
          let w : W (S.rows + size_on D x) ≡ true = (told.by_t (size_on D x) dl (subst (λ y. K y ≡ true) (sym is) held)).0
          (subst (λ y. IsInCircuit p N K e y) (sym is) inside) in
          let place : size_on D x ≡ S.rows + size_on D x - S.rows = omega arith in
          from-row (S.rows + size_on D x) x w (omega (arith, dl))
          (inr (omega arith, sym (ap (λ f. f (S.rows + size_on D x - S.rows)) of_t) ∙ ap O.of_t (sym place) ∙ is))
      of-kept false d held inside = elim (some x) [
        | inr t ↦ absurd (differ d t)
        | inl a ↦
            let kl : size_on A x < S.rows = member-index A N.rows O.of_q L.q_rows lay.q_rows x xl a in
            let is : O.of_q (size_on A x) ≡ x = member-at A N.rows O.of_q L.q_rows lay.q_rows x xl a in
            let (i, il, w, nonzero) = (told.by_q (size_on A x) kl (subst (λ y. K y ≡ true) (sym is) held) (subst (λ y. D y ≡ false) (sym is) d)).0
            (subst (λ y. IsInCircuit p N K e y) (sym is) inside) in
            from-row i x w (omega (arith, il))
            (inl (il, size_on A x, kl, nonzero, sym (ap (λ f. f (size_on A x)) of_q) ∙ is, marks x xl ∙ d))
      ]

-- ---- so the marks of a try tell the circuit
module _ (p : ℕ) (prime : IsPrime p) (l : Layers) (are : AreLayers l) (S : TableauState) (M : Matching) (over : IsPairOver p l S M)
    (e : ℕ) (q t z : Option ℕ) (rows : AreRowsIn l e q t z) (M' : Matching) (entered : HasEntered S M M' q t z) where
  module _ (big : 2 < p) (X : ℕ → Bool) (vain : (s : ℕ) → first_place S.rows q t ≡ Some s →
      is_bare_row (layers (entry l.q) S M') (tableau_of_pair S M') s ≡ true → IsReachedBack p l S M' s X) (symbols told : List Bool)
      (spec : (x : ℕ) → (members_of told x ≡ true) ↔ IsToldByTry p l S M' symbols X q t e x) where
    module _ (model : MixedModel) (of : AreLayersOf model l) (K : ℕ → Bool) (kept : KeepsAmong p l of.split S M K)
        (el : e < length model.equations) (new : K e ≡ false)
        (marks : (x : ℕ) → x < length model.equations → members_of symbols x ≡ has_symbol (mixed_matrix_of model) x) where
      abbrev N : MixedMatrix
      N = mixed_matrix_of model

      abbrev A : ℕ → Bool
      A = gives_q (mixed_matrix_of model)

      abbrev D : ℕ → Bool
      D = has_symbol (mixed_matrix_of model)

      abbrev O : Origins
      O = origins_of l of.split

      abbrev L' : LayeredMatrix
      L' = layers (entry l.q) S M'

      abbrev G : Tableau
      G = tableau_of_pair S M'

      abbrev here : (s : ℕ) × (first_place S.rows q t ≡ Some s) × (s < places (layers (entry l.q) S M)) × (origin_of_row (layers (entry l.q) S M) O s ≡ e)
          × ((s < S.rows) ⊎ (A e ≡ false))
      here = first-row p l are model of S M over e el q t z rows

      abbrev s : ℕ
      s = (first-row p l are model of S M over e el q t z rows).0

      same : layers (entry l.q) S M' ≡ layers (entry l.q) S M
      same = (come-in p l are model of S M over e el q t z rows K kept new M' entered).same

      bare : is_bare_row (layers (entry l.q) S M') (tableau_of_pair S M') s ≡ true
      bare = subst (λ L. is_bare_row L (tableau_of_pair S M') s ≡ true) (sym same)
          (bare-first p l are model of S M over e el q t z rows K kept new M' entered)

      told-here : TellsOf p D L' O S.s K (rows_from L' G s X) (IsInCircuit p N K e)
      told-here = subst (λ L. TellsOf p D L O S.s K (rows_from L G s X) (IsInCircuit p N K e)) (sym same)
          (refused-told p l are model of S M over e el q t z rows K kept new M' entered prime big X (vain s here.1 bare))

      layered : IsLayering N A D L' O
      layered = subst (λ L. IsLayering N A D L O) (sym same) (lay p l are model of S M over)

      inside : IsTableau p L' S.s S.u G × IsJoining p N A L' O S.s G K e
      inside = subst (λ L. IsTableau p L S.s S.u G × IsJoining p N A L O S.s G K e) (sym same)
          (come-in p l are model of S M over e el q t z rows K kept new M' entered).inside

      below : s < places (layers_of S M')
      below = subst (λ L. s < places L) (sym same) here.2

      origin : origin_of_row L' O s ≡ e
      origin = subst (λ L. origin_of_row L O s ≡ e) (sym same) here.3

      there : (x : ℕ) → IsToldByTry p l S M' symbols X q t e x → (x ≡ e) ⊎ (IsToldByRow p l S symbols s x
          ⊎ IsToldByReached p l S M' symbols X S.columns x)
      there x h = elim h [
        | inl q ↦ inl q
        | inr at ↦ elim at [
          | inl (row, first, tells) ↦ inr (inl (subst (λ r. IsToldByRow p l S symbols r x) (same_some row s (sym first ∙ here.1)) tells))
          | inr reached ↦ inr (inr reached)
        ]
      ]

      back : (x : ℕ) → (x ≡ e) ⊎ (IsToldByRow p l S symbols s x ⊎ IsToldByReached p l S M' symbols X S.columns x) →
          IsToldByTry p l S M' symbols X q t e x
      back x h = elim h [
        | inl q ↦ inl q
        | inr at ↦ elim at [
          | inl tells ↦ inr (inl (s, here.1, tells))
          | inr reached ↦ inr (inr reached)
        ]
      ]

      tells-one : (x : ℕ) → x < length model.equations → (members_of told x ≡ true) ↔ IsInCircuit p N K e x
      tells-one x xl = (
        λ h. told-circuit p N A D (entry l.q) l of.split S M' O refl refl (gives-some N) layered S.u inside.0 K e inside.1 s below origin X told-here
            symbols marks x xl (there x ((spec x).0 h)),
        λ h. (spec x).1 (back x (circuit-told-by p N A D (entry l.q) l of.split S M' O refl refl (gives-some N) layered S.u inside.0 K e inside.1 s below
            origin X told-here symbols marks x xl h)),
      )

    pub tells-circuit : TellsCircuit p l S M symbols told e
    tells-circuit model of K kept el new marks x xl = tells-one model of K kept el new marks x xl
