-- Rows that are reached from the bare rows of K, where the pair of K's own tableau is best: none has an entry at a free column.
use Rattle.std.proofs.Common.{◌≡◌, ℕ, ◌+◌, ◌-◌, ◌%◌, ◌<◌, Bool, true, false, not, eqb, ◌&&◌, ◌||◌, ◌⊎◌, inl, inr, refl}
use Rattle.std.proofs.Common.{ap, sym, subst, ◌∙◌, arith}
use Rattle.residue_theory.proofs.SetLaws.{eqb_true, both-first, both-second, both_true, differ, not_true}
use Rattle.residue_theory.proofs.SetLaws.{some_below-found, some_below-holds}
use Rattle.residue_theory.specs.Residues.{IsPrime}
use Rattle.residue_theory.specs.Sets.{both, some_below}
use Rattle.closed_sets.proofs.Hulls.{follows-from}
use Rattle.closed_sets.specs.Closed.{Follows, NoEndReached}
use Rattle.closed_sets.specs.Walks.{FromSome}
use Rattle.mixed_matrices.specs.LayeredMatrices.{LayeredMatrix}
use Rattle.mixed_matrices.specs.Layerings.{IsLayering, Origins}
use Rattle.mixed_matrices.specs.Models.{MixedMatrix}
use Rattle.mixed_matrices.specs.Tableaus.{IsTableau, Tableau}
use Rattle.mixed_pair_laws.proofs.ArcFacts.{free-tells}
use Rattle.mixed_pair_laws.proofs.ClosedSets.{Fits}
use Rattle.row_choice_laws.proofs.OwnTableaus.{auxiliary-zero, outer-index, outer-place, false-not, inner-mate}
use Rattle.row_choice_laws.proofs.OwnTableaus.{inner-matched, layers_of, not-false, outer, outer-equation, outer-mate}
use Rattle.row_choice_laws.proofs.OwnTableaus.{outer-outside, own-entry, own-symbol, tableau_of}
use Rattle.row_choice_laws.proofs.RowPlaces.{open-found, bare-tells, column-q, column-t, entry-q, leads-found, q-column}
use Rattle.row_choice_laws.proofs.RowPlaces.{q-row, row-cases, row-q, row-t, t-column, t-entry, t-row}
use Rattle.row_choice_laws.specs.RowSearches.{IsOnRowsOf, bare_of, is_column_of, has_row_entry, is_bare_row, is_open}
use Rattle.row_choice_laws.specs.RowSearches.{is_row_of}
use Rattle.row_choice_laws.specs.RowSearches.{places, row_leads}

module _ (p : ℕ) (prime : IsPrime p) (M : MixedMatrix) (A D : ℕ → Bool) (L : LayeredMatrix) (O : Origins) (lay : IsLayering M A D L O)
    (S U : ℕ → ℕ → ℕ) (F : Tableau) (tab : IsTableau p L S U F) (K : ℕ → Bool) (on : IsOnRowsOf p L O S F K) where
  abbrev LK : LayeredMatrix
  LK = layers_of p M A D L O lay S U F tab K on

  abbrev G : Tableau
  G = tableau_of p M A D L O lay S U F tab K on

  abbrev out : ℕ → Bool
  out = outer p M A D L O lay S U F tab K on

  -- a row with a column is one of K
  column-own : (s y : ℕ) → s < places L → y < L.columns → is_column_of L F s y ≡ true → is_row_of L O K s ≡ true
  column-own s y sl yl c = at (row-cases L s sl)
    where
      at : (s < L.q_rows) ⊎ ((t : ℕ) × (t < L.t_rows) × (s ≡ L.q_rows + t)) → is_row_of L O K s ≡ true
      at (inl ql) = let (b, q) = column-q p L F s y ql c in q-row L O K s ql (subst (λ k. K (O.of_q k) ≡ true) q (on.base y yl b))
      at (inr (t, tl, q)) = let (m, e) = column-t p L F t y (subst (λ k. is_column_of L F k y ≡ true) q c) in
          subst (λ k. is_row_of L O K k ≡ true) (sym q) (t-row L O K t (subst (λ k. K (O.of_t k) ≡ true) e (on.matched y yl m)))

  -- what is reached from the bare rows of K are rows of K
  pub from-own : (r : ℕ) → r < places L → FromSome (row_leads p L F) (places L) (bare_of L O F K) r → is_row_of L O K r ≡ true
  from-own = follows-from (row_leads p L F) (places L) (bare_of L O F K) (is_row_of L O K)
      (λ r rl h. both-first (is_row_of L O K r) (is_bare_row L F r) h)
      (λ r s rl sl h a. let (y, yl, e, c) = leads-found p L F r s a in column-own s y sl yl c)

  module _ (Y : ℕ → Bool) (fit : Fits p LK G Y) where
    -- a row of K with an entry in Y has a column of Y
    entry-column : (r z : ℕ) → r < places L → is_row_of L O K r ≡ true → z < L.columns → Y z ≡ true → has_row_entry p L F r z ≡ true →
        (y : ℕ) × (y < L.columns) × (Y y ≡ true) × (is_column_of L F r y ≡ true)
    entry-column r z rl k zl zh e = at (row-cases L r rl)
      where
        at : (r < L.q_rows) ⊎ ((t : ℕ) × (t < L.t_rows) × (r ≡ L.q_rows + t)) → (y : ℕ) × (y < L.columns) × (Y y ≡ true) × (is_column_of L F r y ≡ true)
        at (inl ql) = let (b, bl, bh, q) = fit.q z r zl zh ql (λ n. entry-q p L F r z ql e
            (ap (λ y. y % p) (sym (own-entry p M A D L O lay S U F tab K on r z (row-q L O K r ql k))) ∙ n)) in
            (b, bl, both-second (F.base b) (Y b) bh, q-column p L F r b ql (both-first (F.base b) (Y b) bh) q)
        at (inr (t, tl, q)) = found (fit.t z t zl zh tl (own-symbol p M A D L O lay S U F tab K on t z own ∙ sym (t-entry p L F t z)
            ∙ subst (λ s. has_row_entry p L F s z ≡ true) q e))
          where
            own : K (O.of_t t) ≡ true
            own = row-t L O K t (subst (λ s. is_row_of L O K s ≡ true) q k)

            found : (y : ℕ) × (y < L.columns) × (both G.matched Y y ≡ true) × (G.mate y ≡ t) →
                (y : ℕ) × (y < L.columns) × (Y y ≡ true) × (is_column_of L F r y ≡ true)
            found (y, yl, yh, g) = inside (out y) refl
              where
                inside : (o : Bool) → out y ≡ o → (y : ℕ) × (y < L.columns) × (Y y ≡ true) × (is_column_of L F r y ≡ true)
                inside true o = absurd (differ (subst (λ s. K s ≡ false) (sym (outer-equation p M A D L O lay S U F tab K on y yl o)
                    ∙ ap O.of_t (sym (outer-mate p M A D L O lay S U F tab K on y yl o) ∙ g)) (outer-outside p M A D L O lay S U F tab K on y yl o)) own)
                inside false o = (
                  y,
                  yl,
                  both-second (G.matched y) (Y y) yh,
                  subst (λ s. is_column_of L F s y ≡ true) (sym q) (t-column p L F t y
                      (inner-matched p M A D L O lay S U F tab K on y yl o (both-first (G.matched y) (Y y) yh))
                      (sym (inner-mate p M A D L O lay S U F tab K on y yl o) ∙ g)),
                )

    one-column : (s y z : ℕ) → s < places L → y < L.columns → z < L.columns → is_column_of L F s y ≡ true → is_column_of L F s z ≡ true → y ≡ z
    one-column s y z sl yl zl c d = at (row-cases L s sl)
      where
        at : (s < L.q_rows) ⊎ ((t : ℕ) × (t < L.t_rows) × (s ≡ L.q_rows + t)) → y ≡ z
        at (inl ql) = let (a, q) = column-q p L F s y ql c in let (b, e) = column-q p L F s z ql d in tab.base.distinct y z yl zl a b (q ∙ sym e)
        at (inr (t, tl, g)) = let (a, q) = column-t p L F t y (subst (λ k. is_column_of L F k y ≡ true) g c) in
            let (b, e) = column-t p L F t z (subst (λ k. is_column_of L F k z ≡ true) g d) in tab.matching.distinct y z yl zl a b (q ∙ sym e)

    -- a row with no entry in Y
    blank : ℕ → Bool
    blank r = not (some_below L.columns (λ y. Y y && has_row_entry p L F r y))

    blank-tells : (r y : ℕ) → blank r ≡ true → y < L.columns → Y y ≡ true → has_row_entry p L F r y ≡ true → ⊥
    unfolding blank
    blank-tells r y h yl yh e = differ (not-false (some_below L.columns (λ z. Y z && has_row_entry p L F r z)) h)
        (some_below-holds L.columns (λ z. Y z && has_row_entry p L F r z) y yl (both_true (Y y) (has_row_entry p L F r y) yh e))

    blank-make : (r : ℕ) → ((y : ℕ) → y < L.columns → Y y ≡ true → has_row_entry p L F r y ≡ true → ⊥) → blank r ≡ true
    unfolding blank
    blank-make r none = false-not (some_below L.columns (λ z. Y z && has_row_entry p L F r z))
        (not_true (some_below L.columns (λ z. Y z && has_row_entry p L F r z))
        (λ h. found (some_below-found L.columns (λ z. Y z && has_row_entry p L F r z) h)))
      where
        found : (y : ℕ) × (y < L.columns) × (Y y && has_row_entry p L F r y ≡ true) → ⊥
        found (y, yl, h) = none y yl (both-first (Y y) (has_row_entry p L F r y) h) (both-second (Y y) (has_row_entry p L F r y) h)

    start-blank : (r : ℕ) → r < places L → bare_of L O F K r ≡ true → blank r ≡ true
    start-blank r rl h = blank-make r (λ z zl zh e. let (y, yl, yh, c) = entry-column r z rl (both-first (is_row_of L O K r) (is_bare_row L F r) h) zl zh e in
        bare-tells p L F r y (both-second (is_row_of L O K r) (is_bare_row L F r) h) yl c)

    follow-blank : Follows (row_leads p L F) (places L) blank
    follow-blank r s rl sl h a = let (y, yl, e, c) = leads-found p L F r s a in
        blank-make s (λ z zl zh f. let (v, vl, vh, d) = entry-column s z sl (column-own s y sl yl c) zl zh f in
        blank-tells r y h yl (subst (λ k. Y k ≡ true) (one-column s v y sl vl yl d c) vh) e)

    -- a row of K has no entry in an auxiliary column outside K
    entry-inner : (r y : ℕ) → r < places L → y < L.columns → is_row_of L O K r ≡ true → has_row_entry p L F r y ≡ true → out y ≡ false
    entry-inner r y rl yl k e = not_true (out y) (λ o. at o (row-cases L r rl))
      where
        tests : (x z : ℕ) → eqb x z ≡ true → x ≡ z
        tests x z h = eqb_true x z h

        at : out y ≡ true → (r < L.q_rows) ⊎ ((t : ℕ) × (t < L.t_rows) × (r ≡ L.q_rows + t)) → ⊥
        at o (inl ql) = entry-q p L F r y ql e (subst (λ x. F.P r x % p ≡ 0) (outer-place p M A D L O lay S U F tab K on y yl o)
            (auxiliary-zero p M A D L O lay S U F tab K on r (y - M.columns) ql (outer-index p M A D L O lay S U F tab K on y yl o) (row-q L O K r ql k)
            (outer-outside p M A D L O lay S U F tab K on y yl o)))
        at o (inr (t, tl, q)) = differ (subst (λ x. K x ≡ false) (sym same) (outer-outside p M A D L O lay S U F tab K on y yl o))
            (row-t L O K t (subst (λ s. is_row_of L O K s ≡ true) q k))
          where
            same : O.of_t t ≡ O.of_z (y - M.columns)
            same = tests (O.of_t t) (O.of_z (y - M.columns)) (sym (lay.t_auxiliary t (y - M.columns) tl (outer-index p M A D L O lay S U F tab K on y yl o))
                ∙ ap (λ x. L.t t x) (outer-place p M A D L O lay S U F tab K on y yl o) ∙ sym (t-entry p L F t y)
                ∙ subst (λ s. has_row_entry p L F s y ≡ true) q e)

    pub blank-none : (r z : ℕ) → r < places L → FromSome (row_leads p L F) (places L) (bare_of L O F K) r → z < L.columns → Y z ≡ true →
        has_row_entry p L F r z ≡ true → ⊥
    blank-none r z rl from = blank-tells r z (follows-from (row_leads p L F) (places L) (bare_of L O F K) blank start-blank follow-blank r rl from)

    pub blank-vain : NoEndReached (row_leads p L F) (places L) (bare_of L O F K) (is_open p L F)
    blank-vain r rl o from = let (y, yl, e, f) = open-found p L F r o in
        blank-none r y rl from yl
        (fit.free y yl (free-tells F y f).0
        (neither (F.matched y) (out y) (free-tells F y f).1 (entry-inner r y rl yl (from-own r rl from) e))) e
      where
        neither : (a b : Bool) → a ≡ false → b ≡ false → a || b ≡ false
        neither a b h k = grind arith
