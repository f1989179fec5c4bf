-- Surplus and undetermined, by the tails of parts that keep the rules.
use Rattle.std.proofs.Common.{◌≡◌, ℕ, ◌+◌, ◌-◌, ◌%◌, ◌<◌, ◌≤◌, ◌≢◌, Bool, true, false, leb, inl, inr, refl, ap, sym, subst, ◌∙◌, arith}
use Rattle.std.proofs.lemmas.Bool.Decides.{nat_tests}
use Rattle.residue_theory.proofs.SetLaws.{both-first, both-second, both_true, differ, not_true, some_below-found, some_below-holds, zero_cases}
use Rattle.residue_theory.proofs.SumLaws.{nat_cases}
use Rattle.residue_theory.specs.Residues.{IsPrime}
use Rattle.residue_theory.specs.Sets.{both}
use Rattle.linear_algebra.specs.Bases.{HasNoBase, IsBase}
use Rattle.linear_algebra.specs.Columns.{IsRank}
use Rattle.linear_algebra.specs.Parts.{without_row}
use Rattle.linear_algebra_laws.proofs.Bases.{base-within}
use Rattle.linear_algebra_laws.proofs.Ranks.{rank_exists}
use Rattle.linear_algebra_laws.proofs.RowRemoval.{stays-tableau, tableau-stays, without_row-removed}
use Rattle.mixed_matrices.specs.Arcs.{has_base, has_match}
use Rattle.mixed_matrices.specs.CheckerRules.{KeepsPartRules}
use Rattle.mixed_matrices.specs.Forms.{IsForm, Parts}
use Rattle.mixed_matrices.specs.LayeredMatrices.{LayeredMatrix}
use Rattle.mixed_matrices.specs.SetFunctions.{IsMinimiser, IsRho, touches_set}
use Rattle.mixed_matrices.specs.Tableaus.{HasTableau, IsTableau, Tableau}
use Rattle.mixed_pair_laws.proofs.ArcFacts.{base_found, end-t, match_found}
use Rattle.mixed_pair_laws.proofs.ClosedSets.{closed-fits}
use Rattle.mixed_pair_laws.proofs.TableauParts.{tableau}
use Rattle.mixed_form_laws.proofs.Canonical.{checked-closed, holds-no_last}
use Rattle.mixed_form_laws.proofs.CheckedForms.{checked-form}
use Rattle.mixed_form_laws.proofs.CheckedParts.{end-last, symbol-falls}
use Rattle.mixed_form_laws.proofs.FirstParts.{first_parts-minimiser}

module _ (p : ℕ) (prime : IsPrime p) (L : LayeredMatrix) (S U : ℕ → ℕ → ℕ) (F : Tableau) (tab : IsTableau p L S U F) (G : Parts)
    (below lower : ℕ → ℕ → Bool) (K : KeepsPartRules p L F G below lower) where
  has : HasTableau p L F
  has = tableau p prime L S U F tab

  -- the columns before the last tail are a minimiser
  abbrev before : ℕ → Bool
  before x = leb (G.column x) G.blocks

  before-minimiser : IsMinimiser p L before
  before-minimiser = go (checked-form p prime L S U F tab G below lower K)
    where
      go : IsForm p L S G → IsMinimiser p L before
      go (_, tri) = first_parts-minimiser p prime L S U tab.inverse G tri G.blocks (omega arith)

  leb_from : (x k : ℕ) → x ≤ k → leb x k ≡ true
  leb_from x k h = grind (arith, nat_tests)

  -- no minimiser holds a column of the last tail
  not_last : (X : ℕ → Bool) → IsMinimiser p L X → (x : ℕ) → x < L.columns → X x ≡ true → G.column x ≢ G.blocks + 1
  not_last X least x xl h q = differ (holds-no_last p prime L F has G below lower K X least x xl q) h

  early : (x : ℕ) → x < L.columns → G.column x ≢ G.blocks + 1 → G.column x ≤ G.blocks
  early x xl ne = omega (arith, K.rows.columns x xl)

  -- ---- a T row
  module _ (d : ℕ) (dl : d < L.t_rows) where
    pub last-untouched : G.t_row d ≡ G.blocks + 1 → (X : ℕ → Bool) → IsMinimiser p L X → touches_set L X d ≡ false
    last-untouched q X least = not_true (touches_set L X d) (λ h. found (some_below-found L.columns (both X (L.t d)) h))
      where
        found : (x : ℕ) × (x < L.columns) × (both X (L.t d) x ≡ true) → ⊥
        found (x, xl, h) = go (has_match L F d) refl
          where
            held : X x ≡ true
            held = both-first (X x) (L.t d x) h

            symbol : L.t d x ≡ true
            symbol = both-second (X x) (L.t d x) h

            go : (b : Bool) → has_match L F d ≡ b → ⊥
            go false none = not_last X least x xl held (end-last p L F G below lower K x xl (end-t p L F x d dl symbol none))
            go true e = matched (match_found L F d e)
              where
                matched : (j : ℕ) × (j < L.columns) × (F.matched j ≡ true) × (F.mate j ≡ d) → ⊥
                matched (j, jl, m, o) = not_last X least x xl held (omega (
                  arith,
                  K.rows.columns x xl,
                  symbol-falls p L F G below lower K x j xl jl m (subst (λ k. L.t k x ≡ true) (sym o) symbol),
                  sym (K.rows.matched j jl m) ∙ ap G.t_row o ∙ q,
                ))

    pub untouched-last : ((X : ℕ → Bool) → IsMinimiser p L X → touches_set L X d ≡ false) → G.t_row d ≡ G.blocks + 1
    untouched-last none = go (has_match L F d) refl
      where
        go : (b : Bool) → has_match L F d ≡ b → G.t_row d ≡ G.blocks + 1
        go false e = K.rows.other_t d dl e
        go true e = matched (match_found L F d e)
          where
            matched : (j : ℕ) × (j < L.columns) × (F.matched j ≡ true) × (F.mate j ≡ d) → G.t_row d ≡ G.blocks + 1
            matched (j, jl, m, o) = elim (nat_cases (G.column j) (G.blocks + 1)) [
              | inl q ↦ sym (ap G.t_row o) ∙ K.rows.matched j jl m ∙ q
              | inr ne ↦ absurd (differ (none before before-minimiser)
                  (some_below-holds L.columns (both before (L.t d)) j jl
                  (both_true (before j) (L.t d j) (leb_from (G.column j) G.blocks (early j jl ne))
                  (subst (λ k. L.t k j ≡ true) o (tab.matching.symbol j jl m)))))
            ]

  -- ---- a Q row
  -- a row without base in a minimiser is one of the last tail, where the minimiser is the columns before
  last-no_base : (k : ℕ) → k < L.q_rows → HasNoBase L.columns (both F.base before) F.row k → G.q_row k ≡ G.blocks + 1
  last-no_base k kl none = go (has_base L F k) refl
    where
      go : (b : Bool) → has_base L F k ≡ b → G.q_row k ≡ G.blocks + 1
      go false e = K.rows.other_q k kl e
      go true e = found (base_found L F k e)
        where
          found : (b : ℕ) × (b < L.columns) × (F.base b ≡ true) × (F.row b ≡ k) → G.q_row k ≡ G.blocks + 1
          found (b, bl, bh, o) = elim (nat_cases (G.column b) (G.blocks + 1)) [
            | inl q ↦ sym (ap G.q_row o) ∙ K.rows.base b bl bh ∙ q
            | inr ne ↦ absurd (none b bl (both_true (F.base b) (before b) bh (leb_from (G.column b) G.blocks (early b bl ne))) o)
          ]

  -- and a row of the last tail has no base in any minimiser
  no_base-last : (X : ℕ → Bool) → IsMinimiser p L X → (k : ℕ) → G.q_row k ≡ G.blocks + 1 → HasNoBase L.columns (both F.base X) F.row k
  no_base-last X least k q b bl h o = not_last X least b bl (both-second (F.base b) (X b) h)
      (sym (K.rows.base b bl (both-first (F.base b) (X b) h)) ∙ ap G.q_row o ∙ q)

  module _ (e : ℕ) (el : e < L.q_rows) where
    abbrev pub UsedLast : Type 0
    UsedLast = (k : ℕ) × (k < L.q_rows) × (G.q_row k ≡ G.blocks + 1) × (S k e % p ≢ 0)

    module _ (X : ℕ → Bool) (least : IsMinimiser p L X) where
      base_within : IsBase p F.P L.q_rows L.columns (both F.base X) F.row
      base_within = base-within p F.P L.q_rows L.columns (both F.base X) F.base F.row (λ b bl h. both-first (F.base b) (X b) h) tab.base

      zeros : (i j : ℕ) → i < L.q_rows → j < L.columns → X j ≡ true → HasNoBase L.columns (both F.base X) F.row i → F.P i j % p ≡ 0
      zeros i j il jl jh none = elim (zero_cases (F.P i j % p)) [
        | inl z ↦ z
        | inr ne ↦ absurd (bad ((closed-fits p prime L F has X
            (checked-closed p prime L F has G below lower K X least)).q j i jl jh il ne))
      ]
        where
          bad : (b : ℕ) × (b < L.columns) × (both F.base X b ≡ true) × (F.row b ≡ i) → ⊥
          bad (b, bl, bh, o) = none b bl bh o

    pub used-stays : UsedLast → (X : ℕ → Bool) → IsMinimiser p L X → (u v : ℕ) → IsRho p L X u → IsRank p (without_row e L.q)
        (L.q_rows - 1) L.columns X v → v ≡ u
    used-stays (k, kl, q, ne) X least u v R T = tableau-stays p prime L.q_rows (L.q_rows - 1) L.columns L.q (without_row e L.q) e
        (without_row-removed p L.q_rows L.columns L.q e el) S U F.P (both F.base X) F.row X
        tab.inverse tab.product (base_within X least) (λ b bl h. both-second (F.base b) (X b) h) (zeros X least) u v R T k kl
        (no_base-last X least k q) ne

    pub stays-used : ((X : ℕ → Bool) → IsMinimiser p L X → (u v : ℕ) → IsRho p L X u → IsRank p (without_row e L.q)
        (L.q_rows - 1) L.columns X v → v ≡ u) → UsedLast
    stays-used same = go (rank_exists p prime L.q L.q_rows L.columns before) (rank_exists p prime (without_row e L.q) (L.q_rows - 1) L.columns before)
      where
        shown : (k : ℕ) × (k < L.q_rows) × HasNoBase L.columns (both F.base before) F.row k × (S k e % p ≢ 0) → UsedLast
        shown (k, kl, none, ne) = (k, kl, last-no_base k kl none, ne)

        go : (u : ℕ) × IsRho p L before u → (v : ℕ) × IsRank p (without_row e L.q) (L.q_rows - 1) L.columns before v → UsedLast
        go (u, R) (v, T) = shown (stays-tableau p prime L.q_rows (L.q_rows - 1) L.columns L.q (without_row e L.q) e
            (without_row-removed p L.q_rows L.columns L.q e el) S U F.P (both F.base before) F.row before
            tab.inverse tab.product (base_within before before-minimiser) (λ b bl h. both-second (F.base b) (before b) h)
            (zeros before before-minimiser) u v R T (same before before-minimiser u v R T))
