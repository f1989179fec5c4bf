-- In a form the column parts alone tell the part of each T row: it is the first one in which the row has a symbol, or
-- the last.
use Rattle.std.proofs.Common.{◌≡◌, ◌+◌, ◌<◌, ◌≤◌, ◌∙◌, ℕ, Bool, true, false, inl, inr, refl, ap, sym, subst, arith}
use Rattle.residue_theory.proofs.SetLaws.{differ, lt_cases}
use Rattle.mixed_matrices.specs.Arcs.{has_match}
use Rattle.mixed_matrices.specs.CheckerRules.{HasRows}
use Rattle.mixed_matrices.specs.Forms.{IsForm, Parts}
use Rattle.mixed_matrices.specs.LayeredMatrices.{LayeredMatrix}
use Rattle.mixed_matrices.specs.Pairs.{IsMatching}
use Rattle.mixed_matrices.specs.Tableaus.{Tableau}
use Rattle.mixed_pair_laws.proofs.ArcFacts.{match_found}

-- a T row has no symbol before its part, and one in it, but for the last
pub record AreTold (L : LayeredMatrix) (G : Parts) : Type 0 where
  pub few : (i : ℕ) → i < L.t_rows → G.t_row i ≤ G.blocks + 1
  pub falls : (i j : ℕ) → i < L.t_rows → j < L.columns → L.t i j ≡ true → G.t_row i ≤ G.column j
  pub own : (i : ℕ) → i < L.t_rows → G.t_row i ≤ G.blocks → (j : ℕ) × (j < L.columns) × (L.t i j ≡ true) × (G.column j ≡ G.t_row i)

module _ (p : ℕ) (L : LayeredMatrix) (S : ℕ → ℕ → ℕ) (F : Tableau) (G : Parts) (form : IsForm p L S G)
    (rows : HasRows L F G) (matching : IsMatching L F.matched F.mate) where
  row-falls : (i j : ℕ) → i < L.t_rows → j < L.columns → L.t i j ≡ true → G.t_row i ≤ G.column j
  row-falls i j il jl h = elim (lt_cases (G.column j) (G.t_row i)) [
    | inl less ↦ absurd (differ (((form.1).empty (G.t_row i) (G.column j) less).t i j il jl refl refl) h)
    | inr le ↦ le
  ]

  row-own : (i : ℕ) → i < L.t_rows → G.t_row i ≤ G.blocks → (b : Bool) → has_match L F i ≡ b → (j : ℕ)
      × (j < L.columns) × (L.t i j ≡ true) × (G.column j ≡ G.t_row i)
  row-own i il early false none = absurd (omega (arith, rows.other_t i il none))
  row-own i il early true some =
      let at = match_found L F i some in
      (at.0, at.1, subst (λ r. L.t r at.0 ≡ true) at.3 (matching.symbol at.0 at.1 at.2), sym (rows.matched at.0 at.1 at.2) ∙ ap G.t_row at.3)

  pub are-told : AreTold L G
  are-told = record { few = (form.1).t_rows; falls = row-falls; own = λ i il early. row-own i il early (has_match L F i) refl }

module _ (L : LayeredMatrix) (G H : Parts) (one : AreTold L G) (two : AreTold L H) (blocks : G.blocks ≡ H.blocks)
    (same : (x : ℕ) → x < L.columns → G.column x ≡ H.column x) where
  -- no later than the symbol in its part
  pub no-later : (i : ℕ) → i < L.t_rows → H.t_row i ≤ G.t_row i
  no-later i il = elim (lt_cases G.blocks (G.t_row i)) [
    | inl last ↦ omega (arith, two.few i il)
    | inr early ↦
        let at = one.own i il early in
        omega (arith, two.falls i at.0 il at.1 at.2, same at.0 at.1, at.3)
  ]

pub one-part : (L : LayeredMatrix) (G H : Parts) → AreTold L G → AreTold L H → G.blocks ≡ H.blocks → ((x : ℕ) → x < L.columns → G.column x ≡ H.column x) →
    (i : ℕ) → i < L.t_rows → G.t_row i ≡ H.t_row i
one-part L G H one two blocks same i il =
    omega (arith, no-later L G H one two blocks same i il, no-later L H G two one (sym blocks) (λ x xl. sym (same x xl)) i il)

-- the same symbols tell the same
pub same-told : (L : LayeredMatrix) (q : ℕ → ℕ → ℕ) (t : ℕ → ℕ → Bool) (G : Parts) → ((i j : ℕ) → i < L.t_rows → j < L.columns → t i j ≡ L.t i j) →
    AreTold (record { q_rows = L.q_rows; t_rows = L.t_rows; columns = L.columns; q = q; t = t }) G → AreTold L G
same-told L q t G symbols told = record {
  few = told.few;
  falls = λ i j il jl h. told.falls i j il jl (symbols i j il jl ∙ h);
  own = λ i il early. let at = told.own i il early in (at.0, at.1, sym (symbols i at.0 il at.1) ∙ at.2, at.3);
}
