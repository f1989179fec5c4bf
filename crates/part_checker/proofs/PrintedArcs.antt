-- Arcs by the printed rows, and by a layered matrix that has these.
use Rattle.std.proofs.Common.{◌≡◌, ℕ, zero, suc, ◌<◌, ◌%◌, Bool, true, false, ◌&&◌, ◌||◌, not, eqb, length, refl, ap, sym, subst, ◌∙◌, arith}
use Rattle.residue_theory.specs.Sets.{some_below}
use Rattle.mixed_matrices.specs.Arcs.{has_base, has_match, is_end, leads_to}
use Rattle.mixed_matrices.specs.LayeredMatrices.{LayeredMatrix}
use Rattle.cert_text.specs.Contents.{Contents}
use Rattle.cert_text.specs.Ranges.{IsCcf}
use Rattle.cert_text.specs.Readings.{has_column, matrix_of, pair_at, pattern_of, row_with, tableau_of}
use Rattle.cert_text.proofs.PairLists.{has-found}
use Rattle.part_arcs.specs.FormArcs.{printed_rows}
use Rattle.part_checker.specs.Told.{IsPrintedBy}

some-same : (n : ℕ) (X Y : ℕ → Bool) → ((j : ℕ) → j < n → X j ≡ Y j) → some_below n X ≡ some_below n Y
some-same zero X Y same = refl
some-same (suc n) X Y same = ap (λ b. b || X n) (some-same n X Y (λ j jl. same j (omega (arith, jl)))) ∙ ap (λ b. some_below n Y || b) (same n (omega arith))

module _ (p : ℕ) (c : Contents) (is : IsCcf p c) (L : LayeredMatrix) (P : IsPrintedBy L c) where
  -- a matched row has the symbols of L
  mate-symbol : (x y : ℕ) → x < c.shape.columns → (b : Bool) → has_column c.mates y ≡ b →
      (b && pattern_of c.t (row_with c.mates y) x) ≡ (b && L.t (row_with c.mates y) x)
  mate-symbol x y xl false h = refl
  mate-symbol x y xl true h = go (has-found c.mates y h)
    where
      go : ((l : ℕ) × (l < length c.mates) × ((pair_at c.mates l).1 ≡ y)
          × ((pair_at c.mates l).0 ≡ row_with c.mates y)) → pattern_of c.t (row_with c.mates y) x ≡ L.t
          (row_with c.mates y) x
      go (l, ll, column, row) = P.symbols (row_with c.mates y) x (subst (λ i. i < c.shape.t_rows) row (is.mates.within l (0, 0) ll).0) xl

  pub leads-same : (x y : ℕ) → x < c.shape.columns → leads_to p (printed_rows c) (tableau_of c) x y ≡ leads_to p L (tableau_of c) x y
  unfolding leads_to
  leads-same x y xl = ap (λ b. not (eqb x y) && ((has_column c.base y && not (eqb (matrix_of c.p (row_with c.base y) x % p) 0)) || b))
      (mate-symbol x y xl (has_column c.mates y) refl)

  q_end : ℕ → ℕ → ℕ → Bool
  q_end m n x = some_below m (λ i. not (eqb (matrix_of c.p i x % p) 0) && not (some_below n (λ y. has_column c.base y && eqb (row_with c.base y) i)))

  t_end : (ℕ → ℕ → Bool) → ℕ → ℕ → ℕ → Bool
  t_end t m n x = some_below m (λ i. t i x && not (some_below n (λ y. has_column c.mates y && eqb (row_with c.mates y) i)))

  pub ends-same : (x : ℕ) → x < c.shape.columns → is_end p (printed_rows c) (tableau_of c) x ≡ is_end p L (tableau_of c) x
  unfolding is_end has_base has_match q_end t_end
  ends-same x xl =
      ap (λ b. b || t_end (pattern_of c.t) c.shape.t_rows c.shape.columns x) (ap (λ m. q_end m c.shape.columns x)
      (sym P.q_rows) ∙ ap (λ n. q_end L.q_rows n x) (sym P.columns))
      ∙ ap (λ b. q_end L.q_rows L.columns x || b) (some-same c.shape.t_rows _ _
      (λ i il. ap (λ b. b && not (some_below c.shape.columns
      (λ y. has_column c.mates y && eqb (row_with c.mates y) i))) (P.symbols i x il xl))
      ∙ ap (λ m. t_end L.t m c.shape.columns x) (sym P.t_rows) ∙ ap (λ n. t_end L.t L.t_rows n x) (sym P.columns))
