-- A layered matrix in which equations are emptied is a layering of the model in which they are emptied.
use Rattle.std.proofs.Common.{◌≡◌, ℕ, ◌+◌, ◌<◌, ◌≤◌, Bool, true, false, cond, ltb, not, ◌&&◌, ◌||◌, refl, ◌∙◌, arith}
use Rattle.std.proofs.lemmas.Bool.Decides.{nat_tests}
use Rattle.residue_theory.specs.Sets.{everything}
use Rattle.mixed_matrices.specs.LayeredMatrices.{LayeredMatrix}
use Rattle.mixed_matrices.specs.Layerings.{IsLayering, Origins}
use Rattle.mixed_matrices.specs.Models.{MixedMatrix}
use Rattle.mixed_matrices.specs.Removals.{mixed_part}
use Rattle.equation_matroid_laws.specs.EquationRanks.{emptied_layers}

module _ (M : MixedMatrix) (A D : ℕ → Bool) (L : LayeredMatrix) (O : Origins) (lay : IsLayering M A D L O) (X : ℕ → Bool) where
  below : (j : ℕ) → j < M.columns → ltb j M.columns ≡ true
  below j l = grind (arith, nat_tests)

  above : (k : ℕ) → ltb (M.columns + k) M.columns ≡ false
  above k = let g : M.columns ≤ M.columns + k = omega arith in grind (arith, nat_tests)

  pub emptied-layering : IsLayering (mixed_part X everything M) A D (emptied_layers M O X L) O
  emptied-layering = record {
    constants = λ i j il jl e. none (X i) (M.constant i j) (lay.constants i j il jl e);
    symbols = λ i j il jl e. off (X i) (M.symbol i j) (lay.symbols i j il jl e);
    q_rows = lay.q_rows;
    t_rows = lay.t_rows;
    auxiliary = lay.auxiliary;
    columns = lay.columns;
    q = λ i j il jl. kept (ltb j M.columns) (X (O.of_q i)) (L.q i j) (M.constant (O.of_q i) j) (below j jl) (lay.q i j il jl);
    q_auxiliary = λ i k il kl. stays (ltb (M.columns + k) M.columns) (X (O.of_q i)) (L.q i (M.columns + k)) (above k) ∙ lay.q_auxiliary i k il kl;
    t = λ i j il jl. seen (ltb j M.columns) (X (O.of_t i)) (L.t i j) (M.symbol (O.of_t i) j) (below j jl) (lay.t i j il jl);
    t_auxiliary = λ i k il kl. shown (ltb (M.columns + k) M.columns) (X (O.of_t i)) (L.t i (M.columns + k)) (above k) ∙ lay.t_auxiliary i k il kl;
  }
    where
      none : (b : Bool) (x : ℕ) → x ≡ 0 → cond (b && true) x 0 ≡ 0
      none true x e = e
      none false x e = refl

      off : (b s : Bool) → s ≡ false → b && true && s ≡ false
      off true s e = e
      off false s e = refl

      kept : (l b : Bool) (x y : ℕ) → l ≡ true → x ≡ y → cond (l && not b) 0 x ≡ cond (b && true) y 0
      kept true true x y h e = e
      kept true false x y h e = refl
      kept false b x y h e = absurd (bad h)
        where
          bad : false ≡ true → ⊥
          bad h = cc

      stays : (l b : Bool) (x : ℕ) → l ≡ false → cond (l && not b) 0 x ≡ x
      stays false b x h = refl
      stays true b x h = absurd (bad h)
        where
          bad : true ≡ false → ⊥
          bad h = cc

      seen : (l b s t : Bool) → l ≡ true → s ≡ t → (not l || b) && s ≡ (b && true && t)
      seen true true s t h e = e
      seen true false s t h e = refl
      seen false b s t h e = absurd (bad h)
        where
          bad : false ≡ true → ⊥
          bad h = cc

      shown : (l b s : Bool) → l ≡ false → (not l || b) && s ≡ s
      shown false b s h = refl
      shown true b s h = absurd (bad h)
        where
          bad : true ≡ false → ⊥
          bad h = cc
