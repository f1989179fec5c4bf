-- Canonical parts are at least as fine as the parts of any form.
use Rattle.std.proofs.Common.{◌≡◌, ◌+◌, ◌-◌, ◌<◌, ◌≢◌, ◌⊎◌, ◌∙◌, ℕ, Bool, leb, inl, inr, refl, sym, arith}
use Rattle.residue_theory.proofs.SumLaws.{nat_cases}
use Rattle.residue_theory.specs.Residues.{IsPrime}
use Rattle.mixed_matrices.specs.CanonicalParts.{AreCanonical}
use Rattle.mixed_matrices.specs.Forms.{IsAsFine, IsForm, Parts}
use Rattle.mixed_matrices.specs.LayeredMatrices.{LayeredMatrix}
use Rattle.mixed_matrices.specs.SetFunctions.{IsMinimiser}
use Rattle.mixed_form_laws.proofs.FirstParts.{first_parts-minimiser}

module _ (p : ℕ) (prime : IsPrime p) (L : LayeredMatrix) (A : Parts) (C : AreCanonical p L A) where
  -- a minimiser holds all columns of a part or none
  pub minimiser-union : (X : ℕ → Bool) → IsMinimiser p L X → (x y : ℕ) → x < L.columns → y < L.columns → A.column x ≡ A.column y → X x ≡ X y
  minimiser-union X least x y xl yl q = go (nat_cases (A.column x) 0) (nat_cases (A.column x) (A.blocks + 1))
    where
      go : (A.column x ≡ 0) ⊎ (A.column x ≢ 0) → (A.column x ≡ A.blocks + 1) ⊎ (A.column x ≢ A.blocks + 1) → X x ≡ X y
      go (inl z) _ = (C.first x xl).0 z X least ∙ sym ((C.first y yl).0 (sym q ∙ z) X least)
      go (inr ne) (inl l) = (C.last x xl).0 l X least ∙ sym ((C.last y yl).0 (sym q ∙ l) X least)
      go (inr ne) (inr no_last) = (C.block (A.column x - 1) (A.column x - 1) x y
          (xl, omega (arith, C.columns x xl), omega arith) (yl, omega (arith, C.columns x xl), omega (arith, q))).0 refl X least

  pub canonical-finest : (S : ℕ → ℕ → ℕ) (G : Parts) → IsForm p L S G → IsAsFine L A G
  canonical-finest S G form k le x y xl yl q =
      minimiser-union (λ j. leb (G.column j) k) (first_parts-minimiser p prime L S form.0.0 form.0.1 G form.1 k le) x y
      xl yl q
