-- The minimisers are the ideals of the blocks.
use Rattle.std.proofs.Common.{◌≡◌, ◌<◌, ◌⊎◌, ◌∙◌, ℕ, Bool, true, false, inl, inr, refl, sym, subst}
use Rattle.residue_theory.proofs.SetLaws.{differ}
use Rattle.residue_theory.proofs.SumLaws.{nat_cases}
use Rattle.residue_theory.specs.Residues.{IsPrime}
use Rattle.closed_sets.proofs.Ideals.{blocks_of, closed-ideal, ideal-closed}
use Rattle.closed_sets.specs.Blocks.{IsIdeal}
use Rattle.mixed_matrices.specs.Arcs.{IsFromFree, IsOfMiddle, ReachesIn, is_end, is_free, leads_to}
use Rattle.mixed_matrices.specs.CanonicalParts.{IsIdealOf, IsOfBlock}
use Rattle.mixed_matrices.specs.CheckerRules.{IsListingIn, KeepsPartRules, block_of}
use Rattle.mixed_matrices.specs.Forms.{Parts}
use Rattle.mixed_matrices.specs.LayeredMatrices.{LayeredMatrix}
use Rattle.mixed_matrices.specs.SetFunctions.{IsMinimiser}
use Rattle.mixed_matrices.specs.Tableaus.{HasTableau, Tableau}
use Rattle.mixed_form_laws.proofs.Canonical.{checked-closed, checked-minimiser, holds-first, holds-no_last}
use Rattle.mixed_form_laws.proofs.CheckedParts.{block-held, checked-clear, checked-listing, first-from, from-first}
use Rattle.mixed_form_laws.proofs.CheckedParts.{middle-of_block, of_block-middle, of_block-number, place}

module _ (p : ℕ) (prime : IsPrime p) (L : LayeredMatrix) (F : Tableau) (tab : HasTableau p L F) (G : Parts)
    (below lower : ℕ → ℕ → Bool) (K : KeepsPartRules p L F G below lower) where
  listing : IsListingIn p L F G
  listing = checked-listing p L F G below lower K

  middle : (k x : ℕ) → IsOfBlock L G k x → IsOfMiddle p L F x
  middle = of_block-middle p L F G below lower K

  number : (k x : ℕ) → IsOfBlock L G k x → block_of G x ≡ k
  number = of_block-number p L F G below lower K

  same : (s t : Bool) → (s ≡ true → t ≡ true) → (t ≡ true → s ≡ true) → s ≡ t
  same true t f g = sym (f refl)
  same false true f g = g refl
  same false false f g = refl

  pub minimiser-ideal : (X : ℕ → Bool) → IsMinimiser p L X → (B : ℕ → Bool) × IsIdealOf L G below B X
  minimiser-ideal X least = (
    B,
    record {
      lower = lower_blocks;
      first = λ x xl q. holds-first p prime L F tab G below lower K X least x xl q;
      block = of_block;
      last = λ x xl q. holds-no_last p prime L F tab G below lower K X least x xl q;
    },
  )
    where
      B : ℕ → Bool
      B = blocks_of (leads_to p L F) L.columns (is_free F) (is_end p L F) (checked-clear p L F G below lower K) (block_of G) G.blocks listing X

      ideal : IsIdeal (leads_to p L F) L.columns (is_free F) (is_end p L F) (block_of G) X B
      ideal = closed-ideal (leads_to p L F) L.columns (is_free F) (is_end p L F) (checked-clear p L F G below lower K) (block_of G) G.blocks listing X
          (checked-closed p prime L F tab G below lower K X least)

      lower_blocks : (k l : ℕ) → k < G.blocks → l < G.blocks → below k l ≡ true → B l ≡ true → B k ≡ true
      lower_blocks k l kl ll h bl = go (block-held p L F G below lower K k kl) (block-held p L F G below lower K l ll)
        where
          go : (x : ℕ) × IsOfBlock L G k x → (y : ℕ) × IsOfBlock L G l y → B k ≡ true
          go (x, ox) (y, oy) = subst (λ i. B i ≡ true) (number k x ox) (ideal.down y x (middle l y oy) (middle k x ox)
              (K.order.tells y x (middle l y oy) (middle k x ox)
              (subst (λ i. below i (block_of G y) ≡ true) (sym (number k x ox))
              (subst (λ i. below k i ≡ true) (sym (number l y oy)) h)))
              (subst (λ i. B i ≡ true) (sym (number l y oy)) bl))

      of_block : (k x : ℕ) → IsOfBlock L G k x → X x ≡ B k
      of_block k x o = same (X x) (B k) there (λ h. ideal.holds x o.0 (inr (middle k x o, subst (λ i. B i ≡ true) (sym (number k x o)) h)))
        where
          there : X x ≡ true → B k ≡ true
          there h = elim (ideal.held x o.0 h) [ inl f ↦ absurd ((middle k x o).1 f) | inr w ↦ subst (λ i. B i ≡ true) (number k x o) w.1 ]

  pub ideal-minimiser : (X B : ℕ → Bool) → IsIdealOf L G below B X → IsMinimiser p L X
  ideal-minimiser X B I = checked-minimiser p prime L F tab G below lower K X
      (ideal-closed (leads_to p L F) L.columns (is_free F) (is_end p L F) (checked-clear p L F G below lower K) (block_of G) G.blocks listing X B
      (record { down = down; holds = holds; held = held }))
    where
      of : (x : ℕ) → IsOfMiddle p L F x → IsOfBlock L G (block_of G x) x
      of = middle-of_block p L F G below lower K

      down : (x y : ℕ) → IsOfMiddle p L F x → IsOfMiddle p L F y → ReachesIn p L F x y → B (block_of G x) ≡ true → B (block_of G y) ≡ true
      down x y mx my r h = elim (nat_cases (block_of G y) (block_of G x)) [
        | inl q ↦ subst (λ i. B i ≡ true) (sym q) h
        | inr ne ↦ I.lower (block_of G y) (block_of G x) (of y my).1 (of x mx).1 (K.order.made x y mx my r ne) h
      ]

      holds : (x : ℕ) → x < L.columns → IsFromFree p L F x ⊎ (IsOfMiddle p L F x × (B (block_of G x) ≡ true)) → X x ≡ true
      holds x xl (inl f) = I.first x xl (from-first p L F G below lower K x xl f)
      holds x xl (inr (m, h)) = I.block (block_of G x) x (of x m) ∙ h

      held : (x : ℕ) → x < L.columns → X x ≡ true → IsFromFree p L F x ⊎ (IsOfMiddle p L F x × (B (block_of G x) ≡ true))
      held x xl h = elim (place p L F G below lower K x xl) [
        | inl z ↦ inl (first-from p L F G below lower K x xl z)
        | inr o ↦ elim o [
          | inl inside ↦ inr (middle (block_of G x) x inside, sym (I.block (block_of G x) x inside) ∙ h)
          | inr last ↦ absurd (differ (I.last x xl last) h)
        ]
      ]
