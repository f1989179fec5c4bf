-- Canonical parts that are a form with the tableau's S keep the rules, where the pair is best and the order and the lists are the canonical ones.
use Rattle.std.proofs.Common.{◌≡◌, ◌+◌, ◌<◌, ◌↔◌, ℕ, Bool, true}
use Rattle.residue_theory.proofs.SetLaws.{eqb_from, eqb_true}
use Rattle.residue_theory.specs.Residues.{IsPrime}
use Rattle.closed_sets.proofs.BlockOrder.{parts-keep}
use Rattle.closed_sets.specs.Blocks.{IsBelow}
use Rattle.closed_sets.specs.Orders.{IsCover}
use Rattle.mixed_matrices.specs.Arcs.{HasNoWalk, IsOfMiddle, IsReachedFromFree, is_end, is_free, leads_to}
use Rattle.mixed_matrices.specs.CanonicalParts.{AreCanonical, AreRightParts, IsBlockBelow, IsLowerBlock, IsOfBlock}
use Rattle.mixed_matrices.specs.CheckerRules.{KeepsPartRules, block_of, in_first, in_last}
use Rattle.mixed_matrices.specs.Forms.{IsForm, Parts}
use Rattle.mixed_matrices.specs.LayeredMatrices.{LayeredMatrix}
use Rattle.mixed_matrices.specs.Tableaus.{HasTableau, IsTableau, Tableau}
use Rattle.mixed_pair_laws.proofs.TableauParts.{tableau}
use Rattle.mixed_form_laws.proofs.Canonical.{below-block, block-below, block-lower, checked-canonical, lower-block}
use Rattle.mixed_form_laws.proofs.CheckedForms.{checked-form}
use Rattle.mixed_form_laws.proofs.OneListing.{block-middle_told, canonical-listing, first-told, held-reached, last-told, middle-block_told, reached-below}
use Rattle.mixed_form_laws.proofs.RightRows.{form-rows}

module _ (p : ℕ) (prime : IsPrime p) (L : LayeredMatrix) (S U : ℕ → ℕ → ℕ) (F : Tableau) (tab : IsTableau p L S U F) (clear : HasNoWalk p L F)
    (G : Parts) (form : IsForm p L S G) (C : AreCanonical p L G) (below lower : ℕ → ℕ → Bool)
    (ordered : (k l : ℕ) → k < G.blocks → l < G.blocks → (below k l ≡ true) ↔ IsBlockBelow p L G k l)
    (listed : (k l : ℕ) → k < G.blocks → l < G.blocks → (lower l k ≡ true) ↔ IsLowerBlock p L G k l)
    (within : (k l : ℕ) → lower l k ≡ true → (k < G.blocks) × (l < G.blocks)) where
  has : HasTableau p L F
  has = tableau p prime L S U F tab

  middle : (k x : ℕ) → IsOfBlock L G k x → IsOfMiddle p L F x
  middle = block-middle_told p prime L F has clear G C

  of : (x : ℕ) → IsOfMiddle p L F x → IsOfBlock L G (block_of G x) x
  of = middle-block_told p prime L F has clear G C

  order : IsBelow (leads_to p L F) L.columns (is_free F) (is_end p L F) (block_of G) G.blocks below
  order = record {
    apart = λ k l kl ll h q. ((ordered k l kl ll).0 h).0 q;
    tells = λ x y mx my h. held-reached p prime L F has clear G C x y mx my
        (((ordered (block_of G y) (block_of G x) (of y my).1 (of x mx).1).0 h).1 y x (of y my) (of x mx));
    made = λ x y mx my r ne. (ordered (block_of G y) (block_of G x) (of y my).1 (of x mx).1).1 (reached-below p prime L F has clear G C x y mx my r ne);
  }

  lists : IsCover below G.blocks lower
  lists = record {
    is_below = λ k l kl ll h. (ordered k l kl ll).1 ((listed k l kl ll).0 h).below;
    none_between = λ k m l kl ml ll h a b. ((listed k l kl ll).0 h).none_between m ml ((ordered k m kl ml).0 a) ((ordered m l ml ll).0 b);
    all = λ k l kl ll h none. (listed k l kl ll).1 (record {
      below = (ordered k l kl ll).0 h;
      none_between = λ m ml a b. none m ml ((ordered k m kl ml).1 a) ((ordered m l ml ll).1 b);
    });
  }

  first : IsReachedFromFree p L F (in_first G)
  first x xl = (
    (λ h. (first-told p prime L F has clear G C x xl).0 (eqb_true (G.column x) 0 h)),
    λ f. eqb_from (G.column x) 0 ((first-told p prime L F has clear G C x xl).1 f),
  )

  pub right-kept : KeepsPartRules p L F G below lower
  right-kept = record {
    rows = form-rows p prime L S U F tab clear G form.1;
    rules = parts-keep (leads_to p L F) L.columns (is_free F) (is_end p L F) (block_of G) G.blocks
        (canonical-listing p prime L F has clear G C) below order (in_first G)
        (in_last G) clear first
        (λ x xl h. (last-told p prime L F has clear G C x xl).0 (eqb_true (G.column x) (G.blocks + 1) h))
        (λ x xl t. eqb_from (G.column x) (G.blocks + 1) ((last-told p prime L F has clear G C x xl).1 t)) lower lists within;
    order = order;
    lists = lists;
  }

-- and parts that keep the rules are right
pub kept-right : (p : ℕ) → IsPrime p → (L : LayeredMatrix) (S U : ℕ → ℕ → ℕ) (F : Tableau) → IsTableau p L S U F → (G : Parts) (below lower : ℕ → ℕ → Bool) →
    KeepsPartRules p L F G below lower → AreRightParts p L S G below lower
kept-right p prime L S U F tab G below lower K = record {
  form = checked-form p prime L S U F tab G below lower K;
  canonical = checked-canonical p prime L F has G below lower K;
  order = λ k l kl ll. (below-block p prime L F has G below lower K k l kl ll, block-below p prime L F has G below lower K k l kl ll);
  lists = λ k l kl ll. (lower-block p prime L F has G below lower K k l kl ll, block-lower p prime L F has G below lower K k l kl ll);
}
  where
    has : HasTableau p L F
    has = tableau p prime L S U F tab
