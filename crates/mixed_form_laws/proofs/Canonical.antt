-- Parts that keep the rules are the canonical parts, with their order and lower lists.
use Rattle.std.proofs.Common.{◌≡◌, ◌+◌, ◌<◌, ◌≢◌, ◌⊎◌, ◌∙◌, ◌↔◌, ℕ, Bool, true, false, inl, inr, sym, subst, arith}
use Rattle.residue_theory.proofs.SetLaws.{differ, not_true}
use Rattle.residue_theory.proofs.SumLaws.{nat_cases}
use Rattle.residue_theory.specs.Residues.{IsPrime}
use Rattle.closed_sets.proofs.ClosedLaws.{closed-from, closed-reaches, closed-to, holds_with, in_every, in_none, mutual-together, together-mutual}
use Rattle.closed_sets.proofs.WalkLaws.{reaches-join}
use Rattle.closed_sets.specs.Walks.{Mutual}
use Rattle.mixed_matrices.specs.Arcs.{HasNoWalk, IsClosedIn, IsOfMiddle, ReachesIn, is_end, is_free, leads_to}
use Rattle.mixed_matrices.specs.CanonicalParts.{AreCanonical, IsBlockBelow, IsHeldWith, IsLeastColumn, IsLowerBlock, IsOfBlock, IsReadyAt}
use Rattle.mixed_matrices.specs.CheckerRules.{IsListingIn, KeepsPartRules, block_of}
use Rattle.mixed_matrices.specs.Forms.{Parts}
use Rattle.mixed_matrices.specs.LayeredMatrices.{LayeredMatrix}
use Rattle.mixed_matrices.specs.SetFunctions.{IsMinimiser}
use Rattle.mixed_matrices.specs.Tableaus.{HasTableau, Tableau}
use Rattle.mixed_pair_laws.proofs.Minimisers.{closed-minimiser, least_set, least_set-closed, minimiser-closed}
use Rattle.mixed_form_laws.proofs.CheckedParts.{block-held, checked-clear, checked-listing, first-from, from-first, last-to}
use Rattle.mixed_form_laws.proofs.CheckedParts.{middle-of_block, of_block-middle, of_block-number, to-last}

module _ (p : ℕ) (prime : IsPrime p) (L : LayeredMatrix) (F : Tableau) (tab : HasTableau p L F) (G : Parts)
    (below lower : ℕ → ℕ → Bool) (K : KeepsPartRules p L F G below lower) where
  clear : HasNoWalk p L F
  clear = checked-clear p L F G below lower K

  listing : IsListingIn p L F G
  listing = checked-listing p L F G below lower K

  middle : (k x : ℕ) → IsOfBlock L G k x → IsOfMiddle p L F x
  middle = of_block-middle p L F G below lower K

  number : (k x : ℕ) → IsOfBlock L G k x → block_of G x ≡ k
  number = of_block-number p L F G below lower K

  -- ---- minimisers are the closed sets
  pub checked-closed : (X : ℕ → Bool) → IsMinimiser p L X → IsClosedIn p L F X
  checked-closed = minimiser-closed p prime L F tab (least_set p L F) (least_set-closed p L F clear)

  pub checked-minimiser : (X : ℕ → Bool) → IsClosedIn p L F X → IsMinimiser p L X
  checked-minimiser = closed-minimiser p prime L F tab

  pub holds-first : (X : ℕ → Bool) → IsMinimiser p L X → (x : ℕ) → x < L.columns → G.column x ≡ 0 → X x ≡ true
  holds-first X least x xl q = closed-from (leads_to p L F) L.columns (is_free F) (is_end p L F) X
      (checked-closed X least) x xl (first-from p L F G below lower K x xl q)

  pub holds-no_last : (X : ℕ → Bool) → IsMinimiser p L X → (x : ℕ) → x < L.columns → G.column x ≡ G.blocks + 1 → X x ≡ false
  holds-no_last X least x xl q = not_true (X x)
      (closed-to (leads_to p L F) L.columns (is_free F) (is_end p L F) X (checked-closed X least) x xl
      (last-to p L F G below lower K x xl q))

  -- ---- what a minimiser holds together
  same_block : (k x y : ℕ) → IsOfBlock L G k x → IsOfBlock L G k y → Mutual (leads_to p L F) L.columns x y
  same_block k x y ox oy = listing.shared x y (middle k x ox) (middle k y oy) (number k x ox ∙ sym (number k y oy))

  -- a column that each minimiser with y holds is reached from y
  held-reached : (k l x y : ℕ) → IsOfBlock L G k x → IsOfBlock L G l y → IsHeldWith p L y x → ReachesIn p L F y x
  held-reached k l x y ox oy held = elim
      (holds_with (leads_to p L F) L.columns (is_free F) (is_end p L F) clear y x oy.0 ox.0 (middle l y oy).2
      (λ X C. held X (checked-minimiser X C))) [
        | inl r ↦ r
        | inr f ↦ absurd ((middle k x ox).1 f)
      ]

  reached-held : (x y : ℕ) → x < L.columns → y < L.columns → ReachesIn p L F y x → IsHeldWith p L y x
  reached-held x y xl yl r X least h = closed-reaches (leads_to p L F) L.columns (is_free F) (is_end p L F) X (checked-closed X least) y x yl xl h r

  -- where one column of block l reaches one of block k, each minimiser that holds l holds k
  reached-below : (k l x y : ℕ) → k ≢ l → IsOfBlock L G k x → IsOfBlock L G l y → ReachesIn p L F y x → IsBlockBelow p L G k l
  reached-below k l x y ne ox oy r = (
    ne,
    λ u v ou ov. reached-held u v ou.0 ov.0
        (reaches-join (leads_to p L F) L.columns v y u (same_block l v y ov oy).0 (reaches-join (leads_to p L F) L.columns y x u r (same_block k x u ox ou).0)),
  )

  block-together : (k l x y : ℕ) → IsOfBlock L G k x → IsOfBlock L G l y → (k ≡ l) ↔ ((X : ℕ → Bool) → IsMinimiser p L X → X x ≡ X y)
  block-together k l x y ox oy = (
    (λ q X least. mutual-together (leads_to p L F) L.columns (is_free F) (is_end p L F) clear x y ox.0 oy.0
        (same_block l x y (subst (λ h. IsOfBlock L G h x) q ox) oy) X (checked-closed X least)),
    λ same. sym (number k x ox) ∙ listing.joined x y (middle k x ox) (middle l y oy)
        (together-mutual (leads_to p L F) L.columns (is_free F) (is_end p L F) clear x y (middle k x ox) (middle l y oy)
        (λ X C. same X (checked-minimiser X C))) ∙ number l y oy,
  )

  -- ---- the listing
  below-before : (h k : ℕ) → h < G.blocks → k < G.blocks → IsBlockBelow p L G h k → h < k
  below-before h k hl kl b = go (block-held p L F G below lower K h hl) (block-held p L F G below lower K k kl)
    where
      go : (x : ℕ) × IsOfBlock L G h x → (y : ℕ) × IsOfBlock L G k y → h < k
      go (x, ox) (y, oy) = let ne : h ≢ k = b.0 in omega (
        arith,
        listing.lower_before y x (middle k y oy) (middle h x ox) (held-reached h k x y ox oy (b.1 x y ox oy)),
        number h x ox,
        number k y oy,
      )

  least-first : (k l x y : ℕ) → k < l → IsReadyAt p L G k l → IsLeastColumn L G k x → IsLeastColumn L G l y → x < y
  least-first k l x y kl ready least_x least_y = go (listing.least y k (middle l y least_y.0) (omega (arith, number l y least_y.0)) lower_ones)
    where
      lower_ones : (z : ℕ) → IsOfMiddle p L F z → ReachesIn p L F y z → (block_of G z < k) ⊎ (block_of G z ≡ block_of G y)
      lower_ones z mz r = elim (nat_cases (block_of G z) l) [
        | inl q ↦ inr (q ∙ sym (number l y least_y.0))
        | inr ne ↦ let oz : IsOfBlock L G (block_of G z) z = middle-of_block p L F G below lower K z mz in
            inl (ready (block_of G z) oz.1 (reached-below (block_of G z) l z y ne oz least_y.0 r))
      ]

      go : (z : ℕ) × (z < y) × IsOfMiddle p L F z × (block_of G z ≡ k) → x < y
      go (z, less, mz, q) = omega (arith, less, least_x.1 z (subst (λ h. IsOfBlock L G h z) q (middle-of_block p L F G below lower K z mz)))

  pub checked-canonical : AreCanonical p L G
  checked-canonical = record {
    columns = K.rows.columns;
    held = block-held p L F G below lower K;
    first = λ x xl. (
      (λ q X least. holds-first X least x xl q),
      λ every. from-first p L F G below lower K x xl
          (in_every (leads_to p L F) L.columns (is_free F) (is_end p L F) clear x xl
          (λ X C. every X (checked-minimiser X C))),
    );
    last = λ x xl. (
      (λ q X least. holds-no_last X least x xl q),
      λ none. to-last p L F G below lower K x xl
          (in_none (leads_to p L F) L.columns (is_free F) (is_end p L F) clear x xl
          (λ X C h. differ (none X (checked-minimiser X C)) h)),
    );
    block = block-together;
    ready = λ k kl h hl b. below-before h k hl kl b;
    least = least-first;
  }

  -- ---- the order of the blocks, and the lower lists
  pub below-block : (k l : ℕ) → k < G.blocks → l < G.blocks → below k l ≡ true → IsBlockBelow p L G k l
  below-block k l kl ll h = (
    K.order.apart k l kl ll h,
    λ x y ox oy. reached-held x y ox.0 oy.0
        (K.order.tells y x (middle l y oy) (middle k x ox)
        (subst (λ i. below i (block_of G y) ≡ true) (sym (number k x ox))
        (subst (λ i. below k i ≡ true) (sym (number l y oy)) h))),
  )

  pub block-below : (k l : ℕ) → k < G.blocks → l < G.blocks → IsBlockBelow p L G k l → below k l ≡ true
  block-below k l kl ll b = go (block-held p L F G below lower K k kl) (block-held p L F G below lower K l ll)
    where
      go : (x : ℕ) × IsOfBlock L G k x → (y : ℕ) × IsOfBlock L G l y → below k l ≡ true
      go (x, ox) (y, oy) = subst (λ i. below i l ≡ true) (number k x ox) (subst (λ i. below (block_of G x) i ≡ true) (number l y oy)
          (K.order.made y x (middle l y oy) (middle k x ox) (held-reached k l x y ox oy (b.1 x y ox oy)) (λ q. b.0 (sym (number k x ox) ∙ q ∙ number l y oy))))

  pub lower-block : (k l : ℕ) → k < G.blocks → l < G.blocks → lower l k ≡ true → IsLowerBlock p L G k l
  lower-block k l kl ll h = record {
    below = below-block k l kl ll (K.lists.is_below k l kl ll h);
    none_between = λ m ml a b. K.lists.none_between k m l kl ml ll h (block-below k m kl ml a) (block-below m l ml ll b);
  }

  pub block-lower : (k l : ℕ) → k < G.blocks → l < G.blocks → IsLowerBlock p L G k l → lower l k ≡ true
  block-lower k l kl ll B = K.lists.all k l kl ll (block-below k l kl ll B.below)
      (λ m ml a b. B.none_between m ml (below-block k m kl ml a) (below-block m l ml ll b))
