-- Canonical parts are the listing of the arcs of any tableau in which no end is reached from a free column; so there is one choice of them.
use Rattle.std.proofs.Common.{◌≡◌, ◌+◌, ◌-◌, ◌<◌, ◌≤◌, ◌≢◌, ◌⊎◌, ◌∙◌, ◌↔◌, ℕ, Bool, inl, inr, refl, sym, arith}
use Rattle.residue_theory.proofs.SetLaws.{differ, lt_cases, not_true}
use Rattle.residue_theory.proofs.SumLaws.{nat_cases}
use Rattle.residue_theory.specs.Residues.{IsPrime}
use Rattle.closed_sets.proofs.ClosedLaws.{closed-from, closed-reaches, closed-to, holds_with, in_every, in_none, mutual-together, together-mutual}
use Rattle.closed_sets.proofs.ListingUnique.{listing-same, listing-size}
use Rattle.closed_sets.proofs.SetLaws.{least_of}
use Rattle.mixed_matrices.specs.Arcs.{HasNoWalk, IsClosedIn, IsFromFree, IsOfMiddle, ReachesEnd, ReachesIn, is_end, is_free, leads_to}
use Rattle.mixed_matrices.specs.CanonicalParts.{AreCanonical, IsBlockBelow, IsHeldWith, IsLeastColumn, IsOfBlock, IsReadyAt}
use Rattle.mixed_matrices.specs.CheckerRules.{IsListingIn, block_of}
use Rattle.mixed_matrices.specs.Forms.{Parts}
use Rattle.mixed_matrices.specs.LayeredMatrices.{LayeredMatrix}
use Rattle.mixed_matrices.specs.SetFunctions.{IsMinimiser}
use Rattle.mixed_matrices.specs.Tableaus.{HasTableau, Tableau}
use Rattle.mixed_pair_laws.proofs.Minimisers.{closed-minimiser, least_set, least_set-closed, minimiser-closed}

module _ (p : ℕ) (prime : IsPrime p) (L : LayeredMatrix) (F : Tableau) (tab : HasTableau p L F)
    (clear : HasNoWalk p L F) (G : Parts) (C : AreCanonical p L G) where
  least : (X : ℕ → Bool) → IsClosedIn p L F X → IsMinimiser p L X
  least = closed-minimiser p prime L F tab

  closed : (X : ℕ → Bool) → IsMinimiser p L X → IsClosedIn p L F X
  closed = minimiser-closed p prime L F tab (least_set p L F) (least_set-closed p L F clear)

  -- the first tail is what is reached from a free column, the last what reaches an end
  pub first-told : (x : ℕ) → x < L.columns → (G.column x ≡ 0) ↔ IsFromFree p L F x
  first-told x xl = (
    (λ q. in_every (leads_to p L F) L.columns (is_free F) (is_end p L F) clear x xl (λ X c. (C.first x xl).0 q X (least X c))),
    λ f. (C.first x xl).1 (λ X h. closed-from (leads_to p L F) L.columns (is_free F) (is_end p L F) X (closed X h) x xl f),
  )

  pub last-told : (x : ℕ) → x < L.columns → (G.column x ≡ G.blocks + 1) ↔ ReachesEnd p L F x
  last-told x xl = (
    (λ q. in_none (leads_to p L F) L.columns (is_free F) (is_end p L F) clear x xl (λ X c h. differ ((C.last x xl).0 q X (least X c)) h)),
    λ t. (C.last x xl).1 (λ X h. not_true (X x) (closed-to (leads_to p L F) L.columns (is_free F) (is_end p L F) X (closed X h) x xl t)),
  )

  pub block-middle_told : (k x : ℕ) → IsOfBlock L G k x → IsOfMiddle p L F x
  block-middle_told k x o = (o.0, (λ f. omega (arith, o.2, (first-told x o.0).1 f)), λ t. omega (arith, o.1, o.2, (last-told x o.0).1 t))

  pub middle-block_told : (x : ℕ) → IsOfMiddle p L F x → IsOfBlock L G (block_of G x) x
  middle-block_told x m = go (nat_cases (G.column x) 0) (nat_cases (G.column x) (G.blocks + 1))
    where
      go : (G.column x ≡ 0) ⊎ (G.column x ≢ 0) → (G.column x ≡ G.blocks + 1) ⊎ (G.column x ≢ G.blocks + 1) → IsOfBlock L G (block_of G x) x
      go (inl z) _ = absurd (m.1 ((first-told x m.0).0 z))
      go (inr ne) (inl q) = absurd (m.2 ((last-told x m.0).0 q))
      go (inr ne) (inr no_last) = (m.0, omega (arith, C.columns x m.0), omega arith)

  number : (k x : ℕ) → IsOfBlock L G k x → block_of G x ≡ k
  number k x o = omega (arith, o.2)

  -- ---- reached is held
  pub reached-below : (x y : ℕ) → IsOfMiddle p L F x → IsOfMiddle p L F y →
      ReachesIn p L F x y → block_of G y ≢ block_of G x → IsBlockBelow p L G (block_of G y) (block_of G x)
  reached-below x y mx my r ne = (ne, held)
    where
      held : (u v : ℕ) → IsOfBlock L G (block_of G y) u → IsOfBlock L G (block_of G x) v → IsHeldWith p L v u
      held u v ou ov X h vh = (C.block (block_of G y) (block_of G y) u y ou (middle-block_told y my)).0 refl X h
          ∙ closed-reaches (leads_to p L F) L.columns (is_free F) (is_end p L F) X (closed X h) x y mx.0 my.0
          ((C.block (block_of G x) (block_of G x) x v (middle-block_told x mx) ov).0 refl X h ∙ vh) r

  -- a column of the middle that each minimiser with x holds is reached from x
  pub held-reached : (x u : ℕ) → IsOfMiddle p L F x → IsOfMiddle p L F u → IsHeldWith p L x u → ReachesIn p L F x u
  held-reached x u mx mu held = elim (holds_with (leads_to p L F) L.columns (is_free F) (is_end p L F) clear x u mx.0 mu.0 mx.2 (λ X c. held X (least X c))) [
    | inl r ↦ r
    | inr f ↦ absurd (mu.1 f)
  ]

  -- the least column of a block
  least-column : (k : ℕ) → k < G.blocks → (x : ℕ) × IsLeastColumn L G k x
  least-column k kl = go (least_of (IsOfBlock L G k) L.columns decide)
    where
      decide : (x : ℕ) → x < L.columns → IsOfBlock L G k x ⊎ (IsOfBlock L G k x → ⊥)
      decide x xl = elim (nat_cases (G.column x) (k + 1)) [ inl q ↦ inl (xl, kl, q) | inr ne ↦ inr (λ o. ne o.2) ]

      go : ((x : ℕ) × (x < L.columns) × IsOfBlock L G k x × ((y : ℕ) → y < x → IsOfBlock L G k y → ⊥))
          ⊎ ((x : ℕ) → x < L.columns → IsOfBlock L G k x → ⊥) → (x : ℕ) × IsLeastColumn L G k x
      go (inl (x, xl, o, none)) = (x, (o, λ y oy. elim (lt_cases y x) [ inl less ↦ absurd (none y less oy) | inr le ↦ le ]))
      go (inr none) = absurd (none (C.held k kl).0 (C.held k kl).1.0 (C.held k kl).1)

  lower-before : (x y : ℕ) → IsOfMiddle p L F x → IsOfMiddle p L F y →
      ReachesIn p L F x y → block_of G y ≤ block_of G x
  lower-before x y mx my r = elim (nat_cases (block_of G y) (block_of G x)) [
    | inl q ↦ omega (arith, q)
    | inr ne ↦ let less : block_of G y < block_of G x = C.ready (block_of G x) (middle-block_told x mx).1 (block_of G y) (middle-block_told y my).1
        (reached-below x y mx my r ne) in omega arith
  ]

  least-first : (x k : ℕ) → IsOfMiddle p L F x → k < block_of G x →
      ((y : ℕ) → IsOfMiddle p L F y → ReachesIn p L F x y → (block_of G y < k) ⊎ (block_of G y ≡ block_of G x)) →
      (z : ℕ) × (z < x) × IsOfMiddle p L F z × (block_of G z ≡ k)
  least-first x k mx kl lower = go (least-column k (omega (arith, (middle-block_told x mx).1))) (least-column (block_of G x) (middle-block_told x mx).1)
    where
      ready : IsReadyAt p L G k (block_of G x)
      ready h hl b = at (C.held h hl)
        where
          at : (u : ℕ) × IsOfBlock L G h u → h < k
          at (u, o) = elim (lower u (block-middle_told h u o) (held-reached x u mx (block-middle_told h u o) (b.1 u x o (middle-block_told x mx)))) [
            | inl less ↦ omega (arith, less, number h u o)
            | inr q ↦ absurd (b.0 (sym (number h u o) ∙ q))
          ]

      go : (z : ℕ) × IsLeastColumn L G k z → (y : ℕ) × IsLeastColumn L G (block_of G x) y → (z : ℕ) × (z < x) × IsOfMiddle p L F z × (block_of G z ≡ k)
      go (z, lz) (y, ly) = (
        z,
        omega
            (arith, C.least k (block_of G x) z y kl ready lz ly, ly.1 x (middle-block_told x mx)),
        block-middle_told k z lz.0,
        number k z lz.0,
      )

  pub canonical-listing : IsListingIn p L F G
  canonical-listing = record {
    below_b = λ x m. (middle-block_told x m).1;
    each = λ k kl. ((C.held k kl).0, block-middle_told k (C.held k kl).0 (C.held k kl).1, number k (C.held k kl).0 (C.held k kl).1);
    shared = λ x y mx my q. together-mutual (leads_to p L F) L.columns (is_free F) (is_end p L F) clear x y mx my
        (λ X c. (C.block (block_of G x) (block_of G y) x y (middle-block_told x mx) (middle-block_told y my)).0 q X (least X c));
    joined = λ x y mx my m. (C.block (block_of G x) (block_of G y) x y (middle-block_told x mx) (middle-block_told y my)).1
        (λ X h. mutual-together (leads_to p L F) L.columns (is_free F) (is_end p L F) clear x y mx.0 my.0 m X (closed X h));
    lower_before = lower-before;
    least = least-first;
  }

module _ (p : ℕ) (prime : IsPrime p) (L : LayeredMatrix) (F : Tableau) (tab : HasTableau p L F)
    (clear : HasNoWalk p L F) (G H : Parts) (C : AreCanonical p L G) (D : AreCanonical p L H) where
  pub same-blocks : G.blocks ≡ H.blocks
  same-blocks = listing-size (leads_to p L F) L.columns (is_free F) (is_end p L F) (block_of G) (block_of H) G.blocks H.blocks
      (canonical-listing p prime L F tab clear G C) (canonical-listing p prime L F tab clear H D)

  pub same-column : (x : ℕ) → x < L.columns → G.column x ≡ H.column x
  same-column x xl = go (nat_cases (G.column x) 0) (nat_cases (G.column x) (G.blocks + 1))
    where
      go : (G.column x ≡ 0) ⊎ (G.column x ≢ 0) → (G.column x ≡ G.blocks + 1) ⊎ (G.column x ≢ G.blocks + 1) → G.column x ≡ H.column x
      go (inl z) _ = z ∙ sym ((D.first x xl).1 ((C.first x xl).0 z))
      go (inr ne) (inl q) = let last : H.column x ≡ H.blocks + 1 = (D.last x xl).1 ((C.last x xl).0 q) in omega (arith, same-blocks)
      go (inr ne) (inr no_last) = inside (middle-block_told p prime L F tab clear H D x m)
          (listing-same (leads_to p L F) L.columns (is_free F) (is_end p L F) (block_of G) (block_of H) G.blocks H.blocks
          (canonical-listing p prime L F tab clear G C) (canonical-listing p prime L F tab clear H D) x m)
        where
          m : IsOfMiddle p L F x
          m = block-middle_told p prime L F tab clear G C (G.column x - 1) x (xl, omega (arith, C.columns x xl), omega arith)

          inside : IsOfBlock L H (block_of H x) x → block_of G x ≡ block_of H x → G.column x ≡ H.column x
          inside o q = omega (arith, o.2, q)
