-- Parts that keep the rules are the parts of the arcs: where free columns, ends and arcs stand, and which columns are of the middle.
use Rattle.std.proofs.Common.{◌≡◌, ◌+◌, ◌%◌, ◌<◌, ◌≤◌, ◌≢◌, ◌⊎◌, ℕ, Bool, true, false, eqb, inl, inr, ap, subst, arith}
use Rattle.std.proofs.lemmas.Bool.Decides.{nat_tests}
use Rattle.residue_theory.proofs.SetLaws.{eqb_false, eqb_from, eqb_true}
use Rattle.residue_theory.proofs.SumLaws.{nat_cases}
use Rattle.closed_sets.proofs.RuleLaws.{block-middle, first-reached, last-reaches, middle-block, rules-clear, rules-listing}
use Rattle.closed_sets.proofs.WalkLaws.{reaches-arc, reaches-self, reaches-to}
use Rattle.closed_sets.specs.Rules.{InBlock}
use Rattle.mixed_matrices.specs.Arcs.{HasNoWalk, IsFromFree, IsOfMiddle, ReachesEnd, is_end, is_free, leads_to}
use Rattle.mixed_matrices.specs.CanonicalParts.{IsOfBlock}
use Rattle.mixed_matrices.specs.CheckerRules.{IsListingIn, KeepsPartRules, block_of, in_first, in_last}
use Rattle.mixed_matrices.specs.Forms.{Parts}
use Rattle.mixed_matrices.specs.LayeredMatrices.{LayeredMatrix}
use Rattle.mixed_matrices.specs.Tableaus.{Tableau}
use Rattle.mixed_pair_laws.proofs.ArcFacts.{free-holds, leads-q, leads-t}

module _ (p : ℕ) (L : LayeredMatrix) (F : Tableau) (G : Parts) (below lower : ℕ → ℕ → Bool) (K : KeepsPartRules p L F G below lower) where
  -- no end is reached from a free column
  pub checked-clear : HasNoWalk p L F
  checked-clear = rules-clear (leads_to p L F) L.columns (is_free F) (is_end p L F) (in_first G) (in_last G) (block_of G) G.blocks lower K.rules

  -- the blocks are the listing of the middle
  pub checked-listing : IsListingIn p L F G
  checked-listing = rules-listing (leads_to p L F) L.columns (is_free F) (is_end p L F) (in_first G) (in_last G) (block_of G) G.blocks lower K.rules

  -- the first tail is what is reached from a free column, the last what reaches an end
  pub first-from : (x : ℕ) → x < L.columns → G.column x ≡ 0 → IsFromFree p L F x
  first-from x xl q = K.rules.reasons.first_from x xl (eqb_from (G.column x) 0 q)

  pub from-first : (x : ℕ) → x < L.columns → IsFromFree p L F x → G.column x ≡ 0
  from-first x xl f = eqb_true (G.column x) 0
      ((first-reached (leads_to p L F) L.columns (is_free F) (is_end p L F) (in_first G) (in_last G) (block_of G) G.blocks lower K.rules x xl).1 f)

  pub last-to : (x : ℕ) → x < L.columns → G.column x ≡ G.blocks + 1 → ReachesEnd p L F x
  last-to x xl q = K.rules.reasons.last_to x xl (eqb_from (G.column x) (G.blocks + 1) q)

  pub to-last : (x : ℕ) → x < L.columns → ReachesEnd p L F x → G.column x ≡ G.blocks + 1
  to-last x xl t = eqb_true (G.column x) (G.blocks + 1)
      (last-reaches (leads_to p L F) L.columns (is_free F) (is_end p L F) (in_first G) (in_last G) (block_of G) G.blocks lower K.rules x xl t)

  -- the columns of the blocks are those of the middle
  unequal : (c d : ℕ) → c ≢ d → eqb c d ≡ false
  unequal c d ne = grind (arith, nat_tests)

  pub of_block-number : (k x : ℕ) → IsOfBlock L G k x → block_of G x ≡ k
  of_block-number k x o = omega (arith, o.2)

  pub of_block-middle : (k x : ℕ) → IsOfBlock L G k x → IsOfMiddle p L F x
  of_block-middle k x o = block-middle (leads_to p L F) L.columns (is_free F) (is_end p L F) (in_first G) (in_last G)
      (block_of G) G.blocks lower K.rules x (record {
        below = o.0;
        not_first = unequal (G.column x) 0 (λ q. omega (arith, q, o.2));
        not_last = unequal (G.column x) (G.blocks + 1) (λ q. omega (arith, q, o.1, o.2));
      })

  in_block-of : (x : ℕ) → InBlock L.columns (in_first G) (in_last G) x → IsOfBlock L G (block_of G x) x
  in_block-of x i = let low : G.column x ≢ 0 = eqb_false (G.column x) 0 i.not_first in (i.below, K.rules.number x i, omega arith)

  pub middle-of_block : (x : ℕ) → IsOfMiddle p L F x → IsOfBlock L G (block_of G x) x
  middle-of_block x m = in_block-of x
      (middle-block (leads_to p L F) L.columns (is_free F) (is_end p L F) (in_first G) (in_last G) (block_of G) G.blocks
      lower K.rules x m)

  -- each block has a column
  pub block-held : (k : ℕ) → k < G.blocks → (x : ℕ) × IsOfBlock L G k x
  block-held k kl = go (K.rules.member k kl)
    where
      go : (x : ℕ) × InBlock L.columns (in_first G) (in_last G) x × (block_of G x ≡ k) → (x : ℕ) × IsOfBlock L G k x
      go (x, i, q) = (x, subst (λ h. IsOfBlock L G h x) q (in_block-of x i))

  -- each column stands in the first tail, in a block or in the last tail
  pub place : (x : ℕ) → x < L.columns → (G.column x ≡ 0) ⊎ (IsOfBlock L G (block_of G x) x ⊎ (G.column x ≡ G.blocks + 1))
  place x xl = go (nat_cases (G.column x) 0) (nat_cases (G.column x) (G.blocks + 1))
    where
      go : (G.column x ≡ 0) ⊎ (G.column x ≢ 0) → (G.column x ≡ G.blocks + 1) ⊎ (G.column x ≢ G.blocks + 1) → (G.column x ≡ 0) ⊎
          (IsOfBlock L G (block_of G x) x ⊎ (G.column x ≡ G.blocks + 1))
      go (inl z) _ = inl z
      go (inr ne) (inl q) = inr (inr q)
      go (inr ne) (inr no_last) = inr (inl (xl, omega (arith, K.rows.columns x xl), omega arith))

  -- ---- free columns stand first, ends last, and arcs lead to no later part
  pub free-first : (x : ℕ) → x < L.columns → F.base x ≡ false → F.matched x ≡ false → G.column x ≡ 0
  free-first x xl a b = eqb_true (G.column x) 0 (K.rules.down.starts_first x xl (free-holds F x a b))

  pub end-last : (x : ℕ) → x < L.columns → is_end p L F x ≡ true → G.column x ≡ G.blocks + 1
  end-last x xl e = eqb_true (G.column x) (G.blocks + 1) (K.rules.down.ends_last x xl e)

  arc-falls : (x y : ℕ) → x < L.columns → y < L.columns → leads_to p L F x y ≡ true → G.column y ≤ G.column x
  arc-falls x y xl yl a = elim (place x xl) [
    | inl z ↦ omega (arith, z, eqb_true (G.column y) 0 (K.rules.down.first_leads x y xl yl (eqb_from (G.column x) 0 z) a))
    | inr o ↦ elim o [
      | inl inside ↦ from_block inside (place y yl)
      | inr last ↦ omega (arith, last, K.rows.columns y yl)
    ]
  ]
    where
      from_block : IsOfBlock L G (block_of G x) x → (G.column y ≡ 0) ⊎ (IsOfBlock L G (block_of G y) y ⊎ (G.column y ≡ G.blocks + 1)) → G.column y ≤ G.column x
      from_block o (inl z) = omega (arith, z)
      from_block o (inr (inl q)) = omega (
        arith,
        o.2,
        q.2,
        checked-listing.lower_before x y (of_block-middle (block_of G x) x o) (of_block-middle (block_of G y) y q)
            (reaches-arc (leads_to p L F) L.columns x x y (reaches-self (leads_to p L F) L.columns x) xl a),
      )
      from_block o (inr (inr last)) = absurd ((of_block-middle (block_of G x) x o).2
          (reaches-to (leads_to p L F) L.columns (is_end p L F) x y
          (reaches-arc (leads_to p L F) L.columns x x y (reaches-self (leads_to p L F) L.columns x) xl a)
          (last-to y yl last)))

  pub entry-falls : (x y : ℕ) → x < L.columns → y < L.columns → F.base y ≡ true → F.P (F.row y) x % p ≢ 0 → G.column y ≤ G.column x
  entry-falls x y xl yl b ne = elim (nat_cases x y) [ inl q ↦ omega (arith, ap G.column q) | inr other ↦ arc-falls x y xl yl (leads-q p L F x y other b ne) ]

  pub symbol-falls : (x y : ℕ) → x < L.columns → y < L.columns → F.matched y ≡ true → L.t (F.mate y) x ≡ true → G.column y ≤ G.column x
  symbol-falls x y xl yl m s = elim (nat_cases x y) [ inl q ↦ omega (arith, ap G.column q) | inr other ↦ arc-falls x y xl yl (leads-t p L F x y other m s) ]
