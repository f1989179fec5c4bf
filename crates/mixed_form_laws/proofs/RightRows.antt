-- In a form with the S of a tableau whose pair is best, each row stands in the part of its base or matched column, and the other rows stand last.
-- Of the first parts, as many columns are in the pair as there are rows; and a pair column's row stands no later than the column.
use Rattle.std.proofs.Common.{◌≡◌, ◌+◌, ◌%◌, ◌<◌, ◌≤◌, ◌≢◌, ◌&&◌, ◌∙◌, ℕ, Bool, true, false, eqb, leb, inl, inr, refl, ap, arith}
use Rattle.std.proofs.lemmas.Bool.Decides.{nat_tests}
use Rattle.residue_theory.proofs.CountLaws.{counts-equal, size-injection}
use Rattle.residue_theory.proofs.SetLaws.{both-first, both-refused, both-second, differ, eqb_false, eqb_true, first_on, lt_cases}
use Rattle.residue_theory.proofs.SumLaws.{member-without, sum_on-without}
use Rattle.residue_theory.specs.Residues.{IsPrime}
use Rattle.residue_theory.specs.Sets.{both, without}
use Rattle.residue_theory.specs.Sums.{size_on}
use Rattle.mixed_matrices.specs.Arcs.{HasNoWalk, IsClosedIn, has_base, has_match}
use Rattle.mixed_matrices.specs.CheckerRules.{HasRows}
use Rattle.mixed_matrices.specs.Forms.{IsTriangular, Parts, transformed}
use Rattle.mixed_matrices.specs.LayeredMatrices.{LayeredMatrix}
use Rattle.mixed_matrices.specs.Pairs.{pair_size}
use Rattle.mixed_matrices.specs.Tableaus.{HasTableau, IsTableau, Tableau}
use Rattle.mixed_pair_laws.proofs.ArcFacts.{free-holds, no_base, no_match}
use Rattle.mixed_pair_laws.proofs.Minimisers.{least_set, least_set-closed, minimiser-closed}
use Rattle.mixed_pair_laws.proofs.PairRank.{closed-rank}
use Rattle.mixed_pair_laws.proofs.TableauParts.{tableau}
use Rattle.mixed_form_laws.proofs.FirstParts.{first_parts-minimiser, form-rank, sizes}

module _ (p : ℕ) (prime : IsPrime p) (L : LayeredMatrix) (S U : ℕ → ℕ → ℕ) (F : Tableau) (tab : IsTableau p L S U F) (clear : HasNoWalk p L F)
    (G : Parts) (tri : IsTriangular p (transformed S L) G) where
  has : HasTableau p L F
  has = tableau p prime L S U F tab

  -- ---- a row with an entry stands no later than the entry's column
  entry-falls : (i j : ℕ) → i < L.q_rows → j < L.columns → F.P i j % p ≢ 0 → G.q_row i ≤ G.column j
  entry-falls i j il jl ne = elim (lt_cases (G.column j) (G.q_row i)) [
    | inl less ↦ absurd (ne (tab.product i j il jl ∙ (tri.empty (G.q_row i) (G.column j) less).q i j il jl refl refl))
    | inr le ↦ le
  ]

  symbol-falls : (i j : ℕ) → i < L.t_rows → j < L.columns → L.t i j ≡ true → G.t_row i ≤ G.column j
  symbol-falls i j il jl s = elim (lt_cases (G.column j) (G.t_row i)) [
    | inl less ↦ absurd (differ ((tri.empty (G.t_row i) (G.column j) less).t i j il jl refl refl) s)
    | inr le ↦ le
  ]

  base-falls : (b : ℕ) → b < L.columns → F.base b ≡ true → G.q_row (F.row b) ≤ G.column b
  base-falls b bl h = entry-falls (F.row b) b (tab.base.row_below b bl h) bl (never (F.P (F.row b) b % p) (tab.base.one b bl h))
    where
      never : (x : ℕ) → x ≡ 1 → x ≢ 0
      never x a z = omega arith

  match-falls : (j : ℕ) → j < L.columns → F.matched j ≡ true → G.t_row (F.mate j) ≤ G.column j
  match-falls j jl h = symbol-falls (F.mate j) j (tab.matching.below j jl h) jl (tab.matching.symbol j jl h)

  leb_from : (x k : ℕ) → x ≤ k → leb x k ≡ true
  leb_from x k le = grind (arith, nat_tests)

  leb_is : (x k : ℕ) → leb x k ≡ true → x ≤ k
  leb_is x k h = grind (arith, nat_tests)

  -- ---- the first parts up to part k
  module _ (k : ℕ) (le : k ≤ G.blocks) where
    abbrev X : ℕ → Bool
    X j = leb (G.column j) k

    abbrev q_first : ℕ → Bool
    q_first i = leb (G.q_row i) k

    abbrev t_first : ℕ → Bool
    t_first i = leb (G.t_row i) k

    closed : IsClosedIn p L F X
    closed = minimiser-closed p prime L F has (least_set p L F) (least_set-closed p L F clear) X (first_parts-minimiser p prime L S U tab.inverse G tri k le)

    -- as many pair columns as rows
    counted : size_on (both F.base X) L.columns + size_on (both F.matched X) L.columns ≡ size_on q_first L.q_rows + size_on t_first L.t_rows
    counted = omega (
      arith,
      counts-equal F.base F.matched X L.columns tab.apart (λ x xl a b. closed.holds_starts x xl (free-holds F x a b)),
      form-rank p prime L S U tab.inverse G tri (pair_size L F.base F.matched) (closed-rank p prime L F has X closed),
      sizes p prime L S U tab.inverse G tri k le,
    )

    first-row : (b : ℕ) → b < L.columns → both F.base X b ≡ true → q_first (F.row b) ≡ true
    first-row b bl h = let less : G.column b ≤ k = leb_is (G.column b) k (both-second (F.base b) (X b) h) in
        leb_from (G.q_row (F.row b)) k (omega (arith, base-falls b bl (both-first (F.base b) (X b) h)))

    first-mate : (j : ℕ) → j < L.columns → both F.matched X j ≡ true → t_first (F.mate j) ≡ true
    first-mate j jl h = let less : G.column j ≤ k = leb_is (G.column j) k (both-second (F.matched j) (X j) h) in
        leb_from (G.t_row (F.mate j)) k (omega (arith, match-falls j jl (both-first (F.matched j) (X j) h)))

    q_into : (E : ℕ → Bool) → ((b : ℕ) → b < L.columns → both F.base X b ≡ true → E (F.row b) ≡ true) → size_on (both F.base X) L.columns ≤ size_on E L.q_rows
    q_into E inside = size-injection (both F.base X) L.columns F.row L.q_rows E (λ b bl h. tab.base.row_below b bl (both-first (F.base b) (X b) h)) inside
        (λ b c bl cl h g q. tab.base.distinct b c bl cl (both-first (F.base b) (X b) h) (both-first (F.base c) (X c) g) q)

    t_into : (E : ℕ → Bool) → ((j : ℕ) → j < L.columns → both F.matched X j ≡ true → E (F.mate j) ≡ true) →
        size_on (both F.matched X) L.columns ≤ size_on E L.t_rows
    t_into E inside = size-injection (both F.matched X) L.columns F.mate L.t_rows E
        (λ b bl h. tab.matching.below b bl (both-first (F.matched b) (X b) h)) inside
        (λ b c bl cl h g q. tab.matching.distinct b c bl cl (both-first (F.matched b) (X b) h) (both-first (F.matched c) (X c) g) q)

    -- each row of the first parts is that of a pair column of them
    pub q_found : (i : ℕ) → i < L.q_rows → G.q_row i ≤ k → (b : ℕ) × (b < L.columns) × (F.base b ≡ true) × (F.row b ≡ i) × (G.column b ≤ k)
    q_found i il low = elim (first_on (λ b. both F.base X b && eqb (F.row b) i) L.columns) [
      | inl f ↦ (
        f.0,
        f.1,
        both-first (F.base f.0) (X f.0) (both-first (both F.base X f.0) (eqb (F.row f.0) i) f.2),
        eqb_true (F.row f.0) i (both-second (both F.base X f.0) (eqb (F.row f.0) i) f.2),
        leb_is (G.column f.0) k (both-second (F.base f.0) (X f.0) (both-first (both F.base X f.0) (eqb (F.row f.0) i) f.2)),
      )
      | inr none ↦ absurd (omega (
        arith,
        counted,
        t_into t_first first-mate,
        q_into (without q_first i) (λ b bl h. member-without q_first i (F.row b) (first-row b bl h)
            (eqb_false (F.row b) i (both-refused (both F.base X b) (eqb (F.row b) i) (none b bl) h))),
        sum_on-without q_first L.q_rows i (λ _. 1) il (leb_from (G.q_row i) k low),
      ))
    ]

    pub t_found : (i : ℕ) → i < L.t_rows → G.t_row i ≤ k → (j : ℕ) × (j < L.columns) × (F.matched j ≡ true) × (F.mate j ≡ i) × (G.column j ≤ k)
    t_found i il low = elim (first_on (λ b. both F.matched X b && eqb (F.mate b) i) L.columns) [
      | inl f ↦ (
        f.0,
        f.1,
        both-first (F.matched f.0) (X f.0) (both-first (both F.matched X f.0) (eqb (F.mate f.0) i) f.2),
        eqb_true (F.mate f.0) i (both-second (both F.matched X f.0) (eqb (F.mate f.0) i) f.2),
        leb_is (G.column f.0) k (both-second (F.matched f.0) (X f.0) (both-first (both F.matched X f.0) (eqb (F.mate f.0) i) f.2)),
      )
      | inr none ↦ absurd (omega (
        arith,
        counted,
        q_into q_first first-row,
        t_into (without t_first i) (λ b bl h. member-without t_first i (F.mate b) (first-mate b bl h)
            (eqb_false (F.mate b) i (both-refused (both F.matched X b) (eqb (F.mate b) i) (none b bl) h))),
        sum_on-without t_first L.t_rows i (λ _. 1) il (leb_from (G.t_row i) k low),
      ))
    ]

  -- ---- the rows
  base-row : (b : ℕ) → b < L.columns → F.base b ≡ true → G.q_row (F.row b) ≡ G.column b
  base-row b bl h = elim (lt_cases G.blocks (G.q_row (F.row b))) [
    | inl last ↦ omega (arith, base-falls b bl h, tri.columns b bl)
    | inr early ↦ same (q_found (G.q_row (F.row b)) early (F.row b) (tab.base.row_below b bl h) (omega arith))
  ]
    where
      same : (c : ℕ) × (c < L.columns) × (F.base c ≡ true) × (F.row c ≡ F.row b) × (G.column c ≤ G.q_row (F.row b)) → G.q_row (F.row b) ≡ G.column b
      same (c, cl, ch, q, less) = omega (arith, base-falls b bl h, less, ap G.column (tab.base.distinct c b cl bl ch h q))

  match-row : (j : ℕ) → j < L.columns → F.matched j ≡ true → G.t_row (F.mate j) ≡ G.column j
  match-row j jl h = elim (lt_cases G.blocks (G.t_row (F.mate j))) [
    | inl last ↦ omega (arith, match-falls j jl h, tri.columns j jl)
    | inr early ↦ same (t_found (G.t_row (F.mate j)) early (F.mate j) (tab.matching.below j jl h) (omega arith))
  ]
    where
      same : (c : ℕ) × (c < L.columns) × (F.matched c ≡ true) × (F.mate c ≡ F.mate j) × (G.column c ≤ G.t_row (F.mate j)) → G.t_row (F.mate j) ≡ G.column j
      same (c, cl, ch, q, less) = omega (arith, match-falls j jl h, less, ap G.column (tab.matching.distinct c j cl jl ch h q))

  other-q : (i : ℕ) → i < L.q_rows → has_base L F i ≡ false → G.q_row i ≡ G.blocks + 1
  other-q i il none = elim (lt_cases G.blocks (G.q_row i)) [
    | inl last ↦ omega (arith, tri.q_rows i il)
    | inr early ↦ let f : (b : ℕ) × (b < L.columns) × (F.base b ≡ true) × (F.row b ≡ i) × (G.column b ≤ G.q_row i) =
        q_found (G.q_row i) early i il (omega arith) in
        absurd (no_base L F i none f.0 f.1 f.2 f.3)
  ]

  other-t : (i : ℕ) → i < L.t_rows → has_match L F i ≡ false → G.t_row i ≡ G.blocks + 1
  other-t i il none = elim (lt_cases G.blocks (G.t_row i)) [
    | inl last ↦ omega (arith, tri.t_rows i il)
    | inr early ↦ let f : (j : ℕ) × (j < L.columns) × (F.matched j ≡ true) × (F.mate j ≡ i) × (G.column j ≤ G.t_row i) =
        t_found (G.t_row i) early i il (omega arith) in
        absurd (no_match L F i none f.0 f.1 f.2 f.3)
  ]

  pub form-rows : HasRows L F G
  form-rows = record { columns = tri.columns; base = base-row; matched = match-row; other_q = other-q; other_t = other-t }
