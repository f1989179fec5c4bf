-- What is left of a layering without an equation.
use Rattle.std.proofs.Common.{◌≡◌, ℕ, ◌+◌, ◌-◌, ◌%◌, ◌<◌, ◌≤◌, ◌≢◌, Bool, true, false, cond, eqb, ◌&&◌, inl, inr, refl, ap, sym, subst, ◌∙◌, arith}
use Rattle.std.proofs.lemmas.Bool.Decides.{nat_tests}
use Rattle.std.proofs.Math.Nat.{zero-mod}
use Rattle.residue_theory.specs.Sets.{both}
use Rattle.residue_theory.specs.Sums.{size_on}
use Rattle.residue_theory.proofs.SetLaws.{lt_cases}
use Rattle.linear_algebra.specs.Parts.{skip}
use Rattle.linear_algebra_laws.proofs.SkipLaws.{skip-below, skip-later, skip-unskip, unskip}
use Rattle.residue_theory.specs.Residues.{IsPrime}
use Rattle.mixed_matrices.specs.LayeredMatrices.{AreSameLayers, LayeredMatrix, layered_value}
use Rattle.mixed_matrices.specs.StructuralRanks.{IsLayeredRank}
use Rattle.mixed_pair_laws.proofs.PairRank.{greatest-unique}
use Rattle.mixed_pair_laws.proofs.SameEntries.{same-layers}
use Rattle.mixed_pair_laws.proofs.BestPairs.{Optimal, optimal, optimal-rank}
use Rattle.mixed_matrices.specs.Pairs.{pair_size}
use Rattle.mixed_edit_laws.proofs.Removals.{column-rank, q-rank, t-rank}
use Rattle.mixed_matrices.specs.Layerings.{IsLayering, Origins}
use Rattle.mixed_matrices.specs.Models.{MixedMatrix}
use Rattle.mixed_matrices.specs.Removals.{without_equation, without_unknown}
use Rattle.mixed_edit_laws.specs.Removed.{IsEmptyColumnOut, IsQRowOut, IsTRowOut}
use Rattle.mixed_edit_laws.specs.Rests.{auxiliary_place, column_rest, gap, one, q_rest, rest, rest_origins, set_without, t_rest}
use Rattle.mixed_edit_laws.proofs.Members.{gap-below, gap-other, index-below, left, member-at, members-same}

gap-first : (b : Bool) (v j : ℕ) → j < v → gap b v j ≡ j
gap-first true v j l = grind (arith, nat_tests)
gap-first false v j l = refl

gap-moved : (b : Bool) (c v k : ℕ) → gap b (c + v) (c + k) ≡ c + gap b v k
gap-moved true c v k = grind (arith, nat_tests)
gap-moved false c v k = refl

eqb-unskip : (e x y : ℕ) → x ≢ e → y ≢ e → eqb (unskip e x) (unskip e y) ≡ eqb x y
eqb-unskip e x y xn yn = grind (arith, nat_tests)

eqb-other : (x y : ℕ) → x ≢ y → eqb x y ≡ false
eqb-other x y ne = grind (arith, nat_tests)

module _ (M : MixedMatrix) (A D : ℕ → Bool) (L : LayeredMatrix) (O : Origins) (e : ℕ) (layering : IsLayering M A D L O) (el : e < M.rows) where
  abbrev q_gap : ℕ → ℕ
  q_gap i = gap (A e) (size_on A e) i

  abbrev t_gap : ℕ → ℕ
  t_gap i = gap (D e) (size_on D e) i

  abbrev z_gap : ℕ → ℕ
  z_gap k = gap (A e && D e) (size_on (both A D) e) k

  q-other : (i : ℕ) → i < L.q_rows - one (A e) → O.of_q (q_gap i) ≢ e
  q-other i il = gap-other A M.rows L.q_rows e O.of_q layering.q_rows el i il

  t-other : (i : ℕ) → i < L.t_rows - one (D e) → O.of_t (t_gap i) ≢ e
  t-other i il = gap-other D M.rows L.t_rows e O.of_t layering.t_rows el i il

  z-other : (k : ℕ) → k < O.split - one (A e && D e) → O.of_z (z_gap k) ≢ e
  z-other k kl = gap-other (both A D) M.rows O.split e O.of_z layering.auxiliary el k kl

  q-below : (i : ℕ) → i < L.q_rows - one (A e) → q_gap i < L.q_rows
  q-below i il = gap-below A M.rows L.q_rows e O.of_q layering.q_rows el i il

  t-below : (i : ℕ) → i < L.t_rows - one (D e) → t_gap i < L.t_rows
  t-below i il = gap-below D M.rows L.t_rows e O.of_t layering.t_rows el i il

  z-below : (k : ℕ) → k < O.split - one (A e && D e) → z_gap k < O.split
  z-below k kl = gap-below (both A D) M.rows O.split e O.of_z layering.auxiliary el k kl

  -- where an unknown stands, and an auxiliary column
  unknown-place : (j : ℕ) → j < M.columns → gap (A e && D e) (auxiliary_place M A D e) j ≡ j
  unknown-place j jl = gap-first (A e && D e) (auxiliary_place M A D e) j (omega arith)

  auxiliary-place : (k : ℕ) → gap (A e && D e) (auxiliary_place M A D e) (M.columns + k) ≡ M.columns + z_gap k
  auxiliary-place k = gap-moved (A e && D e) M.columns (size_on (both A D) e) k

  few : one (A e && D e) ≤ O.split
  few = go (A e && D e) refl
    where
      go : (b : Bool) → A e && D e ≡ b → one b ≤ O.split
      go true h = omega (arith, index-below (both A D) M.rows O.split e O.of_z layering.auxiliary el h)
      go false h = omega arith

  pub rest-layering : IsLayering (without_equation e M) (set_without e A) (set_without e D) (rest M A D e L) (rest_origins A D e O)
  rest-layering = record {
    constants = λ i j il jl h. layering.constants (skip e i) j (below i il) jl h;
    symbols = λ i j il jl h. layering.symbols (skip e i) j (below i il) jl h;
    q_rows = left A M.rows L.q_rows e O.of_q layering.q_rows el;
    t_rows = left D M.rows L.t_rows e O.of_t layering.t_rows el;
    auxiliary = left (both A D) M.rows O.split e O.of_z layering.auxiliary el;
    columns = omega (arith, layering.columns, few);
    q = λ i j il jl. ap (λ x. L.q (q_gap i) x) (unknown-place j jl) ∙ layering.q (q_gap i) j (q-below i il) jl
        ∙ ap (λ l. M.constant l j) (sym (skip-unskip e (O.of_q (q_gap i)) (q-other i il)));
    q_auxiliary = λ i k il kl. ap (λ x. L.q (q_gap i) x) (auxiliary-place k)
        ∙ layering.q_auxiliary (q_gap i) (z_gap k) (q-below i il) (z-below k kl)
        ∙ ap (λ b. cond b 1 0) (sym (eqb-unskip e (O.of_q (q_gap i)) (O.of_z (z_gap k)) (q-other i il) (z-other k kl)));
    t = λ i j il jl. ap (λ x. L.t (t_gap i) x) (unknown-place j jl) ∙ layering.t (t_gap i) j (t-below i il) jl
        ∙ ap (λ l. M.symbol l j) (sym (skip-unskip e (O.of_t (t_gap i)) (t-other i il)));
    t_auxiliary = λ i k il kl. ap (λ x. L.t (t_gap i) x) (auxiliary-place k)
        ∙ layering.t_auxiliary (t_gap i) (z_gap k) (t-below i il) (z-below k kl)
        ∙ sym (eqb-unskip e (O.of_t (t_gap i)) (O.of_z (z_gap k)) (t-other i il) (z-other k kl));
  }
    where
      below : (i : ℕ) → i < M.rows - 1 → skip e i < M.rows
      below i il = skip-below e i M.rows el il

  -- ---- one after another
  gap-true : (b : Bool) (v k : ℕ) → b ≡ true → gap b v k ≡ skip v k
  gap-true b v k h = ap (λ c. cond c (skip v k) k) h

  one-true : (b : Bool) → b ≡ true → one b ≡ 1
  one-true b h = ap (λ c. cond c 1 0) h

  pub q-out : (p : ℕ) → A e ≡ true → IsQRowOut p L (q_rest A e L) (size_on A e)
  q-out p h = record {
    below = index-below A M.rows L.q_rows e O.of_q layering.q_rows el h;
    q_rows = omega (arith, one-true (A e) h, index-below A M.rows L.q_rows e O.of_q layering.q_rows el h);
    t_rows = refl;
    columns = refl;
    q = λ i j _ _. ap (λ l. L.q l j % p) (gap-true (A e) (size_on A e) i h);
    t = λ i j _ _. refl;
  }

  pub t-out : (p : ℕ) → D e ≡ true → IsTRowOut p (q_rest A e L) (t_rest D e (q_rest A e L)) (size_on D e)
  t-out p h = record {
    below = index-below D M.rows L.t_rows e O.of_t layering.t_rows el h;
    q_rows = refl;
    t_rows = omega (arith, one-true (D e) h, index-below D M.rows L.t_rows e O.of_t layering.t_rows el h);
    columns = refl;
    q = λ i j _ _. refl;
    t = λ i j _ _. ap (λ l. L.t l j) (gap-true (D e) (size_on D e) i h);
  }

  pub column-out : (p : ℕ) → A e && D e ≡ true → IsEmptyColumnOut p (t_rest D e (q_rest A e L)) (rest M A D e L) (auxiliary_place M A D e)
  column-out p h = record {
    below = omega (arith, layering.columns, split-below);
    q_rows = refl;
    t_rows = refl;
    columns = omega (arith, layering.columns, one-true (A e && D e) h, split-below);
    q_zero = λ i il. ap (λ x. x % p) (layering.q_auxiliary (q_gap i) (size_on (both A D) e) (q-below i il) split-below
        ∙ ap (λ b. cond b 1 0) (eqb-other (O.of_q (q_gap i)) (O.of_z (size_on (both A D) e)) (λ q. q-other i il (q ∙ split-at)))) ∙ zero-mod p;
    t_none = λ i il. layering.t_auxiliary (t_gap i) (size_on (both A D) e) (t-below i il) split-below
        ∙ eqb-other (O.of_t (t_gap i)) (O.of_z (size_on (both A D) e)) (λ q. t-other i il (q ∙ split-at));
    q = λ i j _ _. ap (λ l. L.q (q_gap i) l % p) (gap-true (A e && D e) (auxiliary_place M A D e) j h);
    t = λ i j _ _. ap (λ l. L.t (t_gap i) l) (gap-true (A e && D e) (auxiliary_place M A D e) j h);
  }
    where
      split-below : size_on (both A D) e < O.split
      split-below = index-below (both A D) M.rows O.split e O.of_z layering.auxiliary el h

      split-at : O.of_z (size_on (both A D) e) ≡ e
      split-at = member-at (both A D) M.rows O.split e O.of_z layering.auxiliary el h

-- ---- two layerings
pub same-layerings : (p : ℕ) (M : MixedMatrix) (A D : ℕ → Bool) (L K : LayeredMatrix) (O P : Origins) → IsLayering M A D L O →
    IsLayering M A D K P → AreSameLayers p L K
same-layerings p M A D L K O P first second = record {
  q_rows = sym first.q_rows.count ∙ second.q_rows.count;
  t_rows = sym first.t_rows.count ∙ second.t_rows.count;
  columns = omega (arith, first.columns, second.columns, split-same);
  q = λ i j il jl. ap (λ x. x % p) (elim (lt_cases j M.columns) [
    | inl l ↦ first.q i j il l ∙ ap (λ r. M.constant r j) (q-same i il) ∙ sym (second.q i j (omega (arith, first.q_rows.count, second.q_rows.count)) l)
    | inr le ↦ subst (λ c. L.q i c ≡ K.q i c) (let q : M.columns + (j - M.columns) ≡ j = omega arith in q)
        (first.q_auxiliary i (j - M.columns) il (omega (arith, first.columns))
        ∙ ap (λ r. cond (eqb r (O.of_z (j - M.columns))) 1 0) (q-same i il)
        ∙ ap (λ r. cond (eqb (P.of_q i) r) 1 0) (z-same (j - M.columns) (omega (arith, first.columns)))
        ∙ sym (second.q_auxiliary i (j - M.columns) (omega (arith, first.q_rows.count, second.q_rows.count))
        (omega (arith, first.columns, split-same))))
  ]);
  t = λ i j il jl. elim (lt_cases j M.columns) [
    | inl l ↦ first.t i j il l ∙ ap (λ r. M.symbol r j) (t-same i il) ∙ sym (second.t i j (omega (arith, first.t_rows.count, second.t_rows.count)) l)
    | inr le ↦ subst (λ c. L.t i c ≡ K.t i c) (let q : M.columns + (j - M.columns) ≡ j = omega arith in q)
        (first.t_auxiliary i (j - M.columns) il (omega (arith, first.columns))
        ∙ ap (λ r. eqb r (O.of_z (j - M.columns))) (t-same i il)
        ∙ ap (λ r. eqb (P.of_t i) r) (z-same (j - M.columns) (omega (arith, first.columns)))
        ∙ sym (second.t_auxiliary i (j - M.columns) (omega (arith, first.t_rows.count, second.t_rows.count))
        (omega (arith, first.columns, split-same))))
  ];
}
  where
    split-same : O.split ≡ P.split
    split-same = sym first.auxiliary.count ∙ second.auxiliary.count

    q-same : (i : ℕ) → i < L.q_rows → O.of_q i ≡ P.of_q i
    q-same i il = members-same A M.rows L.q_rows K.q_rows O.of_q P.of_q first.q_rows second.q_rows i il

    t-same : (i : ℕ) → i < L.t_rows → O.of_t i ≡ P.of_t i
    t-same i il = members-same D M.rows L.t_rows K.t_rows O.of_t P.of_t first.t_rows second.t_rows i il

    z-same : (k : ℕ) → k < O.split → O.of_z k ≡ P.of_z k
    z-same k kl = members-same (both A D) M.rows O.split P.split O.of_z P.of_z first.auxiliary second.auxiliary k kl

-- ---- an unknown that is the last one, and empty
module _ (p : ℕ) (M : MixedMatrix) (A D : ℕ → Bool) (L : LayeredMatrix) (O : Origins) (u : ℕ) (layering : IsLayering M A D L O)
    (last : M.columns ≡ u + 1) (no_constant : (i : ℕ) → i < M.rows → M.constant i u ≡ 0)
    (no_symbol : (i : ℕ) → i < M.rows → M.symbol i u ≡ false) where
  moved : (j : ℕ) → j < M.columns - 1 → skip u j < M.columns
  moved j jl = skip-below u j M.columns (omega (arith, last)) jl

  auxiliary : (k : ℕ) → skip u (M.columns - 1 + k) ≡ M.columns + k
  auxiliary k = skip-later u (M.columns - 1 + k) (omega (arith, last)) ∙ omega (arith, last)

  pub unknown-layering : IsLayering (without_unknown u M) A D (column_rest true u L) O
  unknown-layering = record {
    constants = λ i j il jl h. layering.constants i (skip u j) il (moved j jl) h;
    symbols = λ i j il jl h. layering.symbols i (skip u j) il (moved j jl) h;
    q_rows = layering.q_rows;
    t_rows = layering.t_rows;
    auxiliary = layering.auxiliary;
    columns = omega (arith, layering.columns, last);
    q = λ i j il jl. layering.q i (skip u j) il (moved j jl);
    q_auxiliary = λ i k il kl. ap (λ c. L.q i c) (auxiliary k) ∙ layering.q_auxiliary i k il kl;
    t = λ i j il jl. layering.t i (skip u j) il (moved j jl);
    t_auxiliary = λ i k il kl. ap (λ c. L.t i c) (auxiliary k) ∙ layering.t_auxiliary i k il kl;
  }

  pub unknown-out : IsEmptyColumnOut p L (column_rest true u L) u
  unknown-out = record {
    below = omega (arith, layering.columns, last);
    q_rows = refl;
    t_rows = refl;
    columns = omega (arith, layering.columns, last);
    q_zero = λ i il. ap (λ x. x % p) (layering.q i u il (omega (arith, last))
        ∙ no_constant (O.of_q i) (layering.q_rows.below i il)) ∙ zero-mod p;
    t_none = λ i il. layering.t i u il (omega (arith, last)) ∙ no_symbol (O.of_t i) (layering.t_rows.below i il);
    q = λ i j _ _. refl;
    t = λ i j _ _. refl;
  }

-- ---- ranks
pub layered-rank : (p : ℕ) → IsPrime p → (L : LayeredMatrix) → (r : ℕ) × IsLayeredRank p L r
layered-rank p prime L = let O : Optimal p L = optimal p prime L in (pair_size L O.I O.J, optimal-rank p prime L O)

module _ (p : ℕ) (prime : IsPrime p) (M : MixedMatrix) (A D : ℕ → Bool) (L : LayeredMatrix) (O : Origins) (e : ℕ)
    (layering : IsLayering M A D L O) (el : e < M.rows) where
  abbrev Near : LayeredMatrix → LayeredMatrix → ℕ → Type 0
  Near B C k = (r s : ℕ) → IsLayeredRank p B r → IsLayeredRank p C s → (s ≤ r) × (r ≤ s + k)

  -- the same matrix
  near-same : (B C : LayeredMatrix) (k : ℕ) → AreSameLayers p B C → Near B C k
  near-same B C k same r s R S = let q : r ≡ s = greatest-unique p (C.q_rows + C.t_rows) C.columns (layered_value C) r s (same-layers p B C same r R) S in
      (omega (arith, q), omega (arith, q))

  gap-none : (b : Bool) (v k : ℕ) → b ≡ false → k ≡ gap b v k
  gap-none b v k h = ap (λ c. cond c (skip v k) k) (sym h)

  q-near : Near L (q_rest A e L) 1
  q-near = go (A e) refl
    where
      go : (b : Bool) → A e ≡ b → Near L (q_rest A e L) 1
      go true h = q-rank p prime L (q_rest A e L) (size_on A e) (q-out M A D L O e layering el p h)
      go false h = near-same L (q_rest A e L) 1 (record {
        q_rows = less (A e) L.q_rows h;
        t_rows = refl;
        columns = refl;
        q = λ i j _ _. ap (λ l. L.q l j % p) (gap-none (A e) (size_on A e) i h);
        t = λ i j _ _. refl;
      })
        where
          less : (b : Bool) (x : ℕ) → b ≡ false → x ≡ x - one b
          less b x h = grind arith

  t-near : Near (q_rest A e L) (t_rest D e (q_rest A e L)) 1
  t-near = go (D e) refl
    where
      go : (b : Bool) → D e ≡ b → Near (q_rest A e L) (t_rest D e (q_rest A e L)) 1
      go true h = t-rank p prime (q_rest A e L) (t_rest D e (q_rest A e L)) (size_on D e) (t-out M A D L O e layering el p h)
      go false h = near-same (q_rest A e L) (t_rest D e (q_rest A e L)) 1 (record {
        q_rows = refl;
        t_rows = less (D e) L.t_rows h;
        columns = refl;
        q = λ i j _ _. refl;
        t = λ i j _ _. ap (λ l. L.t l j) (gap-none (D e) (size_on D e) i h);
      })
        where
          less : (b : Bool) (x : ℕ) → b ≡ false → x ≡ x - one b
          less b x h = grind arith

  column-near : Near (t_rest D e (q_rest A e L)) (rest M A D e L) 0
  column-near = go (A e && D e) refl
    where
      go : (b : Bool) → A e && D e ≡ b → Near (t_rest D e (q_rest A e L)) (rest M A D e L) 0
      go true h = λ r s R S. let q : s ≡ r = column-rank p prime (t_rest D e (q_rest A e L)) (rest M A D e L) (auxiliary_place M A D e)
          (column-out M A D L O e layering el p h) r s R S in (omega (arith, q), omega (arith, q))
      go false h = near-same (t_rest D e (q_rest A e L)) (rest M A D e L) 0 (record {
        q_rows = refl;
        t_rows = refl;
        columns = less (A e && D e) L.columns h;
        q = λ i j _ _. ap (λ l. L.q (gap (A e) (size_on A e) i) l % p) (gap-none (A e && D e) (auxiliary_place M A D e) j h);
        t = λ i j _ _. ap (λ l. L.t (gap (D e) (size_on D e) i) l) (gap-none (A e && D e) (auxiliary_place M A D e) j h);
      })
        where
          less : (b : Bool) (x : ℕ) → b ≡ false → x ≡ x - one b
          less b x h = grind arith

  pub rest-near : Near L (rest M A D e L) 2
  rest-near r s R S = go (layered-rank p prime (q_rest A e L)) (layered-rank p prime (t_rest D e (q_rest A e L)))
    where
      go : (x : ℕ) × IsLayeredRank p (q_rest A e L) x → (y : ℕ) × IsLayeredRank p (t_rest D e (q_rest A e L)) y → (s ≤ r) × (r ≤ s + 2)
      go (x, X) (y, Y) = (
        omega (arith, (q-near r x R X).0, (t-near x y X Y).0, (column-near y s Y S).0),
        omega (arith, (q-near r x R X).1, (t-near x y X Y).1, (column-near y s Y S).1),
      )
