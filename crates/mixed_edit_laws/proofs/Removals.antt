-- Layered matrices with a row or an empty column less.
use Rattle.std.proofs.Common.{◌≡◌, ℕ, ◌+◌, ◌-◌, ◌*◌, ◌%◌, ◌<◌, ◌≤◌, ◌≢◌, Bool, false, cond, inl, inr, refl, ap, sym, subst, ◌∙◌, arith}
use Rattle.std.proofs.Math.Nat.{zero-mod}
use Rattle.residue_theory.specs.Residues.{IsPrime}
use Rattle.residue_theory.specs.Sets.{everything, without}
use Rattle.residue_theory.specs.Sums.{sum_on}
use Rattle.residue_theory.proofs.ResidueLaws.{agree-mul, agree-sum, vanishes-sum}
use Rattle.residue_theory.proofs.SetLaws.{lt_cases}
use Rattle.linear_algebra.specs.Columns.{CombinesToZero, IsRank}
use Rattle.linear_algebra.specs.Parts.{skip, without_column}
use Rattle.linear_algebra.specs.Products.{Agree}
use Rattle.linear_algebra_laws.proofs.ColumnRemoval.{column-stays}
use Rattle.linear_algebra_laws.proofs.Entries.{above-low, above-top}
use Rattle.linear_algebra_laws.proofs.Kernels.{kernel_of-agree, rank_of-kernel}
use Rattle.linear_algebra_laws.proofs.Ranks.{rank_exists, rank-unique}
use Rattle.linear_algebra_laws.proofs.RowRemoval.{IsRowRemoved, removed-at_most}
use Rattle.linear_algebra_laws.proofs.SkipLaws.{skip-below, skip-other, skip-unskip, unskip, unskip-below, unskip-skip}
use Rattle.linear_algebra_laws.proofs.Stacked.{above-zero, low-zero, top-zero}
use Rattle.mixed_matrices.specs.LayeredMatrices.{LayeredMatrix, layered_value}
use Rattle.mixed_matrices.specs.Models.{numbers}
use Rattle.mixed_matrices.specs.StructuralRanks.{IsGreatestRank, IsLayeredRank}
use Rattle.mixed_edit_laws.specs.Removed.{IsEmptyColumnOut, IsQRowOut, IsTRowOut}

-- the entries at a row, with coefficients
abbrev row_sum : (ℕ → Bool) → ℕ → (ℕ → ℕ) → (ℕ → ℕ) → ℕ
row_sum Y n c f = sum_on Y n (λ j. c j * f j)

-- rows that agree combine alike
row-agree : (p n : ℕ) (Y : ℕ → Bool) (c f g : ℕ → ℕ) → ((j : ℕ) → j < n → f j % p ≡ g j % p) → row_sum Y n c f % p ≡ row_sum Y n c g % p
row-agree p n Y c f g same = agree-sum p Y n (λ j. c j * f j) (λ j. c j * g j) (λ j jl _. agree-mul p (c j) (f j) (g j) (same j jl))

numbers-as : (p : ℕ) (a b : Bool) (x y : ℕ) → a ≡ b → x ≡ y → cond a x 0 % p ≡ cond b y 0 % p
numbers-as p a b x y e q = ap (λ s. cond s x 0 % p) e ∙ ap (λ z. cond b z 0 % p) q

-- from the rows of one kind and of the other to those of both
stacked-row : (p m t n : ℕ) (a b : ℕ → ℕ → ℕ) (Y : ℕ → Bool) (c : ℕ → ℕ) (e : ℕ) →
    ((i : ℕ) → i < m → i ≢ e → row_sum Y n c (λ j. a i j) % p ≡ 0) →
    ((i : ℕ) → i < t → m + i ≢ e → row_sum Y n c (λ j. b i j) % p ≡ 0) →
    (i : ℕ) → i < m + t → i ≢ e → row_sum Y n c (λ j. Rattle.linear_algebra.specs.Parts.above m a b i j) % p ≡ 0
stacked-row p m t n a b Y c e top low i il ne = elim (lt_cases i m) [
  | inl l ↦ row-agree p n Y c (λ j. Rattle.linear_algebra.specs.Parts.above m a b i j) (λ j. a i j)
      (λ j _. ap (λ s. s % p) (above-top m a b i j l)) ∙ top i l ne
  | inr le ↦ subst (λ k. k ≢ e → row_sum Y n c (λ j. Rattle.linear_algebra.specs.Parts.above m a b k j) % p ≡ 0)
      (let q : m + (i - m) ≡ i = omega arith in q)
      (λ other. row-agree p n Y c (λ j. Rattle.linear_algebra.specs.Parts.above m a b (m + (i - m)) j) (λ j. b (i - m) j)
      (λ j _. ap (λ s. s % p) (above-low m a b (i - m) j)) ∙ low (i - m) (omega arith) other) ne
]

-- where the values of K are those of L without a row, for some values of each and all of the other, R is the same or one less
module _ (p : ℕ) (prime : IsPrime p) (m k n : ℕ) (at to : (ℕ → ℕ → ℕ) → ℕ → ℕ → ℕ) (e : ℕ) (there back : (ℕ → ℕ → ℕ) → ℕ → ℕ → ℕ)
    (out : (w : ℕ → ℕ → ℕ) → IsRowRemoved p m k n (at w) (to (there w)) e)
    (put : (w : ℕ → ℕ → ℕ) → IsRowRemoved p m k n (at (back w)) (to w) e) where
  at_most : (r s : ℕ) → IsGreatestRank p m n at r → IsGreatestRank p k n to s → (s ≤ r) × (r ≤ s + 1)
  at_most r s R S = (
    lower (rank_exists p prime (at (back S.reached.0)) m n everything),
    upper (rank_exists p prime (to (there R.reached.0)) k n everything),
  )
    where
      lower : (u : ℕ) × IsRank p (at (back S.reached.0)) m n everything u → s ≤ r
      lower (u, U) = omega (
        arith,
        R.greatest (back S.reached.0) u U,
        (removed-at_most p prime m k n (at (back S.reached.0)) (to S.reached.0) e (put S.reached.0) everything u s U S.reached.1).0,
      )

      upper : (u : ℕ) × IsRank p (to (there R.reached.0)) k n everything u → r ≤ s + 1
      upper (u, U) = omega (
        arith,
        S.greatest (there R.reached.0) u U,
        (removed-at_most p prime m k n (at R.reached.0) (to (there R.reached.0)) e (out R.reached.0) everything r u R.reached.1 U).1,
      )

-- ---- a Q row
module _ (p : ℕ) (prime : IsPrime p) (L K : LayeredMatrix) (e : ℕ) (out : IsQRowOut p L K e) where
  q-below : (i : ℕ) → i < K.q_rows → skip e i < L.q_rows
  q-below i il = skip-below e i L.q_rows out.below (omega (arith, out.q_rows))

  q-removed : (w : ℕ → ℕ → ℕ) → IsRowRemoved p (L.q_rows + L.t_rows) (K.q_rows + K.t_rows) L.columns (layered_value L w) (layered_value K w) e
  q-removed w = record {
    row_below = omega (arith, out.below);
    rows = λ Y c z. stacked-row p L.q_rows L.t_rows L.columns L.q (numbers L.t w) Y c e
        (λ i il ne. subst (λ l. row_sum Y L.columns c (λ j. L.q l j) % p ≡ 0) (skip-unskip e i ne)
        (row-agree p L.columns Y c (λ j. L.q (skip e (unskip e i)) j) (λ j. K.q (unskip e i) j)
        (λ j jl. sym (out.q (unskip e i) j (q-place i il ne) jl))
        ∙ top-zero p K.q_rows K.t_rows L.columns K.q (numbers K.t w) Y c z (unskip e i) (q-place i il ne)))
        (λ i il _. row-agree p L.columns Y c (λ j. numbers L.t w i j) (λ j. numbers K.t w i j)
        (λ j jl. numbers-as p (L.t i j) (K.t i j) (w i j) (w i j) (sym (out.t i j il jl)) refl)
        ∙ low-zero p K.q_rows K.t_rows L.columns K.q (numbers K.t w) Y c z i (omega (arith, out.t_rows)));
    back = λ Y c z. above-zero p K.q_rows K.t_rows L.columns K.q (numbers K.t w) Y c
        (λ i il. row-agree p L.columns Y c (λ j. K.q i j) (λ j. layered_value L w (skip e i) j)
        (λ j jl. out.q i j il jl ∙ ap (λ s. s % p) (sym (above-top L.q_rows L.q (numbers L.t w) (skip e i) j (q-below i il))))
        ∙ z (skip e i) (omega (arith, q-below i il)) (skip-other e i))
        (λ i il. row-agree p L.columns Y c (λ j. numbers K.t w i j) (λ j. layered_value L w (L.q_rows + i) j)
        (λ j jl. numbers-as p (K.t i j) (L.t i j) (w i j) (w i j) (out.t i j (omega (arith, out.t_rows)) jl) refl
        ∙ ap (λ s. s % p) (sym (above-low L.q_rows L.q (numbers L.t w) i j)))
        ∙ z (L.q_rows + i) (omega (arith, out.t_rows)) (λ q. absurd (omega (arith, out.below, q))));
  }
    where
      q-place : (i : ℕ) → i < L.q_rows → i ≢ e → unskip e i < K.q_rows
      q-place i il ne = omega (arith, out.q_rows, unskip-below e i L.q_rows out.below il ne)

  pub q-rank : (r s : ℕ) → IsLayeredRank p L r → IsLayeredRank p K s → (s ≤ r) × (r ≤ s + 1)
  q-rank r s R S = at_most p prime (L.q_rows + L.t_rows) (K.q_rows + K.t_rows) L.columns (layered_value L) (layered_value K) e (λ w. w) (λ w. w)
      q-removed q-removed r s R (subst (λ n. IsGreatestRank p (K.q_rows + K.t_rows) n (layered_value K) s) out.columns S)

-- ---- a T row
module _ (p : ℕ) (prime : IsPrime p) (L K : LayeredMatrix) (e : ℕ) (out : IsTRowOut p L K e) where
  t-removed : (w v : ℕ → ℕ → ℕ) → ((i j : ℕ) → v i j ≡ w (skip e i) j) →
      IsRowRemoved p (L.q_rows + L.t_rows) (K.q_rows + K.t_rows) L.columns (layered_value L w) (layered_value K v) (L.q_rows + e)
  t-removed w v same = record {
    row_below = omega (arith, out.below);
    rows = λ Y c z. stacked-row p L.q_rows L.t_rows L.columns L.q (numbers L.t w) Y c (L.q_rows + e)
        (λ i il _. row-agree p L.columns Y c (λ j. L.q i j) (λ j. K.q i j) (λ j jl. sym (out.q i j il jl))
        ∙ top-zero p K.q_rows K.t_rows L.columns K.q (numbers K.t v) Y c z i (omega (arith, out.q_rows)))
        (λ i il ne. low-row Y c z i il (λ q. ne (ap (λ s. L.q_rows + s) q)));
    back = λ Y c z. above-zero p K.q_rows K.t_rows L.columns K.q (numbers K.t v) Y c
        (λ i il. row-agree p L.columns Y c (λ j. K.q i j) (λ j. layered_value L w i j)
        (λ j jl. out.q i j (omega (arith, out.q_rows)) jl
        ∙ ap (λ s. s % p) (sym (above-top L.q_rows L.q (numbers L.t w) i j (omega (arith, out.q_rows)))))
        ∙ z i (omega (arith, out.q_rows)) (λ q. absurd (omega (arith, out.q_rows, q))))
        (λ i il. row-agree p L.columns Y c (λ j. numbers K.t v i j) (λ j. layered_value L w (L.q_rows + skip e i) j)
        (λ j jl. numbers-as p (K.t i j) (L.t (skip e i) j) (v i j) (w (skip e i) j) (out.t i j il jl) (same i j)
        ∙ ap (λ s. s % p) (sym (above-low L.q_rows L.q (numbers L.t w) (skip e i) j)))
        ∙ z (L.q_rows + skip e i) (omega (arith, t-below i il)) (λ q. skip-other e i (omega (arith, q))));
  }
    where
      t-below : (i : ℕ) → i < K.t_rows → skip e i < L.t_rows
      t-below i il = skip-below e i L.t_rows out.below (omega (arith, out.t_rows))

      t-place : (i : ℕ) → i < L.t_rows → i ≢ e → unskip e i < K.t_rows
      t-place i il ne = omega (arith, out.t_rows, unskip-below e i L.t_rows out.below il ne)

      low-row : (Y : ℕ → Bool) (c : ℕ → ℕ) → CombinesToZero p (layered_value K v) (K.q_rows + K.t_rows) L.columns Y c →
          (i : ℕ) → i < L.t_rows → i ≢ e → row_sum Y L.columns c (λ j. numbers L.t w i j) % p ≡ 0
      low-row Y c z i il ne = subst (λ l. row_sum Y L.columns c (λ j. numbers L.t w l j) % p ≡ 0) (skip-unskip e i ne)
          (row-agree p L.columns Y c (λ j. numbers L.t w (skip e (unskip e i)) j) (λ j. numbers K.t v (unskip e i) j)
          (λ j jl. numbers-as p (L.t (skip e (unskip e i)) j) (K.t (unskip e i) j) (w (skip e (unskip e i)) j) (v (unskip e i) j)
          (sym (out.t (unskip e i) j (t-place i il ne) jl)) (sym (same (unskip e i) j)))
          ∙ low-zero p K.q_rows K.t_rows L.columns K.q (numbers K.t v) Y c z (unskip e i) (t-place i il ne))

  pub t-rank : (r s : ℕ) → IsLayeredRank p L r → IsLayeredRank p K s → (s ≤ r) × (r ≤ s + 1)
  t-rank r s R S = at_most p prime (L.q_rows + L.t_rows) (K.q_rows + K.t_rows) L.columns (layered_value L) (layered_value K) (L.q_rows + e)
      (λ w i j. w (skip e i) j) (λ w i j. w (unskip e i) j)
      (λ w. t-removed w (λ i j. w (skip e i) j) (λ i j. refl))
      (λ w. t-removed (λ i j. w (unskip e i) j) w (λ i j. ap (λ l. w l j) (sym (unskip-skip e i))))
      r s R (subst (λ n. IsGreatestRank p (K.q_rows + K.t_rows) n (layered_value K) s) out.columns S)

-- ---- an empty column
module _ (p : ℕ) (prime : IsPrime p) (L K : LayeredMatrix) (v : ℕ) (out : IsEmptyColumnOut p L K v) where
  abbrev height : ℕ
  height = L.q_rows + L.t_rows

  empty : (w : ℕ → ℕ → ℕ) (i : ℕ) → i < height → layered_value L w i v % p ≡ 0
  empty w i il = elim (lt_cases i L.q_rows) [
    | inl l ↦ ap (λ s. s % p) (above-top L.q_rows L.q (numbers L.t w) i v l) ∙ out.q_zero i l
    | inr le ↦ subst (λ k. layered_value L w k v % p ≡ 0) (let q : L.q_rows + (i - L.q_rows) ≡ i = omega arith in q)
        (ap (λ s. s % p) (above-low L.q_rows L.q (numbers L.t w) (i - L.q_rows) v)
        ∙ numbers-as p (L.t (i - L.q_rows) v) false (w (i - L.q_rows) v) (w (i - L.q_rows) v) (out.t_none (i - L.q_rows) (omega arith)) refl ∙ zero-mod p)
  ]

  column-agree : (w x : ℕ → ℕ → ℕ) → ((i j : ℕ) → x i j ≡ w i (skip v j)) →
      Agree p height K.columns (without_column v (layered_value L w)) (layered_value K x)
  column-agree w x same i j il jl = elim (lt_cases i L.q_rows) [
    | inl l ↦ ap (λ s. s % p) (above-top L.q_rows L.q (numbers L.t w) i (skip v j) l) ∙ sym (out.q i j l jl)
        ∙ ap (λ s. s % p) (sym (above-top K.q_rows K.q (numbers K.t x) i j (omega (arith, out.q_rows))))
    | inr le ↦ subst (λ k. layered_value L w k (skip v j) % p ≡ layered_value K x k j % p)
        (let q : L.q_rows + (i - L.q_rows) ≡ i = omega arith in q) (low (i - L.q_rows) (omega arith))
  ]
    where
      low : (k : ℕ) → k < L.t_rows → layered_value L w (L.q_rows + k) (skip v j) % p ≡ layered_value K x (L.q_rows + k) j % p
      low k kl = ap (λ s. s % p) (above-low L.q_rows L.q (numbers L.t w) k (skip v j))
          ∙ numbers-as p (L.t k (skip v j)) (K.t k j) (w k (skip v j)) (x k j) (sym (out.t k j kl jl)) (sym (same k j))
          ∙ ap (λ s. s % p) (sym (above-low K.q_rows K.q (numbers K.t x) k j))
          ∙ ap (λ m. layered_value K x (m + k) j % p) out.q_rows

  column-moved : (w x : ℕ → ℕ → ℕ) → ((i j : ℕ) → x i j ≡ w i (skip v j)) → (u : ℕ) →
      IsRank p (layered_value L w) height L.columns everything u → IsRank p (layered_value K x) (K.q_rows + K.t_rows) K.columns everything u
  column-moved w x same u U = go (rank_exists p prime (without_column v (layered_value L w)) height (L.columns - 1) everything)
    where
      zero-column : (c : ℕ → ℕ) × ((i : ℕ) → i < height →
          sum_on (without everything v) L.columns (λ j. c j * layered_value L w i j) % p ≡ layered_value L w i v % p)
      zero-column = (
        (λ _. 0),
        λ i il. vanishes-sum p (without everything v) L.columns (λ j. 0 * layered_value L w i j)
            (λ j _ _. ap (λ s. s % p) (let q : 0 * layered_value L w i j ≡ 0 = omega arith in q) ∙ zero-mod p) ∙ sym (empty w i il),
      )

      go : (t : ℕ) × IsRank p (without_column v (layered_value L w)) height (L.columns - 1) everything t →
          IsRank p (layered_value K x) (K.q_rows + K.t_rows) K.columns everything u
      go (t, T) = subst (λ m. IsRank p (layered_value K x) m K.columns everything u)
          (let q : height ≡ K.q_rows + K.t_rows = omega (arith, out.q_rows, out.t_rows) in q)
          (rank_of-kernel p height K.columns (without_column v (layered_value L w)) (layered_value K x) everything u
          (kernel_of-agree p height K.columns (without_column v (layered_value L w)) (layered_value K x) (column-agree w x same))
          (subst (λ n. IsRank p (without_column v (layered_value L w)) height n everything u)
          (let q : L.columns - 1 ≡ K.columns = omega (arith, out.columns) in q)
          (subst (λ s. IsRank p (without_column v (layered_value L w)) height (L.columns - 1) everything s)
          (column-stays p height L.columns (layered_value L w) v out.below prime everything refl u t U T zero-column) T)))

  pub column-rank : (r s : ℕ) → IsLayeredRank p L r → IsLayeredRank p K s → s ≡ r
  column-rank r s R S = go (rank_exists p prime (layered_value L spread) height L.columns everything)
    where
      spread : ℕ → ℕ → ℕ
      spread i j = S.reached.0 i (unskip v j)

      go : (u : ℕ) × IsRank p (layered_value L spread) height L.columns everything u → s ≡ r
      go (u, U) = omega (
        arith,
        R.greatest spread u U,
        S.greatest (λ i j. R.reached.0 i (skip v j)) r (column-moved R.reached.0 (λ i j. R.reached.0 i (skip v j)) (λ i j. refl) r R.reached.1),
        rank-unique p (layered_value K S.reached.0) (K.q_rows + K.t_rows) K.columns everything u s
            (column-moved spread S.reached.0 (λ i j. ap (λ l. S.reached.0 i l) (sym (unskip-skip v j))) u U) S.reached.1,
      )
