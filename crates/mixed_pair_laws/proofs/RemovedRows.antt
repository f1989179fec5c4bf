-- A model without an equation or an unknown has the structural rank of the model where it is emptied.
use Rattle.std.proofs.Common.{◌≡◌, ◌+◌, ◌-◌, ◌%◌, ◌<◌, ◌&&◌, ℕ, Bool, true, false, cond, refl, ap, sym, subst}
use Rattle.residue_theory.specs.Residues.{IsPrime}
use Rattle.residue_theory.specs.Sets.{everything, without}
use Rattle.linear_algebra.specs.Columns.{CombinesToZero, IsRank}
use Rattle.linear_algebra.specs.Parts.{part, skip, without_column, without_row}
use Rattle.linear_algebra_laws.proofs.ColumnRemoval.{removed_column-rank}
use Rattle.linear_algebra_laws.proofs.Kernels.{kernel_of-agree, rank_of-kernel}
use Rattle.linear_algebra_laws.proofs.PartLaws.{part_columns-rank}
use Rattle.linear_algebra_laws.proofs.Ranks.{rank-unique, rank_exists}
use Rattle.linear_algebra_laws.proofs.RowRemoval.{IsRowRemoved, part-removed, without_row-removed}
use Rattle.linear_algebra_laws.proofs.SkipLaws.{unskip, unskip-skip}
use Rattle.mixed_matrices.specs.Models.{MixedMatrix, value}
use Rattle.mixed_matrices.specs.Removals.{mixed_part, without_equation, without_unknown}
use Rattle.mixed_matrices.specs.StructuralRanks.{IsGreatestRank, IsStructuralRank}

-- ---- one matrix
-- matrices with the same columns, whose equations say the same, have the same ranks
rank_of-equations : (p m k n : ℕ) (a b : ℕ → ℕ → ℕ) → ((Y : ℕ → Bool) (c : ℕ → ℕ) → CombinesToZero p a m n Y c → CombinesToZero p b k n Y c) →
    ((Y : ℕ → Bool) (c : ℕ → ℕ) → CombinesToZero p b k n Y c → CombinesToZero p a m n Y c) → (X : ℕ → Bool) (r : ℕ) → IsRank p a m n X r → IsRank p b k n X r
rank_of-equations p m k n a b there back X r R = record {
  reached = (R.reached.0, R.reached.1, (λ c z. R.reached.2 c (back R.reached.0 c z)), R.reached.3);
  greatest = λ Z within ind. R.greatest Z within (λ c z. ind c (there Z c z));
}

module _ (p m n : ℕ) (a : ℕ → ℕ → ℕ) (e : ℕ) (el : e < m) where
  emptied : IsRowRemoved p m m n a (part (without everything e) everything a) e
  emptied = part-removed p m n a e el

  left_out : IsRowRemoved p m (m - 1) n a (without_row e a) e
  left_out = without_row-removed p m n a e el

  to_left_out : (Y : ℕ → Bool) (c : ℕ → ℕ) → CombinesToZero p (part (without everything e) everything a) m n Y c →
      CombinesToZero p (without_row e a) (m - 1) n Y c
  to_left_out Y c z = left_out.back Y c (λ i il ne. emptied.rows Y c z i il ne)

  to_emptied : (Y : ℕ → Bool) (c : ℕ → ℕ) → CombinesToZero p (without_row e a) (m - 1) n Y c →
      CombinesToZero p (part (without everything e) everything a) m n Y c
  to_emptied Y c z = emptied.back Y c (λ i il ne. left_out.rows Y c z i il ne)

  emptied_row-rank : (r : ℕ) → IsRank p (part (without everything e) everything a) m n everything r → IsRank p (without_row e a) (m - 1) n everything r
  emptied_row-rank = rank_of-equations p m (m - 1) n (part (without everything e) everything a) (without_row e a) to_left_out to_emptied everything

  left_row-rank : (r : ℕ) → IsRank p (without_row e a) (m - 1) n everything r → IsRank p (part (without everything e) everything a) m n everything r
  left_row-rank = rank_of-equations p (m - 1) m n (without_row e a) (part (without everything e) everything a) to_emptied to_left_out everything

module _ (p : ℕ) (prime : IsPrime p) (m n : ℕ) (a : ℕ → ℕ → ℕ) (v : ℕ) (vl : v < n) where
  -- both have the rank of the other columns
  other_columns : (s : ℕ) × IsRank p (part everything (without everything v) a) m n everything s × IsRank p (without_column v a) m (n - 1) everything s
  other_columns = go (rank_exists p prime a m n (without everything v))
    where
      go : (s : ℕ) × IsRank p a m n (without everything v) s → (s : ℕ) × IsRank p (part everything (without everything v) a) m n everything s × IsRank p
          (without_column v a) m (n - 1) everything s
      go (s, R) = (s, part_columns-rank p prime m n a (without everything v) everything s R, removed_column-rank p m n a v vl everything s R)

  emptied_column-rank : (r : ℕ) → IsRank p (part everything (without everything v) a) m n everything r → IsRank p (without_column v a) m (n - 1) everything r
  emptied_column-rank r R = subst (λ k. IsRank p (without_column v a) m (n - 1) everything k)
      (rank-unique p (part everything (without everything v) a) m n everything other_columns.0 r other_columns.1 R) other_columns.2

  left_column-rank : (r : ℕ) → IsRank p (without_column v a) m (n - 1) everything r → IsRank p (part everything (without everything v) a) m n everything r
  left_column-rank r R = subst (λ k. IsRank p (part everything (without everything v) a) m n everything k)
      (rank-unique p (without_column v a) m (n - 1) everything other_columns.0 r other_columns.2 R) other_columns.1

-- ---- a model
-- families with the same ranks have the same greatest rank
pub greatest-moved : (p m n k l : ℕ) (at to : (ℕ → ℕ → ℕ) → ℕ → ℕ → ℕ) →
    ((w : ℕ → ℕ → ℕ) (r : ℕ) → IsRank p (at w) m n everything r → (v : ℕ → ℕ → ℕ) × IsRank p (to v) k l everything r) →
    ((v : ℕ → ℕ → ℕ) (r : ℕ) → IsRank p (to v) k l everything r → (w : ℕ → ℕ → ℕ) × IsRank p (at w) m n everything r) →
    (r : ℕ) → IsGreatestRank p m n at r → IsGreatestRank p k l to r
greatest-moved p m n k l at to there back r G = record {
  reached = there G.reached.0 r G.reached.1;
  greatest = λ v s S. let w : (w : ℕ → ℕ → ℕ) × IsRank p (at w) m n everything s = back v s S in G.greatest w.0 s w.1;
}

-- the values of an emptied model are those of the model, emptied
mixed_part-value : (M : MixedMatrix) (R X : ℕ → Bool) (v : ℕ → ℕ → ℕ) (i j : ℕ) → value (mixed_part R X M) v i j ≡ part R X (value M v) i j
mixed_part-value M R X v i j = at (R i && X j) (M.constant i j) (M.symbol i j) (v i j)
  where
    at : (b : Bool) (x : ℕ) (s : Bool) (y : ℕ) → cond b x 0 + cond (b && s) y 0 ≡ cond b (x + cond s y 0) 0
    at true x s y = refl
    at false x s y = refl

module _ (p : ℕ) (prime : IsPrime p) (M : MixedMatrix) where
  -- values that agree have the same ranks
  same-rank : (m n : ℕ) (a b : ℕ → ℕ → ℕ) → ((i j : ℕ) → i < m → j < n → a i j ≡ b i j) → (r : ℕ) → IsRank p a m n everything r → IsRank p b m n everything r
  same-rank m n a b same r R = rank_of-kernel p m n a b everything r (kernel_of-agree p m n a b (λ i j il jl. ap (λ x. x % p) (same i j il jl))) R

  -- the values of the model without equation e, as values of the model
  module _ (e : ℕ) (el : e < M.rows) where
    abbrev spread_rows : (ℕ → ℕ → ℕ) → ℕ → ℕ → ℕ
    spread_rows v i j = v (unskip e i) j

    row_there : (w : ℕ → ℕ → ℕ) (r : ℕ) → IsRank p (value (mixed_part (without everything e) everything M) w) M.rows M.columns everything r →
        (v : ℕ → ℕ → ℕ) × IsRank p (value (without_equation e M) v) (M.rows - 1) M.columns everything r
    row_there w r R = (
      (λ k j. w (skip e k) j),
      emptied_row-rank p M.rows M.columns (value M w) e el r
          (same-rank M.rows M.columns (value (mixed_part (without everything e) everything M) w) (part (without everything e) everything (value M w))
          (λ i j _ _. mixed_part-value M (without everything e) everything w i j) r R),
    )

    row_back : (v : ℕ → ℕ → ℕ) (r : ℕ) → IsRank p (value (without_equation e M) v) (M.rows - 1) M.columns everything r →
        (w : ℕ → ℕ → ℕ) × IsRank p (value (mixed_part (without everything e) everything M) w) M.rows M.columns everything r
    row_back v r R = (
      spread_rows v,
      same-rank M.rows M.columns (part (without everything e) everything (value M (spread_rows v)))
          (value (mixed_part (without everything e) everything M) (spread_rows v))
          (λ i j _ _. sym (mixed_part-value M (without everything e) everything (spread_rows v) i j)) r
          (left_row-rank p M.rows M.columns (value M (spread_rows v)) e el r
          (same-rank (M.rows - 1) M.columns (value (without_equation e M) v) (without_row e (value M (spread_rows v))) spread r R)),
    )
      where
        spread : (k j : ℕ) → k < M.rows - 1 → j < M.columns → value (without_equation e M) v k j ≡ without_row e (value M (spread_rows v)) k j
        spread k j _ _ = ap (λ l. M.constant (skip e k) j + cond (M.symbol (skip e k) j) (v l j) 0) (sym (unskip-skip e k))

    pub emptied_equation : (r : ℕ) → IsStructuralRank p (mixed_part (without everything e) everything M) r → IsStructuralRank p (without_equation e M) r
    emptied_equation = greatest-moved p M.rows M.columns (M.rows - 1) M.columns
        (value (mixed_part (without everything e) everything M)) (value (without_equation e M)) row_there row_back

    pub left_equation : (r : ℕ) → IsStructuralRank p (without_equation e M) r → IsStructuralRank p (mixed_part (without everything e) everything M) r
    left_equation = greatest-moved p (M.rows - 1) M.columns M.rows M.columns (value (without_equation e M))
        (value (mixed_part (without everything e) everything M)) row_back row_there

  -- and those of the model without unknown u
  module _ (u : ℕ) (ul : u < M.columns) where
    abbrev spread_columns : (ℕ → ℕ → ℕ) → ℕ → ℕ → ℕ
    spread_columns v i j = v i (unskip u j)

    column_there : (w : ℕ → ℕ → ℕ) (r : ℕ) → IsRank p (value (mixed_part everything (without everything u) M) w) M.rows M.columns everything r →
        (v : ℕ → ℕ → ℕ) × IsRank p (value (without_unknown u M) v) M.rows (M.columns - 1) everything r
    column_there w r R = (
      (λ i k. w i (skip u k)),
      emptied_column-rank p prime M.rows M.columns (value M w) u ul r
          (same-rank M.rows M.columns (value (mixed_part everything (without everything u) M) w) (part everything (without everything u) (value M w))
          (λ i j _ _. mixed_part-value M everything (without everything u) w i j) r R),
    )

    column_back : (v : ℕ → ℕ → ℕ) (r : ℕ) → IsRank p (value (without_unknown u M) v) M.rows (M.columns - 1) everything r →
        (w : ℕ → ℕ → ℕ) × IsRank p (value (mixed_part everything (without everything u) M) w) M.rows M.columns everything r
    column_back v r R = (
      spread_columns v,
      same-rank M.rows M.columns (part everything (without everything u) (value M (spread_columns v)))
          (value (mixed_part everything (without everything u) M) (spread_columns v))
          (λ i j _ _. sym (mixed_part-value M everything (without everything u) (spread_columns v) i j)) r
          (left_column-rank p prime M.rows M.columns (value M (spread_columns v)) u ul r
          (same-rank M.rows (M.columns - 1) (value (without_unknown u M) v) (without_column u (value M (spread_columns v))) spread r R)),
    )
      where
        spread : (i k : ℕ) → i < M.rows → k < M.columns - 1 → value (without_unknown u M) v i k ≡ without_column u (value M (spread_columns v)) i k
        spread i k _ _ = ap (λ l. M.constant i (skip u k) + cond (M.symbol i (skip u k)) (v i l) 0) (sym (unskip-skip u k))

    pub emptied_unknown : (r : ℕ) → IsStructuralRank p (mixed_part everything (without everything u) M) r → IsStructuralRank p (without_unknown u M) r
    emptied_unknown = greatest-moved p M.rows M.columns M.rows (M.columns - 1) (value (mixed_part everything (without everything u) M))
        (value (without_unknown u M)) column_there column_back

    pub left_unknown : (r : ℕ) → IsStructuralRank p (without_unknown u M) r → IsStructuralRank p (mixed_part everything (without everything u) M) r
    left_unknown = greatest-moved p M.rows (M.columns - 1) M.rows M.columns (value (without_unknown u M))
        (value (mixed_part everything (without everything u) M)) column_back column_there
