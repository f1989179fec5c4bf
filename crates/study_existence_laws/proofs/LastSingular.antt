-- The last block of a right form that is singular with some numbers, where there is one; else the model is regular with them.
use Rattle.std.proofs.Common.{◌≡◌, ℕ, zero, suc, ◌+◌, ◌-◌, ◌<◌, ◌≤◌, ◌⊎◌, List, length, inl, inr, sym, subst, arith}
use Rattle.residue_theory.specs.Residues.{IsPrime}
use Rattle.residue_theory.specs.Sets.{everything}
use Rattle.residue_theory.proofs.SumLaws.{nat_cases, size_on-within}
use Rattle.linear_algebra.specs.Columns.{IsRank}
use Rattle.linear_algebra.specs.Parts.{diagonal, in_part}
use Rattle.linear_algebra_laws.proofs.PartLaws.{part-columns}
use Rattle.linear_algebra_laws.proofs.Ranks.{rank_exists}
use Rattle.mixed_matrices.specs.Forms.{part_columns}
use Rattle.mixed_matrices.specs.LayeredMatrices.{LayeredMatrix}
use Rattle.mixed_matrices.specs.Layerings.{IsLayeredMatrixOf, Origins, gives_q, has_symbol}
use Rattle.mixed_matrices.specs.Models.{MixedMatrix, value}
use Rattle.mixed_model.specs.Layers.{Layers, layered_matrix_of}
use Rattle.mixed_layering.specs.Layers.{origins_of}
use Rattle.mixed_layering_laws.specs.LayeredValues.{AreValuesFor}
use Rattle.block_laws.specs.NumbersInBlocks.{IsBlockRank, IsSquareForm, block_matrix, row_part}
use Rattle.block_laws.proofs.BlockRanks.{regular_of_blocks, singular_of_block}
use Rattle.cert_text.specs.Contents.{Contents}
use Rattle.cert_text.specs.Ranges.{IsCcf}
use Rattle.cert_text.specs.Readings.{matrix_of, parts_of}
use Rattle.cert_text.specs.Right.{IsRightCcf}
use Rattle.block_solver.specs.Solving.{HasFullRank, IsLastSingular, IsRegularBlockOf, IsSingularBlockOf, numbers_in_blocks}
use Rattle.block_solver.proofs.FormParts.{square-form}
use Rattle.block_solver.proofs.SymbolNumbers.{values-stand}

-- ---- of n numbers, each of which is of P or of Q
-- k, counted from 1, is of Q, and all after it are of P
pub record HasLast (n : ℕ) (P Q : ℕ → Type 0) : Type 0 where
  pub k : ℕ
  pub some : 1 ≤ k
  pub within : k ≤ n
  pub is : Q (k - 1)
  pub later : (l : ℕ) → k ≤ l → l < n → P l

-- where all from m on are of P
last-below : (n : ℕ) (P Q : ℕ → Type 0) → ((k : ℕ) → k < n → P k ⊎ Q k) → (m : ℕ) → m ≤ n → ((l : ℕ) → m ≤ l → l < n → P l) →
    ((l : ℕ) → l < n → P l) ⊎ HasLast n P Q
last-below n P Q decide zero le later = inl (λ l ll. later l (omega arith) ll)
last-below n P Q decide (suc m) le later = go (decide m (omega (arith, le))) (last-below n P Q decide m (omega (arith, le)))
  where
    go : P m ⊎ Q m → (((l : ℕ) → m ≤ l → l < n → P l) → ((l : ℕ) → l < n → P l) ⊎ HasLast n P Q) → ((l : ℕ) → l < n → P l) ⊎ HasLast n P Q
    go (inl is) before = before (λ l ml ll. elim (nat_cases l m) [
      | inl same ↦ subst P (sym same) is
      | inr other ↦ later l (omega (arith, ml, other)) ll
    ])
    go (inr is) before = inr (record {
      k = suc m;
      some = omega arith;
      within = le;
      is = subst Q (let e : m ≡ suc m - 1 = omega arith in e) is;
      later = later;
    })

-- all are of P, or there is a last one of Q
pub all_or_last : (n : ℕ) (P Q : ℕ → Type 0) → ((k : ℕ) → k < n → P k ⊎ Q k) → ((l : ℕ) → l < n → P l) ⊎ HasLast n P Q
all_or_last n P Q decide = last-below n P Q decide n (omega arith) (λ l nl ll. absurd (omega (arith, nl, ll)))

-- ---- the blocks of a right form of a model that has as many equations as unknowns, as many as its rank
module _ (p : ℕ) (prime : IsPrime p) (odd : 2 < p) (M : MixedMatrix) (layers : Layers) (split : List ℕ) (c : Contents) (is : IsCcf p c)
    (lay : IsLayeredMatrixOf M (layered_matrix_of layers) (origins_of layers split))
    (R : IsRightCcf p M (layered_matrix_of layers) (origins_of layers split) c) (full : HasFullRank p M) (ranks : M.rows ≡ c.rank)
    (v : ℕ → ℕ → ℕ) where
  abbrev L : LayeredMatrix
  L = layered_matrix_of layers

  abbrev O : Origins
  O = origins_of layers split

  abbrev w : ℕ → ℕ → ℕ
  w = numbers_in_blocks p M layers v

  stand : AreValuesFor p M L O v w
  stand = values-stand p prime M L O v

  square : IsSquareForm p L (matrix_of c.s) (parts_of c)
  square = square-form p prime odd M L O lay c is R full.square ranks

  -- a block has the rank of its size, or a smaller one
  pub regular_or_singular : (k : ℕ) → k < length c.blocks → IsRegularBlockOf p M layers c v k ⊎ IsSingularBlockOf p M layers c v k
  regular_or_singular k kl = go (rank_exists p prime (diagonal (row_part L (parts_of c)) (parts_of c).column (block_matrix (matrix_of c.s) L w) (k + 1))
      (L.q_rows + L.t_rows) L.columns everything)
    where
      at_most : (r : ℕ) → IsBlockRank p (matrix_of c.s) L (parts_of c) w k r → r ≤ part_columns L (parts_of c) (k + 1)
      at_most r rank = omega (
        arith,
        rank.reached.3,
        size_on-within (in_part (parts_of c).column (k + 1)) rank.reached.0 L.columns
            (part-columns p prime (L.q_rows + L.t_rows) L.columns (block_matrix (matrix_of c.s) L w)
            (in_part (row_part L (parts_of c)) (k + 1)) (in_part (parts_of c).column (k + 1)) rank.reached.0 rank.reached.2),
      )

      go : (r : ℕ) × IsBlockRank p (matrix_of c.s) L (parts_of c) w k r → IsRegularBlockOf p M layers c v k ⊎ IsSingularBlockOf p M layers c v k
      go (r, rank) = elim (nat_cases r (part_columns L (parts_of c) (k + 1))) [
        | inl same ↦ inl (subst (IsBlockRank p (matrix_of c.s) L (parts_of c) w k) same rank)
        | inr other ↦ inr (r, rank, omega (arith, at_most r rank, other))
      ]

  singular-last : HasLast (length c.blocks) (IsRegularBlockOf p M layers c v) (IsSingularBlockOf p M layers c v) →
      (k : ℕ) × IsLastSingular p M layers c v k
  singular-last last = (
    last.k,
    record {
      full = full;
      some = last.some;
      within = last.within;
      block = last.is;
      later = last.later;
      model = λ r rank. singular_of_block p prime L (matrix_of c.s) (parts_of c) square w
          M (gives_q M) (has_symbol M) O lay v stand (last.k - 1) last.is.0 r (omega (arith, last.some, last.within)) last.is.1 last.is.2 rank;
    },
  )

  -- the model is regular with these numbers, or a block is the last that is singular
  pub regular_or_last : IsRank p (value M v) M.rows M.columns everything M.columns ⊎ ((k : ℕ) × IsLastSingular p M layers c v k)
  regular_or_last = elim (all_or_last (length c.blocks) (IsRegularBlockOf p M layers c v) (IsSingularBlockOf p M layers c v) regular_or_singular) [
    | inl each ↦ inl (regular_of_blocks p prime L (matrix_of c.s) (parts_of c) square w M (gives_q M) (has_symbol M) O lay v stand each)
    | inr last ↦ inr (singular-last last)
  ]
