-- What the blocks of a right form tell of the model: its solution, or that it is singular.
use Rattle.std.proofs.Common.{◌≡◌, ℕ, ◌+◌, ◌-◌, ◌*◌, ◌%◌, ◌<◌, ◌≤◌, ◌⊎◌, List, [], length, map}
use Rattle.std.proofs.Common.{slice_index, slice_index_or, inl, inr, refl, ap, sym, subst, ◌∙◌, arith}
use Rattle.std.proofs.lemmas.List.{length-map}
use Rattle.residue_theory.specs.Residues.{IsPrime}
use Rattle.residue_theory.specs.Sets.{everything}
use Rattle.residue_theory.proofs.CountLaws.{size-everything}
use Rattle.residue_theory.proofs.SetLaws.{differ}
use Rattle.residue_theory.proofs.SumLaws.{nat_cases, size_on-within, sum_on-ext}
use Rattle.linear_algebra.specs.Parts.{diagonal, in_part}
use Rattle.linear_algebra_laws.proofs.PartLaws.{part-columns}
use Rattle.linear_algebra_laws.proofs.RankLaws.{rank-rows, rank-size}
use Rattle.linear_algebra_laws.proofs.Ranks.{rank_exists}
use Rattle.mixed_matrices.specs.Forms.{part_columns}
use Rattle.mixed_matrices.specs.LayeredMatrices.{LayeredMatrix}
use Rattle.mixed_matrices.specs.Layerings.{IsLayeredMatrixOf, Origins, gives_q, has_symbol}
use Rattle.mixed_matrices.specs.Models.{MixedMatrix, value}
use Rattle.mixed_matrices.specs.StructuralRanks.{IsStructuralRank}
use Rattle.mixed_model.specs.Layers.{Layers, layered_matrix_of}
use Rattle.mixed_layering.specs.Layers.{origins_of}
use Rattle.mixed_layering_laws.specs.LayeredValues.{AreValuesFor}
use Rattle.block_laws.specs.NumbersInBlocks.{IsBlockRank, IsRegularBlock, block_matrix, row_part}
use Rattle.block_laws.specs.Systems.{IsSystemSolution}
use Rattle.block_laws.proofs.BlockRanks.{regular_of_blocks, singular_of_block}
use Rattle.block_laws.proofs.SolvedBlocks.{blocks-solve}
use Rattle.cert_text.specs.Contents.{Contents}
use Rattle.cert_text.specs.Ranges.{IsCcf}
use Rattle.cert_text.specs.Readings.{matrix_of, parts_of}
use Rattle.cert_text.specs.Right.{IsRightCcf}
use Rattle.cert_text.specs.declared.part.CcfBlock.{CcfBlock}
use Rattle.block_solver.specs.Blocks.{BlockSystem, IsOutcomeOf, IsRegularPart, PartHolds}
use Rattle.block_solver.specs.Outcomes.{AreUnknownsOf, IsOutcomeFor}
use Rattle.block_solver.specs.Solving.{HasFullRank, IsLastSingular, IsModelSolution, numbers_in_blocks}
use Rattle.block_solver.specs.declared.answer.Outcome.{Outcome}
use Rattle.block_solver.specs.declared.answer.Outcome.TheVariants.{Dependent, Solved}
use Rattle.block_solver.proofs.FormParts.{IsSystemOf, block-regular, block-solved, part-regular, square-form}

-- ---- the structural rank is at most the number of rows and of columns
pub rank-at_most : (p : ℕ) → IsPrime p → (M : MixedMatrix) (r : ℕ) → IsStructuralRank p M r → (r ≤ M.rows) × (r ≤ M.columns)
rank-at_most p prime M r rank = (
  omega (
    arith,
    size-everything M.rows,
    rank-rows p prime (value M rank.reached.0) M.rows M.columns everything everything r (λ i j _ _ out _. absurd (differ out refl)) rank.reached.1,
  ),
  omega (arith, size-everything M.columns, rank-size p (value M rank.reached.0) M.rows M.columns everything r rank.reached.1),
)

pub one-rank : (p : ℕ) (M : MixedMatrix) (r s : ℕ) → IsStructuralRank p M r → IsStructuralRank p M s → r ≡ s
one-rank p M r s one two = omega (arith, one.greatest two.reached.0 s two.reached.1, two.greatest one.reached.0 r one.reached.1)

-- where the printed rank is too small, M is open
pub open-told : (p : ℕ) (M : MixedMatrix) (c : ℕ) → IsStructuralRank p M c → (c < M.rows) ⊎ (c < M.columns) → (r : ℕ) → IsStructuralRank p M r →
    (r < M.rows) ⊎ (r < M.columns)
open-told p M c rank small r other = subst (λ k. (k < M.rows) ⊎ (k < M.columns)) (one-rank p M c r rank other) small

-- else it has as many rows as columns, as many as its rank
pub full-told : (p : ℕ) → IsPrime p → (M : MixedMatrix) (c : ℕ) → IsStructuralRank p M c → M.rows ≤ c → M.columns ≤ c →
    (M.rows ≡ M.columns) × (M.rows ≡ c)
full-told p prime M c rank rows columns =
    let at_most = rank-at_most p prime M c rank in
    (omega (arith, at_most.0, at_most.1, rows, columns), omega (arith, at_most.0, rows))

module _ (p : ℕ) (prime : IsPrime p) (odd : 2 < p) (M : MixedMatrix) (layers : Layers) (split : List ℕ) (c : Contents) (is : IsCcf p c)
    (lay : IsLayeredMatrixOf M (layered_matrix_of layers) (origins_of layers split))
    (R : IsRightCcf p M (layered_matrix_of layers) (origins_of layers split) c) (even : M.rows ≡ M.columns) (full : M.rows ≡ c.rank)
    (v : ℕ → ℕ → ℕ) (b : ℕ → ℕ) (stand : AreValuesFor p M (layered_matrix_of layers) (origins_of layers split) v (numbers_in_blocks p M layers v))
    (s : BlockSystem) (sys : IsSystemOf p M (layered_matrix_of layers) (origins_of layers split) c (numbers_in_blocks p M layers v) b s) where
  abbrev L : LayeredMatrix
  L = layered_matrix_of layers

  abbrev O : Origins
  O = origins_of layers split

  abbrev w : ℕ → ℕ → ℕ
  w = numbers_in_blocks p M layers v

  full-rank : HasFullRank p M
  full-rank = record { square = even; rank = subst (IsStructuralRank p M) (sym full) R.pair_and_rank.rank }

  no_block : CcfBlock
  no_block = record { part = record { columns = []; q_rows = []; t_rows = [] }; lower = [] }

  regular-at : (k : ℕ) → k < length c.blocks → IsRegularPart p s (slice_index_or c.blocks k no_block).part →
      IsRegularBlock p (matrix_of c.s) L (parts_of c) w k
  regular-at k kl = block-regular p prime odd M L O lay c is R w b s sys k no_block kl

  -- ---- each block is regular and is solved
  pub solution-told : (x : List ℕ) → length x ≡ c.shape.columns →
      ((j : ℕ) (d : CcfBlock) → j < length c.blocks → IsRegularPart p s (slice_index_or c.blocks j d).part) →
      ((j : ℕ) (d : CcfBlock) → j < length c.blocks → PartHolds p s (slice_index_or c.blocks j d).part x) →
      (M.columns ≤ length x) × ((y : List ℕ) → AreUnknownsOf M.columns x y → IsModelSolution p M v b y)
  solution-told x count regular holds = (
    omega (arith, count, R.shape.columns, lay.columns),
    λ y at. record {
      full = full-rank;
      count = at.count;
      regular = regular_of_blocks p prime L (matrix_of c.s) (parts_of c) (square-form p prime odd M L O lay c is R even full) w
          M (gives_q M) (has_symbol M) O lay v stand (λ k kl. regular-at k kl (regular k no_block kl));
      solves = λ i il. ap (λ z. z % p) (sum_on-ext everything M.columns (λ j. slice_index y j * value M v i j) (λ j. slice_index x j * value M v i j)
          (λ j jl _. ap (λ z. z * value M v i j) (at.same j jl))) ∙ solved i il;
    },
  )
    where
      solved : IsSystemSolution p (value M v) M.rows M.columns (slice_index x) b
      solved = blocks-solve p prime M L O lay v w stand (matrix_of c.s) (parts_of c) (square-form p prime odd M L O lay c is R even full)
          (λ _. everything) (slice_index x) b (λ k kl i j il jl mine out. absurd (differ out refl))
          (λ k kl. block-solved p prime odd M L O lay c is R w b s sys k no_block kl x (holds k no_block kl))

  -- ---- block k - 1 is not regular, and all behind it are
  pub singular-told : (k : ℕ) → 0 < k → k ≤ length c.blocks →
      ((d : CcfBlock) → IsRegularPart p s (slice_index_or c.blocks (k - 1) d).part → ⊥) →
      ((j : ℕ) (d : CcfBlock) → k ≤ j → j < length c.blocks → IsRegularPart p s (slice_index_or c.blocks j d).part) →
      IsLastSingular p M layers c v k
  singular-told k some within not_regular later = record {
    full = full-rank;
    some = omega (arith, some);
    within = within;
    block = block;
    later = λ l kl ll. regular-at l ll (later l no_block kl ll);
    model = λ r rank. singular_of_block p prime L (matrix_of c.s) (parts_of c) (square-form p prime odd M L O lay c is R even full) w
        M (gives_q M) (has_symbol M) O lay v stand (k - 1) block.0 r there block.1 block.2 rank;
  }
    where
      there : k - 1 < length c.blocks
      there = omega (arith, some, within)

      block : (r : ℕ) × IsBlockRank p (matrix_of c.s) L (parts_of c) w (k - 1) r × (r < part_columns L (parts_of c) (k - 1 + 1))
      block = go (rank_exists p prime (diagonal (row_part L (parts_of c)) (parts_of c).column (block_matrix (matrix_of c.s) L w) (k - 1 + 1))
          (L.q_rows + L.t_rows) L.columns everything)
        where
          go : (r : ℕ) × IsBlockRank p (matrix_of c.s) L (parts_of c) w (k - 1) r →
              (r : ℕ) × IsBlockRank p (matrix_of c.s) L (parts_of c) w (k - 1) r × (r < part_columns L (parts_of c) (k - 1 + 1))
          go (r, rank) = (
            r,
            rank,
            elim (nat_cases r (part_columns L (parts_of c) (k - 1 + 1))) [
              | inl q ↦ absurd (not_regular no_block (part-regular p prime odd M L O lay c is R w b s sys (k - 1) no_block there
                  (subst (IsBlockRank p (matrix_of c.s) L (parts_of c) w (k - 1)) q rank)))
              | inr ne ↦ omega (arith, at_most, ne)
            ],
          )
            where
              at_most : r ≤ part_columns L (parts_of c) (k - 1 + 1)
              at_most = omega (
                arith,
                rank.reached.3,
                size_on-within (in_part (parts_of c).column (k - 1 + 1)) rank.reached.0 L.columns
                    (part-columns p prime (L.q_rows + L.t_rows) L.columns (block_matrix (matrix_of c.s) L w)
                    (in_part (row_part L (parts_of c)) (k - 1 + 1)) (in_part (parts_of c).column (k - 1 + 1)) rank.reached.0 rank.reached.2),
              )

  -- what the blocks give tells of the model
  pub outcome-told : {T : Type 0} (number : T → ℕ) (outcome : Outcome T) → IsOutcomeOf number p s c.shape.columns c.blocks outcome →
      IsOutcomeFor number p M layers c v b outcome
  outcome-told number (Dependent k) (some, within, not_regular, later) = singular-told k some within not_regular later
  outcome-told number (Solved x) (count, regular, holds) =
      let told = solution-told (map number x) (length-map x number ∙ count) regular holds in
      (omega (arith, told.0, length-map x number), told.1)
