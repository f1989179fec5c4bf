-- The sizes of the parts of a right form: where the rank of a model is its number of equations and of unknowns, each
-- part has as many rows as columns.
use Rattle.std.proofs.Common.{◌≡◌, ℕ, suc, ◌+◌, ◌<◌, ◌≤◌, ◌||◌, Bool, true, false, eqb, leb, not, length, inl, inr, refl, ap, sym, subst, ◌∙◌, arith}
use Rattle.residue_theory.proofs.CountLaws.{levels, levels-all, size-everything}
use Rattle.residue_theory.proofs.SetLaws.{le_cases}
use Rattle.residue_theory.proofs.SumLaws.{sum_on-same}
use Rattle.residue_theory.specs.Residues.{IsPrime}
use Rattle.residue_theory.specs.Sets.{either, everything}
use Rattle.residue_theory.specs.Sums.{size_on}
use Rattle.linear_algebra.specs.Parts.{in_part}
use Rattle.mixed_matrices.specs.Forms.{IsTriangular, diagonal_part, Parts, part_columns, part_rows, transformed}
use Rattle.mixed_matrices.specs.LayeredMatrices.{LayeredMatrix}
use Rattle.mixed_matrices.specs.Layerings.{IsLayeredMatrixOf, Origins, gives_q, has_constant, has_symbol}
use Rattle.mixed_matrices.specs.Models.{MixedMatrix}
use Rattle.mixed_matrices.specs.StructuralRanks.{IsLayeredRank}
use Rattle.mixed_pair_laws.proofs.DroppedSymbols.{size-union}
use Rattle.mixed_layering_laws.proofs.LayeringRank.{layering-law}
use Rattle.mixed_form_laws.proofs.FirstParts.{form-rank, last-rows, sizes}
use Rattle.cert_text.specs.Contents.{Contents}
use Rattle.cert_text.specs.Readings.{matrix_of, parts_of}
use Rattle.cert_text.specs.Right.{IsRightCcf}

-- each row of a model gives a Q row or a T row, and both where it is split
rows-counted : (M : MixedMatrix) (L : LayeredMatrix) (O : Origins) → IsLayeredMatrixOf M L O → L.q_rows + L.t_rows ≡ M.rows + O.split
rows-counted M L O lay = omega (arith, size-union (gives_q M) (has_symbol M) M.rows, lay.q_rows.count, lay.t_rows.count, lay.auxiliary.count, all)
  where
    one : (a s : Bool) → (a || not s) || s ≡ true
    one true true = refl
    one true false = refl
    one false true = refl
    one false false = refl

    all : size_on (either (gives_q M) (has_symbol M)) M.rows ≡ M.rows
    all = sum_on-same (either (gives_q M) (has_symbol M)) everything M.rows (λ _. 1) (λ i il. one (has_constant M i) (has_symbol M i))
        ∙ size-everything M.rows

module _ (p : ℕ) (prime : IsPrime p) (big : 2 < p) (M : MixedMatrix) (L : LayeredMatrix) (O : Origins) (lay : IsLayeredMatrixOf M L O)
    (c : Contents) (R : IsRightCcf p M L O c) where
  abbrev pub lm : LayeredMatrix
  lm = transformed (matrix_of c.s) L

  abbrev pub parts : Parts
  parts = parts_of c

  pub tri : IsTriangular p (transformed (matrix_of c.s) L) (parts_of c)
  tri = R.block_triangular_form.form.1

  columns-counted : size_on (λ j. leb ((parts_of c).column j) (length c.blocks)) L.columns + part_columns lm parts (length c.blocks + 1) ≡ L.columns
  columns-counted = omega (
    arith,
    sym (levels (parts_of c).column L.columns (length c.blocks) (λ _. 1)),
    levels-all (parts_of c).column L.columns (suc (length c.blocks)) (λ _. 1) (λ j jl. omega (arith, tri.columns j jl)),
    size-everything L.columns,
    last,
  )
    where
      last : part_columns lm parts (length c.blocks + 1) ≡ size_on (λ j. eqb ((parts_of c).column j) (suc (length c.blocks))) L.columns
      last = ap (λ h. size_on (in_part (parts_of c).column h) L.columns) (let q : length c.blocks + 1 ≡ suc (length c.blocks) = omega arith in q)

  module _ (even : M.rows ≡ M.columns) (full : M.rows ≡ c.rank) where
    rank : IsLayeredRank p L (c.rank + O.split)
    rank = layering-law p prime M (gives_q M) (has_symbol M) L O lay big c.rank R.pair_and_rank.rank

    first : part_rows lm parts 0 ≡ part_columns lm parts 0
    first = omega (
      arith,
      form-rank p prime L (matrix_of c.s) (matrix_of c.u) R.transform.inverse (parts_of c) tri
          (c.rank + O.split) rank,
      lay.columns,
      even,
      full,
    )

    last : part_rows lm parts (length c.blocks + 1) ≡ part_columns lm parts (length c.blocks + 1)
    last = omega (
      arith,
      sizes p prime L (matrix_of c.s) (matrix_of c.u) R.transform.inverse (parts_of c) tri (length c.blocks) (omega arith),
      last-rows p prime L (matrix_of c.s) (matrix_of c.u) R.transform.inverse (parts_of c) tri,
      columns-counted,
      rows-counted M L O lay,
      lay.columns,
      even,
      first,
    )

    pub part-even : (n : ℕ) → n ≤ length c.blocks + 1 → part_rows lm parts n ≡ part_columns lm parts n
    part-even n few = elim (le_cases n (length c.blocks + 1) few) [
      | inl end ↦ subst (λ k. part_rows lm parts k ≡ part_columns lm parts k) (sym end) last
      | inr less ↦ elim (le_cases 0 n (omega arith)) [
        | inl start ↦ subst (λ k. part_rows lm parts k ≡ part_columns lm parts k) start first
        | inr later ↦ (tri.square n (omega (arith, later)) (omega (arith, less))).0
      ]
    ]

    -- and the diagonal parts have the structural rank of their columns
    pub part-full : (n : ℕ) → n ≤ length c.blocks + 1 → IsLayeredRank p (diagonal_part lm parts n) (part_columns lm parts n)
    part-full n few = elim (le_cases n (length c.blocks + 1) few) [
      | inl end ↦ subst (λ k. IsLayeredRank p (diagonal_part lm parts k) (part_columns lm parts k)) (sym end) tri.column_rank
      | inr less ↦ subst (IsLayeredRank p (diagonal_part lm parts n)) (part-even n few) (tri.row_rank n (omega (arith, less)))
    ]
