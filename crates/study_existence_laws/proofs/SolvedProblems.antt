-- Each model with values and right sides is open, or singular, or has a solution.
use Rattle.std.proofs.Common.{◌≡◌, ℕ, ◌-◌, ◌*◌, ◌%◌, ◌<◌, ◌⊎◌, List, [], ◌∷◌, length, map, slice_index, slice_index_or}
use Rattle.std.proofs.Common.{inl, inr, refl, ap, sym, subst, ◌∙◌, arith}
use Rattle.std.specs.List.{All}
use Rattle.std.proofs.Math.Nat.{mod-lt}
use Rattle.std.proofs.lemmas.List.{get_or_default}
use Rattle.std.proofs.lemmas.Nat.{mul-mod_first}
use Rattle.residue_theory.specs.Residues.{IsPrime}
use Rattle.residue_theory.specs.Sets.{everything}
use Rattle.residue_theory.proofs.ResidueLaws.{agree-sum}
use Rattle.residue_theory.proofs.SetLaws.{lt_cases}
use Rattle.linear_algebra.specs.Columns.{Combines, IsRank}
use Rattle.mixed_matrices.specs.Models.{MixedMatrix, value}
use Rattle.mixed_matrices.specs.StructuralRanks.{IsStructuralRank}
use Rattle.mixed_pair_laws.proofs.GreatestRanks.{mixed-rank_exists}
use Rattle.mixed_model.specs.Layers.{Layers, layered_matrix_of}
use Rattle.mixed_model.specs.Models.{IsModel, MixedModel, mixed_matrix_of}
use Rattle.mixed_layering.specs.Layers.{AreLayersOf, origins_of}
use Rattle.value_list_laws.specs.ListedValues.{values_of as numbers_of}
use Rattle.cert_text.specs.declared.part.CcfBlock.{CcfBlock}
use Rattle.block_laws.specs.Systems.{IsSystemSolution}
use Rattle.block_solver.specs.Solving.{HasFullRank, IsLastSingular, IsModelSolution}
use Rattle.block_solver.proofs.SolvedForms.{full-told, one-rank}
use Rattle.existence_laws.specs.Forms.{HasRightForm}
use Rattle.existence_laws.proofs.Lists.{values-at, values-long, values_of}
use Rattle.existence_laws.proofs.RightForms.{right-form}
use Rattle.study_answers.specs.declared.solving.Solving.TheVariants.{Open, Singular, Solution}
use Rattle.study_existence_laws.specs.Solved.{EachProblemIsSolved, HasSolving}
use Rattle.study_existence_laws.proofs.LastSingular.{regular_or_last}
use Rattle.study_existence_laws.proofs.RegularSystems.{regular-combines}

same-items : (list : List ℕ) → map (λ value. value) list ≡ list
same-items [] = refl
same-items (x ∷ list) = ap (λ rest. x ∷ rest) (same-items list)

-- ---- a model that is regular with some numbers has a solution for each right side, of numbers below p
-- the numbers solve M(v) * x = b, and each is below p
abbrev pub IsResidueSolution : ℕ → MixedMatrix → (ℕ → ℕ → ℕ) → (ℕ → ℕ) → List ℕ → Type 0
IsResidueSolution p M v b x = IsModelSolution p M v b x × All (λ residue. residue < p) x

module _ (p : ℕ) (prime : IsPrime p) (M : MixedMatrix) (v : ℕ → ℕ → ℕ) (b : ℕ → ℕ) (full : HasFullRank p M)
    (regular : IsRank p (value M v) M.rows M.columns everything M.columns) where
  residues : (ℕ → ℕ) → List ℕ
  residues x = values_of (λ j. x j % p) M.columns

  residues-solve : (x : ℕ → ℕ) → IsSystemSolution p (value M v) M.rows M.columns x b →
      IsSystemSolution p (value M v) M.rows M.columns (slice_index (residues x)) b
  unfolding residues
  residues-solve x solves i il = agree-sum p everything M.columns (λ j. slice_index (residues x) j * value M v i j) (λ j. x j * value M v i j)
      (λ j jl _. ap (λ z. z * value M v i j % p) (values-at (λ k. x k % p) M.columns j 0 jl) ∙ mul-mod_first (x j) (value M v i j) p)
      ∙ solves i il

  residues-small : (x : ℕ → ℕ) → All (λ residue. residue < p) (residues x)
  unfolding residues
  residues-small x j d jl = subst (λ residue. residue < p)
      (sym (values-at (λ k. x k % p) M.columns j d (subst (λ n. j < n) (values-long (λ k. x k % p) M.columns) jl)))
      (mod-lt (x j) (let positive : 0 < p = omega (arith, prime.above_one) in positive))

  residues-count : (x : ℕ → ℕ) → length (residues x) ≡ M.columns
  unfolding residues
  residues-count x = values-long (λ k. x k % p) M.columns

  pub solution_exists : (x : List ℕ) × IsResidueSolution p M v b x
  solution_exists = go (regular-combines p prime (value M v) M.rows M.columns full.square regular b)
    where
      go : Combines p (value M v) M.rows M.columns everything b → (x : List ℕ) × IsResidueSolution p M v b x
      go (x, solves) = (
        residues x,
        (record { full = full; count = residues-count x; regular = regular; solves = residues-solve x solves }, residues-small x),
      )

-- ---- a model with values and right sides
module _ (p : ℕ) (prime : IsPrime p) (odd : 2 < p) (model : MixedModel) (is : IsModel p model) (layers : Layers) (are : AreLayersOf model layers)
    (values right : List ℕ) where
  abbrev M : MixedMatrix
  M = mixed_matrix_of model

  abbrev v : ℕ → ℕ → ℕ
  v = numbers_of (mixed_matrix_of model) values

  abbrev Told : Type 0
  Told = HasSolving p model layers values right

  open-told : (r : ℕ) → IsStructuralRank p M r → (r < M.rows) ⊎ (r < M.columns) → Told
  open-told r rank less = record { solving = Open r; is = (rank, less) }

  solution-told : (x : List ℕ) × IsResidueSolution p M v (slice_index right) x → Told
  solution-told (x, solution) = record {
    solving = Solution x;
    is = subst (IsResidueSolution p M v (slice_index right)) (sym (same-items x)) solution;
  }

  no_block : CcfBlock
  no_block = record { part = record { columns = []; q_rows = []; t_rows = [] }; lower = [] }

  abbrev Form : Type 0
  Form = HasRightForm p M (layered_matrix_of layers) (origins_of layers are.split)

  singular-told : (F : Form) → (k : ℕ) × IsLastSingular p M layers F.form v k → Told
  singular-told F (k, last) = record {
    solving = Singular k (slice_index_or F.form.blocks (k - 1) no_block).part.columns;
    is = record {
      ccf = F.form;
      is = F.is;
      right = record { are = are; right = F.right };
      last = last;
      columns_are = λ d. ap (λ block. block.part.columns)
          (get_or_default F.form.blocks (k - 1) no_block d (omega (arith, last.some, last.within)));
    };
  }

  full-solved : HasFullRank p M → Form → Told
  full-solved full F = elim (regular_or_last p prime odd M layers are.split F.form F.is are.layered F.right full
      (one-rank p M M.rows F.form.rank full.rank F.right.pair_and_rank.rank) v) [
        | inl regular ↦ solution-told (solution_exists p prime M v (slice_index right) full regular)
        | inr last ↦ singular-told F last
      ]

  full-rank : (r : ℕ) → IsStructuralRank p M r → (M.rows ≡ M.columns) × (M.rows ≡ r) → HasFullRank p M
  full-rank r rank (even, count) = record { square = even; rank = subst (IsStructuralRank p M) (sym count) rank }

  pub solved : Told
  solved = go (mixed-rank_exists p prime M)
    where
      go : (r : ℕ) × IsStructuralRank p M r → Told
      go (r, rank) = elim (lt_cases r M.rows) [
        | inl less ↦ open-told r rank (inl less)
        | inr rows ↦ elim (lt_cases r M.columns) [
          | inl less ↦ open-told r rank (inr less)
          | inr columns ↦ full-solved (full-rank r rank (full-told p prime M r rank rows columns))
              (right-form p prime odd M is.equations.few is.unknowns.few (layered_matrix_of layers) (origins_of layers are.split) are.layered)
        ]
      ]

pub has-solving : EachProblemIsSolved
has-solving p prime odd model is layers are values right _ _ = solved p prime odd model is layers are values right
