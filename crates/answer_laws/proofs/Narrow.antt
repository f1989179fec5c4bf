-- How many rows and columns the layered matrix of a text has.
use Rattle.std.proofs.Common.{◌≡◌, ℕ, ◌+◌, ◌≤◌, Bool, List, length, refl, arith}
use Rattle.residue_theory.specs.Sets.{everything}
use Rattle.residue_theory.proofs.CountLaws.{size-everything}
use Rattle.residue_theory.proofs.SumLaws.{size_on-within}
use Rattle.mixed_matrices.specs.LayeredMatrices.{LayeredMatrix}
use Rattle.mixed_matrices.specs.Layerings.{AreMembers, Origins, IsLayeredMatrixOf}
use Rattle.mixed_model.specs.Models.{MixedModel, IsModel, mixed_matrix_of}
use Rattle.cert_text.specs.declared.kind.Kind.{Kind}
use Rattle.input_kinds.specs.Kinds.{GivesModel}
use Rattle.input_kinds.proofs.ByKind.{is-model}
use Rattle.input_kinds.proofs.NamesByKind.{few-names}
use Rattle.answer_laws.specs.Rooms.{columns_within, places_within}

-- members of a set below n are at most n
pub members-few : (A : ℕ → Bool) (n : ℕ) (at : ℕ → ℕ) (m : ℕ) → AreMembers A n at m → m ≤ n
members-few A n at m are = omega (arith, are.count, size-everything n, size_on-within everything A n (λ j jl h. refl))

-- the layered matrix of a model that a text gives has no more rows and columns than the text has room for
pub record IsNarrow (kind : Kind) (n : ℕ) (L : LayeredMatrix) : Type 0 where
  pub q_rows : L.q_rows ≤ places_within kind n
  pub t_rows : L.t_rows ≤ places_within kind n
  pub columns : L.columns ≤ columns_within kind n

pub narrow : (p : ℕ) (kind : Kind) (text : List ℕ) (model : MixedModel) (L : LayeredMatrix) (O : Origins) → GivesModel p kind text model →
    IsLayeredMatrixOf (mixed_matrix_of model) L O → IsNarrow kind (length text) L
narrow p kind text model L O gives are =
    let few = few-names p kind text model gives in
    let is : IsModel p model = is-model p kind text model gives in
    let e : length model.equations ≤ 4096 = (is.equations).few in
    let u : length model.unknowns ≤ 4096 = (is.unknowns).few in
    let q : L.q_rows ≤ length model.equations = members-few _ _ _ _ are.q_rows in
    let t : L.t_rows ≤ length model.equations = members-few _ _ _ _ are.t_rows in
    let s : O.split ≤ length model.equations = members-few _ _ _ _ are.auxiliary in
    let n : L.columns ≡ length model.unknowns + O.split = are.columns in
    record {
      q_rows = omega (arith, few.0, e, q);
      t_rows = omega (arith, few.0, e, t);
      columns = omega (arith, few.0, few.1, e, u, s, n);
    }
