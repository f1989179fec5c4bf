-- The parts of a layered matrix, put together.
use Rattle.std.proofs.Common.{◌≡◌, ℕ, ◌+◌, ◌<◌, Bool, true, false, not, cond, ◌||◌, eqb, eqb-true, List, length, slice_index, refl, sym, subst, ◌∙◌, arith}
use Rattle.residue_theory.specs.Sets.{some_below}
use Rattle.residue_theory.proofs.SetLaws.{some_below-holds}
use Rattle.dense_q.specs.Tables.{Table, IsTableOf, height, entry}
use Rattle.sparse_t.specs.Incidences.{Incidence, touches}
use Rattle.mixed_matrices.specs.Models.{MixedMatrix}
use Rattle.mixed_matrices.specs.Layerings.{AreMembers, IsLayeredMatrixOf, has_constant, has_symbol, gives_q}
use Rattle.mixed_model.specs.declared.origin.Origin.{Origin}
use Rattle.mixed_model.specs.Models.{MixedModel, mixed_matrix_of}
use Rattle.mixed_layering.specs.Columns.{AreColumns}
use Rattle.mixed_layering.specs.Members.{AreRows}
use Rattle.mixed_layering.specs.Places.{constant_place, AreRowsOfSymbols}
use Rattle.mixed_layering.specs.Layers.{AreLayersOf}
use Rattle.mixed_layering.proofs.SplitLaws.{told-unknown, told-auxiliary}

-- where none below n is in a set, a number below n is not
none_below : (n : ℕ) (X : ℕ → Bool) → some_below n X ≡ false → (j : ℕ) → j < n → X j ≡ false
none_below n X none j at = by (X j) refl
  where
    by : (b : Bool) → X j ≡ b → X j ≡ false
    by true e = let f : true ≡ false = sym (some_below-holds n X j at e) ∙ none in let g : ⊥ = cc in absurd g
    by false e = e

-- an equation that gives no Q row has no constant, and one that gives no T row no symbol
no_constant : (M : MixedMatrix) (i j : ℕ) → j < M.columns → gives_q M i ≡ false → M.constant i j ≡ 0
no_constant M i j at gives = by (has_constant M i) refl gives
  where
    zero_is : (b : Bool) → eqb (M.constant i j) 0 ≡ b → not b ≡ false → M.constant i j ≡ 0
    zero_is true e p = eqb-true (M.constant i j) 0 e
    zero_is false e p = let f : ⊥ = cc in absurd f

    by : (b : Bool) → has_constant M i ≡ b → (b || not (has_symbol M i)) ≡ false → M.constant i j ≡ 0
    by true e p = let f : ⊥ = cc in absurd f
    by false e p = zero_is (eqb (M.constant i j) 0) refl (none_below M.columns (λ j. not (eqb (M.constant i j) 0)) e j at)

-- the rows of symbols, and any matrix that has the constants
module _ (model : MixedModel) (of_q of_t split : List ℕ) (rows : AreRows (mixed_matrix_of model) (length model.equations) of_q of_t split)
    (m n : ℕ) (q : ℕ → ℕ → ℕ) (tall : m ≡ length of_q) (wide : n ≡ length model.unknowns + length split)
    (q_is : (i j : ℕ) → i < length of_q → j < length model.unknowns + length split →
    q i j ≡ constant_place (mixed_matrix_of model) split (slice_index of_q i) j)
    (t : Incidence) (t_is : AreRowsOfSymbols (mixed_matrix_of model) split of_t (length of_t) t) where
  pub layered-made : IsLayeredMatrixOf (mixed_matrix_of model)
      (record { q_rows = m; t_rows = length t.rows; columns = n; q = q; t = touches t })
      (record { of_q = slice_index of_q; of_t = slice_index of_t; of_z = slice_index split; split = length split })
  layered-made = record {
    constants = λ i j row column gives. no_constant (mixed_matrix_of model) i j column gives;
    symbols = λ i j row column has. none_below (length model.unknowns) ((mixed_matrix_of model).symbol i) has j column;
    q_rows = subst (AreMembers (gives_q (mixed_matrix_of model)) (length model.equations) (slice_index of_q)) (sym tall) rows.constants;
    t_rows = subst (AreMembers (has_symbol (mixed_matrix_of model)) (length model.equations) (slice_index of_t)) (sym t_is.count) rows.symbols;
    auxiliary = rows.split;
    columns = wide;
    q = λ i j row column.
        q_is i j (omega (arith, row, tall)) (omega (arith, column))
        ∙ told-unknown (length model.unknowns) ((mixed_matrix_of model).constant (slice_index of_q i))
        (λ k. cond (eqb (slice_index of_q i) (slice_index split k)) 1 0) j column;
    q_auxiliary = λ i k row column.
        q_is i (length model.unknowns + k) (omega (arith, row, tall)) (omega (arith, column))
        ∙ told-auxiliary (length model.unknowns) ((mixed_matrix_of model).constant (slice_index of_q i))
        (λ k. cond (eqb (slice_index of_q i) (slice_index split k)) 1 0) k;
    t = λ i j row column.
        t_is.touched i j (omega (arith, row, t_is.count)) (omega (arith, column, t_is.width))
        ∙ told-unknown (length model.unknowns) ((mixed_matrix_of model).symbol (slice_index of_t i))
        (λ k. eqb (slice_index of_t i) (slice_index split k)) j column;
    t_auxiliary = λ i k row column.
        t_is.touched i (length model.unknowns + k) (omega (arith, row, t_is.count)) (omega (arith, column, t_is.width))
        ∙ told-auxiliary (length model.unknowns) ((mixed_matrix_of model).symbol (slice_index of_t i)) (λ k. eqb (slice_index of_t i) (slice_index split k)) k;
  }

module _ (model : MixedModel) (of_q of_t split : List ℕ) (rows : AreRows (mixed_matrix_of model) (length model.equations) of_q of_t split)
    (q : Table) (q_is : IsTableOf (length of_q) (length model.unknowns + length split)
    (λ i j. constant_place (mixed_matrix_of model) split (slice_index of_q i) j) q)
    (t : Incidence) (t_is : AreRowsOfSymbols (mixed_matrix_of model) split of_t (length of_t) t)
    (origins : List Origin) (columns : AreColumns (length model.unknowns) split (length split) origins) where
  pub layers-made : AreLayersOf model (record { q = q; t = t; q_origins = of_q; t_origins = of_t; column_origins = origins })
  layers-made = record {
    split = split;
    layered = layered-made model of_q of_t split rows (height q) q.width (entry q) q_is.height_is q_is.width_is q_is.entries t t_is;
    count = columns.splits;
    unknowns = columns.unknown;
    auxiliary = columns.auxiliary;
  }

-- the same over slices of the lists
pub layers-seen : (model : MixedModel) (of_q of_t split : List ℕ) → AreRows (mixed_matrix_of model) (length model.equations) of_q of_t split →
    (q : Table) (t : Incidence) (origins : List Origin) (q_seen t_seen first second third : List ℕ) → q_seen ≡ of_q →
    t_seen ≡ of_t → first ≡ split → second ≡ split → third ≡ split →
    IsTableOf (length q_seen) (length model.unknowns + length first) (λ i j. constant_place (mixed_matrix_of model) first (slice_index q_seen i) j) q →
    AreRowsOfSymbols (mixed_matrix_of model) second t_seen (length t_seen) t → AreColumns (length model.unknowns) third (length third) origins →
    AreLayersOf model (record { q = q; t = t; q_origins = of_q; t_origins = of_t; column_origins = origins })
layers-seen model of_q of_t split rows q t origins q_seen t_seen first second third q_same t_same at_first at_second at_third q_is t_is columns =
    layers-made model of_q of_t split rows
    q (subst (λ list. IsTableOf (length list) (length model.unknowns + length split)
    (λ i j. constant_place (mixed_matrix_of model) split (slice_index list i) j) q) q_same
    (subst (λ list. IsTableOf (length q_seen) (length model.unknowns + length list)
    (λ i j. constant_place (mixed_matrix_of model) list (slice_index q_seen i) j) q) at_first q_is))
    t (subst (λ list. AreRowsOfSymbols (mixed_matrix_of model) split list (length list) t) t_same
    (subst (λ list. AreRowsOfSymbols (mixed_matrix_of model) list t_seen (length t_seen) t) at_second t_is))
    origins (subst (λ list. AreColumns (length model.unknowns) list (length list) origins) at_third columns)
