-- The state of a chooser, and what a try to let an equation join makes of it.
use Rattle.std.specs.Prelude.{ℕ, ◌+◌, ◌<◌, ◌≡◌, ◌⊎◌, Bool, true, false, List, length, slice_get, Option, Some, None}
use Rattle.std.specs.Prelude.{IfSome, IfNone}
use Rattle.residue_theory.specs.Sets.{with_one}
use Rattle.search_laws.specs.Searches.{IsShortest}
use Rattle.closed_sets.specs.Closed.{IsReachedSet, NoEndReached}
use Rattle.mixed_matrices.specs.Arcs.{is_free}
use Rattle.mixed_model.specs.Layers.{AreLayers, Layers, layered_matrix_of}
use Rattle.mixed_model.specs.Models.{MixedModel, mixed_matrix_of}
use Rattle.mixed_model.specs.declared.origin.Origin.TheVariants.{Split}
use Rattle.mixed_layering.specs.Columns.{IsAbsent, StandsIn}
use Rattle.mixed_layering.specs.Layers.{AreLayersOf, origins_of}
use Rattle.dense_q.specs.Tables.{entry}
use Rattle.bipartite_matching.specs.Matchings.{IsMatching, IsRowFree, Matching, with_pair}
use Rattle.sparse_t.specs.Incidences.{touches}
use Rattle.exchange_graph.specs.Results.{Found}
use Rattle.mixed_augmentation_laws.specs.Moves.{IsUnlinked}
use Rattle.row_transform.specs.Tableaus.{TableauState}
use Rattle.independent_matching.specs.Engines.{layers}
use Rattle.independent_matching.specs.Sides.{is_matched, layers_of, mate_of, tableau_of_pair}
use Rattle.equation_matroid_laws.specs.EquationRanks.{AreIndependent}
use Rattle.row_choice_laws.specs.ColumnSearches.{leads_back}
use Rattle.row_choice_laws.specs.RowSearches.{has_row_entry, is_bare_row}
use Rattle.row_choice_laws.specs.States.{KeepsEquations}
use Rattle.equation_choice.specs.Pairs.{HasGrownBack, IsPairOver}

-- the Q row, the T row and the auxiliary column of equation e, as far as it has them
pub record AreRowsIn (l : Layers) (e : ℕ) (q t z : Option ℕ) : Type 0 where
  pub q_some : IfSome q (λ i. StandsIn l.q_origins e i)
  pub q_none : IfNone q (IsAbsent l.q_origins e)
  pub t_some : IfSome t (λ d. StandsIn l.t_origins e d)
  pub t_none : IfNone t (IsAbsent l.t_origins e)
  pub z_some : IfSome z (λ y. slice_get l.column_origins y ≡ Some (Split e))
  pub z_none : IfNone z ((y : ℕ) → slice_get l.column_origins y ≡ Some (Split e) → ⊥)

-- the Q row where there is one, else the T row; there are m Q rows
abbrev pub first_place : ℕ → Option ℕ → Option ℕ → Option ℕ
first_place m (Some i) t = Some i
first_place m None (Some d) = Some (m + d)
first_place m None None = None

-- the pair stands over the layered matrix, and there is a mark for each of its columns
pub record IsReadyChooser (p : ℕ) (l : Layers) (S : TableauState) (M : Matching) (found : Found)
    (starts free : List Bool)
    : Type 0 where
  pub over : IsPairOver p l S M
  pub places : found.places ≡ S.columns
  pub start_marks : length starts ≡ S.columns
  pub free_marks : length free ≡ S.columns

-- X is what is reached back from the row, and no free column is
pub record IsReachedBack (p : ℕ) (l : Layers) (S : TableauState) (M : Matching) (s : ℕ) (X : ℕ → Bool) : Type 0 where
  pub reached : IsReachedSet (leads_back p (layers (entry l.q) S M) (tableau_of_pair S M)) S.columns
      (has_row_entry p (layers (entry l.q) S M) (tableau_of_pair S M) s) X
  pub vain : NoEndReached (leads_back p (layers (entry l.q) S M) (tableau_of_pair S M)) S.columns
      (has_row_entry p (layers (entry l.q) S M) (tableau_of_pair S M) s) (is_free (tableau_of_pair S M))

-- the pair has grown along a shortest walk back from the row
pub record HasGrownFrom (p : ℕ) (l : Layers) (S S' : TableauState) (M M' : Matching) (s : ℕ) : Type 0 where
  pub at : ℕ → ℕ
  pub last : ℕ
  pub walk : IsShortest (leads_back p (layers (entry l.q) S M) (tableau_of_pair S M)) S.columns
      (has_row_entry p (layers (entry l.q) S M) (tableau_of_pair S M) s) (is_free (tableau_of_pair S M)) at last
  pub grown : HasGrownBack p (layers (entry l.q) S M) S.s S'.s (tableau_of_pair S M) (tableau_of_pair S' M') s at last
  pub same : layers_of S' M' ≡ layers_of S M

-- the T row of a split equation is matched with its auxiliary column, where both have been free; else all is as before
pub record HasEntered (S : TableauState) (M M' : Matching) (q t z : Option ℕ) : Type 0 where
  pub matching : IsMatching M
  pub single : (q ≡ None) ⊎ (t ≡ None) → M' ≡ M
  pub split : (i d y : ℕ) → q ≡ Some i → t ≡ Some d → z ≡ Some y → IsRowFree M d →
      is_free (tableau_of_pair S M) y ≡ true → touches M.pattern d y ≡ true → M' ≡ with_pair M d y

-- and this match is given up
pub record HasGivenUp (M M' : Matching) (q t z : Option ℕ) : Type 0 where
  pub pattern : M'.pattern ≡ M.pattern
  pub single : (q ≡ None) ⊎ (t ≡ None) → M' ≡ M
  pub split : (i d y : ℕ) → q ≡ Some i → t ≡ Some d → z ≡ Some y →
      IsUnlinked M.pattern.width (is_matched M) (mate_of M) (is_matched M') (mate_of M') y

-- the equation has entered, and nothing is found from its first row: X is what was reached
pub record HasTriedInVain (p : ℕ) (l : Layers) (S S' : TableauState) (M M' : Matching) (q t z : Option ℕ) (X : ℕ → Bool)
    : Type 0 where
  pub parts : AreLayers l
  pub state : S' ≡ S
  pub entered : HasEntered S M M' q t z
  pub vain : (s : ℕ) → first_place S.rows q t ≡ Some s →
      is_bare_row (layers (entry l.q) S M') (tableau_of_pair S M') s ≡ true → IsReachedBack p l S M' s X

-- the equations K are kept, of the model with these split equations
abbrev pub KeepsAmong : ℕ → Layers → List ℕ → TableauState → Matching → (ℕ → Bool) → Type 0
KeepsAmong p l split S M K =
    KeepsEquations p (layered_matrix_of l) (origins_of l split) S.s (tableau_of_pair S M) K

-- whatever is kept of whatever model has these layers, if equation e is not
abbrev pub WhereKept : ℕ → Layers → TableauState → Matching → ℕ →
    ((model : MixedModel) → List ℕ → (ℕ → Bool) → Type 0) → Type 0
WhereKept p l S M e Then =
    (model : MixedModel) (of : AreLayersOf model l) (K : ℕ → Bool) → KeepsAmong p l of.split S M K →
    e < length model.equations → K e ≡ false → Then model of.split K

-- equation e is kept, too
abbrev pub HasJoined : ℕ → Layers → TableauState → TableauState → Matching → Matching → ℕ → Type 0
HasJoined p l S S' M M' e = WhereKept p l S M e (λ model split K. KeepsAmong p l split S' M' (with_one K e))

-- what was kept still is, and equation e depends on it
abbrev pub HasBeenRefused : ℕ → Layers → TableauState → TableauState → Matching → Matching → ℕ → Type 0
HasBeenRefused p l S S' M M' e = WhereKept p l S M e (λ model split K. KeepsAmong p l split S' M' K
    × (AreIndependent p (mixed_matrix_of model) (with_one K e) → ⊥))
