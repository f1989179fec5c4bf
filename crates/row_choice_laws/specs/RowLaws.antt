-- Laws of the search backwards over the rows: what it reaches in vain tells which equations may go.
use Rattle.std.specs.Prelude.{ℕ, ◌<◌, ◌≡◌, ◌⊎◌, ◌↔◌, Bool, true, false}
use Rattle.residue_theory.specs.Residues.{IsPrime}
use Rattle.residue_theory.specs.Sets.{IsWithin, with_one}
use Rattle.closed_sets.specs.Closed.{NoEndReached}
use Rattle.mixed_matrices.specs.LayeredMatrices.{LayeredMatrix}
use Rattle.mixed_matrices.specs.Layerings.{IsLayering, Origins}
use Rattle.mixed_matrices.specs.Models.{MixedMatrix}
use Rattle.mixed_matrices.specs.Tableaus.{IsTableau, Tableau}
use Rattle.equation_matroid_laws.specs.Conflicts.{IsInCircuit, IsSurplusAmong}
use Rattle.equation_matroid_laws.specs.EquationRanks.{AreIndependent}
use Rattle.row_choice_laws.specs.RowSearches.{HaveRows, IsJoining, IsOnRowsOf, AreRowsReachedInVain, TellsOf, bare_of}
use Rattle.row_choice_laws.specs.RowSearches.{is_bare_row, is_open, is_row_of, places, row_leads}
use Rattle.row_choice_laws.specs.States.{KeepsEquations}

-- an equation of K is surplus among K exactly where its T row is reached in vain from the bare rows of K; and where it
-- has no T row, exactly where some Q row that is reached is made with its Q row
abbrev pub ReachedRowsTellSurplusEquations : Type 0
ReachedRowsTellSurplusEquations =
    (p : ℕ) → IsPrime p → 2 < p → (M : MixedMatrix) (A D : ℕ → Bool) (L : LayeredMatrix) (O : Origins) →
    IsLayering M A D L O →
    (S U : ℕ → ℕ → ℕ) (F : Tableau) → IsTableau p L S U F → (K W : ℕ → Bool) → IsOnRowsOf p L O S F K →
    AreRowsReachedInVain p L O F K W → TellsOf p D L O S K W (IsSurplusAmong p M K)

-- equations whose rows all have columns are independent
abbrev pub RowsWithColumnsAreIndependent : Type 0
RowsWithColumnsAreIndependent =
    (p : ℕ) → IsPrime p → 2 < p → (M : MixedMatrix) (A D : ℕ → Bool) (L : LayeredMatrix) (O : Origins) →
    IsLayering M A D L O →
    (S U : ℕ → ℕ → ℕ) (F : Tableau) → IsTableau p L S U F → (K : ℕ → Bool) → IsOnRowsOf p L O S F K → HaveRows M A D K →
    ((r : ℕ) → r < places L → is_row_of L O K r ≡ true → is_bare_row L F r ≡ false) → AreIndependent p M K

-- an equation that joins them in vain depends on them
abbrev pub SearchesInVainShowDependence : Type 0
SearchesInVainShowDependence =
    (p : ℕ) → IsPrime p → 2 < p → (M : MixedMatrix) (A D : ℕ → Bool) (L : LayeredMatrix) (O : Origins) →
    IsLayering M A D L O →
    (S U : ℕ → ℕ → ℕ) (F : Tableau) → IsTableau p L S U F → (B : ℕ → Bool) (f : ℕ) → f < M.rows →
    (A f ≡ true) ⊎ (D f ≡ true) → B f ≡ false → IsJoining p M A L O S F B f →
    (W : ℕ → Bool) → AreRowsReachedInVain p L O F (with_one B f) W →
    IsSurplusAmong p M (with_one B f) f × (AreIndependent p M (with_one B f) → ⊥)

-- and the rows that are reached tell its circuit in them
abbrev pub SearchesInVainTellTheCircuit : Type 0
SearchesInVainTellTheCircuit =
    (p : ℕ) → IsPrime p → 2 < p → (M : MixedMatrix) (A D : ℕ → Bool) (L : LayeredMatrix) (O : Origins) →
    IsLayering M A D L O →
    (S U : ℕ → ℕ → ℕ) (F : Tableau) → IsTableau p L S U F → (B : ℕ → Bool) (f : ℕ) → f < M.rows →
    (A f ≡ true) ⊎ (D f ≡ true) → B f ≡ false → IsJoining p M A L O S F B f → AreIndependent p M B →
    (W : ℕ → Bool) → AreRowsReachedInVain p L O F (with_one B f) W → TellsOf p D L O S B W (IsInCircuit p M B f)

-- and an equation that depends on what is kept joins it in vain
abbrev pub DependentEquationsJoinInVain : Type 0
DependentEquationsJoinInVain =
    (p : ℕ) → IsPrime p → 2 < p → (M : MixedMatrix) (A D : ℕ → Bool) (L : LayeredMatrix) (O : Origins) →
    IsLayering M A D L O →
    (S U : ℕ → ℕ → ℕ) (F E : Tableau) → IsTableau p L S U F → (B : ℕ → Bool) (f : ℕ) → f < M.rows → HaveRows M A D B →
    B f ≡ false → KeepsEquations p L O S E B → IsJoining p M A L O S F B f → AreIndependent p M B →
    (AreIndependent p M (with_one B f) → ⊥) →
    NoEndReached (row_leads p L F) (places L) (bare_of L O F (with_one B f)) (is_open p L F)

-- the circuit is the same in whatever more is kept later: it may be told when the equation joins in vain
abbrev pub CircuitsStay : Type 0
CircuitsStay =
    (p : ℕ) → IsPrime p → 2 < p → (M : MixedMatrix) (B C : ℕ → Bool) (f : ℕ) → f < M.rows → IsWithin M.rows B C →
    AreIndependent p M C → C f ≡ false → (AreIndependent p M (with_one B f) → ⊥) →
    (x : ℕ) → x < M.rows → IsInCircuit p M B f x ↔ IsInCircuit p M C f x
