-- Laws of a loop that keeps the equations which may join: each step keeps its state, and it keeps the greedy choice.
use Rattle.std.specs.Prelude.{ℕ, ◌+◌, ◌<◌, ◌≡◌, ◌≢◌, ◌⊎◌, Bool, true, false}
use Rattle.residue_theory.specs.Residues.{IsPrime}
use Rattle.residue_theory.specs.Sets.{IsWithin, both, everything, nothing, only, with_one}
use Rattle.linear_algebra.specs.Products.{Agree, identity}
use Rattle.search_laws.specs.Searches.{IsShortest}
use Rattle.mixed_matrices.specs.LayeredMatrices.{LayeredMatrix}
use Rattle.mixed_matrices.specs.Layerings.{IsLayering, Origins}
use Rattle.mixed_matrices.specs.Models.{MixedMatrix}
use Rattle.mixed_matrices.specs.Tableaus.{HasTableau, IsTableau, Tableau}
use Rattle.mixed_augmentation_laws.specs.Moves.{IsRoute, IsUnlinked, Route, TakesMate}
use Rattle.equation_matroid_laws.specs.Conflicts.{IsConflictSet}
use Rattle.equation_matroid_laws.specs.EquationRanks.{AreIndependent}
use Rattle.equation_matroid_laws.specs.GreedyChoices.{IsGreedyChoice, IsLine, by_number, earlier}
use Rattle.row_choice_laws.specs.Growth.{AreColumnsAlong, IsRowStage, route_back}
use Rattle.row_choice_laws.specs.RowSearches.{HaveRows, IsJoining, AreRowsReachedInVain, TellsOf, origin_of_row}
use Rattle.row_choice_laws.specs.RowSearches.{is_open}
use Rattle.row_choice_laws.specs.RowSearches.{places, row_leads}
use Rattle.row_choice_laws.specs.States.{KeepsEquations, IsSameOutside, LeavesZeroColumns}

-- at first nothing is kept
abbrev pub NothingIsKept : Type 0
NothingIsKept =
    (p : ℕ) → IsPrime p → (L : LayeredMatrix) (O : Origins) (S : ℕ → ℕ → ℕ) (F : Tableau) →
    Agree p L.q_rows L.q_rows S identity → ((y : ℕ) → y < L.columns → F.base y ≡ false) →
    ((y : ℕ) → y < L.columns → F.matched y ≡ false) → KeepsEquations p L O S F nothing

-- what is kept is independent
abbrev pub KeptEquationsAreIndependent : Type 0
KeptEquationsAreIndependent =
    (p : ℕ) → IsPrime p → 2 < p → (M : MixedMatrix) (A D : ℕ → Bool) (L : LayeredMatrix) (O : Origins) →
    IsLayering M A D L O →
    (S U : ℕ → ℕ → ℕ) (F : Tableau) → IsTableau p L S U F → (K : ℕ → Bool) → KeepsEquations p L O S F K →
    HaveRows M A D K → AreIndependent p M K

-- an equation with one row joins as it is
abbrev pub EquationsWithOneRowJoin : Type 0
EquationsWithOneRowJoin =
    (p : ℕ) (M : MixedMatrix) (A D : ℕ → Bool) (L : LayeredMatrix) (O : Origins) → IsLayering M A D L O →
    (S : ℕ → ℕ → ℕ) (F : Tableau) (K : ℕ → Bool) (f : ℕ) → KeepsEquations p L O S F K → K f ≡ false →
    both A D f ≡ false → IsJoining p M A L O S F K f

-- a split one joins once its T row is matched with its auxiliary column
abbrev pub SplitEquationsJoin : Type 0
SplitEquationsJoin =
    (p : ℕ) (M : MixedMatrix) (A D : ℕ → Bool) (L : LayeredMatrix) (O : Origins) → IsLayering M A D L O →
    (S U : ℕ → ℕ → ℕ) (F G : Tableau) → IsTableau p L S U F → (K : ℕ → Bool) (f : ℕ) → KeepsEquations p L O S F K →
    K f ≡ false →
    (t k : ℕ) → t < L.t_rows → k < O.split → O.of_t t ≡ f → O.of_z k ≡ f → TakesMate L F G t (M.columns + k) →
    IsTableau p L S U G × IsJoining p M A L O S G K f

-- and where it joined in vain and that match is given up, all is as it was before
abbrev pub MatchesAreGivenUp : Type 0
MatchesAreGivenUp =
    (p : ℕ) (M : MixedMatrix) (A D : ℕ → Bool) (L : LayeredMatrix) (O : Origins) → IsLayering M A D L O →
    (S U : ℕ → ℕ → ℕ) (F G H : Tableau) → IsTableau p L S U F → (K : ℕ → Bool) (f : ℕ) → KeepsEquations p L O S F K →
    K f ≡ false →
    (t k : ℕ) → t < L.t_rows → k < O.split → O.of_t t ≡ f → O.of_z k ≡ f → TakesMate L F G t (M.columns + k) →
    H.P ≡ F.P → H.base ≡ F.base → H.row ≡ F.row →
    IsUnlinked L.columns G.matched G.mate H.matched H.mate (M.columns + k) →
    IsTableau p L S U H × KeepsEquations p L O S H K

-- along the route of an equation that joins, each pivot keeps the columns of S of other equations
abbrev pub PivotsKeepTheOtherColumns : Type 0
PivotsKeepTheOtherColumns =
    (p : ℕ) (M : MixedMatrix) (A : ℕ → Bool) (L : LayeredMatrix) (O : Origins) (S : ℕ → ℕ → ℕ) (G : Tableau)
    (K : ℕ → Bool) (f : ℕ) → IsJoining p M A L O S G K f → (R : Route) → IsRoute p L G R →
    (R.in_q R.last ≡ true → O.of_q (R.row R.last) ≡ f) →
    IsSameOutside p L O (with_one K f) S S
    × ((i : ℕ) (T V : ℕ → ℕ → ℕ) → i < R.last + 1 → R.in_q i ≡ true → IsSameOutside p L O (with_one K f) S T →
    LeavesZeroColumns p L.q_rows T V (R.row i) → IsSameOutside p L O (with_one K f) S V)

-- after its growth the equation is kept, too
abbrev pub GrowthKeepsTheEquation : Type 0
GrowthKeepsTheEquation =
    (p : ℕ) (M : MixedMatrix) (A D : ℕ → Bool) (L : LayeredMatrix) (O : Origins) → IsLayering M A D L O →
    (S V : ℕ → ℕ → ℕ) (F G H : Tableau) (K : ℕ → Bool) (f : ℕ) → KeepsEquations p L O S F K →
    IsJoining p M A L O S G K f → HasTableau p L G →
    (s : ℕ) → s < places L → origin_of_row L O s ≡ f → (s < L.q_rows) ⊎ (A f ≡ false) →
    (at col : ℕ → ℕ) (k : ℕ) → IsShortest (row_leads p L G) (places L) (only s) (is_open p L G) at k →
    AreColumnsAlong p L G at col k → IsRowStage L G (route_back L at col k) 0 H →
    IsSameOutside p L O (with_one K f) S V → KeepsEquations p L O V H (with_one K f)

-- so where what is kept in the end is kept, and each other equation joined what was kept before it in vain, the loop
-- keeps the greedy choice
abbrev pub LoopsKeepTheGreedyChoice : Type 0
LoopsKeepTheGreedyChoice =
    (p : ℕ) → IsPrime p → 2 < p → (M : MixedMatrix) (A D : ℕ → Bool) (L : LayeredMatrix) (O : Origins) →
    IsLayering M A D L O → (before : ℕ → ℕ → Bool) → IsLine before → (X K : ℕ → Bool) → IsWithin M.rows K X →
    HaveRows M A D X →
    (S U : ℕ → ℕ → ℕ) (F : Tableau) → IsTableau p L S U F → KeepsEquations p L O S F K →
    ((e : ℕ) → e < M.rows → X e ≡ true → K e ≡ false →
    (T V : ℕ → ℕ → ℕ) × (G : Tableau) × (W : ℕ → Bool) × IsTableau p L T V G
    × IsJoining p M A L O T G (both K (earlier before X e)) e
    × AreRowsReachedInVain p L O G (with_one (both K (earlier before X e)) e) W) →
    IsGreedyChoice p M before X K

-- and by rising number the equations that are told, with the equation itself, are its conflict set
abbrev pub ToldEquationsAreTheConflictSet : Type 0
ToldEquationsAreTheConflictSet =
    (p : ℕ) → IsPrime p → 2 < p → (M : MixedMatrix) (A D : ℕ → Bool) (L : LayeredMatrix) (O : Origins) →
    IsLayering M A D L O → (B : ℕ → Bool) → IsGreedyChoice p M by_number everything B → HaveRows M A D everything →
    (f : ℕ) → f < M.rows → B f ≡ false →
    (S U : ℕ → ℕ → ℕ) (F : Tableau) → IsTableau p L S U F → IsJoining p M A L O S F B f →
    (W : ℕ → Bool) → AreRowsReachedInVain p L O F (with_one B f) W →
    (C : ℕ → Bool) → C f ≡ true → ((x : ℕ) → x < M.rows → B x ≡ false → x ≢ f → C x ≡ false) →
    TellsOf p D L O S B W (λ x. C x ≡ true) → IsConflictSet p M f C
