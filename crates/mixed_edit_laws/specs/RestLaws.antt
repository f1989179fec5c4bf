-- Laws of layerings that lose an equation.
use Rattle.std.specs.Prelude.{ℕ, ◌+◌, ◌-◌, ◌<◌, ◌≤◌, ◌≡◌, ◌&&◌, Bool, true, false}
use Rattle.residue_theory.specs.Sums.{size_on}
use Rattle.residue_theory.specs.Residues.{IsPrime}
use Rattle.mixed_matrices.specs.LayeredMatrices.{AreSameLayers, LayeredMatrix}
use Rattle.mixed_matrices.specs.StructuralRanks.{IsLayeredRank}
use Rattle.mixed_matrices.specs.Layerings.{AreMembers, IsLayering, Origins}
use Rattle.mixed_matrices.specs.Models.{MixedMatrix}
use Rattle.mixed_matrices.specs.Removals.{without_equation, without_unknown}
use Rattle.mixed_edit_laws.specs.Removed.{IsEmptyColumnOut, IsQRowOut, IsTRowOut}
use Rattle.mixed_edit_laws.specs.Rests.{auxiliary_place, column_rest, listed_without, one, q_rest, rest, rest_origins, set_without, t_rest}

abbrev pub MembersAreLeft : Type 0
MembersAreLeft =
    (A : ℕ → Bool) (n m e : ℕ) (at : ℕ → ℕ) → AreMembers A n at m → e < n →
    AreMembers (set_without e A) (n - 1) (listed_without e A at) (m - one (A e))

abbrev pub LayeringsLeaveAnEquation : Type 0
LayeringsLeaveAnEquation =
    (M : MixedMatrix) (A D : ℕ → Bool) (L : LayeredMatrix) (O : Origins) (e : ℕ) → IsLayering M A D L O →
    e < M.rows →
    IsLayering (without_equation e M) (set_without e A) (set_without e D) (rest M A D e L) (rest_origins A D e O)

-- the rows go, and then the auxiliary column, which is empty
abbrev pub RestsAreEdits : Type 0
RestsAreEdits =
    (p : ℕ) (M : MixedMatrix) (A D : ℕ → Bool) (L : LayeredMatrix) (O : Origins) (e : ℕ) →
    IsLayering M A D L O → e < M.rows →
    (A e ≡ true → IsQRowOut p L (q_rest A e L) (size_on A e))
    × (D e ≡ true → IsTRowOut p (q_rest A e L) (t_rest D e (q_rest A e L)) (size_on D e))
    × (A e && D e ≡ true →
    IsEmptyColumnOut p (t_rest D e (q_rest A e L)) (rest M A D e L) (auxiliary_place M A D e))

abbrev pub LayeringsAreTheSame : Type 0
LayeringsAreTheSame =
    (p : ℕ) (M : MixedMatrix) (A D : ℕ → Bool) (L K : LayeredMatrix) (O P : Origins) → IsLayering M A D L O →
    IsLayering M A D K P → AreSameLayers p L K

-- an unknown that is the last one, and has no entry, may go
abbrev pub LayeringsLeaveAnEmptyUnknown : Type 0
LayeringsLeaveAnEmptyUnknown =
    (p : ℕ) (M : MixedMatrix) (A D : ℕ → Bool) (L : LayeredMatrix) (O : Origins) (u : ℕ) → IsLayering M A D L O →
    M.columns ≡ u + 1 → ((i : ℕ) → i < M.rows → M.constant i u ≡ 0) → ((i : ℕ) → i < M.rows → M.symbol i u ≡ false) →
    IsLayering (without_unknown u M) A D (column_rest true u L) O × IsEmptyColumnOut p L (column_rest true u L) u

-- without the rows and the auxiliary column of an equation the structural rank is no greater, and at most 2 less
abbrev pub RestsAreNear : Type 0
RestsAreNear =
    (p : ℕ) → IsPrime p → (M : MixedMatrix) (A D : ℕ → Bool) (L : LayeredMatrix) (O : Origins) (e r s : ℕ) →
    IsLayering M A D L O → e < M.rows → IsLayeredRank p L r → IsLayeredRank p (rest M A D e L) s →
    (s ≤ r) × (r ≤ s + 2)
