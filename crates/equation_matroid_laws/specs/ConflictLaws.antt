-- Laws of conflict sets: each is a circuit, that of its equation in a greedy choice by rising number.
use Rattle.std.specs.Prelude.{ℕ, ◌+◌, ◌<◌, ◌≡◌, ◌↔◌, Bool, true, false}
use Rattle.residue_theory.specs.Residues.{IsPrime}
use Rattle.residue_theory.specs.Sets.{IsWithin, everything, without}
use Rattle.residue_theory.specs.Sums.{size_on}
use Rattle.mixed_matrices.specs.Models.{MixedMatrix}
use Rattle.mixed_matrices.specs.Removals.{IsSurplus}
use Rattle.equation_matroid_laws.specs.Conflicts.{IsCircuitOf, IsConflictSet, IsInCircuit, IsSurplusAmong}
use Rattle.equation_matroid_laws.specs.EquationRanks.{AreIndependent, IsRankOf}
use Rattle.equation_matroid_laws.specs.GreedyChoices.{IsGreedyChoice, IsRepair, by_number}

-- an equation is surplus among all exactly where it is surplus in the model
abbrev pub SurplusAmongAllIsSurplus : Type 0
SurplusAmongAllIsSurplus =
    (p : ℕ) → IsPrime p → (M : MixedMatrix) (e : ℕ) → e < M.rows → IsSurplusAmong p M everything e ↔ IsSurplus p M e

-- a surplus equation has a conflict set, and only one
abbrev pub EachSurplusEquationHasOneConflictSet : Type 0
EachSurplusEquationHasOneConflictSet =
    (p : ℕ) → IsPrime p → 2 < p → (M : MixedMatrix) (e : ℕ) → e < M.rows → IsSurplusAmong p M everything e →
    (C : ℕ → Bool) × IsConflictSet p M e C
    × ((D : ℕ → Bool) → IsConflictSet p M e D → (x : ℕ) → x < M.rows → D x ≡ C x)

-- the conflict set of a surplus equation is its circuit in the greedy choice, by rising number, from the others: this,
-- and no other set
abbrev pub ConflictSetsAreCircuits : Type 0
ConflictSetsAreCircuits =
    (p : ℕ) → IsPrime p → 2 < p → (M : MixedMatrix) (e : ℕ) → e < M.rows → IsSurplusAmong p M everything e →
    (B C : ℕ → Bool) → IsGreedyChoice p M by_number (without everything e) B →
    IsConflictSet p M e C ↔ IsCircuitOf p M B e C

-- R of a conflict set is one less than its number, and each part of it that lacks a member is independent
abbrev pub ConflictSetsAreMinimal : Type 0
ConflictSetsAreMinimal =
    (p : ℕ) → IsPrime p → 2 < p → (M : MixedMatrix) (e : ℕ) → e < M.rows → IsSurplusAmong p M everything e →
    (C : ℕ → Bool) → IsConflictSet p M e C →
    ((r : ℕ) → IsRankOf p M C r → r + 1 ≡ size_on C M.rows)
    × ((D : ℕ → Bool) (x : ℕ) → IsWithin M.rows D C → x < M.rows → C x ≡ true → D x ≡ false → AreIndependent p M D)

-- so each repair takes an equation of each conflict set
abbrev pub EachRepairMeetsEachConflictSet : Type 0
EachRepairMeetsEachConflictSet =
    (p : ℕ) → IsPrime p → 2 < p → (M : MixedMatrix) (e : ℕ) → e < M.rows → IsSurplusAmong p M everything e →
    (C D : ℕ → Bool) → IsConflictSet p M e C → IsRepair p M D →
    (x : ℕ) × (x < M.rows) × (C x ≡ true) × (D x ≡ true)

-- one greedy choice from all equations serves them all: it tells the conflict set of an equation that it does not hold
abbrev pub ConflictSetsOfTheOthers : Type 0
ConflictSetsOfTheOthers =
    (p : ℕ) → IsPrime p → 2 < p → (M : MixedMatrix) (B : ℕ → Bool) → IsGreedyChoice p M by_number everything B →
    (e : ℕ) → e < M.rows → B e ≡ false →
    IsSurplusAmong p M everything e
    × ((C : ℕ → Bool) → IsConflictSet p M e C ↔ IsCircuitOf p M B e C)

-- and that of a surplus equation e that it holds is the circuit of the first equation f outside whose circuit holds e
abbrev pub ConflictSetsOfTheChosen : Type 0
ConflictSetsOfTheChosen =
    (p : ℕ) → IsPrime p → 2 < p → (M : MixedMatrix) (B : ℕ → Bool) → IsGreedyChoice p M by_number everything B →
    (e : ℕ) → e < M.rows → B e ≡ true → IsSurplusAmong p M everything e →
    (f : ℕ) × (f < M.rows) × (B f ≡ false) × IsInCircuit p M B f e
    × ((g : ℕ) → g < f → B g ≡ false → IsInCircuit p M B g e → ⊥)
    × ((C : ℕ → Bool) → IsConflictSet p M e C ↔ IsCircuitOf p M B f C)
