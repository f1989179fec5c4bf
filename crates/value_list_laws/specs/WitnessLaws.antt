-- Laws of witnesses: what numbers that reach the rank, and begin as the first list, tell of the next place.
use Rattle.std.specs.Prelude.{ℕ, ◌+◌, ◌*◌, ◌<◌, ◌⊎◌, ◌≡◌, ◌%◌, Bool, true, false}
use Rattle.residue_theory.specs.Residues.{IsPrime}
use Rattle.linear_algebra.specs.Parts.{with_entry}
use Rattle.linear_algebra.specs.Products.{IsInverse}
use Rattle.mixed_matrices.specs.Models.{MixedMatrix, value}
use Rattle.value_list_laws.specs.FixedSymbols.{HaveNumbersAt, IsSymbolPlace, KeepsRank, LowersRank, ReachesRank}
use Rattle.value_list_laws.specs.FixedSymbols.{fixed_at}
use Rattle.value_list_laws.specs.KeptInverses.{ShowsALowering}
use Rattle.value_list_laws.specs.Paths.{HasPath}
use Rattle.value_list_laws.specs.ValueLists.{IsFirstList, IsWitness, before}

-- a witness that has 1 at the next place shows that the first list has 1 there
abbrev pub OnesOfAWitnessAreOnes : Type 0
OnesOfAWitnessAreOnes =
    (p : ℕ) → IsPrime p → (M : MixedMatrix) (v : ℕ → ℕ → ℕ) → IsFirstList p M v → (i j : ℕ) → IsSymbolPlace M i j →
    (w : ℕ → ℕ → ℕ) → IsWitness p M v i j w → w i j % p ≡ 1 % p → v i j ≡ 1

-- and so do numbers that begin as the list and reach the rank once they are changed to 1 there
abbrev pub ChangedWitnessesShowAOne : Type 0
ChangedWitnessesShowAOne =
    (p : ℕ) → IsPrime p → (M : MixedMatrix) (v : ℕ → ℕ → ℕ) → IsFirstList p M v → (i j : ℕ) → IsSymbolPlace M i j →
    (w : ℕ → ℕ → ℕ) → HaveNumbersAt p M (before i j) v w → ReachesRank p M (with_entry w i j 1) → v i j ≡ 1

-- a witness that has 1 at all symbols from (i, j) up to (k, l) shows them all
abbrev pub RunsOfOnesAreOnes : Type 0
RunsOfOnesAreOnes =
    (p : ℕ) → IsPrime p → (M : MixedMatrix) (v : ℕ → ℕ → ℕ) → IsFirstList p M v → (i j k l : ℕ) →
    (w : ℕ → ℕ → ℕ) → IsWitness p M v i j w →
    ((a b : ℕ) → IsSymbolPlace M a b → before i j a b ≡ false → before k l a b ≡ true → w a b % p ≡ 1 % p) →
    (a b : ℕ) → IsSymbolPlace M a b → before i j a b ≡ false → before k l a b ≡ true → v a b ≡ 1

-- where the list has 2, each witness still reaches the rank once it is changed to 2 there
abbrev pub WitnessesGoOnWithTwo : Type 0
WitnessesGoOnWithTwo =
    (p : ℕ) → IsPrime p → (M : MixedMatrix) (v : ℕ → ℕ → ℕ) → IsFirstList p M v → (i j : ℕ) → IsSymbolPlace M i j →
    v i j ≡ 2 → (w : ℕ → ℕ → ℕ) → IsWitness p M v i j w → IsWitness p M v i j (with_entry w i j 2)

-- a kept inverse shows that 1 lowers the rank, whatever the other symbols are: no search over values is needed
abbrev pub KeptInversesShowALowering : Type 0
KeptInversesShowALowering =
    (p : ℕ) → IsPrime p → (M : MixedMatrix) → M.rows ≡ M.columns → (i j : ℕ) → IsSymbolPlace M i j →
    (w G : ℕ → ℕ → ℕ) (d : ℕ) (A : ℕ → Bool) → ShowsALowering p M w G i j d A → LowersRank p M (fixed_at i j 1 M)

-- and where a path leads back to the place through other symbols, 1 keeps the rank
abbrev pub PathsShowThatOneKeepsTheRank : Type 0
PathsShowThatOneKeepsTheRank =
    (p : ℕ) → IsPrime p → 2 < p → (M : MixedMatrix) → M.rows ≡ M.columns → (i j : ℕ) → IsSymbolPlace M i j →
    (w G : ℕ → ℕ → ℕ) → IsInverse p M.columns (value M w) G →
    (s : ℕ) → 0 < s → HasPath p M G i j s j → KeepsRank p M (fixed_at i j 1 M)

-- one or the other always comes: at a place where 1 makes M(w) singular there are such rows, or such a path
abbrev pub KeptInversesTellOfEachPlace : Type 0
KeptInversesTellOfEachPlace =
    (p : ℕ) → IsPrime p → (M : MixedMatrix) → M.rows ≡ M.columns → (i j : ℕ) → IsSymbolPlace M i j →
    (w G : ℕ → ℕ → ℕ) → IsInverse p M.columns (value M w) G →
    (d : ℕ) → (w i j + d) % p ≡ 1 % p → (1 + d * G j i) % p ≡ 0 →
    ((A : ℕ → Bool) × ShowsALowering p M w G i j d A) ⊎ ((s : ℕ) × (0 < s) × HasPath p M G i j s j)
