-- Sets of numbers that are marked or listed.
use Rattle.std.specs.Prelude.{ℕ, ◌<◌, ◌≡◌, ◌↔◌, ◌⊎◌, Bool, List, length, slice_index, true}
use Rattle.std.specs.List.Sorted.{IsStrictlyIncreasing}
use Rattle.residue_theory.specs.Sets.{has}
use Rattle.part_rules.specs.Listed.{marked}

-- some number below n stands to x as P says
abbrev pub OfSome : ℕ → (ℕ → ℕ → Type 0) → ℕ → Type 0
OfSome n P x = (k : ℕ) × (k < n) × P k x

-- x is an item of the list
abbrev pub IsItem : List ℕ → ℕ → Type 0
IsItem list x = OfSome (length list) (λ k y. slice_index list k ≡ y) x

-- the numbers of A are marked now, beside what was marked
pub record Marks (A : ℕ → Type 0) (old now : List Bool) : Type 0 where
  pub count : length now ≡ length old
  pub tells : (x : ℕ) → (marked now x ≡ true) ↔ ((marked old x ≡ true) ⊎ A x)

-- the numbers of A are marked no more
pub record Unmarks (A : ℕ → Type 0) (old now : List Bool) : Type 0 where
  pub count : length now ≡ length old
  pub tells : (x : ℕ) → (marked now x ≡ true) ↔ ((marked old x ≡ true) × (A x → ⊥))

-- of n numbers those of A are marked
pub record AreMarksOf (n : ℕ) (A : ℕ → Type 0) (marks : List Bool) : Type 0 where
  pub count : length marks ≡ n
  pub tells : (x : ℕ) → (marked marks x ≡ true) ↔ A x

-- the list holds, rising, exactly the numbers of A below n
pub record AreMembersOf (n : ℕ) (A : ℕ → Type 0) (list : List ℕ) : Type 0 where
  pub rising : IsStrictlyIncreasing list
  pub exact : (i : ℕ) → (has list i ≡ true) ↔ ((i < n) × A i)
