-- The laws of residues.
use Rattle.std.specs.Prelude.{ℕ, ◌*◌, ◌%◌, ◌≡◌, ◌≢◌, ◌⊎◌}
use Rattle.residue_theory.specs.Residues.{IsPrime}

-- modulo a prime, each number that is not zero has an inverse
abbrev pub EachNonZeroHasAnInverse : Type 0
EachNonZeroHasAnInverse = (p : ℕ) → IsPrime p → (x : ℕ) → x % p ≢ 0 → (y : ℕ) × ((x * y) % p ≡ 1)

-- modulo a prime, a product is zero only where a factor is
abbrev pub ProductVanishesOnlyByAFactor : Type 0
ProductVanishesOnlyByAFactor =
    (p : ℕ) → IsPrime p → (x y : ℕ) → (x * y) % p ≡ 0 → (x % p ≡ 0) ⊎ (y % p ≡ 0)
