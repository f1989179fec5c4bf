-- What a kept inverse of M(w) shows of a place at which 1 makes M(w) singular.
use Rattle.std.specs.Prelude.{ℕ, ◌+◌, ◌*◌, ◌%◌, ◌<◌, ◌≡◌, Bool, true, false}
use Rattle.linear_algebra.specs.Products.{IsInverse}
use Rattle.mixed_matrices.specs.Models.{MixedMatrix, value}
use Rattle.value_list_laws.specs.FixedSymbols.{IsSymbolPlace, place}

-- G is the inverse of M(w), and M(w) is singular once d is added at (i, j), so that 1 stands there. The rows of A hold
-- each row with a symbol, other than the one at (i, j), from whose column G leads to row i or to a row of A; G leads to
-- no row of A from column j.
pub record ShowsALowering (p : ℕ) (M : MixedMatrix) (w G : ℕ → ℕ → ℕ) (i j d : ℕ) (A : ℕ → Bool) : Type 0 where
  pub inverse : IsInverse p M.columns (value M w) G
  pub change : (w i j + d) % p ≡ 1 % p
  pub singular : (1 + d * G j i) % p ≡ 0
  pub outside : A i ≡ false
  pub apart : (c : ℕ) → c < M.columns → A c ≡ true → G j c % p ≡ 0
  pub none : (a b : ℕ) → IsSymbolPlace M a b → A a ≡ false → place i j a b ≡ false → G b i % p ≡ 0
  pub closed : (a b : ℕ) → IsSymbolPlace M a b → A a ≡ false → place i j a b ≡ false →
      (c : ℕ) → c < M.columns → A c ≡ true → G b c % p ≡ 0
