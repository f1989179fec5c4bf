-- Rows of the unit matrix.
use Rattle.std.proofs.Common.{◌≡◌, ℕ, ◌<◌, [], ◌∷◌, refl, sym, subst, arith}
use Rattle.linear_algebra.specs.Products.{identity}
use Rattle.cert_text.specs.Contents.{numbered}
use Rattle.cert_text.specs.Printing.{PrintsRow}
use Rattle.cert_checker.proofs.PrintedRows.{all-one}

-- a row of the unit matrix
unit-row : (p n i : ℕ) → 1 < p → i < n → PrintsRow p n (identity i) ((i, 1) ∷ [])
unit-row p n i big low = record {
  are = record {
    rising = λ k kl. absurd (omega (arith, kl));
    within = all-one (λ (entry : ℕ × ℕ). (entry.0 < n) × (0 < entry.1) × (entry.1 < p)) (i, 1) (low, omega arith, big);
  };
  same = λ j jl. refl;
}

-- and of one whose entries are seen by their numbers
pub unit-entry : {T : Type 0} (number : T → ℕ) (p n i : ℕ) (one : T) → 1 < p → i < n → number one ≡ 1 →
    PrintsRow p n (identity i) (numbered number ((i, one) ∷ []))
unit-entry number p n i one big low is = subst (λ v. PrintsRow p n (identity i) ((i, v) ∷ [])) (sym is) (unit-row p n i big low)
