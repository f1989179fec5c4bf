-- The column of the least weight so far, at one column after another.
use Rattle.std.proofs.Common.{◌≡◌, ℕ, ◌+◌, ◌<◌, Bool, true, false, List, Option, Some, None, IfNone, slice_index, inl, inr, sym, subst, ◌∙◌, arith}
use Rattle.residue_theory.proofs.SetLaws.{differ}
use Rattle.residue_theory.proofs.SumLaws.{nat_cases}

pub none-yet : (best : Option ℕ) (row : List ℕ) (n : ℕ) → slice_index row n ≡ 0 →
    IfNone best ((j : ℕ) → j < n → slice_index row j ≡ 0) → IfNone best ((j : ℕ) → j < n + 1 → slice_index row j ≡ 0)
none-yet best row n z before = go best before
  where
    more : ((j : ℕ) → j < n → slice_index row j ≡ 0) → (j : ℕ) → j < n + 1 → slice_index row j ≡ 0
    more so j l = elim (nat_cases j n) [
      | inl q ↦ subst (λ k. slice_index row k ≡ 0) (sym q) z
      | inr ne ↦ so j (omega (arith, l, ne))
    ]

    go : (b : Option ℕ) → IfNone b ((j : ℕ) → j < n → slice_index row j ≡ 0) → IfNone b ((j : ℕ) → j < n + 1 → slice_index row j ≡ 0)
    go None so = more so
    go (Some b) so = tt

-- a column is lighter than none
pub not-lighter : (best : Option ℕ) (t : Bool) (P : Type 0) → IfNone best (t ≡ true) → t ≡ false → IfNone best P
not-lighter None t P lighter e = absurd (differ e lighter)
not-lighter (Some b) t P lighter e = tt
