-- Rows of a pattern, printed one after the other.
use Rattle.std.proofs.Common.{◌≡◌, ℕ, ◌+◌, ◌<◌, Bool, List, [], ◌∷◌, ◌++◌, length, get_or, inl, inr, ap, sym, ◌∙◌, arith}
use Rattle.std.specs.List.Sorted.{IsStrictlyIncreasing}
use Rattle.std.proofs.lemmas.List.{get_or_append_left, get_or_push, length_push}
use Rattle.std.proofs.lemmas.List.Elements.{All-append, All-from_get_or}
use Rattle.residue_theory.proofs.SumLaws.{nat_cases}
use Rattle.residue_theory.specs.Sets.{has}
use Rattle.sparse_t.specs.Lists.{AreAllBelow}
use Rattle.cert_text.specs.Ranges.{AreRising}
use Rattle.cert_checker.proofs.PrintedRows.{all-one}
use Rattle.ccf_builder.specs.Matrices.{PrintsPattern}

-- the next row of a pattern
pub pattern-push : (m n : ℕ) (pattern : ℕ → ℕ → Bool) (rows : List (List ℕ)) (row : List ℕ) → PrintsPattern m n pattern rows →
    IsStrictlyIncreasing row → AreAllBelow n row → ((j : ℕ) → j < n → has row j ≡ pattern m j) → PrintsPattern (m + 1) n pattern (rows ++ row ∷ [])
pattern-push m n pattern rows row prints rising below next = record {
  is = record {
    count = let long : length (rows ++ row ∷ []) ≡ length rows + 1 = length_push rows row in omega (arith, long, prints.is.count);
    columns = All-append (AreRising n) rows (row ∷ []) prints.is.columns
        (all-one (AreRising n) row (record {
          rising = rising;
          below = All-from_get_or (λ x. x < n) row 0
              (λ k kl. below k kl);
        }));
  };
  same = λ i j il jl. elim (nat_cases i m) [
    | inl last ↦
        let at : get_or (rows ++ row ∷ []) i [] ≡ row = get_or_push rows row [] i (prints.is.count ∙ sym last) in
        ap (λ list. has list j) at ∙ next j jl ∙ ap (λ r. pattern r j) (sym last)
    | inr other ↦
        let before : i < m = omega (arith, il, other) in
        let at : get_or (rows ++ row ∷ []) i [] ≡ get_or rows i [] = get_or_append_left rows (row ∷ []) [] i (omega (arith, before, prints.is.count)) in
        ap (λ list. has list j) at ∙ prints.same i j before jl
  ];
}
