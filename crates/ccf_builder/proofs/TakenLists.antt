-- Items that are taken out of a list, one after the other.
use Rattle.std.proofs.Common.{◌≡◌, ◌≢◌, ℕ, ◌+◌, ◌≤◌, List, ◌++◌, length, take, slice_index_or, ap, sym, ◌∙◌, subst, arith}
use Rattle.std.proofs.lemmas.List.{take_at}

-- from k on the items are as they were; item k is taken out of `before`, which is `items`
module _ (A : Type 0) (was items before after : List A) (same : before ≡ items) (k : ℕ)
    (left : (j : ℕ) (d : A) → k ≤ j → slice_index_or items j d ≡ slice_index_or was j d) where
  pub taken-item : (d : A) → slice_index_or before k d ≡ slice_index_or was k d
  taken-item d = ap (λ (xs : List A). slice_index_or xs k d) same ∙ left k d (omega arith)

  pub left-after : (n : ℕ) (rest : List A) → length after ≡ n → ((j : ℕ) (d : A) → j ≢ k → slice_index_or after j d ≡ slice_index_or before j d) →
      (j : ℕ) (d : A) → k + 1 ≤ j → slice_index_or (take n (after ++ rest)) j d ≡ slice_index_or was j d
  left-after n rest long others j d above =
      subst (λ xs. slice_index_or xs j d ≡ slice_index_or was j d) (sym (take_at after rest n long))
      (others j d (λ e. absurd (omega (arith, above, e)))
      ∙ ap (λ (xs : List A). slice_index_or xs j d) same
      ∙ left j d (omega (arith, above)))
