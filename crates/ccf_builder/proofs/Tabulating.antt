-- A list that tabulates a function, and one value more.
use Rattle.std.proofs.Common.{◌≡◌, ℕ, ◌+◌, ◌<◌, List, [], ◌∷◌, ◌++◌, length, get_or, slice_get, Some, inl, inr, refl, ap, sym, ◌∙◌, arith}
use Rattle.std.proofs.lemmas.List.{get_or_append_left, get_or_push, length_push}
use Rattle.std.proofs.lemmas.Option.{get_or_from_slice_get, slice_get-get_or}
use Rattle.residue_theory.proofs.SumLaws.{nat_cases}
use Rattle.ccf_builder.specs.Tabulations.{Tabulates}

module _ {A : Type 0} (f : ℕ → A) where
  pub tabulates-none : Tabulates f 0 []
  tabulates-none = record { count = refl; at = λ x low. absurd (omega (arith, low)) }

  pub tabulates-push : (n : ℕ) (list : List A) (value : A) → Tabulates f n list → value ≡ f n → Tabulates f (n + 1) (list ++ value ∷ [])
  tabulates-push n list value is new = record {
    count = let long : length (list ++ value ∷ []) ≡ length list + 1 = length_push list value in omega (arith, long, is.count);
    at = λ x low.
        let long : length (list ++ value ∷ []) ≡ length list + 1 = length_push list value in
        let some : slice_get (list ++ value ∷ []) x ≡ Some (get_or (list ++ value ∷ []) x value) =
        slice_get-get_or (list ++ value ∷ []) x value (omega (arith, long, is.count, low)) in
        elim (nat_cases x n) [
          | inl last ↦ some ∙ ap Some (get_or_push list value value x (is.count ∙ sym last) ∙ new ∙ ap f (sym last))
          | inr other ↦
              let before : x < n = omega (arith, low, other) in
              some ∙ ap Some (get_or_append_left list (value ∷ []) value x (omega (arith, is.count, before))
              ∙ get_or_from_slice_get list x (f x) value (is.at x before))
        ];
  }
