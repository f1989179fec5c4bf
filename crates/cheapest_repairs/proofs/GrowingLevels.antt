-- A list of levels that grows by one.
use Rattle.std.proofs.Common.{◌≡◌, ℕ, ◌+◌, ◌<◌, List, [], ◌∷◌, ◌++◌, length, get_or, take, inl, inr, ap, ap₂, sym, subst, ◌∙◌, arith}
use Rattle.std.proofs.lemmas.List.{get_or_default, map-append, take_more}
use Rattle.std.proofs.lemmas.List.Elements.{All-push}
use Rattle.std.specs.List.{All}
use Rattle.residue_theory.proofs.SumLaws.{nat_cases}
use Rattle.repair_checker.specs.Rules.{level_costs}
use Rattle.repair_checker.specs.declared.repair.Level.{Level}

module _ {F : Type 0} (levels now : List (Level F)) (level : Level F) (pushed : now ≡ levels ++ level ∷ []) where
  pub costs-more : (costs : List ℕ) (k : ℕ) → k < length costs → level_costs levels ≡ take k costs → level.cost ≡ get_or costs k 0 →
      level_costs now ≡ take (k + 1) costs
  costs-more costs k kl so_far is = ap level_costs pushed ∙ map-append (λ (one : Level F). one.cost) levels (level ∷ [])
      ∙ ap₂ (λ (xs : List ℕ) cost. xs ++ cost ∷ []) so_far is ∙ sym (take_more costs k 0 kl)

  pub all-more : (P : Level F → Type 0) → All P levels → P level → All P now
  all-more P all one = subst (All P) (sym pushed) (All-push P levels level all one)

-- what holds of the first i levels, and of the next one, holds of one more
pub each-more : {F : Type 0} (P : Level F → Type 0) (levels : List (Level F)) (i : ℕ) (item : Level F) → i < length levels →
    item ≡ get_or levels i item → P item → ((k : ℕ) (d : Level F) → k < i → P (get_or levels k d)) →
    (k : ℕ) (d : Level F) → k < i + 1 → P (get_or levels k d)
each-more P levels i item il is here before k d kl = elim (nat_cases k i) [
  | inl same ↦ subst P (sym (ap (λ j. get_or levels j d) same ∙ get_or_default levels i d item il ∙ sym is)) here
  | inr other ↦ before k d (omega (arith, kl, other))
]
