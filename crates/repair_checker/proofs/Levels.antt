-- The levels of a repair, as the tests of its costs tell them.
use Rattle.std.proofs.Common.{◌≡◌, ℕ, zero, suc, ◌+◌, ◌-◌, ◌<◌, ◌≤◌, Bool, true, false, ◌||◌, inl, inr, nat_eq, List, [], ◌∷◌, length, get_or}
use Rattle.std.proofs.Common.{refl, ap, sym, subst, ◌∙◌, arith, IsTrue}
use Rattle.std.proofs.lemmas.List.{get_or_default, length-map}
use Rattle.std.specs.List.{list_all, list_any}
use Rattle.residue_theory.proofs.SetLaws.{both_true, both-first, both-second, differ}
use Rattle.residue_theory.proofs.SumLaws.{nat_cases}
use Rattle.residue_theory.specs.Sets.{has}
use Rattle.mixed_model.specs.Models.{MixedModel}
use Rattle.repair_checker.specs.Costs.{AreLevels}
use Rattle.repair_checker.specs.Rules.{ShowsLevel, level_costs}
use Rattle.repair_checker.specs.declared.repair.Level.{Level}
use Rattle.repair_checker.specs.declared.repair.Repair.{Repair}

-- the first n levels show their ranks
abbrev pub ReachedSoFar : {F : Type 0} → ℕ → MixedModel → List ℕ → Repair F → ℕ → Type 0
ReachedSoFar {F} p model costs repair n = (k : ℕ) (d : Level F) → k < n →
    ShowsLevel p model costs repair.kept (get_or repair.levels k d)

-- ---- lists that pass a test
all-at : {X : Type 0} (P : X → Bool) (xs : List X) → list_all P xs ≡ true → (k : ℕ) (d : X) → k < length xs → P (get_or xs k d) ≡ true
all-at P [] pass k d kl = absurd (omega (arith, kl))
all-at P (x ∷ xs) pass zero d kl = both-first (P x) (list_all P xs) pass
all-at P (x ∷ xs) pass (suc k) d kl = all-at P xs (both-second (P x) (list_all P xs) pass) k d (omega (arith, kl))

all-of : {X : Type 0} (P : X → Bool) (xs : List X) → ((k : ℕ) (d : X) → k < length xs → P (get_or xs k d) ≡ true) → list_all P xs ≡ true
all-of P [] each = refl
all-of P (x ∷ xs) each = both_true (P x) (list_all P xs) (each zero x (omega arith)) (all-of P xs (λ k d kl. each (suc k) d (omega (arith, kl))))

module _ {F : Type 0} where
  cost-at : (levels : List (Level F)) (k : ℕ) (d : Level F) → k < length levels → get_or (level_costs levels) k 0 ≡ (get_or levels k d).cost
  cost-at [] k d kl = absurd (omega (arith, kl))
  cost-at (level ∷ levels) zero d kl = refl
  cost-at (level ∷ levels) (suc k) d kl = cost-at levels k d (omega (arith, kl))

  any-cost : (levels : List (Level F)) (cost : ℕ) → list_any (λ level. nat_eq level.cost cost) levels ≡ has (level_costs levels) cost
  any-cost [] cost = refl
  any-cost (level ∷ levels) cost = ap (λ b. nat_eq level.cost cost || b) (any-cost levels cost)

  abbrev pub Falls : List (Level F) → Type 0
  Falls levels = (k : ℕ) → k + 1 < length levels → get_or (level_costs levels) (k + 1) 0 < get_or (level_costs levels) k 0

  -- ---- falling
  -- the first n levels fall
  abbrev pub FallsBelow : List (Level F) → ℕ → Type 0
  FallsBelow levels n = (k : ℕ) → k + 1 < n → get_or (level_costs levels) (k + 1) 0 < get_or (level_costs levels) k 0

  pub falls-more : (levels : List (Level F)) (k : ℕ) → FallsBelow levels k → 0 < k → k < length levels → (d e : Level F) →
      (get_or levels k e).cost < (get_or levels (k - 1) d).cost → FallsBelow levels (k + 1)
  falls-more levels k falls some within d e less j jl = elim (nat_cases (j + 1) k) [
    | inl last ↦ at_last last
    | inr ne ↦ falls j (omega (arith, jl, ne))
  ]
    where
      at_last : j + 1 ≡ k → get_or (level_costs levels) (j + 1) 0 < get_or (level_costs levels) j 0
      at_last q =
          let before : j ≡ k - 1 = omega (arith, q) in
          let a : get_or (level_costs levels) (j + 1) 0 ≡ (get_or levels k e).cost =
          ap (λ i. get_or (level_costs levels) i 0) q ∙ cost-at levels k e within in
          let b : get_or (level_costs levels) j 0 ≡ (get_or levels (k - 1) d).cost =
          ap (λ i. get_or (level_costs levels) i 0) before ∙ cost-at levels (k - 1) d (omega (arith, some, within)) in
          omega (arith, a, b, less)

  pub falls-not : (levels : List (Level F)) (k : ℕ) → 0 < k → k < length levels → (d e : Level F) →
      (get_or levels (k - 1) d).cost ≤ (get_or levels k e).cost → Falls levels → ⊥
  falls-not levels k some within d e more falls =
      let back : k - 1 + 1 ≡ k = omega (arith, some) in
      let a : get_or (level_costs levels) (k - 1 + 1) 0 ≡ (get_or levels k e).cost =
      ap (λ i. get_or (level_costs levels) i 0) back ∙ cost-at levels k e within in
      let b : get_or (level_costs levels) (k - 1) 0 ≡ (get_or levels (k - 1) d).cost = cost-at levels (k - 1) d (omega (arith, some, within)) in
      omega (arith, a, b, more, falls (k - 1) (omega (arith, some, within)))

  -- ---- each cost is a level, and each level a cost
  module _ (costs : List ℕ) (levels : List (Level F)) (each some : Bool)
      (each-is : each ≡ list_all (λ cost. list_any (λ level. nat_eq level.cost cost) levels) costs)
      (some-is : some ≡ list_all (λ level. has costs level.cost) levels) where
    each-from : AreLevels costs (level_costs levels) → each ≡ true
    each-from are = each-is ∙ all-of (λ cost. list_any (λ level. nat_eq level.cost cost) levels) costs
        (λ k d kl. any-cost levels (get_or costs k d) ∙ filled k d kl)
      where
        filled : (k d : ℕ) → k < length costs → has (level_costs levels) (get_or costs k d) ≡ true
        filled k d kl = subst (λ x. has (level_costs levels) x ≡ true) (get_or_default costs k 0 d kl) (are.each k kl)

    some-from : AreLevels costs (level_costs levels) → some ≡ true
    some-from are = some-is ∙ all-of (λ level. has costs level.cost) levels
        (λ k d kl. subst (λ x. has costs x ≡ true) (cost-at levels k d kl) (are.some k (omega (arith, kl, length-map levels (λ level. level.cost)))))

    pub are-levels : Falls levels → each ≡ true → some ≡ true → AreLevels costs (level_costs levels)
    are-levels falls each_true some_true = record {
      falling = λ k kl. falls k (omega (arith, kl, length-map levels (λ level. level.cost)));
      each = λ e el. sym (any-cost levels (get_or costs e 0))
          ∙ all-at (λ cost. list_any (λ level. nat_eq level.cost cost) levels) costs (sym each-is ∙ each_true) e 0 el;
      some = λ k kl. some-at k (omega (arith, kl, length-map levels (λ level. level.cost)));
    }
      where
        some-at : (k : ℕ) → k < length levels → has costs (get_or (level_costs levels) k 0) ≡ true
        some-at k kl = at levels refl k kl
          where
            at : (ls : List (Level F)) → levels ≡ ls → (k : ℕ) → k < length levels → has costs (get_or (level_costs levels) k 0) ≡ true
            at [] is k kl = absurd (omega (arith, kl, ap length is))
            at (d ∷ ls) is k kl = subst (λ x. has costs x ≡ true) (sym (cost-at levels k d kl))
                (all-at (λ level. has costs level.cost) levels (sym some-is ∙ some_true) k d kl)

    -- one test after another
    pub tested : (falls : Bool) → (IsTrue falls → Falls levels) × (Falls levels → IsTrue falls) → falls ≡ true → each ≡ true →
        (IsTrue some → AreLevels costs (level_costs levels)) × (AreLevels costs (level_costs levels) → IsTrue some)
    tested falls told falls_true each_true = ((λ t. are-levels (told.0 falls_true) each_true t), some-from)

    pub refuted : (falls value : Bool) → (IsTrue falls → Falls levels) × (Falls levels → IsTrue falls) → value ≡ false → (each ≡ true → falls ≡ true → ⊥) →
        (IsTrue value → AreLevels costs (level_costs levels)) × (AreLevels costs (level_costs levels) → IsTrue value)
    refuted falls value told value_false broken = (
      (λ t. absurd (differ value_false t)),
      (λ are. absurd (broken (each-from are)
          (told.1 (λ k kl. are.falling k (omega (arith, kl, length-map levels (λ level. level.cost))))))),
    )
