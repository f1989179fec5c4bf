-- Sums of costs by their levels: a set with at least as many members at each level costs at least as much.
use Rattle.std.proofs.Common.{◌≡◌, ℕ, zero, suc, ◌+◌, ◌<◌, ◌≤◌, ◌≢◌, Bool, true, false, cond, ◌&&◌, ◌||◌, not, eqb, leb}
use Rattle.std.proofs.Common.{ltb, ◌⊎◌, inl, inr, refl, ap, sym, subst, arith}
use Rattle.std.proofs.lemmas.Bool.Decides.{nat_tests}
use Rattle.std.proofs.Math.Nat.{zero-add}
use Rattle.residue_theory.proofs.CountLaws.{size-either}
use Rattle.residue_theory.proofs.SetLaws.{both_true, both-first, both-second, differ, either-first, either-second}
use Rattle.residue_theory.proofs.SetLaws.{either_cases, lt_cases, not_true}
use Rattle.residue_theory.proofs.SumLaws.{nat_cases, size_on-within, sum_on-ext}
use Rattle.residue_theory.specs.Sets.{IsApart, both, either, everything}
use Rattle.residue_theory.specs.Sums.{size_on, sum_on}
use Rattle.equation_matroid_laws.specs.GreedyChoices.{IsLine, by_cost, costing, outside}

-- ---- the order by falling cost is a line
pub cost-line : (cost : ℕ → ℕ) → IsLine (by_cost cost)
cost-line cost = record {
  irreflexive = λ e. never (cost e) e;
  transitive = λ c d e. through (cost c) (cost d) (cost e) c d e;
  total = λ d e. one_first (cost d) (cost e) d e;
}
  where
    never : (x e : ℕ) → ltb x x || (eqb x x && ltb e e) ≡ false
    never x e = grind (arith, nat_tests)

    through : (x y z c d e : ℕ) → ltb y x || (eqb y x && ltb c d) ≡ true → ltb z y || (eqb z y && ltb d e) ≡ true → ltb z x || (eqb z x && ltb c e) ≡ true
    through x y z c d e h k = grind (arith, nat_tests)

    one_first : (x y d e : ℕ) → d ≢ e → (ltb y x || (eqb y x && ltb d e) ≡ true) ⊎ (ltb x y || (eqb x y && ltb e d) ≡ true)
    one_first x y d e ne = elim (lt_cases y x) [
      | inl l ↦ inl (grind (arith, nat_tests))
      | inr ge ↦ elim (lt_cases x y) [
        | inl l ↦ inr (grind (arith, nat_tests))
        | inr le ↦ elim (lt_cases d e) [
          | inl l ↦ inl (let q : y ≡ x = omega arith in grind (arith, nat_tests))
          | inr more ↦ inr (let q : x ≡ y = omega arith in let l : e < d = omega arith in grind (arith, nat_tests))
        ]
      ]
    ]

pub number-line : IsLine (λ d e. ltb d e)
number-line = record {
  irreflexive = λ e. grind (arith, nat_tests);
  transitive = λ c d e. through c d e;
  total = λ d e ne. elim (lt_cases d e) [ inl l ↦ inl (grind (arith, nat_tests)) | inr more ↦ inr (let l : e < d = omega arith in grind (arith, nat_tests)) ];
}
  where
    through : (c d e : ℕ) → ltb c d ≡ true → ltb d e ≡ true → ltb c e ≡ true
    through c d e h k = grind (arith, nat_tests)

-- the equations of a level come first
pub before-costs : (cost : ℕ → ℕ) (c d e : ℕ) → by_cost cost d e ≡ true → costing cost c e ≡ true → costing cost c d ≡ true
before-costs cost c d e h k = at (cost d) (cost e) h k
  where
    at : (x y : ℕ) → ltb y x || (eqb y x && ltb d e) ≡ true → leb c y ≡ true → leb c x ≡ true
    at x y h k = grind (arith, nat_tests)

-- ---- sums by levels
-- a number, up to k, is as many as the levels below k that it is above
capped : ℕ → ℕ → ℕ
capped k x = cond (leb x k) x k

module _ (n : ℕ) (cost : ℕ → ℕ) (A B : ℕ → Bool)
    (levels : (c : ℕ) → size_on (both A (costing cost c)) n ≤ size_on (both B (costing cost c)) n) where
  one_level : (X : ℕ → Bool) (m k : ℕ) → sum_on X m (λ j. capped (suc k) (cost j)) ≡
      sum_on X m (λ j. capped k (cost j)) + size_on (both X (costing cost (suc k))) m
  unfolding capped
  one_level X zero k = refl
  one_level X (suc m) k = omega (arith, one_level X m k, one (X m) (cost m))
    where
      one : (b : Bool) (x : ℕ) → cond b (cond (leb x (suc k)) x (suc k)) 0 ≡ cond b (cond (leb x k) x k) 0 + cond (b && leb (suc k) x) 1 0
      one b x = grind (arith, nat_tests)

  no_level : (X : ℕ → Bool) (m : ℕ) → sum_on X m (λ j. capped zero (cost j)) ≡ 0
  unfolding capped
  no_level X zero = refl
  no_level X (suc m) = omega (arith, no_level X m, one (X m) (cost m))
    where
      one : (b : Bool) (x : ℕ) → cond b (cond (leb x zero) x zero) 0 ≡ 0
      one b x = grind (arith, nat_tests)

  capped-most : (k : ℕ) → sum_on A n (λ j. capped k (cost j)) ≤ sum_on B n (λ j. capped k (cost j))
  capped-most zero = omega (arith, no_level A n, no_level B n)
  capped-most (suc k) = omega (arith, capped-most k, one_level A n k, one_level B n k, levels (suc k))

-- all costs below n are within a bound
bound : (n : ℕ) (cost : ℕ → ℕ) → (k : ℕ) × ((j : ℕ) → j < n → cost j ≤ k)
bound zero cost = (0, λ j l. absurd (omega arith))
bound (suc n) cost = go (bound n cost)
  where
    go : (k : ℕ) × ((j : ℕ) → j < n → cost j ≤ k) → (k : ℕ) × ((j : ℕ) → j < suc n → cost j ≤ k)
    go (k, all) = (
      k + cost n,
      λ j l. elim (nat_cases j n) [
        | inl q ↦ subst (λ i. cost i ≤ k + cost n) (sym q) (omega arith)
        | inr ne ↦ omega (arith, all j (omega arith))
      ],
    )

uncapped : (X : ℕ → Bool) (n : ℕ) (cost : ℕ → ℕ) (k : ℕ) → ((j : ℕ) → j < n → cost j ≤ k) → sum_on X n (λ j. capped k (cost j)) ≡ sum_on X n cost
unfolding capped
uncapped X n cost k all = sum_on-ext X n (λ j. cond (leb (cost j) k) (cost j) k) cost (λ j l _. one (cost j) (all j l))
  where
    one : (x : ℕ) → x ≤ k → cond (leb x k) x k ≡ x
    one x le = grind (arith, nat_tests)

pub levels-sum : (n : ℕ) (cost : ℕ → ℕ) (A B : ℕ → Bool) →
    ((c : ℕ) → size_on (both A (costing cost c)) n ≤ size_on (both B (costing cost c)) n) → sum_on A n cost ≤ sum_on B n cost
levels-sum n cost A B levels = go (bound n cost)
  where
    go : (k : ℕ) × ((j : ℕ) → j < n → cost j ≤ k) → sum_on A n cost ≤ sum_on B n cost
    go (k, all) = omega (arith, capped-most n cost A B levels k, uncapped A n cost k all, uncapped B n cost k all)

-- of the numbers below k with a mark, the least cost from c on
abbrev marked : (ℕ → ℕ) → (ℕ → Bool) → ℕ → ℕ → Bool
marked cost B c j = costing cost c j && not (B j)

abbrev Least : (ℕ → ℕ) → (ℕ → Bool) → ℕ → ℕ → Type 0
Least cost B c k = (e : ℕ) × (e < k) × (marked cost B c e ≡ true) × ((j : ℕ) → j < k → marked cost B c j ≡ true → cost e ≤ cost j)

least_of : (cost : ℕ → ℕ) (B : ℕ → Bool) (c k : ℕ) → ((j : ℕ) → j < k → marked cost B c j ≡ false) ⊎ Least cost B c k
least_of cost B c zero = inl (λ j l. absurd (omega arith))
least_of cost B c (suc k) = go (marked cost B c k) refl (least_of cost B c k)
  where
    go : (b : Bool) → marked cost B c k ≡ b → ((j : ℕ) → j < k → marked cost B c j ≡ false) ⊎ Least cost B c k →
        ((j : ℕ) → j < suc k → marked cost B c j ≡ false) ⊎ Least cost B c (suc k)
    go false e (inl none) = inl (λ j l. elim (nat_cases j k) [
      | inl q ↦ subst (λ i. marked cost B c i ≡ false) (sym q) e
      | inr ne ↦ none j (omega arith)
    ])
    go false e (inr (f, l, h, least)) = inr (
      f,
      omega arith,
      h,
      λ j jl jh. elim (nat_cases j k) [
        | inl q ↦ absurd (differ e (subst (λ i. marked cost B c i ≡ true) q jh))
        | inr ne ↦ least j (omega arith) jh
      ],
    )
    go true e (inl none) = inr (
      k,
      omega arith,
      e,
      λ j jl jh. elim (nat_cases j k) [
        | inl q ↦ subst (λ i. cost k ≤ cost i) (sym q) (omega arith)
        | inr ne ↦ absurd (differ (none j (omega arith)) jh)
      ],
    )
    go true e (inr (f, l, h, least)) = elim (lt_cases (cost k) (cost f)) [
      | inl less ↦ inr (
        k,
        omega arith,
        e,
        λ j jl jh. elim (nat_cases j k) [
          | inl q ↦ subst (λ i. cost k ≤ cost i) (sym q) (omega arith)
          | inr ne ↦ omega (arith, least j (omega arith) jh)
        ],
      )
      | inr more ↦ inr (
        f,
        omega arith,
        h,
        λ j jl jh. elim (nat_cases j k) [
          | inl q ↦ subst (λ i. cost f ≤ cost i) (sym q) more
          | inr ne ↦ least j (omega arith) jh
        ],
      )
    ]

at_least : (c x y : ℕ) → leb c x ≡ true → x ≤ y → leb c y ≡ true
at_least c x y h le = grind (arith, nat_tests)

level_from : (x y : ℕ) → x ≤ y → leb x y ≡ true
level_from x y le = grind (arith, nat_tests)

level_to : (x y : ℕ) → leb x y ≡ true → x ≤ y
level_to x y h = grind (arith, nat_tests)

-- it is enough to look at the costs of what is outside B
module _ (n : ℕ) (cost : ℕ → ℕ) (A B : ℕ → Bool)
    (levels : (e : ℕ) → e < n → B e ≡ false → size_on (both A (costing cost (cost e))) n ≤ size_on (both B (costing cost (cost e))) n) where
  module _ (c e : ℕ) (el : e < n) (high : costing cost c e ≡ true) (out : B e ≡ false)
      (least : (j : ℕ) → j < n → marked cost B c j ≡ true → cost e ≤ cost j) where
    -- between the two costs all are in B
    abbrev band : ℕ → Bool
    band j = costing cost c j && not (costing cost (cost e) j)

    band-held : (j : ℕ) → j < n → band j ≡ true → B j ≡ true
    band-held j jl h = at (B j) refl
      where
        lower : not (costing cost (cost e) j) ≡ true
        lower = both-second (costing cost c j) (not (costing cost (cost e) j)) h

        at : (b : Bool) → B j ≡ b → B j ≡ true
        at true k = k
        at false k = absurd (differ (negated (costing cost (cost e) j) lower) (level_from (cost e) (cost j)
            (least j jl (both_true (costing cost c j) (not (B j)) (both-first (costing cost c j) (not (costing cost (cost e) j)) h) (marks (B j) k)))))
          where
            negated : (b : Bool) → not b ≡ true → b ≡ false
            negated false h = refl
            negated true h = sym h

            marks : (b : Bool) → b ≡ false → not b ≡ true
            marks false h = refl
            marks true h = sym h

    apart : (X Y : ℕ → Bool) → IsApart n (both X (costing cost (cost e))) (both Y band)
    apart X Y j jl h = not_true (both Y band j) (λ k. clash (costing cost (cost e) j) (both-second (X j) (costing cost (cost e) j) h)
        (both-second (costing cost c j) (not (costing cost (cost e) j)) (both-second (Y j) (band j) k)))
      where
        clash : (b : Bool) → b ≡ true → not b ≡ true → ⊥
        clash b x y = cc

    split : (j : ℕ) → costing cost c j ≡ true → (costing cost (cost e) j ≡ true) ⊎ (band j ≡ true)
    split j h = at (costing cost (cost e) j) refl
      where
        at : (b : Bool) → costing cost (cost e) j ≡ b → (costing cost (cost e) j ≡ true) ⊎ (band j ≡ true)
        at true k = inl k
        at false k = inr (both_true (costing cost c j) (not (costing cost (cost e) j)) h (ap not k))

    lowered : size_on (both A (costing cost c)) n ≤ size_on (both B (costing cost c)) n
    lowered = omega (
      arith,
      levels e el out,
      size-either (both A (costing cost (cost e))) (both B band) n (apart A B),
      size-either (both B (costing cost (cost e))) (both B band) n (apart B B),
      size_on-within (either (both A (costing cost (cost e))) (both B band)) (both A (costing cost c)) n
          (λ j jl h. elim (split j (both-second (A j) (costing cost c j) h)) [
            | inl k ↦ either-first (both A (costing cost (cost e)) j) (both B band j)
                (both_true (A j) (costing cost (cost e) j) (both-first (A j) (costing cost c j) h) k)
            | inr k ↦ either-second (both A (costing cost (cost e)) j) (both B band j) (both_true (B j) (band j) (band-held j jl k) k)
          ]),
      size_on-within (both B (costing cost c)) (either (both B (costing cost (cost e))) (both B band)) n
          (λ j jl h. elim (either_cases (both B (costing cost (cost e)) j) (both B band j) h) [
            | inl k ↦ both_true (B j) (costing cost c j) (both-first (B j) (costing cost (cost e) j) k)
                (at_least c (cost e) (cost j) high (level_to (cost e) (cost j) (both-second (B j) (costing cost (cost e) j) k)))
            | inr k ↦ both_true (B j) (costing cost c j) (both-first (B j) (band j) k)
                (both-first (costing cost c j) (not (costing cost (cost e) j)) (both-second (B j) (band j) k))
          ]),
    )

  pub levels-enough : (c : ℕ) → size_on (both A (costing cost c)) n ≤ size_on (both B (costing cost c)) n
  levels-enough c = elim (least_of cost B c n) [
    | inl none ↦ size_on-within (both B (costing cost c)) (both A (costing cost c)) n
        (λ j l h. both_true (B j) (costing cost c j) (held (costing cost c j) (B j) (none j l) (both-second (A j) (costing cost c j) h))
        (both-second (A j) (costing cost c j) h))
    | inr (e, l, h, least) ↦ lowered c e l (both-first (costing cost c e) (not (B e)) h)
        (unmarked (B e) (both-second (costing cost c e) (not (B e)) h)) least
  ]
    where
      held : (b h : Bool) → b && not h ≡ false → b ≡ true → h ≡ true
      held b h e k = grind arith

      unmarked : (b : Bool) → not b ≡ true → b ≡ false
      unmarked false h = refl
      unmarked true h = sym h

-- a set and the others cost as much as all
pub outside-sum : (X : ℕ → Bool) (n : ℕ) (cost : ℕ → ℕ) → sum_on X n cost + sum_on (outside X) n cost ≡ sum_on everything n cost
outside-sum X zero cost = refl
outside-sum X (suc n) cost = omega (arith, outside-sum X n cost, one (X n) (cost n))
  where
    one : (b : Bool) (x : ℕ) → cond b x 0 + cond (not b) x 0 ≡ cond true x 0
    one true x = omega arith
    one false x = zero-add x
