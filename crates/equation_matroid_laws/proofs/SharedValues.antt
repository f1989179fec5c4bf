-- Two sets of columns of a model, each independent at values of its own, are independent at shared values of 1, 2 and 3:
-- the places of the symbols are gone through, and at each a value is taken that serves both.
use Rattle.std.proofs.Common.{◌≡◌, ℕ, zero, suc, ◌+◌, ◌%◌, ◌<◌, ◌≤◌, ◌≢◌, Bool, true, false, cond, eqb, ◌&&◌, ◌⊎◌, inl}
use Rattle.std.proofs.Common.{inr, refl, ap, sym, subst, ◌∙◌, arith}
use Rattle.residue_theory.proofs.SetLaws.{both-first, both-second, eqb_true}
use Rattle.residue_theory.proofs.SumLaws.{nat_cases}
use Rattle.residue_theory.specs.Residues.{IsPrime}
use Rattle.linear_algebra.specs.Columns.{IsIndependent}
use Rattle.linear_algebra.specs.Parts.{with_entry}
use Rattle.linear_algebra_laws.proofs.Entries.{with_entry-column, with_entry-row, with_entry-there}
use Rattle.linear_algebra_laws.proofs.Products.{independent-agree}
use Rattle.mixed_matrices.specs.Models.{MixedMatrix, numbers, value}
use Rattle.equation_matroid_laws.proofs.ThreeValues.{first_or_second, first_or_third, second_or_third}
use Rattle.equation_matroid_laws.specs.EquationRanks.{IsOneToThree}

-- ---- what a change of one value does to the entries
module _ (t : ℕ → ℕ → Bool) (w : ℕ → ℕ → ℕ) (r v x : ℕ) where
  at_place : (s : Bool) → t r v ≡ s → (i j : ℕ) → eqb i r && eqb j v ≡ true → t i j ≡ s
  at_place s e i j h = subst (λ k. t k j ≡ s) (sym (eqb_true i r (both-first (eqb i r) (eqb j v) h)))
      (subst (λ k. t r k ≡ s) (sym (eqb_true j v (both-second (eqb i r) (eqb j v) h))) e)

  numbers-changed : t r v ≡ true → (i j : ℕ) → numbers t (with_entry w r v x) i j ≡ with_entry (numbers t w) r v x i j
  numbers-changed s i j = moved (eqb i r && eqb j v) (t i j) x (w i j) (at_place true s i j)
    where
      moved : (here there : Bool) (x y : ℕ) → (here ≡ true → there ≡ true) → cond there (cond here x y) 0 ≡ cond here x (cond there y 0)
      moved here there x y h = grind arith

  numbers-kept : t r v ≡ false → (i j : ℕ) → numbers t w i j ≡ numbers t (with_entry w r v x) i j
  numbers-kept s i j = unseen (eqb i r && eqb j v) (t i j) x (w i j) (at_place false s i j)
    where
      unseen : (here there : Bool) (x y : ℕ) → (here ≡ true → there ≡ false) → cond there y 0 ≡ cond there (cond here x y) 0
      unseen here there x y h = grind arith

-- ---- one symbol of a model
module _ (p : ℕ) (prime : IsPrime p) (big : 2 < p) (M : MixedMatrix) where
  abbrev Keeps : (ℕ → Bool) → (ℕ → ℕ → ℕ) → Type 0
  Keeps Y v = IsIndependent p (value M v) M.rows M.columns Y

  value-changed : (v : ℕ → ℕ → ℕ) (r c x : ℕ) → M.symbol r c ≡ true → (i j : ℕ) → with_entry (value M v) r c (M.constant r c + x) i j ≡ value M
      (with_entry v r c x) i j
  value-changed v r c x s i j =
      added (eqb i r && eqb j c) (M.constant i j) (M.constant r c) x (numbers M.symbol v i j)
      (λ h. ap (λ k. M.constant k j) (eqb_true i r (both-first (eqb i r) (eqb j c) h))
      ∙ ap (M.constant r) (eqb_true j c (both-second (eqb i r) (eqb j c) h)))
      ∙ ap (λ y. M.constant i j + y) (sym (numbers-changed M.symbol v r c x s i j))
    where
      added : (here : Bool) (k q x y : ℕ) → (here ≡ true → k ≡ q) → cond here (q + x) (k + y) ≡ k + cond here x y
      added here k q x y h = grind arith

  unseen : (Y : ℕ → Bool) (v : ℕ → ℕ → ℕ) (r c x : ℕ) → M.symbol r c ≡ false → Keeps Y v → Keeps Y (with_entry v r c x)
  unseen Y v r c x s = independent-agree p M.rows M.columns (value M v) (value M (with_entry v r c x)) Y
      (λ i j _ _. ap (λ y. (M.constant i j + y) % p) (numbers-kept M.symbol v r c x s i j))

  shown : (Y : ℕ → Bool) (v : ℕ → ℕ → ℕ) (r c x : ℕ) → M.symbol r c ≡ true →
      IsIndependent p (with_entry (value M v) r c (M.constant r c + x)) M.rows M.columns Y → Keeps Y (with_entry v r c x)
  shown Y v r c x s = independent-agree p M.rows M.columns (with_entry (value M v) r c (M.constant r c + x)) (value M (with_entry v r c x)) Y
      (λ i j _ _. ap (λ y. y % p) (value-changed v r c x s i j))

  module _ (Y Z : ℕ → Bool) where
    abbrev Served : (ℕ → ℕ → ℕ) → (ℕ → ℕ → ℕ) → ℕ → ℕ → Type 0
    Served v w r c = (x : ℕ) × IsOneToThree x × Keeps Y (with_entry v r c x) × Keeps Z (with_entry w r c x)

    -- one of the three values at a place serves both sets
    placed : (v w : ℕ → ℕ → ℕ) → Keeps Y v → Keeps Z w → (r c : ℕ) → r < M.rows → Served v w r c
    placed v w y z r c rl = go (M.symbol r c) refl
      where
        go : (b : Bool) → M.symbol r c ≡ b → Served v w r c
        go false s = (1, (omega arith, omega arith), unseen Y v r c 1 s y, unseen Z w r c 1 s z)
        go true s = elim (first_or_second p prime big M.rows M.columns (value M v) r c Y rl y (M.constant r c)) [
          | inl y1 ↦ elim (second_or_third p prime big M.rows M.columns (value M v) r c Y rl y (M.constant r c)) [
            | inl y2 ↦ elim (first_or_second p prime big M.rows M.columns (value M w) r c Z rl z (M.constant r c)) [
              | inl z1 ↦ take 1 (omega arith, omega arith) y1 z1
              | inr z2 ↦ take 2 (omega arith, omega arith) y2 z2
            ]
            | inr y3 ↦ elim (first_or_third p prime big M.rows M.columns (value M w) r c Z rl z (M.constant r c)) [
              | inl z1 ↦ take 1 (omega arith, omega arith) y1 z1
              | inr z3 ↦ take 3 (omega arith, omega arith) y3 z3
            ]
          ]
          | inr y2 ↦ elim (first_or_third p prime big M.rows M.columns (value M v) r c Y rl y (M.constant r c)) [
            | inl y1 ↦ elim (first_or_second p prime big M.rows M.columns (value M w) r c Z rl z (M.constant r c)) [
              | inl z1 ↦ take 1 (omega arith, omega arith) y1 z1
              | inr z2 ↦ take 2 (omega arith, omega arith) y2 z2
            ]
            | inr y3 ↦ elim (second_or_third p prime big M.rows M.columns (value M w) r c Z rl z (M.constant r c)) [
              | inl z2 ↦ take 2 (omega arith, omega arith) y2 z2
              | inr z3 ↦ take 3 (omega arith, omega arith) y3 z3
            ]
          ]
        ]
          where
            take : (x : ℕ) → IsOneToThree x →
                IsIndependent p (with_entry (value M v) r c (M.constant r c + x)) M.rows M.columns Y →
                IsIndependent p (with_entry (value M w) r c (M.constant r c + x)) M.rows M.columns Z → Served v w r c
            take x small ys zs = (x, small, shown Y v r c x s ys, shown Z w r c x s zs)

    -- ---- all places, one after the other
    -- a place in the rows below R, or in row R below column C
    abbrev Before : ℕ → ℕ → ℕ → ℕ → Type 0
    Before R C i j = ((i < R) × (j < M.columns)) ⊎ ((i ≡ R) × (j < C))

    -- the values v for Y and w for Z, the same at the places before
    record Shared (R C : ℕ) : Type 0 where
      v : ℕ → ℕ → ℕ
      w : ℕ → ℕ → ℕ
      first : Keeps Y v
      second : Keeps Z w
      small : (i j : ℕ) → Before R C i j → IsOneToThree (v i j)
      same : (i j : ℕ) → Before R C i j → v i j ≡ w i j

    along : (R : ℕ) → R < M.rows → (C : ℕ) → Shared R 0 → Shared R C
    along R rl zero start = start
    along R rl (suc C) start = go (along R rl C start)
      where
        go : Shared R C → Shared R (suc C)
        go S = with_x (placed S.v S.w S.first S.second R C rl)
          where
            before : (i j : ℕ) → i ≢ R → Before R (suc C) i j → Before R C i j
            before i j ne (inl h) = inl h
            before i j ne (inr h) = absurd (ne h.0)

            earlier : (i j : ℕ) → j ≢ C → Before R (suc C) i j → Before R C i j
            earlier i j o (inl h) = inl h
            earlier i j o (inr h) = inr (h.0, (let l : j < suc C = h.1 in omega arith))

            with_x : Served S.v S.w R C → Shared R (suc C)
            with_x (x, low, kept, held) = record {
              v = with_entry S.v R C x;
              w = with_entry S.w R C x;
              first = kept;
              second = held;
              small = λ i j place. elim (nat_cases i R) [
                | inr ne ↦ subst IsOneToThree (sym (with_entry-row S.v R C x i j ne)) (S.small i j (before i j ne place))
                | inl q ↦ elim (nat_cases j C) [
                  | inr o ↦ subst IsOneToThree (sym (with_entry-column S.v R C x i j o)) (S.small i j (earlier i j o place))
                  | inl o ↦ subst (λ k. IsOneToThree (with_entry S.v R C x k j)) (sym q)
                      (subst (λ k. IsOneToThree (with_entry S.v R C x R k)) (sym o) (subst IsOneToThree (sym (with_entry-there S.v R C x)) low))
                ]
              ];
              same = λ i j place. elim (nat_cases i R) [
                | inr ne ↦ with_entry-row S.v R C x i j ne ∙ S.same i j (before i j ne place) ∙ sym (with_entry-row S.w R C x i j ne)
                | inl q ↦ elim (nat_cases j C) [
                  | inr o ↦ with_entry-column S.v R C x i j o ∙ S.same i j (earlier i j o place) ∙ sym (with_entry-column S.w R C x i j o)
                  | inl o ↦ subst (λ k. with_entry S.v R C x k j ≡ with_entry S.w R C x k j) (sym q)
                      (subst (λ k. with_entry S.v R C x R k ≡ with_entry S.w R C x R k) (sym o)
                      (with_entry-there S.v R C x ∙ sym (with_entry-there S.w R C x)))
                ]
              ];
            }

    down : (R : ℕ) → R ≤ M.rows → (v w : ℕ → ℕ → ℕ) → Keeps Y v → Keeps Z w → Shared R 0
    down zero le v w y z = record {
      v = v;
      w = w;
      first = y;
      second = z;
      small = λ i j h. absurd (none i j h);
      same = λ i j h. absurd (none i j h);
    }
      where
        none : (i j : ℕ) → Before zero 0 i j → ⊥
        none i j (inl h) = let l : i < zero = h.0 in omega arith
        none i j (inr h) = let l : j < 0 = h.1 in omega arith
    down (suc R) le v w y z = go (along R (omega arith) M.columns (down R (omega arith) v w y z))
      where
        earlier : (i j : ℕ) → Before (suc R) 0 i j → Before R M.columns i j
        earlier i j (inl h) = below h.0 h.1
          where
            below : i < suc R → j < M.columns → Before R M.columns i j
            below l k = elim (nat_cases i R) [ inl q ↦ inr (q, k) | inr ne ↦ inl ((omega arith), k) ]
        earlier i j (inr h) = absurd (let l : j < 0 = h.1 in omega arith)

        go : Shared R M.columns → Shared (suc R) 0
        go S = record {
          v = S.v;
          w = S.w;
          first = S.first;
          second = S.second;
          small = λ i j h. S.small i j (earlier i j h);
          same = λ i j h. S.same i j (earlier i j h);
        }

    pub shared_values : (v w : ℕ → ℕ → ℕ) → Keeps Y v → Keeps Z w →
        (u : ℕ → ℕ → ℕ) × Keeps Y u × Keeps Z u × ((i j : ℕ) → i < M.rows → j < M.columns → IsOneToThree (u i j))
    shared_values v w y z = go (down M.rows (omega arith) v w y z)
      where
        go : Shared M.rows 0 → (u : ℕ → ℕ → ℕ) × Keeps Y u × Keeps Z u × ((i j : ℕ) → i < M.rows → j < M.columns → IsOneToThree (u i j))
        go S = (
          S.v,
          S.first,
          independent-agree p M.rows M.columns (value M S.w) (value M S.v) Z
              (λ i j il jl. ap (λ y. (M.constant i j + cond (M.symbol i j) y 0) % p) (sym (S.same i j (inl (il, jl))))) S.second,
          λ i j il jl. S.small i j (inl (il, jl)),
        )
