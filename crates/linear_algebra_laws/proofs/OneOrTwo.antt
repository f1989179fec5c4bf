-- Of two values at a place, x and x + 1, one keeps columns independent, whatever stood there; so does one of 1 and 2.
use Rattle.std.proofs.Common.{◌≡◌, ℕ, zero, suc, ◌+◌, ◌-◌, ◌*◌, ◌%◌, ◌<◌, ◌≤◌, ◌≢◌, Bool, true, false, ◌⊎◌, inl, inr, refl, ap, sym, subst, ◌∙◌, arith}
use Rattle.std.proofs.Math.Nat.{mod_self, mod-eq_of_lt}
use Rattle.residue_theory.specs.Sets.{without, everything}
use Rattle.residue_theory.specs.Sums.{sum_on}
use Rattle.residue_theory.specs.Residues.{IsPrime}
use Rattle.residue_theory.proofs.SumLaws.{sum_on-add, sum_on-mul, sum_on-ext, sum_on-without, nat_cases, without-member}
use Rattle.residue_theory.proofs.SetLaws.{differ, lt_cases, zero_cases}
use Rattle.residue_theory.proofs.ResidueLaws.{vanishes-add, vanishes-mul, vanishes-rest, vanishes_by, vanishes_factor, lacks}
use Rattle.linear_algebra.specs.Columns.{IsIndependent, CombinesToZero}
use Rattle.linear_algebra.specs.Parts.{with_entry}
use Rattle.linear_algebra_laws.proofs.Elimination.{Dichotomy, dichotomy, NonZeroSolution}
use Rattle.linear_algebra_laws.proofs.Entries.{with_entry-there, with_entry-row, with_entry-column}

-- ---- c combines the columns to zero with x at the place, and d with x + 1; u stands there, C and D are the rest of the row, k is -1
-- then A * c + B * d combines the row to zero with u there
row_identity : (C D c d u k x y : ℕ) →
    let A : ℕ = (u + k * y) * d in
    let B : ℕ = k * (u + k * x) * c in
    let z : ℕ = A * c * x + B * d * y in
    let w : ℕ = (u + k * y) * (u + k * x) * c * d in
    ((A * C + B * D) + (A * c + B * d) * u) + (z + k * z) ≡ (A * (C + c * x) + B * (D + d * y)) + (w + k * w)
row_identity C D c d u k x y = omega arith

-- and at the place A * c + B * d is -d * c
place_identity : (c d u k x : ℕ) → ((u + k * (x + 1)) * d * c + k * (u + k * x) * c * d) + d * c ≡ d * c * (u + k * x + 1) * (k + 1)
place_identity c d u k x = omega arith

spread : (A B c d y : ℕ) → (A * c + B * d) * y ≡ A * (c * y) + B * (d * y)
spread A B c d y = omega arith

-- what two vectors of coefficients combine a row to, each multiplied by a number
sum-mixed : (X : ℕ → Bool) (n A B : ℕ) (c d f : ℕ → ℕ) →
    sum_on X n (λ j. (A * c j + B * d j) * f j) ≡ A * sum_on X n (λ j. c j * f j) + B * sum_on X n (λ j. d j * f j)
sum-mixed X n A B c d f =
    sum_on-ext X n (λ j. (A * c j + B * d j) * f j) (λ j. A * (c j * f j) + B * (d j * f j)) (λ j _ _. spread A B (c j) (d j) (f j))
    ∙ sum_on-add X n (λ j. A * (c j * f j)) (λ j. B * (d j * f j))
    ∙ ap (λ s. s + sum_on X n (λ j. B * (d j * f j))) (sum_on-mul X n A (λ j. c j * f j))
    ∙ ap (λ s. A * sum_on X n (λ j. c j * f j) + s) (sum_on-mul X n B (λ j. d j * f j))

module _ (p : ℕ) (prime : IsPrime p) (m n : ℕ) (a : ℕ → ℕ → ℕ) (r v : ℕ) (Y : ℕ → Bool) (x : ℕ) where
  -- the row of the place without the place
  abbrev rest : (ℕ → ℕ) → ℕ
  rest c = sum_on (without Y v) n (λ j. c j * a r j)

  other-row : (y : ℕ) (c : ℕ → ℕ) (i : ℕ) → i ≢ r → sum_on Y n (λ j. c j * with_entry a r v y i j) ≡ sum_on Y n (λ j. c j * a i j)
  other-row y c i ne = sum_on-ext Y n (λ j. c j * with_entry a r v y i j) (λ j. c j * a i j) (λ j _ _. ap (λ s. c j * s) (with_entry-row a r v y i j ne))

  module _ (vl : v < n) (vh : Y v ≡ true) where
    its-row : (y : ℕ) (c : ℕ → ℕ) → sum_on Y n (λ j. c j * with_entry a r v y r j) ≡ rest c + c v * y
    its-row y c =
        sum_on-without Y n v (λ j. c j * with_entry a r v y r j) vl vh
        ∙ ap (λ s. s + c v * with_entry a r v y r v) (sum_on-ext (without Y v) n (λ j. c j * with_entry a r v y r j) (λ j. c j * a r j)
        (λ j _ h. ap (λ s. c j * s) (with_entry-column a r v y r j (without-member Y v j h).1)))
        ∙ ap (λ s. rest c + c v * s) (with_entry-there a r v y)

    -- a combination to zero at the other rows is one at all, where it vanishes at row r
    kernel_of-row : (c : ℕ → ℕ) → ((i : ℕ) → i < m → i ≢ r → sum_on Y n (λ j. c j * a i j) % p ≡ 0) →
        (rest c + c v * a r v) % p ≡ 0 → CombinesToZero p a m n Y c
    kernel_of-row c rows last i il = elim (nat_cases i r) [
      | inl q ↦ subst (λ k. sum_on Y n (λ j. c j * a k j) % p ≡ 0) (sym q)
          (vanishes_by p _ (rest c + c v * a r v) (sum_on-without Y n v (λ j. c j * a r j) vl vh) last)
      | inr ne ↦ rows i il ne
    ]

    module _ (rl : r < m) (ind : IsIndependent p a m n Y) (c d : ℕ → ℕ)
        (s : CombinesToZero p (with_entry a r v x) m n Y c) (t : CombinesToZero p (with_entry a r v (x + 1)) m n Y d)
      where
        c_rows : (i : ℕ) → i < m → i ≢ r → sum_on Y n (λ j. c j * a i j) % p ≡ 0
        c_rows i il ne = vanishes_by p _ _ (sym (other-row x c i ne)) (s i il)

        d_rows : (i : ℕ) → i < m → i ≢ r → sum_on Y n (λ j. d j * a i j) % p ≡ 0
        d_rows i il ne = vanishes_by p _ _ (sym (other-row (x + 1) d i ne)) (t i il)

        c_rest : (rest c + c v * x) % p ≡ 0
        c_rest = vanishes_by p _ _ (sym (its-row x c)) (s r rl)

        d_rest : (rest d + d v * (x + 1)) % p ≡ 0
        d_rest = vanishes_by p _ _ (sym (its-row (x + 1) d)) (t r rl)

        abbrev A : ℕ
        A = (a r v + (p - 1) * (x + 1)) * d v

        abbrev B : ℕ
        B = (p - 1) * (a r v + (p - 1) * x) * c v

        -- the row of the place
        last : ((A * rest c + B * rest d) + (A * c v + B * d v) * a r v) % p ≡ 0
        last = vanishes-rest p (z + (p - 1) * z) ((A * rest c + B * rest d) + (A * c v + B * d v) * a r v)
            (vanishes_by p _ ((A * (rest c + c v * x) + B * (rest d + d v * (x + 1))) + (w + (p - 1) * w))
            (commute (z + (p - 1) * z) ((A * rest c + B * rest d) + (A * c v + B * d v) * a r v)
            ∙ row_identity (rest c) (rest d) (c v) (d v) (a r v) (p - 1) x (x + 1))
            (vanishes-add p (A * (rest c + c v * x) + B * (rest d + d v * (x + 1))) (w + (p - 1) * w)
            (vanishes-add p (A * (rest c + c v * x)) (B * (rest d + d v * (x + 1)))
            (vanishes-mul p A (rest c + c v * x) c_rest) (vanishes-mul p B (rest d + d v * (x + 1)) d_rest))
            (lacks p prime w)))
            (lacks p prime z)
          where
            z : ℕ
            z = A * c v * x + B * d v * (x + 1)

            w : ℕ
            w = (a r v + (p - 1) * (x + 1)) * (a r v + (p - 1) * x) * c v * d v

            commute : (u y : ℕ) → u + y ≡ y + u
            commute u y = omega arith

        at_v : (A * c v + B * d v) % p ≡ 0
        at_v = ind (λ j. A * c j + B * d j)
            (kernel_of-row (λ j. A * c j + B * d j)
            (λ i il ne. vanishes_by p _ _ (sum-mixed Y n A B c d (a i)) (vanishes-add p (A * sum_on Y n (λ j. c j * a i j)) (B * sum_on Y n (λ j. d j * a i j))
            (vanishes-mul p A (sum_on Y n (λ j. c j * a i j)) (c_rows i il ne)) (vanishes-mul p B (sum_on Y n (λ j. d j * a i j)) (d_rows i il ne))))
            (vanishes_by p _ _ (ap (λ s. s + (A * c v + B * d v) * a r v) (sum-mixed (without Y v) n A B c d (a r))) last))
            v vl vh

        factor : (d v * c v) % p ≡ 0
        factor = vanishes-rest p (A * c v + B * d v) (d v * c v)
            (vanishes_by p _ (multiple * p) (place_identity (c v) (d v) (a r v) (p - 1) x
            ∙ ap (λ s. multiple * s) (let e : p - 1 + 1 ≡ p = omega (arith, prime.above_one) in e)) (vanishes-mul p multiple p (mod_self p)))
            at_v
          where
            multiple : ℕ
            multiple = d v * c v * (a r v + (p - 1) * x + 1)

        -- where the coefficient at the place vanishes, the value there does not matter
        any_value : (e : ℕ → ℕ) (y : ℕ) → e v % p ≡ 0 → (rest e + e v * y) % p ≡ 0 → (rest e + e v * a r v) % p ≡ 0
        any_value e y z h = vanishes-add p (rest e) (e v * a r v)
            (vanishes-rest p (e v * y) (rest e) (vanishes_by p _ (rest e + e v * y) (omega arith) h)
            (vanishes_by p _ (y * e v) (omega arith) (vanishes-mul p y (e v) z)))
            (vanishes_by p _ (a r v * e v) (omega arith) (vanishes-mul p (a r v) (e v) z))

        -- so one of the two combines the columns to zero with u there
        clash : CombinesToZero p a m n Y c ⊎ CombinesToZero p a m n Y d
        clash = elim (zero_cases (d v % p)) [
          | inl z ↦ inr (kernel_of-row d d_rows (any_value d (x + 1) z d_rest))
          | inr ne ↦ inl (kernel_of-row c c_rows (any_value c x (vanishes_factor p prime (d v) (c v) ne factor) c_rest))
        ]

  pub one_of_next : r < m → IsIndependent p a m n Y → IsIndependent p (with_entry a r v x) m n Y ⊎ IsIndependent p (with_entry a r v (x + 1)) m n Y
  one_of_next rl ind = go (Y v) refl (lt_cases v n)
    where
      elsewhere : ((j : ℕ) → j < n → Y j ≡ true → j ≢ v) → IsIndependent p (with_entry a r v x) m n Y
      elsewhere none c s = ind c (λ i il. vanishes_by p _ _
          (sum_on-ext Y n (λ j. c j * a i j) (λ j. c j * with_entry a r v x i j)
          (λ j jl jh. ap (λ y. c j * y) (sym (with_entry-column a r v x i j (none j jl jh))))) (s i il))

      first : v < n → Y v ≡ true → (s : NonZeroSolution p (with_entry a r v x) everything m Y n) → Dichotomy p (with_entry a r v (x + 1)) everything m Y n →
          IsIndependent p (with_entry a r v (x + 1)) m n Y
      first vl vh s (inl (only, _)) = λ c t. only c (λ i il _. t i il)
      first vl vh s (inr t) = elim (clash vl vh rl ind s.at t.at (λ i il. s.solves i il refl) (λ i il. t.solves i il refl)) [
        | inl k ↦ absurd (s.non_zero (ind s.at k s.place s.below s.member))
        | inr k ↦ absurd (t.non_zero (ind t.at k t.place t.below t.member))
      ]

      here : v < n → Y v ≡ true → Dichotomy p (with_entry a r v x) everything m Y n →
          IsIndependent p (with_entry a r v x) m n Y ⊎ IsIndependent p (with_entry a r v (x + 1)) m n Y
      here vl vh (inl (only, _)) = inl (λ c t. only c (λ i il _. t i il))
      here vl vh (inr s) = inr (first vl vh s (dichotomy p prime everything n m (with_entry a r v (x + 1)) Y))

      go : (b : Bool) → Y v ≡ b → (v < n) ⊎ (n ≤ v) → IsIndependent p (with_entry a r v x) m n Y ⊎ IsIndependent p (with_entry a r v (x + 1)) m n Y
      go true e (inl l) = here l e (dichotomy p prime everything n m (with_entry a r v x) Y)
      go true e (inr g) = inl (elsewhere (λ j jl _ q. absurd (omega arith)))
      go false e d = inl (elsewhere (λ j jl jh q. differ (subst (λ k. Y k ≡ false) (sym q) e) jh))

pub one_of_two : (p : ℕ) → IsPrime p → (m n : ℕ) (a : ℕ → ℕ → ℕ) (r v : ℕ) (Y : ℕ → Bool) → r < m → IsIndependent p a m n Y →
    IsIndependent p (with_entry a r v 1) m n Y ⊎ IsIndependent p (with_entry a r v 2) m n Y
one_of_two p prime m n a r v Y rl ind = one_of_next p prime m n a r v Y 1 rl ind
