-- A block triangular matrix has independent columns exactly where each of its diagonal parts has, where the earlier
-- parts have no more rows than columns.
use Rattle.std.proofs.Common.{◌≡◌, ℕ, zero, suc, ◌+◌, ◌*◌, ◌%◌, ◌<◌, ◌≤◌, ◌≢◌, Bool, true, false, cond, eqb, ltb, ◌&&◌}
use Rattle.std.proofs.Common.{inl, inr, refl, ap, sym, ◌∙◌, arith}
use Rattle.std.proofs.lemmas.Bool.Decides.{nat_tests}
use Rattle.residue_theory.specs.Sets.{everything}
use Rattle.residue_theory.specs.Sums.{sum_on, size_on, sum_below}
use Rattle.residue_theory.specs.Residues.{IsPrime}
use Rattle.residue_theory.proofs.SumLaws.{sum_on-add, sum_on-ext, sum_on-mul, sum_on-same, sum_on-within, nat_cases}
use Rattle.residue_theory.proofs.SetLaws.{eqb_from, eqb_true, lt_cases}
use Rattle.residue_theory.proofs.CountLaws.{size-levels}
use Rattle.residue_theory.proofs.ResidueLaws.{vanishes-add, vanishes-mul, vanishes-sum}
use Rattle.residue_theory.proofs.ResidueLaws.{vanishes_factor}
use Rattle.linear_algebra.specs.Columns.{IsIndependent}
use Rattle.linear_algebra.specs.Parts.{diagonal, in_part, IsBlockTriangular, with_column}
use Rattle.linear_algebra_laws.proofs.Elimination.{NonZeroSolution, nonzero_solution}
use Rattle.linear_algebra_laws.proofs.Entries.{with_column-first, with_column-last}
use Rattle.linear_algebra_laws.proofs.PartLaws.{only_zero-part}
use Rattle.linear_algebra_laws.proofs.Ranks.{independent-within}
use Rattle.linear_algebra_laws.proofs.Triangular.{glued, glued-independent}

-- the members of the parts before h
abbrev pub before : (ℕ → ℕ) → ℕ → ℕ → Bool
before part_of h j = ltb (part_of j) h

before-holds : (x h : ℕ) → x < h → ltb x h ≡ true
before-holds x h l = grind (arith, nat_tests)

before-less : (x h : ℕ) → ltb x h ≡ true → x < h
before-less x h e = grind (arith, nat_tests)

before-not : (x h : ℕ) → h ≤ x → ltb x h ≡ false
before-not x h l = grind (arith, nat_tests)

other-part : (x h : ℕ) → x ≢ h → eqb x h ≡ false
other-part x h ne = grind (arith, nat_tests)

-- they are as many as those of each part together
pub size-before : (f : ℕ → ℕ) (n h : ℕ) → size_on (before f h) n ≡ sum_below h (λ l. size_on (in_part f l) n)
size-before f n h =
    size-levels f (before f h) n h (λ j _ jh. before-less (f j) h jh)
    ∙ sum_on-ext everything h (λ l. size_on (λ j. before f h j && eqb (f j) l) n) (λ l. size_on (in_part f l) n)
    (λ l ll _. sum_on-same (λ j. before f h j && eqb (f j) l) (in_part f l) n (λ _. 1) (λ j _. one (f j) l ll))
  where
    one : (x l : ℕ) → l < h → ltb x h && eqb x l ≡ eqb x l
    one x l ll = grind (arith, nat_tests)

-- ---- from the diagonal parts to the whole
pub whole-independent : (p : ℕ) → IsPrime p → (m n k : ℕ) (a : ℕ → ℕ → ℕ) (row_part column_part : ℕ → ℕ) →
    ((j : ℕ) → j < n → column_part j < k) → IsBlockTriangular p a m n row_part column_part →
    ((h : ℕ) → h < k → IsIndependent p (diagonal row_part column_part a h) m n (in_part column_part h)) →
    IsIndependent p a m n everything
whole-independent p prime m n k a row_part column_part below tri ok =
    independent-within p a m n everything (glued p prime m n k a row_part column_part below tri (λ h. in_part column_part h) ok)
    (λ j jl _. eqb_from (column_part j) (column_part j) refl)
    (glued-independent p prime m n k a row_part column_part below tri (λ h. in_part column_part h) ok)

-- ---- from the whole to diagonal part h
module _ (p : ℕ) (prime : IsPrime p) (m n : ℕ) (a : ℕ → ℕ → ℕ) (row_part column_part : ℕ → ℕ) (tri : IsBlockTriangular p a m n row_part column_part)
    (h : ℕ) (few : size_on (before row_part h) m ≤ size_on (before column_part h) n) (ind : IsIndependent p a m n everything) where
  -- numbers c that combine the columns of part h to zero at its rows
  module _ (c : ℕ → ℕ)
      (z : (i : ℕ) → i < m → in_part row_part h i ≡ true → sum_on (in_part column_part h) n (λ j. c j * a i j) % p ≡ 0) where
    -- what they combine to
    made : ℕ → ℕ
    made i = sum_on (in_part column_part h) n (λ j. c j * a i j)

    made-is : (i : ℕ) → made i ≡ sum_on (in_part column_part h) n (λ j. c j * a i j)
    unfolding made
    made-is i = refl

    -- the columns of the parts before, and the new one beside all
    abbrev chosen : ℕ → Bool
    chosen j = cond (ltb j n) (before column_part h j) true

    chosen-old : (j : ℕ) → j < n → chosen j ≡ before column_part h j
    chosen-old j l = ap (λ b. cond b (before column_part h j) true) (before-holds j n l)

    chosen-new : chosen n ≡ true
    chosen-new = ap (λ b. cond b (before column_part h n) true) (before-not n n (omega arith))

    chosen-size : size_on chosen (suc n) ≡ size_on (before column_part h) n + 1
    chosen-size = ap (λ s. s + cond (chosen n) 1 0) (sum_on-same chosen (before column_part h) n (λ _. 1) chosen-old)
        ∙ ap (λ b. size_on (before column_part h) n + cond b 1 0) chosen-new

    solution : NonZeroSolution p (with_column n a made) (before row_part h) m chosen (suc n)
    solution = nonzero_solution p prime (with_column n a made) (before row_part h) m chosen (suc n) (omega (arith, chosen-size, few))

    abbrev s : ℕ → ℕ
    s = solution.at

    -- at the rows of the parts before
    early-row : (i : ℕ) → i < m → row_part i < h → (sum_on (before column_part h) n (λ j. s j * a i j) + s n * made i) % p ≡ 0
    early-row i il l = ap (λ y. y % p) (sym split) ∙ solution.solves i il (before-holds (row_part i) h l)
      where
        split : sum_on chosen (suc n) (λ j. s j * with_column n a made i j) ≡ sum_on (before column_part h) n (λ j. s j * a i j) + s n * made i
        split = ap (λ y. y + cond (chosen n) (s n * with_column n a made i n) 0)
            (sum_on-same chosen (before column_part h) n (λ j. s j * with_column n a made i j) chosen-old
            ∙ sum_on-ext (before column_part h) n (λ j. s j * with_column n a made i j) (λ j. s j * a i j)
            (λ j jl _. ap (λ y. s j * y) (with_column-first n a made i j jl)))
            ∙ ap (λ b. sum_on (before column_part h) n (λ j. s j * a i j) + cond b (s n * with_column n a made i n) 0) chosen-new
            ∙ ap (λ y. sum_on (before column_part h) n (λ j. s j * a i j) + s n * y) (with_column-last n a made i)

    -- at the other rows
    late-row : (i : ℕ) → i < m → h ≤ row_part i → (sum_on (before column_part h) n (λ j. s j * a i j) + s n * made i) % p ≡ 0
    late-row i il le = vanishes-add p (sum_on (before column_part h) n (λ j. s j * a i j)) (s n * made i)
        (vanishes-sum p (before column_part h) n (λ j. s j * a i j) (λ j jl jh. vanishes-mul p (s j) (a i j)
        (tri i j il jl (omega (arith, before-less (column_part j) h jh, le)))))
        (vanishes-mul p (s n) (made i) (ap (λ y. y % p) (made-is i) ∙ none))
      where
        none : sum_on (in_part column_part h) n (λ j. c j * a i j) % p ≡ 0
        none = elim (nat_cases (row_part i) h) [
          | inl q ↦ z i il (eqb_from (row_part i) h q)
          | inr ne ↦ vanishes-sum p (in_part column_part h) n (λ j. c j * a i j) (λ j jl jh. vanishes-mul p (c j) (a i j)
              (tri i j il jl (omega (arith, eqb_true (column_part j) h jh, le, ne))))
        ]

    each-row : (i : ℕ) → i < m → (sum_on (before column_part h) n (λ j. s j * a i j) + s n * made i) % p ≡ 0
    each-row i il = elim (lt_cases (row_part i) h) [ inl l ↦ early-row i il l | inr le ↦ late-row i il le ]

    -- all together
    joined : ℕ → ℕ
    joined j = cond (before column_part h j) (s j) (cond (in_part column_part h j) (s n * c j) 0)

    joined-before : (j : ℕ) → column_part j < h → joined j ≡ s j
    unfolding joined
    joined-before j l = ap (λ b. cond b (s j) (cond (in_part column_part h j) (s n * c j) 0)) (before-holds (column_part j) h l)

    joined-here : (j : ℕ) → column_part j ≡ h → joined j ≡ s n * c j
    unfolding joined
    joined-here j q = ap (λ b. cond b (s j) (cond (in_part column_part h j) (s n * c j) 0)) (before-not (column_part j) h (omega arith))
        ∙ ap (λ b. cond b (s n * c j) 0) (eqb_from (column_part j) h q)

    joined-sum : (i : ℕ) → sum_below n (λ j. joined j * a i j) ≡ sum_on (before column_part h) n (λ j. s j * a i j) + s n * made i
    unfolding joined
    joined-sum i =
        sum_on-ext everything n (λ j. joined j * a i j)
        (λ j. cond (before column_part h j) (s j * a i j) 0 + s n * cond (in_part column_part h j) (c j * a i j) 0)
        (λ j jl _. one (column_part j) (s j) (s n) (c j) (a i j))
        ∙ sum_on-add everything n (λ j. cond (before column_part h j) (s j * a i j) 0) (λ j. s n * cond (in_part column_part h j) (c j * a i j) 0)
        ∙ ap (λ y. y + sum_below n (λ j. s n * cond (in_part column_part h j) (c j * a i j) 0))
        (sum_on-within everything (before column_part h) n (λ j. s j * a i j) (λ j _ _. refl))
        ∙ ap (λ y. sum_on (before column_part h) n (λ j. s j * a i j) + y)
        (sum_on-mul everything n (s n) (λ j. cond (in_part column_part h j) (c j * a i j) 0)
        ∙ ap (λ y. s n * y) (sum_on-within everything (in_part column_part h) n (λ j. c j * a i j) (λ j _ _. refl) ∙ sym (made-is i)))
      where
        one : (x sj sn cj y : ℕ) → cond (ltb x h) sj (cond (eqb x h) (sn * cj) 0) * y ≡ cond (ltb x h) (sj * y) 0 + sn * cond (eqb x h) (cj * y) 0
        one x sj sn cj y = go (ltb x h) (eqb x h) (λ e f. apart e f)
          where
            apart : ltb x h ≡ true → eqb x h ≡ true → ⊥
            apart e f = absurd (omega (arith, before-less x h e, eqb_true x h f))

            go : (d b : Bool) → (d ≡ true → b ≡ true → ⊥) → cond d sj (cond b (sn * cj) 0) * y ≡ cond d (sj * y) 0 + sn * cond b (cj * y) 0
            go true true never = absurd (never refl refl)
            go true false _ = omega arith
            go false true _ = omega arith
            go false false _ = omega arith

    joined-zero : (j : ℕ) → j < n → joined j % p ≡ 0
    joined-zero j jl = ind joined (λ i il. ap (λ y. y % p) (joined-sum i) ∙ each-row i il) j jl refl

    new-nonzero : s n % p ≢ 0
    new-nonzero q = elim (lt_cases solution.place n) [
      | inl old ↦ solution.non_zero (ap (λ y. y % p) (sym (joined-before solution.place
          (before-less (column_part solution.place) h (sym (chosen-old solution.place old) ∙ solution.member)))) ∙ joined-zero solution.place old)
      | inr new ↦ solution.non_zero (ap (λ k. s k % p) (let e : solution.place ≡ n = omega (arith, solution.below, new) in e) ∙ q)
    ]

    combined-zero : (j : ℕ) → j < n → in_part column_part h j ≡ true → c j % p ≡ 0
    combined-zero j jl jh = vanishes_factor p prime (s n) (c j) new-nonzero
        (ap (λ y. y % p) (sym (joined-here j (eqb_true (column_part j) h jh))) ∙ joined-zero j jl)

  pub diagonal-independent : IsIndependent p (diagonal row_part column_part a h) m n (in_part column_part h)
  diagonal-independent = only_zero-part p m n a (in_part row_part h) (in_part column_part h) (in_part column_part h) (λ _ _ e. e)
      (λ c z j jl jh. combined-zero c z j jl jh)
