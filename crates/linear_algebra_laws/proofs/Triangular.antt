-- In a block triangular matrix the ranks of the diagonal parts add up to at most the rank.
use Rattle.std.proofs.Common.{◌≡◌, ℕ, zero, suc, ◌+◌, ◌*◌, ◌%◌, ◌<◌, ◌≤◌, ◌≢◌, Bool, true, false, cond, ◌&&◌, eqb, ◌⊎◌, inl}
use Rattle.std.proofs.Common.{inr, refl, ap, sym, subst, ◌∙◌, arith}
use Rattle.std.proofs.Math.Nat.{zero-mod}
use Rattle.residue_theory.specs.Sets.{nothing, everything}
use Rattle.residue_theory.specs.Sums.{sum_on, size_on, sum_below}
use Rattle.residue_theory.specs.Residues.{IsPrime}
use Rattle.residue_theory.proofs.SumLaws.{sum_on-ext, sum_on-same, sum_on-within, nat_cases}
use Rattle.residue_theory.proofs.SetLaws.{differ, choose, both_true, eqb_true, eqb_from, not_true}
use Rattle.residue_theory.proofs.CountLaws.{size-levels}
use Rattle.residue_theory.proofs.ResidueLaws.{vanishes-mul, vanishes-sum, vanishes_by, agree-sum}
use Rattle.linear_algebra.specs.Columns.{IsIndependent, IsRank, CombinesToZero}
use Rattle.linear_algebra.specs.Parts.{in_part, diagonal, IsBlockTriangular}
use Rattle.linear_algebra_laws.proofs.RankLaws.{no_zero_column}
use Rattle.linear_algebra_laws.proofs.Entries.{part-shown, part-other_row, part-other_column}

ne_cases : (a b : ℕ) → a ≢ b → (a < b) ⊎ (b < a)
ne_cases a b ne = grind arith

-- f h is independent in the diagonal part h
module _ (p : ℕ) (prime : IsPrime p) (m n k : ℕ) (a : ℕ → ℕ → ℕ) (row_part column_part : ℕ → ℕ)
    (below : (j : ℕ) → j < n → column_part j < k) (tri : IsBlockTriangular p a m n row_part column_part)
    (f : ℕ → ℕ → Bool) (ok : (h : ℕ) → h < k → IsIndependent p (diagonal row_part column_part a h) m n (f h)) where
  -- and so has columns of part h alone
  inside : (h : ℕ) → h < k → (j : ℕ) → j < n → f h j ≡ true → column_part j ≡ h
  inside h hl j jl jh = elim (nat_cases (column_part j) h) [
    | inl q ↦ q
    | inr ne ↦ absurd (no_zero_column p prime (diagonal row_part column_part a h) m n (f h) (ok h hl) j jl jh
        (λ i _. ap (λ y. y % p) (part-other_column (in_part row_part h) (in_part column_part h) a i j
        (not_true (eqb (column_part j) h) (λ e. ne (eqb_true (column_part j) h e)))) ∙ zero-mod p))
  ]

  -- the independent sets of all parts
  abbrev pub glued : ℕ → Bool
  glued j = f (column_part j) j

  glued-member : (h : ℕ) → h < k → (j : ℕ) → j < n → f h j ≡ true → glued j ≡ true
  glued-member h hl j jl jh = subst (λ l. f l j ≡ true) (sym (inside h hl j jl jh)) jh

  module _ (c : ℕ → ℕ) (z : CombinesToZero p a m n glued c) where
    -- at a row of part h, where the columns of other parts give nothing
    row-part : (h : ℕ) → h < k → (i : ℕ) → i < m →
        ((j : ℕ) → j < n → glued j ≡ true → column_part j ≢ h → (c j * a i j) % p ≡ 0) →
        sum_on (f h) n (λ j. c j * a i j) % p ≡ 0
    row-part h hl i il rest =
        ap (λ s. s % p) (sym (sum_on-within glued (f h) n (λ j. c j * a i j) (glued-member h hl)))
        ∙ sym (agree-sum p glued n (λ j. c j * a i j) (λ j. cond (f h j) (c j * a i j) 0) (λ j jl jh. go j jl jh (f h j) refl))
        ∙ z i il
      where
        go : (j : ℕ) → j < n → glued j ≡ true → (b : Bool) → f h j ≡ b → (c j * a i j) % p ≡ cond b (c j * a i j) 0 % p
        go j jl jh true q = refl
        go j jl jh false q = rest j jl jh (λ e. differ q (subst (λ x. f x j ≡ true) e jh)) ∙ sym (zero-mod p)

    -- where the coefficients of later parts vanish, those of part h do
    step : (h : ℕ) → h < k → ((j : ℕ) → j < n → glued j ≡ true → h < column_part j → c j % p ≡ 0) → (j : ℕ) → j < n → f h j ≡ true → c j % p ≡ 0
    step h hl later = ok h hl c (λ i il. at_row i il (eqb (row_part i) h) refl)
      where
        commuted : (x y : ℕ) → x % p ≡ 0 → (x * y) % p ≡ 0
        commuted x y e = vanishes_by p _ (y * x) (omega arith) (vanishes-mul p y x e)

        others : (i : ℕ) → i < m → row_part i ≡ h → (j : ℕ) → j < n → glued j ≡ true → column_part j ≢ h → (c j * a i j) % p ≡ 0
        others i il q j jl jh ne = elim (ne_cases (column_part j) h ne) [
          | inl less ↦ vanishes-mul p (c j) (a i j) (tri i j il jl (omega arith))
          | inr more ↦ commuted (c j) (a i j) (later j jl jh more)
        ]

        at_row : (i : ℕ) → i < m → (b : Bool) → eqb (row_part i) h ≡ b → sum_on (f h) n (λ j. c j * diagonal row_part column_part a h i j) % p ≡ 0
        at_row i il true e =
            ap (λ s. s % p) (sum_on-ext (f h) n (λ j. c j * diagonal row_part column_part a h i j) (λ j. c j * a i j)
            (λ j jl jh. ap (λ x. c j * x) (part-shown (in_part row_part h) (in_part column_part h) a i j e (eqb_from (column_part j) h (inside h hl j jl jh)))))
            ∙ row-part h hl i il (others i il (eqb_true (row_part i) h e))
        at_row i il false e = vanishes-sum p (f h) n (λ j. c j * diagonal row_part column_part a h i j)
            (λ j jl jh. vanishes-mul p (c j) (diagonal row_part column_part a h i j)
            (ap (λ s. s % p) (part-other_row (in_part row_part h) (in_part column_part h) a i j e) ∙ zero-mod p))

    -- from the last part to the first
    descend : (d j : ℕ) → j < n → glued j ≡ true → k ≤ column_part j + d → c j % p ≡ 0
    descend zero j jl jh le = absurd (omega (arith, below j jl))
    descend (suc d) j jl jh le = step (column_part j) (below j jl) (λ x xl xh more. descend d x xl xh (omega arith)) j jl jh

  pub glued-independent : IsIndependent p a m n glued
  glued-independent c z j jl jh = descend c z k j jl jh (omega arith)

  pub glued-size : size_on glued n ≡ sum_below k (λ h. size_on (f h) n)
  glued-size = size-levels column_part glued n k (λ j jl _. below j jl)
      ∙ sum_on-ext everything k (λ h. size_on (λ j. glued j && eqb (column_part j) h) n) (λ h. size_on (f h) n)
      (λ h hl _. sum_on-same (λ j. glued j && eqb (column_part j) h) (f h) n (λ _. 1) (λ j jl. same (f h j) (glued j) (eqb (column_part j) h)
      (λ q. glued-member h hl j jl q) (λ q. eqb_from (column_part j) h (inside h hl j jl q))
      (λ g e. subst (λ l. f l j ≡ true) (eqb_true (column_part j) h e) g)))
    where
      same : (s a b : Bool) → (s ≡ true → a ≡ true) → (s ≡ true → b ≡ true) → (a ≡ true → b ≡ true → s ≡ true) → a && b ≡ s
      same true a b x y w = both_true a b (x refl) (y refl)
      same false true true x y w = sym (w refl refl)
      same false true false x y w = refl
      same false false b x y w = refl

-- the ranks of the diagonal parts add up to at most the rank
pub triangular-rank : (p : ℕ) → IsPrime p → (m n k : ℕ) (a : ℕ → ℕ → ℕ) (row_part column_part : ℕ → ℕ) → ((j : ℕ) → j < n → column_part j < k) →
    IsBlockTriangular p a m n row_part column_part →
    (r : ℕ → ℕ) → ((h : ℕ) → h < k → IsRank p (diagonal row_part column_part a h) m n everything (r h)) → (s : ℕ) →
    IsRank p a m n everything s → sum_below k r ≤ s
triangular-rank p prime m n k a row_part column_part below tri r ranks s S =
    go (choose k (ℕ → Bool) nothing (λ h Y. IsIndependent p (diagonal row_part column_part a h) m n Y × (size_on Y n ≡ r h))
    (λ h hl. ((ranks h hl).reached.0, ((ranks h hl).reached.2, (ranks h hl).reached.3))))
  where
    go : (f : ℕ → ℕ → Bool) × ((h : ℕ) → h < k → IsIndependent p (diagonal row_part column_part a h) m n (f h) × (size_on (f h) n ≡ r h)) → sum_below k r ≤ s
    go (f, ok) = omega (
      arith,
      sum_on-ext everything k (λ h. size_on (f h) n) r (λ h hl _. (ok h hl).1),
      glued-size p prime m n k a row_part column_part below tri f (λ h hl. (ok h hl).0),
      S.greatest (glued p prime m n k a row_part column_part below tri f (λ h hl. (ok h hl).0)) (λ _ _ _. refl)
          (glued-independent p prime m n k a row_part column_part below tri f (λ h hl. (ok h hl).0)),
    )
