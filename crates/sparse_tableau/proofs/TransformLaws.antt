-- A pivot of a sparse matrix row by row: what leads back from the rows so far.
use Rattle.std.proofs.Common.{◌≡◌, ℕ, ◌+◌, ◌*◌, ◌%◌, ◌<◌, ◌≤◌, ◌≢◌, ◌⊎◌, inl, inr, refl, sym, subst, ap, ◌∙◌, arith}
use Rattle.std.proofs.Math.Nat.{zero-mod, mod-mod, mod-add-mod, mod-eq_of_lt}
use Rattle.residue_theory.specs.Residues.{IsPrime}
use Rattle.residue_theory.proofs.SumLaws.{nat_cases}
use Rattle.residue_theory.proofs.SetLaws.{lt_cases}
use Rattle.residue_theory.proofs.ResidueLaws.{agree-mul, agree-add, vanishes-mul, vanishes_factor}
use Rattle.sparse_q.specs.Tables.{SparseTable, number_in, HasSize, IsRowSet}
use Rattle.row_table.specs.Reductions.{IsReduced}
use Rattle.sparse_tableau.specs.Sparse.{HasSameRoom}

-- row r of a leads back from that of b, and so do the rows before row n; the rows from n on are those of a
pub record IsReducedTo (p : ℕ) (a b : ℕ → ℕ → ℕ) (r : ℕ) (k : ℕ → ℕ) (n : ℕ) : Type 0 where
  pub here : (j : ℕ) → a r j % p ≡ k r * b r j % p
  pub done : (i j : ℕ) → i < n → i ≢ r → a i j % p ≡ (b i j + k i * b r j) % p
  pub rest : (i j : ℕ) → n ≤ i → i ≢ r → b i j ≡ a i j

-- k takes f away again
one-times : (p k f x : ℕ) → 1 < p → (k * f) % p ≡ 1 → k * (f * x % p) % p ≡ x % p
one-times p k f x above one =
    agree-mul p k (f * x % p) (f * x) (mod-mod (f * x) p)
    ∙ ap (λ z. z % p) (let e : k * (f * x) ≡ x * (k * f) = omega arith in e)
    ∙ agree-mul p x (k * f) 1 (one ∙ sym (mod-eq_of_lt above))
    ∙ ap (λ z. z % p) (let e : x * 1 ≡ x = omega arith in e)

-- row r times f, where k r * f is 1
pub reduced-scaled : (p : ℕ) (a b : SparseTable) (r : ℕ) (k : ℕ → ℕ) (f : ℕ) → 1 < p → (k r * f) % p ≡ 1 →
    IsRowSet a b r (λ j. f * number_in a r j % p) → IsReducedTo p (number_in a) (number_in b) r k 0
reduced-scaled p a b r k f above one scaled = record {
  here = λ j. sym (ap (λ z. k r * z % p) (scaled.changed j) ∙ one-times p (k r) f (number_in a r j) above one);
  done = λ i j l. absurd (omega arith);
  rest = λ i j l ne. scaled.others i j ne;
}

module _ (p : ℕ) (a b : ℕ → ℕ → ℕ) (r : ℕ) (k : ℕ → ℕ) (n : ℕ) (so_far : IsReducedTo p a b r k n) where
  -- the rows from n on and before m are row r, or have nothing to take away
  pub reduced-past : (m : ℕ) → n ≤ m → ((i : ℕ) → n ≤ i → i < m → (i ≡ r) ⊎ (k i % p ≡ 0)) → IsReducedTo p a b r k m
  reduced-past m le why = record {
    here = so_far.here;
    done = λ i j l ne. elim (lt_cases i n) [
      | inl before ↦ so_far.done i j before ne
      | inr after ↦ elim (why i after l) [
        | inl s ↦ absurd (ne s)
        | inr z ↦ sym (
            agree-add p (b i j) (b i j) (k i * b r j) 0 refl
            (ap (λ x. x % p) (let e : k i * b r j ≡ b r j * k i = omega arith in e)
            ∙ vanishes-mul p (b r j) (k i) z ∙ sym (zero-mod p))
            ∙ ap (λ x. x % p) ((let e : b i j + 0 ≡ b i j = omega arith in e) ∙ so_far.rest i j after ne)
            )
      ]
    ];
    rest = λ i j l ne. so_far.rest i j (omega arith) ne;
  }

  -- row n is row r, or has nothing to take away
  pub reduced-skip : (n ≡ r) ⊎ (k n ≡ 0) → IsReducedTo p a b r k (n + 1)
  reduced-skip why = record {
    here = so_far.here;
    done = λ i j l ne. elim (nat_cases i n) [
      | inl q ↦ elim why [
        | inl s ↦ absurd (ne (q ∙ s))
        | inr z ↦ subst (λ t. a t j % p ≡ (b t j + k t * b r j) % p) (sym q) (same j z (λ s. ne (q ∙ s)))
      ]
      | inr other ↦ so_far.done i j (omega arith) ne
    ];
    rest = λ i j l ne. so_far.rest i j (omega arith) ne;
  }
    where
      same : (j : ℕ) → k n ≡ 0 → n ≢ r → a n j % p ≡ (b n j + k n * b r j) % p
      same j z ne = sym (
          ap (λ y. (y + k n * b r j) % p) (so_far.rest n j (omega arith) ne)
          ∙ ap (λ y. (a n j + y * b r j) % p) z
          ∙ ap (λ y. y % p) (let e : a n j + 0 * b r j ≡ a n j = omega arith in e))

  -- f times row r was added to row n, where k n + f is zero
  pub reduced-add : (c : ℕ → ℕ → ℕ) (f : ℕ) → n ≢ r → (k n + f) % p ≡ 0 →
      ((j : ℕ) → c n j ≡ (b n j + f * b r j) % p) → ((i j : ℕ) → i ≢ n → c i j ≡ b i j) → IsReducedTo p a c r k (n + 1)
  reduced-add c f apart zero changed others = record {
    here = λ j. so_far.here j ∙ ap (λ y. k r * y % p) (sym (at_r j));
    done = λ i j l ne. elim (nat_cases i n) [
      | inl q ↦ subst (λ t. a t j % p ≡ (c t j + k t * c r j) % p) (sym q) (new j)
      | inr other ↦
          so_far.done i j (omega arith) ne
          ∙ ap (λ y. (y + k i * b r j) % p) (sym (others i j other))
          ∙ ap (λ y. (c i j + k i * y) % p) (sym (at_r j))
    ];
    rest = λ i j l ne. others i j (λ q. omega arith) ∙ so_far.rest i j (omega arith) ne;
  }
    where
      at_r : (j : ℕ) → c r j ≡ b r j
      at_r j = others r j (λ q. apart (sym q))

      new : (j : ℕ) → a n j % p ≡ (c n j + k n * c r j) % p
      new j = sym (
          ap (λ y. (y + k n * c r j) % p) (changed j)
          ∙ ap (λ y. ((b n j + f * b r j) % p + k n * y) % p) (at_r j)
          ∙ mod-add-mod (b n j + f * b r j) p (k n * b r j)
          ∙ ap (λ y. y % p) (let e : b n j + f * b r j + k n * b r j ≡ b n j + b r j * (k n + f) = omega arith in e)
          ∙ agree-add p (b n j) (a n j) (b r j * (k n + f)) 0 (ap (λ y. y % p) (so_far.rest n j (omega arith) apart))
          (vanishes-mul p (b r j) (k n + f) zero ∙ sym (zero-mod p))
          ∙ ap (λ y. y % p) (let e : a n j + 0 ≡ a n j = omega arith in e))

  pub reduced-all : (m w : ℕ) → m ≤ n → IsReduced p m w a b r k
  reduced-all m w le = record {
    here = λ j _. so_far.here j;
    others = λ i j il _ ne. so_far.done i j (omega arith) ne;
  }

-- a row that is set leaves the size
pub size-set : (h w : ℕ) (a b : SparseTable) (i : ℕ) (f : ℕ → ℕ) → HasSize h w a → IsRowSet a b i f → HasSize h w b
size-set h w a b i f size put = record {
  rows_are = put.size.rows_are ∙ size.rows_are;
  width_is = put.size.width_is ∙ size.width_is;
}

-- what has a product that is 1 is not zero
pub some-factor : (p k f : ℕ) → (k * f) % p ≡ 1 → f ≢ 0
some-factor p k f one z =
    let none : (k * f) % p ≡ 0 =
    ap (λ y. k * y % p) z ∙ ap (λ y. y % p) (let e : k * 0 ≡ 0 = omega arith in e) ∙ zero-mod p in
    omega arith

-- the columns that are zero in the row of a pivot stay
pub reduced-zero : (p : ℕ) → IsPrime p → (m n : ℕ) (a b : ℕ → ℕ → ℕ) (r : ℕ) (k : ℕ → ℕ) → r < m → k r % p ≢ 0 → IsReduced p m n a b r k →
    (j : ℕ) → j < n → a r j % p ≡ 0 → (i : ℕ) → i < m → b i j % p ≡ a i j % p
reduced-zero p prime m n a b r k rl ne reduced j jl z i il = elim (nat_cases i r) [
  | inl q ↦ subst (λ t. b t j % p ≡ a t j % p) (sym q) (none ∙ sym z)
  | inr other ↦
      ap (λ y. y % p) (let e : b i j ≡ b i j + 0 = omega arith in e)
      ∙ agree-add p (b i j) (b i j) 0 (k i * b r j) refl (zero-mod p ∙ sym (vanishes-mul p (k i) (b r j) none))
      ∙ sym (reduced.others i j il jl other)
]
  where
    none : b r j % p ≡ 0
    none = vanishes_factor p prime (k r) (b r j) ne (sym (reduced.here j jl) ∙ z)

-- the room of a matrix of which a row was set
pub room-set : (a b c : SparseTable) (i : ℕ) (f : ℕ → ℕ) → HasSameRoom a b → IsRowSet b c i f → HasSameRoom a c
room-set a b c i f room put = record { row_room = put.row_room ∙ room.row_room; column_room = put.column_room ∙ room.column_room }
