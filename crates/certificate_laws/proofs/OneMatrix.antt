-- A model has one layered matrix.
use Rattle.std.proofs.Common.{◌≡◌, ◌+◌, ◌-◌, ◌%◌, ◌<◌, ◌∙◌, ℕ, Bool, cond, eqb, inl, inr, ap, sym, subst, arith}
use Rattle.residue_theory.proofs.SetLaws.{lt_cases}
use Rattle.residue_theory.specs.Sets.{both}
use Rattle.mixed_matrices.specs.LayeredMatrices.{AreSameLayers, LayeredMatrix}
use Rattle.mixed_matrices.specs.Layerings.{AreMembers, IsLayering, Origins}
use Rattle.mixed_matrices.specs.Models.{MixedMatrix}
use Rattle.mixed_layering_laws.proofs.Members.{member-at}

-- the members of a set are listed in one way
one-listing : (A : ℕ → Bool) (n : ℕ) (at to : ℕ → ℕ) (m l : ℕ) → AreMembers A n at m → AreMembers A n to l → (k : ℕ) → k < m → at k ≡ to k
one-listing A n at to m l first second k kl =
    sym (member-at A n to l second (at k) (first.below k kl) (first.member k kl)) ∙ ap to (first.place k kl)

one-size : (A : ℕ → Bool) (n : ℕ) (at to : ℕ → ℕ) (m l : ℕ) → AreMembers A n at m → AreMembers A n to l → m ≡ l
one-size A n at to m l first second = sym first.count ∙ second.count

-- the same numbers of rows and columns, from the same rows of the model, with the same entries
pub record AreOneMatrix (L K : LayeredMatrix) (O N : Origins) : Type 0 where
  pub q_rows : L.q_rows ≡ K.q_rows
  pub t_rows : L.t_rows ≡ K.t_rows
  pub columns : L.columns ≡ K.columns
  pub split : O.split ≡ N.split
  pub of_q : (i : ℕ) → i < L.q_rows → O.of_q i ≡ N.of_q i
  pub of_t : (i : ℕ) → i < L.t_rows → O.of_t i ≡ N.of_t i
  pub of_z : (k : ℕ) → k < O.split → O.of_z k ≡ N.of_z k
  pub q : (i j : ℕ) → i < L.q_rows → j < L.columns → L.q i j ≡ K.q i j
  pub t : (i j : ℕ) → i < L.t_rows → j < L.columns → L.t i j ≡ K.t i j

module _ (M : MixedMatrix) (A D : ℕ → Bool) (L K : LayeredMatrix) (O N : Origins) (lay : IsLayering M A D L O) (other : IsLayering M A D K N) where
  q_rows-same : L.q_rows ≡ K.q_rows
  q_rows-same = one-size A M.rows O.of_q N.of_q L.q_rows K.q_rows lay.q_rows other.q_rows

  t_rows-same : L.t_rows ≡ K.t_rows
  t_rows-same = one-size D M.rows O.of_t N.of_t L.t_rows K.t_rows lay.t_rows other.t_rows

  split-same : O.split ≡ N.split
  split-same = one-size (both A D) M.rows O.of_z N.of_z O.split N.split lay.auxiliary other.auxiliary

  columns-same : L.columns ≡ K.columns
  columns-same = omega (arith, lay.columns, other.columns, split-same)

  q_row-same : (i : ℕ) → i < L.q_rows → O.of_q i ≡ N.of_q i
  q_row-same = one-listing A M.rows O.of_q N.of_q L.q_rows K.q_rows lay.q_rows other.q_rows

  t_row-same : (i : ℕ) → i < L.t_rows → O.of_t i ≡ N.of_t i
  t_row-same = one-listing D M.rows O.of_t N.of_t L.t_rows K.t_rows lay.t_rows other.t_rows

  auxiliary-same : (k : ℕ) → k < O.split → O.of_z k ≡ N.of_z k
  auxiliary-same = one-listing (both A D) M.rows O.of_z N.of_z O.split N.split lay.auxiliary other.auxiliary

  -- what holds at each column of M and at each auxiliary column holds at each column
  at_columns : (E : ℕ → Type 0) → ((j : ℕ) → j < M.columns → E j) → ((k : ℕ) → k < O.split → E (M.columns + k)) → (j : ℕ) → j < L.columns → E j
  at_columns E own auxiliary j jl = elim (lt_cases j M.columns) [
    | inl less ↦ own j less
    | inr more ↦ subst E (let e : M.columns + (j - M.columns) ≡ j = omega arith in e) (auxiliary (j - M.columns) (omega (arith, lay.columns)))
  ]

  q-same : (i j : ℕ) → i < L.q_rows → j < L.columns → L.q i j ≡ K.q i j
  q-same i j il = at_columns (λ j. L.q i j ≡ K.q i j)
      (λ j jl. lay.q i j il jl ∙ ap (λ r. M.constant r j) (q_row-same i il) ∙ sym (other.q i j low jl))
      (λ k kl. lay.q_auxiliary i k il kl ∙ ap (λ r. cond (eqb r (O.of_z k)) 1 0) (q_row-same i il)
      ∙ ap (λ r. cond (eqb (N.of_q i) r) 1 0) (auxiliary-same k kl) ∙ sym (other.q_auxiliary i k low (omega (arith, split-same))))
      j
    where
      low : i < K.q_rows
      low = omega (arith, q_rows-same)

  t-same : (i j : ℕ) → i < L.t_rows → j < L.columns → L.t i j ≡ K.t i j
  t-same i j il = at_columns (λ j. L.t i j ≡ K.t i j)
      (λ j jl. lay.t i j il jl ∙ ap (λ r. M.symbol r j) (t_row-same i il) ∙ sym (other.t i j low jl))
      (λ k kl. lay.t_auxiliary i k il kl ∙ ap (λ r. eqb r (O.of_z k)) (t_row-same i il)
      ∙ ap (λ r. eqb (N.of_t i) r) (auxiliary-same k kl) ∙ sym (other.t_auxiliary i k low (omega (arith, split-same))))
      j
    where
      low : i < K.t_rows
      low = omega (arith, t_rows-same)

  pub one-matrix : (p : ℕ) → AreSameLayers p L K
  one-matrix p = record { q_rows = q_rows-same; t_rows = t_rows-same; columns = columns-same; q = λ i j il jl. ap (λ x. x % p) (q-same i j il jl); t = t-same }

  pub are-one : AreOneMatrix L K O N
  are-one = record {
    q_rows = q_rows-same;
    t_rows = t_rows-same;
    columns = columns-same;
    split = split-same;
    of_q = q_row-same;
    of_t = t_row-same;
    of_z = auxiliary-same;
    q = q-same;
    t = t-same;
  }
