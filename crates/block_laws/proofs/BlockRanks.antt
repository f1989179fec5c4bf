-- With numbers at its symbols, the matrix of a form whose tails are empty has independent columns exactly where each
-- block has the rank of its size.
use Rattle.std.proofs.Common.{◌≡◌, ℕ, ◌+◌, ◌-◌, ◌%◌, ◌<◌, ◌≤◌, ◌≢◌, Bool, true, false, cond, ltb, inl, inr}
use Rattle.std.proofs.Common.{refl, ap, sym, subst, ◌∙◌, arith}
use Rattle.std.proofs.lemmas.Bool.Decides.{nat_tests}
use Rattle.std.proofs.Math.Nat.{zero-mod}
use Rattle.residue_theory.specs.Residues.{IsPrime}
use Rattle.residue_theory.specs.Sets.{everything, without, IsWithin}
use Rattle.residue_theory.specs.Sums.{size_on}
use Rattle.residue_theory.proofs.CountLaws.{size-everything, size-positive, sum_on-join}
use Rattle.residue_theory.proofs.SetLaws.{differ, eqb_from, le_cases, lt_cases}
use Rattle.residue_theory.proofs.SumLaws.{member-without, nat_cases, size_on-within, sum_on-ext, sum_on-same}
use Rattle.residue_theory.proofs.SumLaws.{sum_on-without}
use Rattle.linear_algebra.specs.Columns.{IsIndependent, IsRank}
use Rattle.linear_algebra.specs.Kernels.{SameKernel}
use Rattle.linear_algebra.specs.Parts.{diagonal, in_part, IsBlockTriangular}
use Rattle.linear_algebra.specs.Products.{IsInverse, product}
use Rattle.linear_algebra_laws.proofs.Entries.{above-low, above-top}
use Rattle.linear_algebra_laws.proofs.Kernels.{independent_of-kernel, kernel-sym}
use Rattle.linear_algebra_laws.proofs.PartLaws.{part-columns}
use Rattle.linear_algebra_laws.proofs.Products.{product-kernel}
use Rattle.linear_algebra_laws.proofs.RankLaws.{rank-size, rank_of-independent}
use Rattle.linear_algebra_laws.proofs.Ranks.{independent-within, rank-unique}
use Rattle.linear_algebra_laws.proofs.Stacked.{above-kernel}
use Rattle.mixed_matrices.specs.Forms.{IsTriangular, Parts, part_columns, part_rows, transformed}
use Rattle.mixed_matrices.specs.LayeredMatrices.{LayeredMatrix, layered_value}
use Rattle.mixed_matrices.specs.Layerings.{IsLayering, Origins}
use Rattle.mixed_matrices.specs.Models.{MixedMatrix, numbers, value}
use Rattle.mixed_layering_laws.proofs.LayeringRank.{rank-values, values-rank}
use Rattle.mixed_layering_laws.specs.LayeredValues.{AreValuesFor}
use Rattle.block_laws.specs.NumbersInBlocks.{IsBlockRank, IsRegularBlock, IsSquareForm, block_matrix, row_part}
use Rattle.block_laws.proofs.Triangular.{before, diagonal-independent, size-before, whole-independent}

-- a set within one that is no larger is the same
pub no_larger : (Y C : ℕ → Bool) (n : ℕ) → IsWithin n Y C → size_on C n ≤ size_on Y n → IsWithin n C Y
no_larger Y C n within le j jl jh = go (Y j) refl
  where
    go : (b : Bool) → Y j ≡ b → Y j ≡ true
    go true e = e
    go false e = absurd (omega (
      arith,
      le,
      sum_on-without C n j (λ _. 1) jl jh,
      size_on-within (without C j) Y n
          (λ k kl kh. member-without C j k (within k kl kh) (λ q. differ (subst (λ i. Y i ≡ false) (sym q) e) kh)),
    ))

-- ---- independent columns, and the rank of all
pub full_rank : (p : ℕ) (a : ℕ → ℕ → ℕ) (m n : ℕ) → IsIndependent p a m n everything → IsRank p a m n everything n
full_rank p a m n ind = subst (IsRank p a m n everything) (size-everything n) (rank_of-independent p a m n everything ind)

pub full_independent : (p : ℕ) (a : ℕ → ℕ → ℕ) (m n : ℕ) → IsRank p a m n everything n → IsIndependent p a m n everything
full_independent p a m n R = independent-within p a m n everything R.reached.0
    (no_larger R.reached.0 everything n (λ _ _ _. refl) (omega (arith, size-everything n, R.reached.3))) R.reached.2

-- ---- and of a diagonal part
module _ (p : ℕ) (prime : IsPrime p) (m n : ℕ) (a : ℕ → ℕ → ℕ) (row_of column_of : ℕ → ℕ) (h : ℕ) where
  pub part_rank : IsIndependent p (diagonal row_of column_of a h) m n (in_part column_of h) →
      IsRank p (diagonal row_of column_of a h) m n everything (size_on (in_part column_of h) n)
  part_rank ind = record {
    reached = (in_part column_of h, (λ _ _ _. refl), ind, refl);
    greatest = λ Y _ free. size_on-within (in_part column_of h) Y n
        (part-columns p prime m n a (in_part row_of h) (in_part column_of h) Y free);
  }

  pub part_independent : IsRank p (diagonal row_of column_of a h) m n everything (size_on (in_part column_of h) n) →
      IsIndependent p (diagonal row_of column_of a h) m n (in_part column_of h)
  part_independent R = independent-within p (diagonal row_of column_of a h) m n (in_part column_of h) R.reached.0
      (no_larger R.reached.0 (in_part column_of h) n
      (part-columns p prime m n a (in_part row_of h) (in_part column_of h) R.reached.0 R.reached.2) (omega (arith, R.reached.3))) R.reached.2

-- ---- the rows of P above T
module _ (L : LayeredMatrix) (G : Parts) where
  pub row_part-top : (i : ℕ) → i < L.q_rows → row_part L G i ≡ G.q_row i
  row_part-top i l = ap (λ b. cond b (G.q_row i) (G.t_row (i - L.q_rows))) (let e : ltb i L.q_rows ≡ true = grind (arith, nat_tests) in e)

  pub row_part-low : (i : ℕ) → row_part L G (L.q_rows + i) ≡ G.t_row i
  row_part-low i = low (ltb (L.q_rows + i) L.q_rows) (L.q_rows + i - L.q_rows)
      (let g : L.q_rows ≤ L.q_rows + i = omega arith in grind (arith, nat_tests)) (omega arith)
    where
      low : (t : Bool) (k : ℕ) → t ≡ false → k ≡ i → cond t (G.q_row (L.q_rows + i)) (G.t_row k) ≡ G.t_row i
      low t k e q = ap (λ s. cond s (G.q_row (L.q_rows + i)) (G.t_row k)) e ∙ ap G.t_row q

  pub rows-counted : (h : ℕ) → size_on (in_part (row_part L G) h) (L.q_rows + L.t_rows) ≡ part_rows L G h
  rows-counted h =
      sum_on-join (in_part (row_part L G) h) L.q_rows L.t_rows (λ _. 1)
      ∙ ap (λ s. s + size_on (λ i. in_part (row_part L G) h (L.q_rows + i)) L.t_rows)
      (sum_on-same (in_part (row_part L G) h) (in_part G.q_row h) L.q_rows (λ _. 1) (λ i il. ap (λ r. in_part (λ k. k) h r) (row_part-top i il)))
      ∙ ap (λ s. size_on (in_part G.q_row h) L.q_rows + s)
      (sum_on-same (λ i. in_part (row_part L G) h (L.q_rows + i)) (in_part G.t_row h) L.t_rows (λ _. 1)
      (λ i _. ap (λ r. in_part (λ k. k) h r) (row_part-low i)))

module _ (p : ℕ) (prime : IsPrime p) (L : LayeredMatrix) (S : ℕ → ℕ → ℕ) (G : Parts) (form : IsSquareForm p L S G) where
  pub tri : IsTriangular p (transformed S L) G
  tri = form.form.1

  -- each part has as many rows as columns
  pub even : (h : ℕ) → h ≤ G.blocks + 1 → part_rows L G h ≡ part_columns L G h
  even h le = elim (nat_cases h 0) [
    | inl z ↦ subst (λ k. part_rows L G k ≡ part_columns L G k) (sym z) (form.first_rows ∙ sym form.first_columns)
    | inr ne ↦ elim (nat_cases h (G.blocks + 1)) [
      | inl e ↦ subst (λ k. part_rows L G k ≡ part_columns L G k) (sym e) (form.last_rows ∙ sym form.last_columns)
      | inr other ↦ (tri.square h (omega (arith, ne)) (omega (arith, le, other))).0
    ]
  ]

  -- each row and each column stands in a block
  pub row_in_block : (i : ℕ) → i < L.q_rows + L.t_rows → (k : ℕ) × (k < G.blocks) × (row_part L G i ≡ k + 1)
  row_in_block i il = (row_part L G i - 1, omega (arith, high, positive, not_last), omega (arith, positive))
    where
      counted : 0 < part_rows L G (row_part L G i)
      counted = omega (
        arith,
        size-positive (in_part (row_part L G) (row_part L G i)) (L.q_rows + L.t_rows) i il
            (eqb_from (row_part L G i) (row_part L G i) refl),
        rows-counted L G (row_part L G i),
      )

      high : row_part L G i ≤ G.blocks + 1
      high = elim (lt_cases i L.q_rows) [
        | inl top ↦ subst (λ h. h ≤ G.blocks + 1) (sym (row_part-top L G i top)) (tri.q_rows i top)
        | inr low ↦ subst (λ r. row_part L G r ≤ G.blocks + 1) (let e : L.q_rows + (i - L.q_rows) ≡ i = omega arith in e)
            (subst (λ h. h ≤ G.blocks + 1) (sym (row_part-low L G (i - L.q_rows))) (tri.t_rows (i - L.q_rows) (omega arith)))
      ]

      not_in : (h : ℕ) → part_rows L G h ≡ 0 → row_part L G i ≢ h
      not_in h none q = absurd (omega (arith, subst (λ k. 0 < part_rows L G k) q counted, none))

      positive : 0 < row_part L G i
      positive = let ne : row_part L G i ≢ 0 = not_in 0 form.first_rows in omega arith

      not_last : row_part L G i ≢ G.blocks + 1
      not_last = not_in (G.blocks + 1) form.last_rows

  -- the parts before h have as many rows as columns
  few : (h : ℕ) → h ≤ G.blocks + 1 → size_on (before (row_part L G) h) (L.q_rows + L.t_rows) ≤ size_on (before G.column h) L.columns
  few h le = omega (
    arith,
    size-before (row_part L G) (L.q_rows + L.t_rows) h,
    size-before G.column L.columns h,
    sum_on-ext everything h (λ l. size_on (in_part (row_part L G) l) (L.q_rows + L.t_rows)) (λ l. size_on (in_part G.column l) L.columns)
        (λ l ll _. rows-counted L G l ∙ even l (omega arith)),
  )

  -- ---- with numbers
  module _ (w : ℕ → ℕ → ℕ) where
    abbrev a : ℕ → ℕ → ℕ
    a = block_matrix S L w

    block_triangular : IsBlockTriangular p (block_matrix S L w) (L.q_rows + L.t_rows) L.columns (row_part L G) G.column
    block_triangular i j il jl less = elim (lt_cases i L.q_rows) [
      | inl top ↦ ap (λ s. s % p) (above-top L.q_rows (product L.q_rows S L.q) (numbers L.t w) i j top)
          ∙ (tri.empty (G.q_row i) (G.column j) (subst (λ h. G.column j < h) (row_part-top L G i top) less)).q i j top jl refl refl
      | inr more ↦
          let e : L.q_rows + (i - L.q_rows) ≡ i = omega arith in
          subst (λ r. block_matrix S L w r j % p ≡ 0) e
          (ap (λ s. s % p) (above-low L.q_rows (product L.q_rows S L.q) (numbers L.t w) (i - L.q_rows) j)
          ∙ ap (λ b. cond b (w (i - L.q_rows) j) 0 % p)
          ((tri.empty (G.t_row (i - L.q_rows)) (G.column j)
          (subst (λ h. G.column j < h) (row_part-low L G (i - L.q_rows)) (subst (λ r. G.column j < row_part L G r) (sym e) less))).t
          (i - L.q_rows) j (omega arith) jl refl refl)
          ∙ zero-mod p)
    ]

    -- a part without columns
    no_columns : (h : ℕ) → part_columns L G h ≡ 0 → IsIndependent p (diagonal (row_part L G) G.column (block_matrix S L w) h)
        (L.q_rows + L.t_rows) L.columns (in_part G.column h)
    no_columns h none c z j jl jh = absurd (omega (arith, size-positive (in_part G.column h) L.columns j jl jh, none))

    pub whole_of_blocks : ((k : ℕ) → k < G.blocks → IsRegularBlock p S L G w k) →
        IsIndependent p (block_matrix S L w) (L.q_rows + L.t_rows) L.columns everything
    whole_of_blocks regular = whole-independent p prime (L.q_rows + L.t_rows) L.columns (G.blocks + 2) (block_matrix S L w) (row_part L G) G.column
        (λ j jl. omega (arith, tri.columns j jl)) block_triangular each
      where
        each : (h : ℕ) → h < G.blocks + 2 → IsIndependent p (diagonal (row_part L G) G.column (block_matrix S L w) h)
            (L.q_rows + L.t_rows) L.columns (in_part G.column h)
        each h hl = elim (nat_cases h 0) [
          | inl z ↦ no_columns h (subst (λ k. part_columns L G k ≡ 0) (sym z) form.first_columns)
          | inr ne ↦ elim (nat_cases h (G.blocks + 1)) [
            | inl e ↦ no_columns h (subst (λ k. part_columns L G k ≡ 0) (sym e) form.last_columns)
            | inr other ↦ subst (λ k. IsIndependent p (diagonal (row_part L G) G.column (block_matrix S L w) k)
                (L.q_rows + L.t_rows) L.columns (in_part G.column k)) (let e : (h - 1) + 1 ≡ h = omega (arith, ne) in e)
                (part_independent p prime (L.q_rows + L.t_rows) L.columns (block_matrix S L w) (row_part L G) G.column (h - 1 + 1)
                (regular (h - 1) (omega (arith, hl, ne, other))))
          ]
        ]

    pub blocks_of_whole : IsIndependent p (block_matrix S L w) (L.q_rows + L.t_rows) L.columns everything →
        (k : ℕ) → k < G.blocks → IsRegularBlock p S L G w k
    blocks_of_whole ind k kl = part_rank p prime (L.q_rows + L.t_rows) L.columns (block_matrix S L w) (row_part L G) G.column (k + 1)
        (diagonal-independent p prime (L.q_rows + L.t_rows) L.columns (block_matrix S L w) (row_part L G) G.column block_triangular (k + 1)
        (few (k + 1) (omega (arith, kl))) ind)

    -- S keeps the kernel
    same_kernel : SameKernel p (L.q_rows + L.t_rows) L.columns (layered_value L w) (block_matrix S L w)
    same_kernel = go form.form.0
      where
        go : ((U : ℕ → ℕ → ℕ) × IsInverse p L.q_rows S U × IsInverse p L.q_rows U S) →
            SameKernel p (L.q_rows + L.t_rows) L.columns (layered_value L w) (block_matrix S L w)
        go (U, inv, _) = above-kernel p L.q_rows L.t_rows L.columns L.q (product L.q_rows S L.q) (numbers L.t w)
            (product-kernel p prime L.q_rows L.columns S U L.q (product L.q_rows S L.q) inv (λ i j _ _. refl))

    module _ (M : MixedMatrix) (A D : ℕ → Bool) (O : Origins) (lay : IsLayering M A D L O) (v : ℕ → ℕ → ℕ) (values : AreValuesFor p M L O v w) where
      pub regular_of_blocks : ((k : ℕ) → k < G.blocks → IsRegularBlock p S L G w k) → IsRank p (value M v) M.rows M.columns everything M.columns
      regular_of_blocks regular = rank-values p prime M A D L O lay v w values M.columns
          (subst (IsRank p (layered_value L w) (L.q_rows + L.t_rows) L.columns everything) lay.columns
          (full_rank p (layered_value L w) (L.q_rows + L.t_rows) L.columns
          (independent_of-kernel p (L.q_rows + L.t_rows) L.columns (block_matrix S L w) (layered_value L w) everything
          (kernel-sym p (L.q_rows + L.t_rows) L.columns (layered_value L w) (block_matrix S L w) same_kernel) (whole_of_blocks regular))))

      pub blocks_of_regular : IsRank p (value M v) M.rows M.columns everything M.columns → (k : ℕ) → k < G.blocks → IsRegularBlock p S L G w k
      blocks_of_regular R = blocks_of_whole (independent_of-kernel p (L.q_rows + L.t_rows) L.columns (layered_value L w) (block_matrix S L w)
          everything same_kernel (full_independent p (layered_value L w) (L.q_rows + L.t_rows) L.columns
          (subst (IsRank p (layered_value L w) (L.q_rows + L.t_rows) L.columns everything) (sym lay.columns)
          (values-rank p prime M A D L O lay v w values M.columns R))))

      pub singular_of_block : (k r s : ℕ) → k < G.blocks → IsBlockRank p S L G w k r → r < part_columns L G (k + 1) →
          IsRank p (value M v) M.rows M.columns everything s → s < M.columns
      singular_of_block k r s kl B less R = elim (le_cases s M.columns (omega (
        arith,
        rank-size p (value M v) M.rows M.columns everything s R,
        size-everything M.columns,
      ))) [
        | inr below ↦ below
        | inl q ↦ absurd (omega (
          arith,
          less,
          rank-unique p (diagonal (row_part L G) G.column (block_matrix S L w) (k + 1)) (L.q_rows + L.t_rows) L.columns everything r
              (part_columns L G (k + 1)) B
              (blocks_of_regular (subst (IsRank p (value M v) M.rows M.columns everything) q R) k kl),
        ))
      ]
