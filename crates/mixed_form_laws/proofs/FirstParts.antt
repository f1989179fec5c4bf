-- The first tail and the first blocks of any form are a minimiser.
use Rattle.std.proofs.Common.{◌≡◌, ◌+◌, ◌<◌, ◌≤◌, ◌∙◌, ℕ, zero, suc, Bool, true, false, eqb, leb, refl, ap, sym, arith}
use Rattle.std.proofs.lemmas.Bool.Decides.{nat_tests}
use Rattle.residue_theory.proofs.CountLaws.{levels, levels-all, levels-first, size-everything}
use Rattle.residue_theory.proofs.SetLaws.{both-first, both-second, differ, some_below-found}
use Rattle.residue_theory.proofs.SumLaws.{size_on-within}
use Rattle.residue_theory.specs.Residues.{IsPrime}
use Rattle.residue_theory.specs.Sets.{both, everything}
use Rattle.residue_theory.specs.Sums.{size_on, sum_below}
use Rattle.linear_algebra.specs.Kernels.{SameKernel}
use Rattle.linear_algebra.specs.Parts.{in_part}
use Rattle.linear_algebra.specs.Products.{IsInverse, product}
use Rattle.linear_algebra_laws.proofs.Kernels.{kernel-sym, rank_of-kernel}
use Rattle.linear_algebra_laws.proofs.Products.{product-kernel}
use Rattle.linear_algebra_laws.proofs.RankLaws.{rank-rows}
use Rattle.linear_algebra_laws.proofs.Ranks.{rank_exists}
use Rattle.linear_algebra_laws.proofs.Stacked.{above-kernel}
use Rattle.mixed_matrices.specs.Forms.{IsTriangular, Parts, part_columns, part_rows, transformed}
use Rattle.mixed_matrices.specs.LayeredMatrices.{LayeredMatrix, layered_value}
use Rattle.mixed_matrices.specs.Models.{numbers}
use Rattle.mixed_matrices.specs.Pairs.{pair_size}
use Rattle.mixed_matrices.specs.SetFunctions.{IsMinimiser, IsRho, gamma, touches_set}
use Rattle.mixed_matrices.specs.StructuralRanks.{IsLayeredRank}
use Rattle.mixed_pair_laws.proofs.BestPairs.{Optimal, optimal, optimal-rank}
use Rattle.mixed_pair_laws.proofs.MinMax.{rank-at_most}
use Rattle.mixed_pair_laws.proofs.PairBounds.{bound}
use Rattle.mixed_pair_laws.proofs.RemovedRows.{greatest-moved}
use Rattle.mixed_form_laws.proofs.DiagonalRanks.{diagonal-ranks, early-rank, late-rank, part_rank}

leb_is : (x k : ℕ) → leb x k ≡ true → x ≤ k
leb_is x k h = grind (arith, nat_tests)

leb_not : (x k : ℕ) → leb x k ≡ false → k < x
leb_not x k h = grind (arith, nat_tests)

module _ (p : ℕ) (prime : IsPrime p) (L : LayeredMatrix) (S U : ℕ → ℕ → ℕ) (inv : IsInverse p L.q_rows S U) (G : Parts)
    (tri : IsTriangular p (transformed S L) G) where
  kernel : SameKernel p L.q_rows L.columns L.q (product L.q_rows S L.q)
  kernel = product-kernel p prime L.q_rows L.columns S U L.q (product L.q_rows S L.q) inv (λ i j _ _. refl)

  abbrev pub upto : ℕ → ℕ → Bool
  upto k j = leb (G.column j) k

  -- the rows of the first parts
  abbrev pub first_rows : ℕ → ℕ
  first_rows k = size_on (λ i. leb (G.q_row i) k) L.q_rows + size_on (λ i. leb (G.t_row i) k) L.t_rows

  -- later rows are empty at the first columns: rho and gamma are at most the first rows
  rho-rows : (k r : ℕ) → IsRho p L (upto k) r → r ≤ size_on (λ i. leb (G.q_row i) k) L.q_rows
  rho-rows k r R = rank-rows p prime (product L.q_rows S L.q) L.q_rows L.columns (λ i. leb (G.q_row i) k) (upto k) r
      (λ i j il jl e h. (tri.empty (G.q_row i) (G.column j) (omega (arith, leb_not (G.q_row i) k e, leb_is (G.column j) k h))).q i j il jl refl refl)
      (rank_of-kernel p L.q_rows L.columns L.q (product L.q_rows S L.q) (upto k) r kernel R)

  gamma-rows : (k : ℕ) → gamma L (upto k) ≤ size_on (λ i. leb (G.t_row i) k) L.t_rows
  gamma-rows k = size_on-within (λ i. leb (G.t_row i) k) (touches_set L (upto k)) L.t_rows (λ i il h. go i il h (leb (G.t_row i) k) refl)
    where
      go : (i : ℕ) → i < L.t_rows → touches_set L (upto k) i ≡ true → (b : Bool) → leb (G.t_row i) k ≡ b → leb (G.t_row i) k ≡ true
      go i il h true e = e
      go i il h false e = let f : (j : ℕ) × (j < L.columns) × (both (upto k) (L.t i) j ≡ true) = some_below-found L.columns (both (upto k) (L.t i)) h in
          absurd (differ ((tri.empty (G.t_row i) (G.column f.0)
          (omega (arith, leb_not (G.t_row i) k e, leb_is (G.column f.0) k (both-first (upto k f.0) (L.t i f.0) f.2)))).t i f.0 il f.1 refl refl)
          (both-second (upto k f.0) (L.t i f.0) f.2))

  -- rows and columns of the first parts differ as those of the first tail
  pub sizes : (k : ℕ) → k ≤ G.blocks → first_rows k + part_columns (transformed S L) G 0 ≡ size_on (upto k) L.columns + part_rows (transformed S L) G 0
  sizes zero le = omega (arith, levels-first G.column L.columns (λ _. 1), levels-first G.q_row L.q_rows (λ _. 1), levels-first G.t_row L.t_rows (λ _. 1))
  sizes (suc k) le = omega (
    arith,
    sizes k (omega arith),
    levels G.column L.columns k (λ _. 1),
    levels G.q_row L.q_rows k (λ _. 1),
    levels G.t_row L.t_rows k (λ _. 1),
    (tri.square (suc k) (omega arith) le).0,
  )

  all_columns : size_on (upto G.blocks) L.columns + part_columns (transformed S L) G (G.blocks + 1) ≡ L.columns
  all_columns = omega (
    arith,
    sym (levels G.column L.columns G.blocks (λ _. 1)),
    levels-all G.column L.columns (suc G.blocks) (λ _. 1)
        (λ j jl. omega (arith, tri.columns j jl)),
    size-everything L.columns,
    last,
  )
    where
      last : part_columns (transformed S L) G (G.blocks + 1) ≡ size_on (λ j. eqb (G.column j) (suc G.blocks)) L.columns
      last = ap (λ h. size_on (in_part G.column h) L.columns) (let q : G.blocks + 1 ≡ suc G.blocks = omega arith in q)

  -- the ranks of the diagonal parts before the last are the first rows
  rank-sum : (k : ℕ) → k ≤ G.blocks → sum_below (suc k) (part_rank p prime (transformed S L) G tri) ≡ first_rows k
  rank-sum zero le = omega (
    arith,
    early-rank p prime (transformed S L) G tri 0 (omega arith),
    levels-first G.q_row L.q_rows (λ _. 1),
    levels-first G.t_row L.t_rows (λ _. 1),
  )
  rank-sum (suc k) le = omega (
    arith,
    rank-sum k (omega arith),
    early-rank p prime (transformed S L) G tri (suc k) le,
    levels G.q_row L.q_rows k (λ _. 1),
    levels G.t_row L.t_rows k (λ _. 1),
  )

  whole-sum : sum_below (G.blocks + 2) (part_rank p prime (transformed S L) G tri) ≡ first_rows G.blocks + part_columns (transformed S L) G (G.blocks + 1)
  whole-sum = ap (λ n. sum_below n (part_rank p prime (transformed S L) G tri)) (let q : G.blocks + 2 ≡ suc (suc G.blocks) = omega arith in q)
      ∙ ap (λ s. s + part_rank p prime (transformed S L) G tri (suc G.blocks)) (rank-sum G.blocks (omega arith))
      ∙ ap (λ s. first_rows G.blocks + s) (ap (λ h. part_rank p prime (transformed S L) G tri h) (let q : suc G.blocks ≡ G.blocks + 1 = omega arith in q)
      ∙ late-rank p prime (transformed S L) G tri)

  -- summed over the parts
  row-sum : (k : ℕ) → k ≤ G.blocks → sum_below (suc k) (λ h. part_rows (transformed S L) G h) ≡ first_rows k
  row-sum zero le = omega (arith, levels-first G.q_row L.q_rows (λ _. 1), levels-first G.t_row L.t_rows (λ _. 1))
  row-sum (suc k) le = omega (arith, row-sum k (omega arith), levels G.q_row L.q_rows k (λ _. 1), levels G.t_row L.t_rows k (λ _. 1))

  -- L and its transformed matrix have the same structural rank
  transformed-rank : (r : ℕ) → IsLayeredRank p L r → IsLayeredRank p (transformed S L) r
  transformed-rank = greatest-moved p (L.q_rows + L.t_rows) L.columns (L.q_rows + L.t_rows) L.columns (layered_value L) (layered_value (transformed S L))
      (λ w r R. (w, rank_of-kernel p (L.q_rows + L.t_rows) L.columns (layered_value L w) (layered_value (transformed S L) w) everything r (stacked w) R))
      (λ w r R. (
        w,
        rank_of-kernel p (L.q_rows + L.t_rows) L.columns (layered_value (transformed S L) w) (layered_value L w) everything r
            (kernel-sym p (L.q_rows + L.t_rows) L.columns (layered_value L w) (layered_value (transformed S L) w) (stacked w)) R,
      ))
    where
      stacked : (w : ℕ → ℕ → ℕ) → SameKernel p (L.q_rows + L.t_rows) L.columns (layered_value L w) (layered_value (transformed S L) w)
      stacked w = above-kernel p L.q_rows L.t_rows L.columns L.q (product L.q_rows S L.q) (numbers L.t w) kernel

  pub form-ranks : (r : ℕ) → IsLayeredRank p L r →
      sum_below (G.blocks + 1) (λ k. part_rows (transformed S L) G k) + part_columns (transformed S L) G
      (G.blocks + 1) ≤ r
  form-ranks r R = omega (
    arith,
    ap (λ n. sum_below n (λ k. part_rows (transformed S L) G k)) (let q : G.blocks + 1 ≡ suc G.blocks = omega arith in q),
    row-sum G.blocks (omega arith),
    whole-sum,
    diagonal-ranks p prime (transformed S L) G tri r (transformed-rank r R),
  )

  -- the rows of the last tail are all others
  pub last-rows : first_rows G.blocks + part_rows (transformed S L) G (G.blocks + 1) ≡ L.q_rows + L.t_rows
  last-rows = omega (
    arith,
    sym (levels G.q_row L.q_rows G.blocks (λ _. 1)),
    sym (levels G.t_row L.t_rows G.blocks (λ _. 1)),
    levels-all G.q_row L.q_rows (suc G.blocks) (λ _. 1) (λ i il. omega (arith, tri.q_rows i il)),
    levels-all G.t_row L.t_rows (suc G.blocks) (λ _. 1) (λ i il. omega (arith, tri.t_rows i il)),
    size-everything L.q_rows,
    size-everything L.t_rows,
    last,
  )
    where
      last : part_rows (transformed S L) G (G.blocks + 1) ≡ size_on (λ i. eqb (G.q_row i) (suc G.blocks))
          L.q_rows + size_on (λ i. eqb (G.t_row i) (suc G.blocks)) L.t_rows
      last = ap (λ h. part_rows (transformed S L) G h) (let q : G.blocks + 1 ≡ suc G.blocks = omega arith in q)

  -- so R(L) is N less the columns that the first tail has more than rows
  pub form-rank : (r : ℕ) → IsLayeredRank p L r → r + part_columns (transformed S L) G 0 ≡ L.columns + part_rows (transformed S L) G 0
  form-rank r R = go (rank_exists p prime L.q L.q_rows L.columns (upto G.blocks))
    where
      go : (s : ℕ) × IsRho p L (upto G.blocks) s → r + part_columns (transformed S L) G 0 ≡ L.columns + part_rows (transformed S L) G 0
      go (s, K) = omega (
        arith,
        rank-at_most p prime L (upto G.blocks) s r K R,
        rho-rows G.blocks s K,
        gamma-rows G.blocks,
        sizes G.blocks (omega arith),
        all_columns,
        whole-sum,
        diagonal-ranks p prime (transformed S L) G tri r (transformed-rank r R),
      )

  pub first_parts-minimiser : (k : ℕ) → k ≤ G.blocks → IsMinimiser p L (upto k)
  first_parts-minimiser k le Y r s R K = go (optimal p prime L)
    where
      go : Optimal p L → r + gamma L (upto k) + size_on Y L.columns ≤ s + gamma L Y + size_on (upto k) L.columns
      go O = omega (
        arith,
        bound p L O.I O.J O.mate Y s O.pair K,
        rho-rows k r R,
        gamma-rows k,
        sizes k le,
        sizes G.blocks (omega arith),
        all_columns,
        whole-sum,
        diagonal-ranks p prime (transformed S L) G tri (pair_size L O.I O.J) (transformed-rank (pair_size L O.I O.J) (optimal-rank p prime L O)),
      )
