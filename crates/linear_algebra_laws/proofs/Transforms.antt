-- Row operations are a product with an invertible S: pivots on a matrix with the identity matrix beside it leave S in place of the identity.
use Rattle.std.proofs.Common.{◌≡◌, ◌+◌, ◌-◌, ◌*◌, ◌%◌, ◌<◌, ◌≤◌, ◌&&◌, ◌∙◌, zero-add, ℕ, Bool, true, false, cond, ltb, refl, ap, sym, subst, arith}
use Rattle.std.proofs.lemmas.Bool.Decides.{nat_tests}
use Rattle.residue_theory.proofs.CountLaws.{size-everything, sum_on-join}
use Rattle.residue_theory.proofs.ResidueLaws.{agree_of, lacks, vanishes-rest, vanishes-sum}
use Rattle.residue_theory.proofs.SetLaws.{both-first, both-second, both_true, choose}
use Rattle.residue_theory.proofs.SumLaws.{sum_on-ext, sum_on-mul, sum_on-none, sum_on-same}
use Rattle.residue_theory.specs.Residues.{IsPrime}
use Rattle.residue_theory.specs.Sets.{everything}
use Rattle.residue_theory.specs.Sums.{sum_below, sum_on}
use Rattle.linear_algebra.specs.Bases.{IsBase}
use Rattle.linear_algebra.specs.Columns.{Combines, CombinesToZero, IsIndependent, IsRank}
use Rattle.linear_algebra.specs.Kernels.{SameKernel}
use Rattle.linear_algebra.specs.Parts.{without_row}
use Rattle.linear_algebra.specs.Products.{Agree, IsInverse, identity, product}
use Rattle.linear_algebra_laws.proofs.Products.{sum-identity}
use Rattle.linear_algebra_laws.proofs.RankLaws.{rank-rows, rank_of-independent}
use Rattle.linear_algebra_laws.proofs.Ranks.{rank_exists}
use Rattle.linear_algebra_laws.proofs.RowRemoval.{falls-combines, without_row-removed}
use Rattle.linear_algebra_laws.proofs.PivotedBases.{PivotedBase, pivoted_base}

-- a with the identity matrix beside it
pub beside : ℕ → (ℕ → ℕ → ℕ) → ℕ → ℕ → ℕ
beside n a i j = cond (ltb j n) (a i j) (identity i (j - n))

module _ (n : ℕ) (a : ℕ → ℕ → ℕ) where
  beside-first : (i j : ℕ) → j < n → beside n a i j ≡ a i j
  unfolding beside
  beside-first i j l = ap (λ b. cond b (a i j) (identity i (j - n))) (below j n l)
    where
      below : (j n : ℕ) → j < n → ltb j n ≡ true
      below j n l = grind (arith, nat_tests)

  beside-later : (i t : ℕ) → beside n a i (n + t) ≡ identity i t
  unfolding beside
  beside-later i t = at (ltb (n + t) n) (n + t - n) (let g : n ≤ n + t = omega arith in grind (arith, nat_tests)) (omega arith)
    where
      at : (b : Bool) (k : ℕ) → b ≡ false → k ≡ t → cond b (a i (n + t)) (identity i k) ≡ identity i t
      at b k e q = ap (λ s. cond s (a i (n + t)) (identity i k)) e ∙ ap (λ s. identity i s) q

-- coefficients for the first n columns, and for those beside them
joined : ℕ → (ℕ → ℕ) → (ℕ → ℕ) → ℕ → ℕ
joined n c d j = cond (ltb j n) (c j) (d (j - n))

module _ (n : ℕ) (c d : ℕ → ℕ) where
  joined-first : (j : ℕ) → j < n → joined n c d j ≡ c j
  unfolding joined
  joined-first j l = ap (λ b. cond b (c j) (d (j - n))) (below j n l)
    where
      below : (j n : ℕ) → j < n → ltb j n ≡ true
      below j n l = grind (arith, nat_tests)

  joined-later : (t : ℕ) → joined n c d (n + t) ≡ d t
  unfolding joined
  joined-later t = at (ltb (n + t) n) (n + t - n) (let g : n ≤ n + t = omega arith in grind (arith, nat_tests)) (omega arith)
    where
      at : (b : Bool) (k : ℕ) → b ≡ false → k ≡ t → cond b (c (n + t)) (d k) ≡ d t
      at b k e q = ap (λ s. cond s (c (n + t)) (d k)) e ∙ ap d q

  -- what they combine to in a matrix with n + m columns
  joined-sum : (m : ℕ) (f : ℕ → ℕ) → sum_below (n + m) (λ j. joined n c d j * f j) ≡ sum_below n (λ j. c j * f j) + sum_below m (λ t. d t * f (n + t))
  joined-sum m f = sum_on-join everything n m (λ j. joined n c d j * f j)
      ∙ ap (λ s. s + sum_below m (λ t. joined n c d (n + t) * f (n + t)))
      (sum_on-ext everything n (λ j. joined n c d j * f j) (λ j. c j * f j) (λ j jl _. ap (λ x. x * f j) (joined-first j jl)))
      ∙ ap (λ s. sum_below n (λ j. c j * f j) + s) (sum_on-ext everything m (λ t. joined n c d (n + t) * f (n + t)) (λ t. d t * f (n + t))
      (λ t _ _. ap (λ x. x * f (n + t)) (joined-later t)))

-- the sum with the unit column of i
sum-unit : (k i : ℕ) (f : ℕ → ℕ) → i < k → sum_below k (λ t. f t * identity i t) ≡ f i
sum-unit k i f il = sum_on-ext everything k (λ t. f t * identity i t) (λ t. identity i t * f t) (λ t _ _. omega arith) ∙ sum-identity k i f il

-- an independent set is independent with the identity beside it
module _ (p : ℕ) (prime : IsPrime p) (m n : ℕ) (a : ℕ → ℕ → ℕ) (I : ℕ → Bool) (ind : IsIndependent p a m n I) where
  abbrev early : ℕ → Bool
  early j = I j && ltb j n

  beside-independent : IsIndependent p (beside n a) m (n + m) early
  beside-independent c z j jl jh = ind c (λ i il. kept i il) j (below j n (both-second (I j) (ltb j n) jh)) (both-first (I j) (ltb j n) jh)
    where
      below : (j n : ℕ) → ltb j n ≡ true → j < n
      below j n h = grind (arith, nat_tests)

      here : (s : Bool) (j : ℕ) → j < n → s && ltb j n ≡ s
      here true j l = grind (arith, nat_tests)
      here false j l = refl

      beyond : (s : Bool) (t : ℕ) → s && ltb (n + t) n ≡ true → ⊥
      beyond s t h = let l : n + t < n = below (n + t) n (both-second s (ltb (n + t) n) h) in omega arith

      kept : (i : ℕ) → i < m → sum_on I n (λ j. c j * a i j) % p ≡ 0
      kept i il = ap (λ s. s % p) (sym (sum_on-same early I n (λ j. c j * beside n a i j) (λ j jl. here (I j) j jl) ∙ sum_on-ext I n (λ j. c j * beside n a i j)
          (λ j. c j * a i j) (λ j jl _. ap (λ x. c j * x) (beside-first n a i j jl))))
          ∙ vanishes-rest p (sum_on (λ t. early (n + t)) m (λ t. c (n + t) * beside n a i (n + t))) (sum_on early n (λ j. c j * beside n a i j))
          (ap (λ s. s % p) (omega arith) ∙ ap (λ s. s % p) (sym (sum_on-join early n m (λ j. c j * beside n a i j))) ∙ z i il)
          (vanishes-sum p (λ t. early (n + t)) m (λ t. c (n + t) * beside n a i (n + t)) (λ t _ h. absurd (beyond (I (n + t)) t h)))

-- ---- from the pivoted matrix to S
module _ (p : ℕ) (prime : IsPrime p) (m n : ℕ) (a : ℕ → ℕ → ℕ) (W : ℕ → ℕ → ℕ) (kernel : SameKernel p m (n + m) (beside n a) W) where
  abbrev pub left_matrix : ℕ → ℕ → ℕ
  left_matrix i t = W i (n + t)

  -- column j of Q, less the columns of the identity that make it, is zero; so it is with S
  pub left-product : Agree p m n W (product m left_matrix a)
  left-product i j il jl = agree_of p (W i j) ((p - 1) * product m left_matrix a i j) (product m left_matrix a i j)
      combined (lacks p prime (product m left_matrix a i j))
    where
      in_identity : CombinesToZero p (beside n a) m (n + m) everything (joined n (λ x. identity j x) (λ t. (p - 1) * a t j))
      in_identity k kl = ap (λ s. s % p) (joined-sum n (λ x. identity j x) (λ t. (p - 1) * a t j) m (λ x. beside n a k x)
          ∙ ap (λ s. s + sum_below m (λ t. (p - 1) * a t j * beside n a k (n + t))) (sum-identity n j (λ x. beside n a k x) jl ∙ beside-first n a k j jl)
          ∙ ap (λ s. a k j + s) (sum_on-ext everything m (λ t. (p - 1) * a t j * beside n a k (n + t)) (λ t. (p - 1) * a t j * identity k t)
          (λ t _ _. ap (λ x. (p - 1) * a t j * x) (beside-later n a k t))
          ∙ sum-unit m k (λ t. (p - 1) * a t j) kl)) ∙ lacks p prime (a k j)

      combined : (W i j + (p - 1) * product m left_matrix a i j) % p ≡ 0
      combined = ap (λ s. s % p) (sym (joined-sum n (λ x. identity j x) (λ t. (p - 1) * a t j) m (λ x. W i x)
          ∙ ap (λ s. s + sum_below m (λ t. (p - 1) * a t j * W i (n + t))) (sum-identity n j (λ x. W i x) jl)
          ∙ ap (λ s. W i j + s) (sum_on-ext everything m (λ t. (p - 1) * a t j * W i (n + t))
          (λ t. (p - 1) * (W i (n + t) * a t j)) (λ t _ _. turned (p - 1) (a t j) (W i (n + t)))
          ∙ sum_on-mul everything m (p - 1) (λ t. W i (n + t) * a t j))))
          ∙ kernel.forward everything (joined n (λ x. identity j x) (λ t. (p - 1) * a t j)) in_identity i il
        where
          turned : (k x y : ℕ) → k * x * y ≡ k * (y * x)
          turned k x y = omega arith

  -- S is independent, for the identity is
  left-independent : IsIndependent p left_matrix m m everything
  left-independent c z e el _ = ap (λ s. s % p) (sym (value e el)) ∙ kernel.back everything (joined n (λ _. 0) c) in_left e el
    where
      none : (f : ℕ → ℕ) → sum_below n (λ j. 0 * f j) ≡ 0
      none f = sum_on-ext everything n (λ j. 0 * f j) (λ _. 0) (λ j _ _. omega arith) ∙ sum_on-none everything n

      in_left : CombinesToZero p W m (n + m) everything (joined n (λ _. 0) c)
      in_left i il = ap (λ s. s % p) (joined-sum n (λ _. 0) c m (λ x. W i x) ∙ ap (λ s. s + sum_below m (λ t. c t * W i (n + t))) (none (λ j. W i j))
          ∙ zero-add (sum_below m (λ t. c t * W i (n + t)))) ∙ z i il

      value : (i : ℕ) → i < m → sum_below (n + m) (λ j. joined n (λ _. 0) c j * beside n a i j) ≡ c i
      value i il = joined-sum n (λ _. 0) c m (λ x. beside n a i x) ∙ ap (λ s. s + sum_below m (λ t. c t * beside n a i (n + t))) (none (λ j. beside n a i j))
          ∙ zero-add (sum_below m (λ t. c t * beside n a i (n + t)))
          ∙ sum_on-ext everything m (λ t. c t * beside n a i (n + t)) (λ t. c t * identity i t)
          (λ t _ _. ap (λ x. c t * x) (beside-later n a i t)) ∙ sum-unit m i c il

  -- so each unit column is a combination of its columns
  unit : (e : ℕ) → e < m → Combines p left_matrix m m everything (λ i. identity i e)
  unit e el = go (rank_exists p prime (without_row e left_matrix) (m - 1) m everything)
    where
      never : true ≡ false → ⊥
      never h = cc

      go : (s : ℕ) × IsRank p (without_row e left_matrix) (m - 1) m everything s → Combines p left_matrix m m everything (λ i. identity i e)
      go (s, R) = falls-combines p prime m (m - 1) m left_matrix (without_row e left_matrix) e (without_row-removed p m m left_matrix e el) everything m s
          (subst (λ r. IsRank p left_matrix m m everything r) (size-everything m) (rank_of-independent p left_matrix m m everything left-independent)) R
          (omega (
            arith,
            size-everything (m - 1),
            rank-rows p prime (without_row e left_matrix) (m - 1) m everything
                everything s (λ i j _ _ h. absurd (never h)) R,
          ))

  pub left-inverse : (U : ℕ → ℕ → ℕ) × IsInverse p m left_matrix U
  left-inverse = go (choose m (ℕ → ℕ) (λ _. 0) (λ e c. (i : ℕ) → i < m → sum_below m (λ t. c t * left_matrix i t) % p ≡ identity i e % p) unit)
    where
      go : (f : ℕ → ℕ → ℕ) × ((e : ℕ) → e < m → (i : ℕ) → i < m →
          sum_below m (λ t. f e t * left_matrix i t) % p ≡ identity i e % p) → (U : ℕ → ℕ → ℕ)
          × IsInverse p m left_matrix U
      go (f, ok) = (
        (λ t e. f e t),
        λ i e il el. ap (λ s. s % p)
            (sum_on-ext everything m (λ t. left_matrix i t * f e t) (λ t. f e t * left_matrix i t) (λ t _ _. omega arith)) ∙ ok e el i il,
      )

-- ---- independent columns as unit columns
pub record Transformed (p m n : ℕ) (a : ℕ → ℕ → ℕ) (I : ℕ → Bool) : Type 0 where
  pub S : ℕ → ℕ → ℕ
  pub U : ℕ → ℕ → ℕ
  pub P : ℕ → ℕ → ℕ
  pub row : ℕ → ℕ
  pub inverse : IsInverse p m S U
  pub made : Agree p m n P (product m S a)
  pub base : IsBase p P m n I row

pub transformed_base : (p : ℕ) → IsPrime p → (m n : ℕ) (a : ℕ → ℕ → ℕ) (I : ℕ → Bool) → IsIndependent p a m n I → Transformed p m n a I
transformed_base p prime m n a I ind = go (pivoted_base p prime m (n + m) (beside n a) (early p prime m n a I ind) (beside-independent p prime m n a I ind))
  where
    shown : (j : ℕ) → j < n → I j ≡ true → I j && ltb j n ≡ true
    shown j jl h = both_true (I j) (ltb j n) h (below j n jl)
      where
        below : (j n : ℕ) → j < n → ltb j n ≡ true
        below j n l = grind (arith, nat_tests)

    go : PivotedBase p m (n + m) (beside n a) (early p prime m n a I ind) → Transformed p m n a I
    go T = record {
      S = left_matrix p prime m n a T.P T.kernel;
      U = (left-inverse p prime m n a T.P T.kernel).0;
      P = T.P;
      row = T.row;
      inverse = (left-inverse p prime m n a T.P T.kernel).1;
      made = left-product p prime m n a T.P T.kernel;
      base = record {
        row_below = λ b bl h. T.base.row_below b (omega arith) (shown b bl h);
        one = λ b bl h. T.base.one b (omega arith) (shown b bl h);
        zero = λ b i bl bh il ne. T.base.zero b i (omega arith) (shown b bl bh) il ne;
        distinct = λ b c bl cl bh ch q. T.base.distinct b c (omega arith) (omega arith) (shown b bl bh) (shown c cl ch) q;
      };
    }

-- the same with no word of P
pub made-base : (p m n : ℕ) (a : ℕ → ℕ → ℕ) (I : ℕ → Bool) (T : Transformed p m n a I) → IsBase p (product m T.S a) m n I T.row
made-base p m n a I T = record {
  row_below = T.base.row_below;
  one = λ b bl bh. sym (T.made (T.row b) b (T.base.row_below b bl bh) bl) ∙ T.base.one b bl bh;
  zero = λ b i bl bh il ne. sym (T.made i b il bl) ∙ T.base.zero b i bl bh il ne;
  distinct = T.base.distinct;
}
