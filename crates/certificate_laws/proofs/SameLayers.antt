-- Layered matrices with the same sizes and entries have the same minimisers, canonical parts, lower lists and forms.
use Rattle.std.proofs.Common.{◌≡◌, ◌+◌, ◌%◌, ◌*◌, ◌<◌, ◌&&◌, ◌||◌, ◌∙◌, ℕ, zero, suc, Bool, true, false, cond, refl, ap, sym, subst, arith}
use Rattle.residue_theory.specs.Sets.{both, some_below}
use Rattle.residue_theory.proofs.ResidueLaws.{agree-mul, agree-sum}
use Rattle.residue_theory.proofs.SumLaws.{sum_on-same}
use Rattle.residue_theory.specs.Sets.{everything}
use Rattle.linear_algebra.specs.Parts.{in_part}
use Rattle.linear_algebra.specs.Products.{Agree, product}
use Rattle.linear_algebra_laws.proofs.Kernels.{kernel_of-agree, rank_of-kernel}
use Rattle.mixed_matrices.specs.CanonicalParts.{AreCanonical, IsBlockBelow, IsHeldWith, IsLowerBlock, IsReadyAt}
use Rattle.mixed_matrices.specs.Forms.{IsForm, Parts, diagonal_part, part_columns, part_rows, transformed}
use Rattle.mixed_matrices.specs.LayeredMatrices.{AreSameLayers, LayeredMatrix}
use Rattle.mixed_matrices.specs.SetFunctions.{IsMinimiser, IsRho, gamma, touches_set}
use Rattle.mixed_matrices.specs.StructuralRanks.{IsLayeredRank}
use Rattle.mixed_pair_laws.proofs.SameEntries.{same-layers}

-- L with other entries
abbrev pub with_entries : LayeredMatrix → (ℕ → ℕ → ℕ) → (ℕ → ℕ → Bool) → LayeredMatrix
with_entries L q t = record { q_rows = L.q_rows; t_rows = L.t_rows; columns = L.columns; q = q; t = t }

-- what holds of K holds of the entries of K in the sizes of L
pub resized : (E : LayeredMatrix → Type 0) (L K : LayeredMatrix) → L.q_rows ≡ K.q_rows → L.t_rows ≡ K.t_rows →
    L.columns ≡ K.columns → E K → E (with_entries L K.q K.t)
resized E L K rows symbols columns h =
    subst (λ m. E (record { q_rows = m; t_rows = L.t_rows; columns = L.columns; q = K.q; t = K.t })) (sym rows)
    (subst (λ m. E (record { q_rows = K.q_rows; t_rows = m; columns = L.columns; q = K.q; t = K.t })) (sym symbols)
    (subst (λ m. E (record { q_rows = K.q_rows; t_rows = K.t_rows; columns = m; q = K.q; t = K.t })) (sym columns) h))

either_same : (a b c d : Bool) → a ≡ b → c ≡ d → (a || c) ≡ (b || d)
either_same a b c d e f = ap (λ x. x || c) e ∙ ap (λ x. b || x) f

some_same : (n : ℕ) (X Y : ℕ → Bool) → ((j : ℕ) → j < n → X j ≡ Y j) → some_below n X ≡ some_below n Y
some_same zero X Y same = refl
some_same (suc n) X Y same = either_same (some_below n X) (some_below n Y) (X n) (Y n) (some_same n X Y (λ j jl. same j (omega arith))) (same n (omega arith))

same-gamma : (L : LayeredMatrix) (q : ℕ → ℕ → ℕ) (t : ℕ → ℕ → Bool) → ((i j : ℕ) → i < L.t_rows → j < L.columns → t i j ≡ L.t i j) →
    (X : ℕ → Bool) → gamma (with_entries L q t) X ≡ gamma L X
same-gamma L q t same X = sum_on-same (touches_set (with_entries L q t) X) (touches_set L X) L.t_rows (λ _. 1)
    (λ i il. some_same L.columns (both X (t i)) (both X (L.t i)) (λ j jl. ap (λ b. X j && b) (same i j il jl)))

pub same-minimiser : (p : ℕ) (L : LayeredMatrix) (q : ℕ → ℕ → ℕ) (t : ℕ → ℕ → Bool) → Agree p L.q_rows L.columns L.q q →
    ((i j : ℕ) → i < L.t_rows → j < L.columns → t i j ≡ L.t i j) → (X : ℕ → Bool) → IsMinimiser p (with_entries L q t) X → IsMinimiser p L X
same-minimiser p L q t constants symbols X least Y r s R S =
    omega (arith, least Y r s (across X r R) (across Y s S), same-gamma L q t symbols X, same-gamma L q t symbols Y)
  where
    across : (Z : ℕ → Bool) (u : ℕ) → IsRho p L Z u → IsRho p (with_entries L q t) Z u
    across Z u = rank_of-kernel p L.q_rows L.columns L.q q Z u (kernel_of-agree p L.q_rows L.columns L.q q constants)

-- ---- what the minimisers tell
module _ (p : ℕ) (L : LayeredMatrix) (q : ℕ → ℕ → ℕ) (t : ℕ → ℕ → Bool)
    (into : (X : ℕ → Bool) → IsMinimiser p (with_entries L q t) X → IsMinimiser p L X)
    (from : (X : ℕ → Bool) → IsMinimiser p L X → IsMinimiser p (with_entries L q t) X) (G : Parts) where
  same-held : (y x : ℕ) → IsHeldWith p (with_entries L q t) y x → IsHeldWith p L y x
  same-held y x held X M = held X (from X M)

  held-same : (y x : ℕ) → IsHeldWith p L y x → IsHeldWith p (with_entries L q t) y x
  held-same y x held X M = held X (into X M)

  same-below : (k l : ℕ) → IsBlockBelow p (with_entries L q t) G k l → IsBlockBelow p L G k l
  same-below k l b = (b.0, λ x y ox oy. same-held y x (b.1 x y ox oy))

  below-same : (k l : ℕ) → IsBlockBelow p L G k l → IsBlockBelow p (with_entries L q t) G k l
  below-same k l b = (b.0, λ x y ox oy. held-same y x (b.1 x y ox oy))

  pub same-lower : (k l : ℕ) → IsLowerBlock p (with_entries L q t) G k l → IsLowerBlock p L G k l
  same-lower k l b = record { below = same-below k l b.below; none_between = λ h hl one two. b.none_between h hl (below-same k h one) (below-same h l two) }

  pub lower-same : (k l : ℕ) → IsLowerBlock p L G k l → IsLowerBlock p (with_entries L q t) G k l
  lower-same k l b = record { below = below-same k l b.below; none_between = λ h hl one two. b.none_between h hl (same-below k h one) (same-below h l two) }

  ready-same : (k l : ℕ) → IsReadyAt p L G k l → IsReadyAt p (with_entries L q t) G k l
  ready-same k l ready h hl b = ready h hl (same-below h l b)

  pub same-canonical : AreCanonical p (with_entries L q t) G → AreCanonical p L G
  same-canonical C = record {
    columns = C.columns;
    held = C.held;
    first = λ x xl. ((λ e X M. (C.first x xl).0 e X (from X M)), (λ all. (C.first x xl).1 (λ X M. all X (into X M))));
    last = λ x xl. ((λ e X M. (C.last x xl).0 e X (from X M)), (λ all. (C.last x xl).1 (λ X M. all X (into X M))));
    block = λ k l x y ox oy. ((λ e X M. (C.block k l x y ox oy).0 e X (from X M)), (λ all. (C.block k l x y ox oy).1 (λ X M. all X (into X M))));
    ready = λ k kl h hl b. C.ready k kl h hl (below-same h k b);
    least = λ k l x y less ready one two. C.least k l x y less (ready-same k l ready) one two;
  }

-- ---- forms
cond-agree : (p : ℕ) (b : Bool) (x y : ℕ) → x % p ≡ y % p → cond b x 0 % p ≡ cond b y 0 % p
cond-agree p true x y e = e
cond-agree p false x y e = refl

module _ (p : ℕ) (L : LayeredMatrix) (q : ℕ → ℕ → ℕ) (t : ℕ → ℕ → Bool) (constants : Agree p L.q_rows L.columns q L.q)
    (symbols : (i j : ℕ) → i < L.t_rows → j < L.columns → t i j ≡ L.t i j) (S : ℕ → ℕ → ℕ) (G : Parts) where
  product-same : Agree p L.q_rows L.columns (product L.q_rows S q) (product L.q_rows S L.q)
  product-same i j il jl = agree-sum p everything L.q_rows (λ k. S i k * q k j) (λ k. S i k * L.q k j)
      (λ k kl _. agree-mul p (S i k) (q k j) (L.q k j) (constants k j kl jl))

  diagonal-same : (k : ℕ) → AreSameLayers p (diagonal_part (transformed S (with_entries L q t)) G k) (diagonal_part (transformed S L) G k)
  diagonal-same k = record {
    q_rows = refl;
    t_rows = refl;
    columns = refl;
    q = λ i j il jl. cond-agree p (in_part G.q_row k i && in_part G.column k j) (product L.q_rows S q i j)
        (product L.q_rows S L.q i j) (product-same i j il jl);
    t = λ i j il jl. ap (λ b. in_part G.t_row k i && in_part G.column k j && b) (symbols i j il jl);
  }

  ranked : (k r : ℕ) → IsLayeredRank p (diagonal_part (transformed S (with_entries L q t)) G k) r → IsLayeredRank p (diagonal_part (transformed S L) G k) r
  ranked k = same-layers p (diagonal_part (transformed S (with_entries L q t)) G k) (diagonal_part (transformed S L) G k) (diagonal-same k)

  pub same-form : IsForm p (with_entries L q t) S G → IsForm p L S G
  same-form (inverse, tri) = (
    inverse,
    record {
      columns = tri.columns;
      q_rows = tri.q_rows;
      t_rows = tri.t_rows;
      empty = λ k l less. record {
        q = λ i j il jl of_k of_l. sym (product-same i j il jl) ∙ (tri.empty k l less).q i j il jl of_k of_l;
        t = λ i j il jl of_k of_l. sym (symbols i j il jl) ∙ (tri.empty k l less).t i j il jl of_k of_l;
      };
      first = tri.first;
      square = tri.square;
      last = tri.last;
      row_rank = λ k le. ranked k (part_rows (transformed S L) G k) (tri.row_rank k le);
      column_rank = ranked (G.blocks + 1) (part_columns (transformed S L) G (G.blocks + 1)) tri.column_rank;
    },
  )
