-- An engine before its first search.
use Rattle.std.proofs.Common.{◌≡◌, ◌<◌, ◌≤◌, ◌⊎◌, ℕ, false, replicate, Option, None}
use Rattle.std.proofs.Common.{inl, inr, refl, sym, ap, subst, is_some, slice_index_or, arith}
use Rattle.std.proofs.lemmas.List.{get_or-replicate, get_or_past, length-replicate}
use Rattle.residue_theory.specs.Residues.{IsPrime}
use Rattle.residue_theory.proofs.SetLaws.{differ, lt_cases}
use Rattle.residue_theory.proofs.CountLaws.{size-zero}
use Rattle.dense_q.specs.Tables.{height, entry}
use Rattle.linear_algebra.specs.Kernels.{SameKernel}
use Rattle.linear_algebra_laws.proofs.Products.{product-kernel}
use Rattle.sparse_t.specs.Incidences.{Incidence}
use Rattle.bipartite_matching.specs.Matchings.{Matching, empty_matching}
use Rattle.row_transform.specs.Tableaus.{TableauState, IsOpened, IsTableau}
use Rattle.mixed_matrices.specs.Tableaus.{HasTableau}
use Rattle.mixed_model.specs.Layers.{Layers, layered_matrix_of}
use Rattle.independent_matching.specs.Engines.{AreOpenedEntries, IsBareOver, layers}
use Rattle.independent_matching.specs.Sides.{is_matched, layers_of, size_of, tableau_of_pair}

pub empty-unmatched : (p : Incidence) (y : ℕ) → is_matched (empty_matching p) y ≡ false
empty-unmatched p y = ap is_some (nobody (lt_cases y p.width))
  where
    none : Option ℕ
    none = None

    nobody : (y < p.width) ⊎ (p.width ≤ y) → slice_index_or (replicate p.width none) y none ≡ none
    nobody (inl l) = get_or-replicate p.width y none none l
    nobody (inr g) = get_or_past (replicate p.width none) y none (subst (λ n. n ≤ y) (sym (length-replicate p.width none)) g)

module _ (p : ℕ) (S : TableauState) (M : Matching) (no_base : (y : ℕ) → y < S.columns → S.base y ≡ false) (unmatched : (y : ℕ) → is_matched M y ≡ false) where
  pub open-tableau : SameKernel p S.rows S.columns S.q S.p → HasTableau p (layers_of S M) (tableau_of_pair S M)
  open-tableau kernel = record {
    kernel = kernel;
    base = record {
      row_below = λ b l h. absurd (differ (no_base b l) h);
      one = λ b l h. absurd (differ (no_base b l) h);
      zero = λ b i l h. absurd (differ (no_base b l) h);
      distinct = λ b c l m h. absurd (differ (no_base b l) h);
    };
    matching = record {
      below = λ j l h. absurd (differ (unmatched j) h);
      symbol = λ j l h. absurd (differ (unmatched j) h);
      distinct = λ j k l m h. absurd (differ (unmatched j) h);
    };
    apart = λ j l h. absurd (differ (no_base j l) h);
  }

  pub open-size : 0 ≡ size_of S M
  open-size = omega (arith, size-zero S.base S.columns (λ j l. no_base j l), size-zero (is_matched M) S.columns (λ j l. unmatched j))

-- a tableau with no base column
pub opened-over : (p m n : ℕ) (q : ℕ → ℕ → ℕ) (S : TableauState) → IsOpened p m n q S → IsBareOver p m n q S
opened-over p m n q S opened = record {
  rows_are = opened.rows_are;
  columns_are = opened.columns_are;
  q_is = opened.q_is;
  no_base = λ y l. opened.no_base y;
}

pub over-bare : {p m n : ℕ} {q : ℕ → ℕ → ℕ} {S : TableauState} → IsBareOver p m n q S → (y : ℕ) → y < S.columns → S.base y ≡ false
over-bare {n = n} over y l = over.no_base y (subst (λ k. y < k) over.columns_are l)

pub over-entries : (p m n : ℕ) (q : ℕ → ℕ → ℕ) (S : TableauState) → IsBareOver p m n q S → AreOpenedEntries p S q
over-entries p m n q S over i j il jl =
    over.q_is i j (subst (λ r. i < r) over.rows_are il) (subst (λ r. j < r) over.columns_are jl)

pub tableau-kernel : (p : ℕ) (S : TableauState) → IsPrime p → IsTableau p S → SameKernel p S.rows S.columns S.q S.p
tableau-kernel p S prime tableau =
    product-kernel p prime S.rows S.columns S.s S.u S.q S.p tableau.inverse tableau.product_is

-- the matrix of such a tableau and of the matching of T
pub over-layers : (p : ℕ) (L : Layers) (S : TableauState) (M : Matching) →
    IsBareOver p (height L.q) L.q.width (entry L.q) S → M.pattern ≡ L.t → layers (entry L.q) S M ≡ layered_matrix_of L
over-layers p L S M over same = rw (over.rows_are, over.columns_are, same) refl
