-- A tableau and a matching over a layered matrix, and what is searched in them.
use Rattle.std.proofs.Common.{◌≡◌, ℕ, ◌*◌, ◌%◌, ◌<◌, Bool, true, false, List, Option, Some, None, is_some, not, IfSome, IfNone}
use Rattle.std.proofs.Common.{inl, inr, refl, ap, sym, subst, ◌∙◌, arith}
use Rattle.residue_theory.proofs.ResidueLaws.{agree-mul, agree-sum}
use Rattle.residue_theory.proofs.SetLaws.{differ}
use Rattle.residue_theory.proofs.SumLaws.{nat_cases}
use Rattle.residue_theory.specs.Residues.{IsPrime}
use Rattle.residue_theory.specs.Sets.{everything, nothing}
use Rattle.dense_q.specs.Tables.{entry, height}
use Rattle.closed_sets.specs.Closed.{IsClosed, IsReachedSet, NoEndReached}
use Rattle.linear_algebra.specs.Products.{Agree, product}
use Rattle.search_laws.specs.Searches.{IsShortest}
use Rattle.mixed_matrices.specs.Arcs.{is_free, leads_to}
use Rattle.mixed_matrices.specs.LayeredMatrices.{LayeredMatrix}
use Rattle.mixed_matrices.specs.Pairs.{IsMatching as IsMatchingIn}
use Rattle.mixed_matrices.specs.Tableaus.{HasTableau, Tableau}
use Rattle.mixed_model.specs.Layers.{AreLayers, Layers, layered_matrix_of}
use Rattle.mixed_layering.specs.Layers.{origins_of}
use Rattle.mixed_augmentation_laws.specs.Moves.{IsUnlinked}
use Rattle.exchange_graph.specs.Marks.{members_of}
use Rattle.exchange_graph.specs.Results.{Found}
use Rattle.exchange_graph.specs.SearchAnswers.{IsSearchAnswer}
use Rattle.sparse_t.specs.Incidences.{Incidence, incidence_rows, touches}
use Rattle.bipartite_matching.specs.Matchings.{HasPair, IsMatching, IsRowFree, Matching, empty_matching, with_pair}
use Rattle.bipartite_matching.proofs.MateLaws.{linked-other, mate-below, mate-touches, mates-differ}
use Rattle.row_transform.specs.Tableaus.{IsOpened, TableauState, IsTableau as IsTableauState}
use Rattle.independent_matching.specs.Engines.{AreOpenedEntries, IsBareOver, layers}
use Rattle.independent_matching.proofs.OpenLaws.{empty-unmatched, opened-over, over-entries, over-layers}
use Rattle.independent_matching.specs.Sides.{is_matched, layers_of, mate_of, tableau_of_pair}
use Rattle.row_choice_laws.specs.ColumnSearches.{leads_back}
use Rattle.row_choice_laws.specs.RowSearches.{has_row_entry}
use Rattle.row_choice_laws.specs.States.{KeepsEquations}
use Rattle.row_choice_laws.proofs.LoopStates.{nothing-kept}
use Rattle.equation_choice.specs.Choosers.{IsReachedBack, IsReadyChooser, KeepsAmong}
use Rattle.equation_choice.specs.Pairs.{IsPairOver}

-- a tableau of the state is one of the layered matrix
pub over-product : (p : ℕ) (q : ℕ → ℕ → ℕ) (S : TableauState) → IsTableauState p S → AreOpenedEntries p S q →
    Agree p S.rows S.columns S.p (product S.rows S.s q)
over-product p q S tab opened i j il jl = tab.product_is i j il jl
    ∙ agree-sum p everything S.rows (λ t. S.s i t * S.q t j) (λ t. S.s i t * q t j)
    (λ t tl _. agree-mul p (S.s i t) (S.q t j) (q t j) (opened t j tl jl))

-- a matching by its pairs is one by its mates
pub matching-in : (q : ℕ → ℕ → ℕ) (S : TableauState) (M : Matching) → IsMatching M → IsMatchingIn (layers q S M) (is_matched M) (mate_of M)
matching-in q S M m = record {
  below = λ j jl h. mate-below M m j h;
  symbol = λ j jl h. mate-touches M m j h;
  distinct = λ j k jl kl h g e. mates-differ M m j k h g e;
}

-- the layered matrix of a state and a pattern
abbrev shape : (ℕ → ℕ → ℕ) → TableauState → Incidence → LayeredMatrix
shape q S P = record { q_rows = S.rows; t_rows = incidence_rows P; columns = S.columns; q = q; t = λ i j. touches P i j }

-- another matching over the same pattern
pub over-matched : (p : ℕ) (l : Layers) (S : TableauState) (M N : Matching) → IsPairOver p l S M → N.pattern ≡ M.pattern → IsMatching N →
    ((x : ℕ) → x < S.columns → S.base x ≡ true → is_matched N x ≡ false) → IsPairOver p l S N
over-matched p l S M N over same matching apart = record {
  same = ap (shape (entry l.q) S) same ∙ over.same;
  opened = over.opened;
  width = ap (λ (P : Incidence). P.width) same ∙ over.width;
  tableau = record {
    inverse = over.tableau.inverse;
    product = over.tableau.product;
    base = over.tableau.base;
    matching = matching-in (entry l.q) S N matching;
    apart = apart;
  };
}

-- a pair that has grown, in the same layered matrix
pub over-grown : (p : ℕ) (l : Layers) (S S' : TableauState) (M M' : Matching) → IsPairOver p l S M → layers_of S' M' ≡ layers_of S M →
    M'.pattern ≡ M.pattern → IsTableauState p S' → HasTableau p (layers (entry l.q) S M) (tableau_of_pair S' M') → IsPairOver p l S' M'
over-grown p l S S' M M' over same pattern state tab = record {
  same = here ∙ over.same;
  opened = opened;
  width = ap (λ (P : Incidence). P.width) pattern ∙ over.width ∙ sym columns;
  tableau = record {
    inverse = state.inverse;
    product = over-product p (entry l.q) S' state opened;
    base = state.unit_columns;
    matching = held.matching;
    apart = held.apart;
  };
}
  where
    here : layers (entry l.q) S' M' ≡ layers (entry l.q) S M
    here = ap (λ (N : LayeredMatrix). record N { q = entry l.q }) same

    rows : S'.rows ≡ S.rows
    rows = ap (λ (N : LayeredMatrix). N.q_rows) same

    columns : S'.columns ≡ S.columns
    columns = ap (λ (N : LayeredMatrix). N.columns) same

    matrix : S'.q ≡ S.q
    matrix = ap (λ (N : LayeredMatrix). N.q) same

    opened : AreOpenedEntries p S' (entry l.q)
    opened i j il jl = ap (λ f. f i j % p) matrix ∙ over.opened i j (subst (λ n. i < n) rows il) (subst (λ n. j < n) columns jl)

    held : HasTableau p (layers (entry l.q) S' M') (tableau_of_pair S' M')
    held = subst (λ N. HasTableau p N (tableau_of_pair S' M')) (sym here) tab

-- ---- the same search, by marks or by tests
module _ (arc : ℕ → ℕ → Bool) (n : ℕ) (s s' e e' : ℕ → Bool) (starts : (x : ℕ) → x < n → s x ≡ s' x) (ends : (x : ℕ) → x < n → e x ≡ e' x) where
  pub shortest-same : (at : ℕ → ℕ) (k : ℕ) → IsShortest arc n s e at k → IsShortest arc n s' e' at k
  shortest-same at k W = record {
    fewer = W.fewer;
    begins = sym (starts (at 0) (W.below 0 (omega arith))) ∙ W.begins;
    stops = sym (ends (at k) (W.below k (omega arith))) ∙ W.stops;
    below = W.below;
    follows = W.follows;
    least = λ a b m al bl ah bh w. W.least a b m al bl (starts a al ∙ ah) (ends b bl ∙ bh) w;
  }

  pub reached-same : (X : ℕ → Bool) → IsReachedSet arc n s X → IsReachedSet arc n s' X
  reached-same X reached y yl = (
    λ h. let (a, al, ah, w) = (reached y yl).0 h in (a, al, sym (starts a al) ∙ ah, w),
    λ (a, al, ah, w). (reached y yl).1 (a, al, starts a al ∙ ah, w),
  )

  pub vain-same : NoEndReached arc n s e → NoEndReached arc n s' e'
  vain-same vain y yl h (a, al, ah, w) = vain y yl (ends y yl ∙ h) (a, al, starts a al ∙ ah, w)

-- ---- the arcs do not ask for the matrix Q
module _ (p : ℕ) (q : ℕ → ℕ → ℕ) (S : TableauState) (M : Matching) (n : ℕ) (s e : ℕ → Bool) where
  pub shortest-over : (at : ℕ → ℕ) (k : ℕ) → IsShortest (leads_back p (layers_of S M) (tableau_of_pair S M)) n s e at k →
      IsShortest (leads_back p (layers q S M) (tableau_of_pair S M)) n s e at k
  unfolding leads_to
  shortest-over at k W = W

  pub reached-over : (X : ℕ → Bool) → IsReachedSet (leads_back p (layers_of S M) (tableau_of_pair S M)) n s X →
      IsReachedSet (leads_back p (layers q S M) (tableau_of_pair S M)) n s X
  unfolding leads_to
  reached-over X W = W

  pub vain-over : NoEndReached (leads_back p (layers_of S M) (tableau_of_pair S M)) n s e →
      NoEndReached (leads_back p (layers q S M) (tableau_of_pair S M)) n s e
  unfolding leads_to
  vain-over W = W

-- ---- what a search answers, over the layered matrix
module _ (p : ℕ) (l : Layers) (S : TableauState) (M : Matching) (s : ℕ) (starts free : List Bool) (n : ℕ) (count : n ≡ S.columns)
    (entries : (x : ℕ) → x < S.columns → members_of starts x ≡ has_row_entry p (layers_of S M) (tableau_of_pair S M) s x)
    (loose : (x : ℕ) → x < S.columns → members_of free x ≡ is_free (tableau_of_pair S M) x) (at : ℕ → ℕ) (X : ℕ → Bool) (looks : ℕ) where
  abbrev F : Tableau
  F = tableau_of_pair S M

  abbrev T : LayeredMatrix
  T = layers_of S M

  abbrev L : LayeredMatrix
  L = layers (entry l.q) S M

  abbrev Answer : Option ℕ → Type 0
  Answer o = IsSearchAnswer (leads_back p T F) n (members_of starts) (members_of free) at X looks o

  pub search-walk : (o : Option ℕ) → Answer o → IfSome o (λ last. IsShortest (leads_back p L F) S.columns (has_row_entry p L F s) (is_free F) at last)
  search-walk None answer = answer.found
  search-walk (Some k) answer = shortest-over p (entry l.q) S M S.columns (has_row_entry p T F s) (is_free F) at k
      (shortest-same (leads_back p T F) S.columns (members_of starts) (has_row_entry p T F s) (members_of free) (is_free F) entries loose at k
      (subst (λ m. IsShortest (leads_back p T F) m (members_of starts) (members_of free) at k) count answer.found))

  pub search-vain : (o : Option ℕ) → Answer o → IfNone o (IsReachedBack p l S M s X)
  search-vain (Some k) answer = answer.closed
  search-vain None answer = record {
    reached = reached-over p (entry l.q) S M S.columns (has_row_entry p T F s) (is_free F) X reached;
    vain = vain-over p (entry l.q) S M S.columns (has_row_entry p T F s) (is_free F) (λ y yl h f. closed.no_end y yl ((reached y yl).1 f) (loose y yl ∙ h));
  }
    where
      closed : IsClosed (leads_back p T F) S.columns (members_of starts) (members_of free) X
      closed = subst (λ m. IsClosed (leads_back p T F) m (members_of starts) (members_of free) X) count answer.closed

      reached : IsReachedSet (leads_back p T F) S.columns (has_row_entry p T F s) X
      reached = reached-same (leads_back p T F) S.columns (members_of starts) (has_row_entry p T F s) (members_of free) (is_free F) entries loose X
          (subst (λ m. IsReachedSet (leads_back p T F) m (members_of starts) X) count answer.reached)

-- ---- at first
module _ (p : ℕ) (prime : IsPrime p) (l : Layers) (are : AreLayers l) (S : TableauState) (M : Matching)
    (opened : IsOpened p (height l.q) l.q.width (entry l.q) S) (empty : M ≡ empty_matching l.t) (state : IsTableauState p S) (matching : IsMatching M) where
  bare : IsBareOver p (height l.q) l.q.width (entry l.q) S
  bare = opened-over p (height l.q) l.q.width (entry l.q) S opened

  unmatched : (y : ℕ) → is_matched M y ≡ false
  unmatched y = subst (λ m. is_matched m y ≡ false) (sym empty) (empty-unmatched l.t y)

  same-layers : layers (entry l.q) S M ≡ layered_matrix_of l
  same-layers = over-layers p l S M bare (ap (λ (m : Matching). m.pattern) empty)

  pub opened-pair : IsPairOver p l S M
  opened-pair = record {
    same = same-layers;
    opened = over-entries p (height l.q) l.q.width (entry l.q) S bare;
    width = ap (λ (m : Matching). m.pattern.width) empty ∙ are.same_columns ∙ sym opened.columns_are;
    tableau = record {
      inverse = state.inverse;
      product = over-product p (entry l.q) S state (over-entries p (height l.q) l.q.width (entry l.q) S bare);
      base = state.unit_columns;
      matching = matching-in (entry l.q) S M matching;
      apart = λ x xl b. unmatched x;
    };
  }

  pub opened-nothing : (split : List ℕ) → KeepsAmong p l split S M nothing
  opened-nothing split = subst (λ L. KeepsEquations p L (origins_of l split) S.s (tableau_of_pair S M) nothing) same-layers
      (nothing-kept p prime (layers (entry l.q) S M) (origins_of l split) S.s (tableau_of_pair S M)
      (λ i j il jl. ap (λ x. x % p) (opened.s_is i j (subst (λ n. i < n) opened.rows_are il) (subst (λ n. j < n) opened.rows_are jl)))
      (λ y yl. opened.no_base y) (λ y yl. unmatched y))

-- ---- a column that leaves the matching
pub ready-left : (p : ℕ) (l : Layers) (S : TableauState) (M N : Matching) (found : Found) (starts free : List Bool) → IsReadyChooser p l S M found starts free →
    N.pattern ≡ M.pattern → IsMatching N → (x : ℕ) → IsUnlinked M.pattern.width (is_matched M) (mate_of M) (is_matched N) (mate_of N) x →
    IsReadyChooser p l S N found starts free
ready-left p l S M N found starts free ready same matching x gone = record {
  over = over-matched p l S M N ready.over same matching (λ y yl b. elim (nat_cases y x) [
    | inl e ↦ subst (λ z. is_matched N z ≡ false) (sym e) gone.gone
    | inr ne ↦ gone.tests y (omega (arith, yl, ready.over.width)) ne ∙ ready.over.tableau.apart y yl b
  ]);
  places = ready.places;
  start_marks = ready.start_marks;
  free_marks = ready.free_marks;
}

-- a free column that is matched
pub ready-linked : (p : ℕ) (l : Layers) (S : TableauState) (M : Matching) (found : Found) (starts free : List Bool) → IsReadyChooser p l S M found starts free →
    (d x : ℕ) → IsMatching (with_pair M d x) → S.base x ≡ false → IsReadyChooser p l S (with_pair M d x) found starts free
ready-linked p l S M found starts free ready d x matching loose = record {
  over = over-matched p l S M (with_pair M d x) ready.over refl matching (λ y yl b. elim (nat_cases y x) [
    | inl e ↦ absurd (differ (subst (λ z. S.base z ≡ false) (sym e) loose) b)
    | inr ne ↦ ap is_some (linked-other M d x y ne) ∙ ready.over.tableau.apart y yl b
  ]);
  places = ready.places;
  start_marks = ready.start_marks;
  free_marks = ready.free_marks;
}

-- a test for a mate that fails
pub told-pair : (M : Matching) (row : ℕ) (o : Option ℕ) → IfSome o (λ y. HasPair M row y) → IsRowFree M row → (r : Bool) → r ≡ not (is_some o) →
    r ≡ false → ⊥
told-pair M row None some free r told off = differ off told
told-pair M row (Some y) some free r told off = free y some
