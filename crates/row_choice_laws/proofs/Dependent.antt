-- An equation that depends on what is kept joins it in vain.
use Rattle.std.proofs.Common.{◌≡◌, ◌≢◌, ℕ, ◌+◌, ◌-◌, ◌<◌, ◌≤◌, Bool, true, false, eqb, ltb, not, ◌&&◌, ◌||◌, ◌⊎◌, inl}
use Rattle.std.proofs.Common.{inr, refl, ap, sym, subst, ◌∙◌, arith}
use Rattle.residue_theory.proofs.SetLaws.{both-first, both-second, both_true, differ, eqb_true, not_true}
use Rattle.residue_theory.proofs.SetLaws.{with_one-member, with_one-other}
use Rattle.residue_theory.proofs.SumLaws.{nat_cases, size_on-within, sum_on-same}
use Rattle.residue_theory.specs.Residues.{IsPrime}
use Rattle.residue_theory.specs.Sets.{both, everything, with_one}
use Rattle.residue_theory.specs.Sums.{size_on}
use Rattle.closed_sets.specs.Closed.{NoEndReached}
use Rattle.mixed_matrices.specs.Arcs.{HasNoWalk}
use Rattle.mixed_matrices.specs.LayeredMatrices.{LayeredMatrix, layered_value}
use Rattle.mixed_matrices.specs.Layerings.{IsLayering, Origins}
use Rattle.mixed_matrices.specs.Models.{MixedMatrix}
use Rattle.mixed_matrices.specs.Pairs.{IsBest, pair_size}
use Rattle.mixed_matrices.specs.Removals.{mixed_part}
use Rattle.mixed_matrices.specs.Tableaus.{HasTableau, IsTableau, Tableau}
use Rattle.mixed_pair_laws.proofs.BestPairs.{Optimal, optimal, optimal-rank}
use Rattle.mixed_pair_laws.proofs.ClosedSets.{closed-fits}
use Rattle.mixed_pair_laws.proofs.MinMax.{best-clear}
use Rattle.mixed_pair_laws.proofs.Minimisers.{least_set, least_set-closed}
use Rattle.mixed_pair_laws.proofs.PairBounds.{bound}
use Rattle.mixed_pair_laws.proofs.PairRank.{closed-rank, greatest-unique}
use Rattle.mixed_pair_laws.proofs.TableauParts.{tableau}
use Rattle.mixed_layering_laws.proofs.LayeringRank.{layering-law}
use Rattle.mixed_layering_laws.proofs.Members.{member-at, member-index}
use Rattle.equation_matroid_laws.proofs.EmptiedLayers.{emptied-layering}
use Rattle.equation_matroid_laws.proofs.Matroids.{IsLargest, size-grown}
use Rattle.equation_matroid_laws.proofs.RowRanks.{Free, independent-free, rank-largest, rank_exists-of}
use Rattle.equation_matroid_laws.specs.EquationRanks.{AreIndependent, IsRankOf}
use Rattle.row_choice_laws.proofs.BlankRows.{blank-vain}
use Rattle.row_choice_laws.proofs.Joining.{in_vain, none}
use Rattle.row_choice_laws.proofs.OwnTableaus.{layers_of, made_of, more-test, own-tableau, tableau_of, test-more}
use Rattle.row_choice_laws.proofs.OwnTableaus.{undone}
use Rattle.row_choice_laws.proofs.ReachedRows.{others, others-closed}
use Rattle.row_choice_laws.proofs.RowPlaces.{bare-or_column, bare-tells, column-not_bare, column-q, column-t, q-column}
use Rattle.row_choice_laws.proofs.RowPlaces.{row-cases, row-t, t-column}
use Rattle.row_choice_laws.specs.RowSearches.{HaveRows, IsJoining, IsOnRowsOf, bare_of, is_column_of, is_bare_row}
use Rattle.row_choice_laws.specs.RowSearches.{is_open}
use Rattle.row_choice_laws.specs.RowSearches.{is_row_of, places, row_leads}
use Rattle.row_choice_laws.specs.States.{KeepsEquations}

module _ (p : ℕ) (prime : IsPrime p) (big : 2 < p) (M : MixedMatrix) (A D : ℕ → Bool) (L : LayeredMatrix) (O : Origins) (lay : IsLayering M A D L O)
    (S U : ℕ → ℕ → ℕ) (F E : Tableau) (tab : IsTableau p L S U F) (B : ℕ → Bool) (f : ℕ) (fl : f < M.rows) (rows : HaveRows M A D B) (new : B f ≡ false)
    (kept : KeepsEquations p L O S E B) (join : IsJoining p M A L O S F B f) (ind : AreIndependent p M B) (dep : AreIndependent p M (with_one B f) → ⊥) where
  abbrev K : ℕ → Bool
  K = with_one B f

  member-old : (e : ℕ) → K e ≡ true → e ≢ f → B e ≡ true
  member-old e h ne = with_one-other B f e h ne

  -- ---- F without the matches of f
  abbrev F0 : Tableau
  F0 = record { P = F.P; base = F.base; row = F.row; matched = λ j. F.matched j && B (O.of_t (F.mate j)); mate = F.mate }

  tab0 : IsTableau p L S U F0
  tab0 = record {
    inverse = tab.inverse;
    product = tab.product;
    base = tab.base;
    matching = record {
      below = λ j jl h. tab.matching.below j jl (both-first (F.matched j) (B (O.of_t (F.mate j))) h);
      symbol = λ j jl h. tab.matching.symbol j jl (both-first (F.matched j) (B (O.of_t (F.mate j))) h);
      distinct = λ j k jl kl h g. tab.matching.distinct j k jl kl (both-first (F.matched j) (B (O.of_t (F.mate j))) h)
          (both-first (F.matched k) (B (O.of_t (F.mate k))) g);
    };
    apart = λ j jl h. off (F.matched j) (B (O.of_t (F.mate j))) (tab.apart j jl h);
  }
    where
      off : (a b : Bool) → a ≡ false → a && b ≡ false
      off a b h = grind arith

  on0 : IsOnRowsOf p L O S F0 B
  on0 = record {
    base = λ b bl h. elim (nat_cases (O.of_q (F.row b)) f) [
      | inl q ↦ absurd (bare-tells p L F (F.row b) b (join.own (F.row b) (tab.base.row_below b bl h) q).0 bl
          (q-column p L F (F.row b) b (tab.base.row_below b bl h) h refl))
      | inr ne ↦ member-old (O.of_q (F.row b)) (join.on.base b bl h) ne
    ];
    matched = λ j jl h. both-second (F.matched j) (B (O.of_t (F.mate j))) h;
    made = λ i k il kl h g. kept.alone i k il kl g (λ q. differ (subst (λ x. B (O.of_q x) ≡ false) (sym q) g) h);
  }

  used0 : (r : ℕ) → r < places L → is_row_of L O B r ≡ true → is_bare_row L F0 r ≡ false
  used0 r rl h = elim (bare-or_column p L F r) [ inl b ↦ absurd (differ (join.used r rl h) b) | inr (y, yl, c) ↦ at y yl c (row-cases L r rl) ]
    where
      at : (y : ℕ) → y < L.columns → is_column_of L F r y ≡ true → (r < L.q_rows) ⊎ ((t : ℕ) × (t < L.t_rows) × (r ≡ L.q_rows + t)) → is_bare_row L F0 r ≡ false
      at y yl c (inl ql) = let (b, e) = column-q p L F r y ql c in column-not_bare p L F0 r y yl (q-column p L F0 r y ql b e)
      at y yl c (inr (t, tl, q)) = let (m, e) = column-t p L F t y (subst (λ s. is_column_of L F s y ≡ true) q c) in
          column-not_bare p L F0 r y yl (subst (λ s. is_column_of L F0 s y ≡ true) (sym q) (t-column p L F0 t y
          (both_true (F.matched y) (B (O.of_t (F.mate y))) m (subst (λ x. B (O.of_t x) ≡ true) (sym e)
          (row-t L O B t (subst (λ s. is_row_of L O B s ≡ true) q h)))) e))

  -- ---- the own tableaus of B and of K
  abbrev LB : LayeredMatrix
  LB = layers_of p M A D L O lay S U F0 tab0 B on0

  abbrev GB : Tableau
  GB = tableau_of p M A D L O lay S U F0 tab0 B on0

  abbrev LK : LayeredMatrix
  LK = layers_of p M A D L O lay S U F tab K join.on

  abbrev GK : Tableau
  GK = tableau_of p M A D L O lay S U F tab K join.on

  hasB : HasTableau p LB GB
  hasB = tableau p prime LB (made_of p M A D L O lay S U F0 tab0 B on0) (undone p M A D L O lay S U F0 tab0 B on0) GB
      (own-tableau p M A D L O lay S U F0 tab0 B on0)

  hasK : HasTableau p LK GK
  hasK = tableau p prime LK (made_of p M A D L O lay S U F tab K join.on) (undone p M A D L O lay S U F tab K join.on) GK
      (own-tableau p M A D L O lay S U F tab K join.on)

  size-before : pair_size LB GB.base GB.matched ≡ size_on B M.rows + O.split
  size-before = greatest-unique p (LB.q_rows + LB.t_rows) LB.columns (layered_value LB) (pair_size LB GB.base GB.matched) (size_on B M.rows + O.split)
      (closed-rank p prime LB GB hasB
      (others p prime M A D L O lay S U F0 tab0 B (none p prime big M A D L O lay S U F0 tab0 B on0 rows used0) on0
      (in_vain p prime big M A D L O lay S U F0 tab0 B on0 rows used0))
      (others-closed p prime M A D L O lay S U F0 tab0 B (none p prime big M A D L O lay S U F0 tab0 B on0 rows used0) on0
      (in_vain p prime big M A D L O lay S U F0 tab0 B on0 rows used0)))
      (layering-law p prime (mixed_part B everything M) A D LB O (emptied-layering M A D L O lay B) big (size_on B M.rows) ind)

  -- a T row of f is that of its auxiliary column
  own-match : (j : ℕ) → j < L.columns → F.matched j ≡ true → O.of_t (F.mate j) ≡ f → (k : ℕ) × (k < O.split) × (O.of_z k ≡ f) × (j ≡ M.columns + k)
  own-match j jl m q = at (A f) refl
    where
      d : D f ≡ true
      d = subst (λ x. D x ≡ true) q (lay.t_rows.member (F.mate j) (tab.matching.below j jl m))

      at : (a : Bool) → A f ≡ a → (k : ℕ) × (k < O.split) × (O.of_z k ≡ f) × (j ≡ M.columns + k)
      at false a = absurd (bare-tells p L F (L.q_rows + F.mate j) j (join.single (F.mate j) (tab.matching.below j jl m) q a) jl
          (t-column p L F (F.mate j) j m refl))
      at true a = (
        size_on (both A D) f,
        kl,
        of_z,
        tab.matching.distinct j (M.columns + size_on (both A D) f) jl (omega (arith, lay.columns, kl)) m paired.0
            (sym paired.1),
      )
        where
          kl : size_on (both A D) f < O.split
          kl = member-index (both A D) M.rows O.of_z O.split lay.auxiliary f fl (both_true (A f) (D f) a d)

          of_z : O.of_z (size_on (both A D) f) ≡ f
          of_z = member-at (both A D) M.rows O.of_z O.split lay.auxiliary f fl (both_true (A f) (D f) a d)

          paired : (F.matched (M.columns + size_on (both A D) f) ≡ true) × (F.mate (M.columns + size_on (both A D) f) ≡ F.mate j)
          paired = join.split (F.mate j) (size_on (both A D) f) (tab.matching.below j jl m) kl q of_z

  -- and the auxiliary column of f is matched
  auxiliary-matched : (k : ℕ) → k < O.split → O.of_z k ≡ f → F.matched (M.columns + k) ≡ true
  auxiliary-matched k kl q = (join.split (size_on D f) k (member-index D M.rows O.of_t L.t_rows lay.t_rows f fl d) kl
      (member-at D M.rows O.of_t L.t_rows lay.t_rows f fl d) q).0
    where
      d : D f ≡ true
      d = both-second (A f) (D f) (subst (λ x. both A D x ≡ true) q (lay.auxiliary.member k kl))

  same-matched : (j : ℕ) → j < L.columns → GK.matched j ≡ GB.matched j
  same-matched j jl = at (F.matched j) refl (B (O.of_t (F.mate j))) refl
    where
      yes : (m o b u : Bool) → m ≡ true → b ≡ true → m || o ≡ (m && b) || u
      yes m o b u h k = grind arith

      aside : (m o b l v : Bool) → m ≡ true → l ≡ false → v ≡ false → m || o ≡ (m && b) || (not l && not v)
      aside m o b l v h i k = grind arith

      plain : (m l w b v : Bool) → m ≡ false → w ≡ v → m || (not l && not w) ≡ (m && b) || (not l && not v)
      plain m l w b v h k = grind arith

      early : (m l w b v : Bool) → m ≡ false → l ≡ true → m || (not l && not w) ≡ (m && b) || (not l && not v)
      early m l w b v h k = grind arith

      at : (m : Bool) → F.matched j ≡ m → (b : Bool) → B (O.of_t (F.mate j)) ≡ b → GK.matched j ≡ GB.matched j
      at true m true b = yes (F.matched j) (not (ltb j M.columns) && not (K (O.of_z (j - M.columns)))) (B (O.of_t (F.mate j)))
          (not (ltb j M.columns) && not (B (O.of_z (j - M.columns)))) m b
      at true m false b = found (nat_cases (O.of_t (F.mate j)) f)
        where
          found : (O.of_t (F.mate j) ≡ f) ⊎ (O.of_t (F.mate j) ≢ f) → GK.matched j ≡ GB.matched j
          found (inr ne) = absurd (differ b (member-old (O.of_t (F.mate j)) (join.on.matched j jl m) ne))
          found (inl q) = let (k, kl, of_z, e) = own-match j jl m q in
              aside (F.matched j) (not (ltb j M.columns) && not (K (O.of_z (j - M.columns)))) (B (O.of_t (F.mate j))) (ltb j M.columns)
              (B (O.of_z (j - M.columns))) m
              (more-test j M.columns (omega (arith, e)))
              (subst (λ x. B (O.of_z x) ≡ false) (let g : k ≡ j - M.columns = omega (arith, e) in g) (subst (λ x. B x ≡ false) (sym of_z) new))
      at false m b _ = placed (ltb j M.columns) refl
        where
          placed : (l : Bool) → ltb j M.columns ≡ l → GK.matched j ≡ GB.matched j
          placed true l = early (F.matched j) (ltb j M.columns) (K (O.of_z (j - M.columns))) (B (O.of_t (F.mate j))) (B (O.of_z (j - M.columns))) m l
          placed false l = plain (F.matched j) (ltb j M.columns) (K (O.of_z (j - M.columns))) (B (O.of_t (F.mate j))) (B (O.of_z (j - M.columns))) m
              (same (nat_cases (O.of_z (j - M.columns)) f))
            where
              le : M.columns ≤ j
              le = test-more j M.columns l

              plus : (a e : Bool) → e ≡ false → a || e ≡ a
              plus a e h = grind arith

              same : (O.of_z (j - M.columns) ≡ f) ⊎ (O.of_z (j - M.columns) ≢ f) → K (O.of_z (j - M.columns)) ≡ B (O.of_z (j - M.columns))
              same (inl q) = absurd (differ m (subst (λ x. F.matched x ≡ true) (let g : M.columns + (j - M.columns) ≡ j = omega (arith, le) in g)
                  (auxiliary-matched (j - M.columns) (omega (arith, le, jl, lay.columns)) q)))
              same (inr ne) = plus (B (O.of_z (j - M.columns))) (eqb (O.of_z (j - M.columns)) f)
                  (not_true (eqb (O.of_z (j - M.columns)) f) (λ h. ne (eqb_true (O.of_z (j - M.columns)) f h)))

  -- ---- the rank, and the best pair
  rank-joined : IsRankOf p M K (size_on B M.rows)
  rank-joined = go (rank_exists-of p prime M K)
    where
      go : (r : ℕ) × IsRankOf p M K r → IsRankOf p M K (size_on B M.rows)
      go (r, R) = subst (λ k. IsRankOf p M K k) (at (rank-largest p prime M K r R) (nat_cases r (size_on K M.rows))) R
        where
          at : IsLargest M.rows (Free p prime M) K r → (r ≡ size_on K M.rows) ⊎ (r ≢ size_on K M.rows) → r ≡ size_on B M.rows
          at most (inl q) = absurd (dep (subst (λ k. IsRankOf p M K k) q R))
          at most (inr ne) = omega (
            arith,
            ne,
            size-grown M.rows B f fl new,
            most.greatest B (λ j jl h. with_one-member B f j h) (independent-free p prime M B ind),
            most.reached.3,
            size_on-within K most.reached.0 M.rows most.reached.1,
          )

  size-joined : pair_size LK GK.base GK.matched ≡ size_on B M.rows + O.split
  size-joined = ap (λ x. size_on F.base L.columns + x) (sum_on-same GK.matched GB.matched L.columns (λ _. 1) same-matched) ∙ size-before

  best : IsBest p LK GK.base GK.matched
  best I J mate pair = go (optimal p prime LK)
    where
      go : Optimal p LK → pair_size LK I J ≤ pair_size LK GK.base GK.matched
      go Q = omega (
        arith,
        size-joined,
        greatest-unique p (LK.q_rows + LK.t_rows) LK.columns (layered_value LK) (pair_size LK Q.I Q.J) (size_on B M.rows + O.split) (optimal-rank p prime LK Q)
            (layering-law p prime (mixed_part K everything M) A D LK O (emptied-layering M A D L O lay K) big (size_on B M.rows) rank-joined),
        Q.equal,
        bound p LK I J mate Q.X Q.r pair Q.rank,
      )

  clear : HasNoWalk p LK GK
  clear = best-clear p prime LK GK hasK best

  pub dependent-vain : NoEndReached (row_leads p L F) (places L) (bare_of L O F K) (is_open p L F)
  dependent-vain = blank-vain p prime M A D L O lay S U F tab K join.on (least_set p LK GK)
      (closed-fits p prime LK GK hasK (least_set p LK GK) (least_set-closed p LK GK clear))
