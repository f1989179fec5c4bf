-- Equations by rising number: those that are refused, with their circuits in what is kept, and their conflict sets.
use Rattle.std.proofs.Common.{◌≡◌, ◌≢◌, ℕ, ◌+◌, ◌<◌, Bool, true, false, cond, eqb, ltb, ◌&&◌, ◌⊎◌, inl, inr}
use Rattle.std.proofs.Common.{List, [], ◌∷◌, ◌++◌, Vec, Global, length, map, get_or, refl, ap, sym, subst, ◌∙◌, arith}
use Rattle.std.proofs.lemmas.Bool.Decides.{nat_tests}
use Rattle.std.proofs.lemmas.List.{get_or-map, get_or_append_left, get_or_push, length_push}
use Rattle.std.specs.List.{All}
use Rattle.std.specs.List.Sorted.{IsStrictlyIncreasing}
use Rattle.residue_theory.proofs.SetLaws.{both-first, both_true, differ, not_true, with_one-member, with_one-new, with_one-other}
use Rattle.residue_theory.proofs.SumLaws.{member-without, nat_cases, sum_on-same, without-member}
use Rattle.residue_theory.specs.Residues.{IsPrime}
use Rattle.residue_theory.specs.Sets.{IsWithin, both, everything, has, nothing, with_one, without}
use Rattle.residue_theory.specs.Sums.{size_on}
use Rattle.mixed_matrices.specs.Layerings.{gives_q, has_symbol}
use Rattle.mixed_matrices.specs.Models.{MixedMatrix}
use Rattle.mixed_matrices.specs.Removals.{IsSurplus}
use Rattle.mixed_matrices.specs.Tableaus.{IsTableau}
use Rattle.mixed_model.specs.Layers.{AreLayers, Layers, layered_matrix_of}
use Rattle.mixed_model.specs.Models.{MixedModel, mixed_matrix_of}
use Rattle.mixed_layering.specs.Layers.{AreLayersOf, origins_of}
use Rattle.bipartite_matching.specs.Matchings.{Matching}
use Rattle.exchange_graph.specs.Marks.{members_of}
use Rattle.row_transform.specs.Tableaus.{TableauState}
use Rattle.independent_matching.specs.Sides.{tableau_of_pair}
use Rattle.equation_matroid_laws.specs.Conflicts.{IsCircuitOf, IsConflictSet, IsInCircuit, IsSurplusAmong}
use Rattle.equation_matroid_laws.specs.EquationRanks.{AreIndependent, IsRankOf}
use Rattle.equation_matroid_laws.specs.GreedyChoices.{IsGreedyChoice, by_number, earlier}
use Rattle.equation_matroid_laws.proofs.ConflictSets.{held_ones, minimal, others}
use Rattle.equation_matroid_laws.proofs.Costs.{number-line}
use Rattle.equation_matroid_laws.proofs.Matroids.{size-grown, size-shrunk}
use Rattle.equation_matroid_laws.proofs.Repairs.{choice-reaches, tells-choice}
use Rattle.equation_matroid_laws.proofs.RowRanks.{free-independent, free-within, independent-free, largest-rank, rank-largest}
use Rattle.equation_matroid_laws.proofs.WholeModels.{among-surplus, surplus-among}
use Rattle.row_choice_laws.proofs.Joining.{rows-independent}
use Rattle.row_choice_laws.proofs.Stays.{circuit-grows, circuit-shrinks}
use Rattle.equation_choice.specs.Choosers.{HasBeenRefused, HasJoined, KeepsAmong}
use Rattle.equation_choice.specs.ConflictLists.{AreConflictLists, HasNoneWith, IsConflictList, IsFirstWith, set_at}
use Rattle.equation_choice.specs.Lists.{AreMarkedBelow}
use Rattle.equation_choice.specs.Pairs.{IsPairOver}
use Rattle.equation_choice.specs.Told.{TellsCircuit}
use Rattle.equation_choice.proofs.Joins.{gives-some}
use Rattle.equation_choice.proofs.PlaceLaws.{get_or-any}

-- the list is the circuit of f in B
pub record IsCircuitList (p : ℕ) (N : MixedMatrix) (B : ℕ → Bool) (f : ℕ) (list : List ℕ) : Type 0 where
  pub rising : IsStrictlyIncreasing list
  pub below : (x : ℕ) → has list x ≡ true → x < N.rows
  pub circuit : IsCircuitOf p N B f (has list)

-- of the first i equations some are kept; the others are the heads of the lists, which are their circuits in what is kept
pub record HasGoneOver (p : ℕ) (model : MixedModel) (l : Layers) (split : List ℕ) (S : TableauState) (M : Matching) (i : ℕ) (sets : List (List ℕ))
    : Type 0 where
  pub kept : ℕ → Bool
  pub heads : ℕ → ℕ
  pub keeps : KeepsAmong p l split S M kept
  pub low : (x : ℕ) → kept x ≡ true → x < i
  pub each : (j : ℕ) → j < i → kept j ≡ false → (k : ℕ) × (k < length sets) × (heads k ≡ j)
  pub heads_low : (k : ℕ) → k < length sets → heads k < i
  pub heads_out : (k : ℕ) → k < length sets → kept (heads k) ≡ false
  pub heads_rise : (k m : ℕ) → k < m → m < length sets → heads k < heads m
  pub passed : (k : ℕ) → k < length sets → AreIndependent p (mixed_matrix_of model)
      (with_one (both kept (earlier by_number everything (heads k))) (heads k)) → ⊥
  pub listed : (k : ℕ) → k < length sets → IsCircuitList p (mixed_matrix_of model) kept (heads k) (set_at sets k)

module _ (p : ℕ) (prime : IsPrime p) (big : 2 < p) (model : MixedModel) (l : Layers) (of : AreLayersOf model l) where
  abbrev N : MixedMatrix
  N = mixed_matrix_of model

  fewer : (X Y : ℕ → Bool) → IsWithin N.rows X Y → AreIndependent p N Y → AreIndependent p N X
  fewer X Y inside ind = free-independent p prime N X (free-within p prime N X Y inside (independent-free p prime N Y ind))

  kept-independent : (S : TableauState) (M : Matching) → IsPairOver p l S M → (K : ℕ → Bool) → KeepsAmong p l of.split S M K → AreIndependent p N K
  kept-independent S M over K keeps = rows-independent p prime big N (gives_q N) (has_symbol N) (layered_matrix_of l) (origins_of l of.split) of.layered
      S.s S.u (tableau_of_pair S M) (subst (λ L. IsTableau p L S.s S.u (tableau_of_pair S M)) over.same over.tableau) K keeps.on
      (λ x _ _. gives-some N x) keeps.used

  pub gone-none : (S : TableauState) (M : Matching) → KeepsAmong p l of.split S M nothing → HasGoneOver p model l of.split S M 0 []
  gone-none S M keeps = record {
    kept = nothing;
    heads = λ k. k;
    keeps = keeps;
    low = λ x h. absurd (differ refl h);
    each = λ j jl. absurd (omega (arith, jl));
    heads_low = λ k kl. absurd (omega (arith, kl));
    heads_out = λ k kl. absurd (omega (arith, kl));
    heads_rise = λ k m less ml. absurd (omega (arith, ml));
    passed = λ k kl. absurd (omega (arith, kl));
    listed = λ k kl. absurd (omega (arith, kl));
  }

  module _ (i : ℕ) (il : i < length model.equations) (S : TableauState) (M : Matching) (sets : List (List ℕ))
      (G : HasGoneOver p model l of.split S M i sets) where
    new : G.kept i ≡ false
    new = not_true (G.kept i) (λ h. absurd (let less : i < i = G.low i h in omega (arith, less)))

    before-test : (x e : ℕ) → x < e → ltb x e ≡ true
    before-test x e l = grind (arith, nat_tests)

    test-before : (x e : ℕ) → ltb x e ≡ true → x < e
    test-before x e h = grind (arith, nat_tests)

    second : (a b : Bool) → a && b ≡ true → b ≡ true
    second a b h = grind arith

    -- a refused equation depends on all that is kept
    dependent : (k : ℕ) → k < length sets → AreIndependent p N (with_one G.kept (G.heads k)) → ⊥
    dependent k kl ind = G.passed k kl (fewer (with_one (both G.kept (earlier by_number everything (G.heads k))) (G.heads k))
        (with_one G.kept (G.heads k)) (λ y yl h. elim (nat_cases y (G.heads k)) [
          | inl q ↦ subst (λ z. with_one G.kept (G.heads k) z ≡ true) (sym q) (with_one-new G.kept (G.heads k))
          | inr ne ↦ with_one-member G.kept (G.heads k) y (both-first (G.kept y) (earlier by_number everything (G.heads k) y)
              (with_one-other (both G.kept (earlier by_number everything (G.heads k))) (G.heads k) y h ne))
        ]) ind)

    pub gone-joined : (S' : TableauState) (M' : Matching) → IsPairOver p l S' M' → HasJoined p l S S' M M' i →
        HasGoneOver p model l of.split S' M' (i + 1) sets
    gone-joined S' M' over joined = record {
      kept = with_one G.kept i;
      heads = G.heads;
      keeps = keeps;
      low = λ x h. elim (nat_cases x i) [
        | inl q ↦ omega (arith, q)
        | inr ne ↦ let less : x < i = G.low x (with_one-other G.kept i x h ne) in omega (arith, less)
      ];
      each = λ j jl out. elim (nat_cases j i) [
        | inl q ↦ absurd (differ (subst (λ x. with_one G.kept i x ≡ false) q out) (with_one-new G.kept i))
        | inr ne ↦ G.each j (omega (arith, jl, ne)) (not_true (G.kept j) (λ h. differ out (with_one-member G.kept i j h)))
      ];
      heads_low = λ k kl. let less : G.heads k < i = G.heads_low k kl in omega (arith, less);
      heads_out = heads_out;
      heads_rise = G.heads_rise;
      passed = λ k kl ind. G.passed k kl (fewer (with_one (both G.kept (earlier by_number everything (G.heads k))) (G.heads k))
          (with_one (both (with_one G.kept i) (earlier by_number everything (G.heads k))) (G.heads k)) (λ y yl h. elim (nat_cases y (G.heads k)) [
            | inl q ↦ subst (λ z. with_one (both (with_one G.kept i) (earlier by_number everything (G.heads k))) (G.heads k) z ≡ true) (sym q)
                (with_one-new (both (with_one G.kept i) (earlier by_number everything (G.heads k))) (G.heads k))
            | inr ne ↦ let b = with_one-other (both G.kept (earlier by_number everything (G.heads k))) (G.heads k) y h ne in
                with_one-member (both (with_one G.kept i) (earlier by_number everything (G.heads k))) (G.heads k) y
                (both_true (with_one G.kept i y) (earlier by_number everything (G.heads k) y)
                (with_one-member G.kept i y (both-first (G.kept y) (earlier by_number everything (G.heads k) y) b))
                (second (G.kept y) (earlier by_number everything (G.heads k) y) b))
          ]) ind);
      listed = λ k kl. let at = G.listed k kl in let fl : G.heads k < N.rows = omega (arith, il, G.heads_low k kl) in record {
        rising = at.rising;
        below = at.below;
        circuit = λ x xl. (
          λ h. circuit-grows p prime big N G.kept (with_one G.kept i) (G.heads k) fl (λ y _ h. with_one-member G.kept i y h) independent (heads_out k kl)
              (dependent k kl) x xl ((at.circuit x xl).0 h),
          λ h. (at.circuit x xl).1 (circuit-shrinks p prime big N G.kept (with_one G.kept i) (G.heads k) fl (λ y _ h. with_one-member G.kept i y h)
              independent (heads_out k kl) (dependent k kl) x xl h),
        );
      };
    }
      where
        keeps : KeepsAmong p l of.split S' M' (with_one G.kept i)
        keeps = joined model of G.kept G.keeps il new

        independent : AreIndependent p N (with_one G.kept i)
        independent = kept-independent S' M' over (with_one G.kept i) (joined model of G.kept G.keeps il new)

        heads_out : (k : ℕ) → k < length sets → with_one G.kept i (G.heads k) ≡ false
        heads_out k kl = not_true (with_one G.kept i (G.heads k)) (λ h. differ (G.heads_out k kl)
            (with_one-other G.kept i (G.heads k) h (λ q. absurd (let less : G.heads k < i = G.heads_low k kl in omega (arith, less, q)))))

    -- ---- one equation more is refused
    module _ (S' : TableauState) (M' : Matching) (refused : HasBeenRefused p l S S' M M' i) (symbols told : List Bool)
        (marks : (x : ℕ) → x < length model.equations → members_of symbols x ≡ has_symbol (mixed_matrix_of model) x)
        (tells : TellsCircuit p l S M symbols told i) (list : List ℕ) (are : AreMarkedBelow (members_of told) (length model.equations) list) where
      abbrev heads : ℕ → ℕ
      heads k = cond (eqb k (length sets)) i (G.heads k)

      longer : length (sets ++ list ∷ []) ≡ length sets + 1
      longer = length_push sets list

      heads-last : (k : ℕ) → k ≡ length sets → heads k ≡ i
      heads-last k q = ap (λ c. cond c i (G.heads k)) (same-test k (length sets) q)
        where
          same-test : (x y : ℕ) → x ≡ y → eqb x y ≡ true
          same-test x y e = grind (arith, nat_tests)

      heads-old : (k : ℕ) → k < length sets → heads k ≡ G.heads k
      heads-old k kl = ap (λ c. cond c i (G.heads k)) (other-test k (length sets) kl)
        where
          other-test : (x y : ℕ) → x < y → eqb x y ≡ false
          other-test x y e = grind (arith, nat_tests)

      set-last : (k : ℕ) → k ≡ length sets → set_at (sets ++ list ∷ []) k ≡ list
      set-last k q = get_or_push sets list [] k (sym q)

      set-old : (k : ℕ) → k < length sets → set_at (sets ++ list ∷ []) k ≡ set_at sets k
      set-old k kl = get_or_append_left sets (list ∷ []) [] k kl

      -- the new list
      the-list : IsCircuitList p N G.kept i list
      the-list = record {
        rising = are.rising;
        below = λ x h. ((are.exact x).0 h).0;
        circuit = λ x xl. (
          λ h. (tells model of G.kept G.keeps il new marks x xl).0 ((are.exact x).0 h).1,
          λ h. (are.exact x).1 (xl, (tells model of G.kept G.keeps il new marks x xl).1 h),
        );
      }

      all-before : AreIndependent p N (with_one (both G.kept (earlier by_number everything i)) i) → ⊥
      all-before ind = (refused model of G.kept G.keeps il new).1 (fewer (with_one G.kept i) (with_one (both G.kept (earlier by_number everything i)) i)
          (λ y yl h. elim (nat_cases y i) [
            | inl q ↦ subst (λ z. with_one (both G.kept (earlier by_number everything i)) i z ≡ true) (sym q)
                (with_one-new (both G.kept (earlier by_number everything i)) i)
            | inr ne ↦ let k = with_one-other G.kept i y h ne in with_one-member (both G.kept (earlier by_number everything i)) i y
                (both_true (G.kept y) (earlier by_number everything i y) k (before-test y i (G.low y k)))
          ]) ind)

      old-or-new : (k : ℕ) → k < length (sets ++ list ∷ []) → (k < length sets) ⊎ (k ≡ length sets)
      old-or-new k kl = elim (nat_cases k (length sets)) [ inl q ↦ inr q | inr ne ↦ inl (omega (arith, kl, longer, ne)) ]

      pub gone-refused : HasGoneOver p model l of.split S' M' (i + 1) (sets ++ list ∷ [])
      gone-refused = record {
        kept = G.kept;
        heads = heads;
        keeps = (refused model of G.kept G.keeps il new).0;
        low = λ x h. let less : x < i = G.low x h in omega (arith, less);
        each = λ j jl out. elim (nat_cases j i) [
          | inl q ↦ (length sets, omega (arith, longer), heads-last (length sets) refl ∙ sym q)
          | inr ne ↦ let (k, kl, is) = G.each j (omega (arith, jl, ne)) out in (k, omega (arith, kl, longer), heads-old k kl ∙ is)
        ];
        heads_low = λ k kl. elim (old-or-new k kl) [
          | inl old ↦ let less : G.heads k < i = G.heads_low k old in omega (arith, less, heads-old k old)
          | inr last ↦ omega (arith, heads-last k last)
        ];
        heads_out = λ k kl. elim (old-or-new k kl) [
          | inl old ↦ subst (λ x. G.kept x ≡ false) (sym (heads-old k old)) (G.heads_out k old)
          | inr last ↦ subst (λ x. G.kept x ≡ false) (sym (heads-last k last)) new
        ];
        heads_rise = λ k m less ml. elim (old-or-new m ml) [
          | inl old ↦ let kl : k < length sets = omega (arith, less, old) in
              let rise : G.heads k < G.heads m = G.heads_rise k m less old in omega (arith, rise, heads-old k kl, heads-old m old)
          | inr last ↦ let kl : k < length sets = omega (arith, less, last) in
              let low : G.heads k < i = G.heads_low k kl in omega (arith, low, heads-old k kl, heads-last m last)
        ];
        passed = λ k kl. elim (old-or-new k kl) [
          | inl old ↦ subst (λ x. AreIndependent p N (with_one (both G.kept (earlier by_number everything x)) x) → ⊥) (sym (heads-old k old)) (G.passed k old)
          | inr last ↦ subst (λ x. AreIndependent p N (with_one (both G.kept (earlier by_number everything x)) x) → ⊥) (sym (heads-last k last)) all-before
        ];
        listed = λ k kl. elim (old-or-new k kl) [
          | inl old ↦ subst (λ x. IsCircuitList p N G.kept x (set_at (sets ++ list ∷ []) k)) (sym (heads-old k old))
              (subst (λ xs. IsCircuitList p N G.kept (G.heads k) xs) (sym (set-old k old)) (G.listed k old))
          | inr last ↦ subst (λ x. IsCircuitList p N G.kept x (set_at (sets ++ list ∷ []) k)) (sym (heads-last k last))
              (subst (λ xs. IsCircuitList p N G.kept i xs) (sym (set-last k last)) the-list)
        ];
      }

  and-true : (b : Bool) → b && true ≡ b
  and-true true = refl
  and-true false = refl

  -- ---- in the end
  module _ (S : TableauState) (M : Matching) (over : IsPairOver p l S M) (sets : List (List ℕ))
      (G : HasGoneOver p model l of.split S M (length model.equations) sets) where
    abbrev B : ℕ → Bool
    B = G.kept

    independent : AreIndependent p N G.kept
    independent = kept-independent S M over G.kept G.keeps

    choice : IsGreedyChoice p N by_number everything G.kept
    choice = tells-choice p prime N big by_number number-line everything G.kept (λ j _ h. refl) (record {
      independent = kept-independent S M over G.kept G.keeps;
      passed_over = λ e el _ out ind. let (k, kl, is) = G.each e el out in
          G.passed k kl (subst (λ x. AreIndependent p N (with_one (both G.kept (earlier by_number everything x)) x)) (sym is) ind);
    })

    -- the circuit of a refused equation holds no other refused one
    holds-kept : (k x : ℕ) → k < length sets → x < N.rows → has (set_at sets k) x ≡ true → (x ≡ G.heads k) ⊎ (G.kept x ≡ true)
    holds-kept k x kl xl h = elim (((G.listed k kl).circuit x xl).0 h) [ inl q ↦ inl q | inr (b, _) ↦ inr b ]

    holds-head : (k : ℕ) → k < length sets → has (set_at sets k) (G.heads k) ≡ true
    holds-head k kl = ((G.listed k kl).circuit (G.heads k) (G.heads_low k kl)).1 (inl refl)

    -- an equation that another one may replace is surplus
    replaced-surplus : (f e : ℕ) → f < N.rows → e < N.rows → G.kept f ≡ false → G.kept e ≡ true → AreIndependent p N (with_one (without G.kept e) f) →
        IsSurplusAmong p N everything e
    replaced-surplus f e fl el out held ind = (
      size_on G.kept N.rows,
      whole,
      largest-rank p prime N (without everything e) (size_on G.kept N.rows) (record {
        reached = (with_one (without G.kept e) f, inside, independent-free p prime N (with_one (without G.kept e) f) ind, sizes);
        greatest = λ Y within free. (rank-largest p prime N everything (size_on G.kept N.rows) whole).greatest Y (λ j _ h. refl) free;
      }),
    )
      where
        whole : IsRankOf p N everything (size_on G.kept N.rows)
        whole = subst (λ r. IsRankOf p N everything r) (sum_on-same (both G.kept everything) G.kept N.rows (λ _. 1) (λ x l. and-true (G.kept x)))
            (choice-reaches p prime N big by_number number-line everything G.kept choice everything
            (record { inside = λ j _ h. refl; closed = λ d e dl el _ _ _. refl })).1

        ne : f ≢ e
        ne q = differ out (subst (λ x. G.kept x ≡ true) (sym q) held)

        inside : IsWithin N.rows (with_one (without G.kept e) f) (without everything e)
        inside j jl h = elim (nat_cases j f) [
          | inl q ↦ member-without everything e j refl (λ r. ne (sym q ∙ r))
          | inr other ↦ member-without everything e j refl (without-member G.kept e j (with_one-other (without G.kept e) f j h other)).1
        ]

        sizes : size_on (with_one (without G.kept e) f) N.rows ≡ size_on G.kept N.rows
        sizes = size-grown N.rows (without G.kept e) f fl (not_true (without G.kept e f) (λ h. differ out (without-member G.kept e f h).0))
            ∙ sym (size-shrunk N.rows G.kept e el held)

    conflict-list : (e : ℕ) → e < N.rows → IsSurplusAmong p N everything e → (list : List ℕ) → IsStrictlyIncreasing list →
        ((x : ℕ) → has list x ≡ true → x < N.rows) → IsConflictSet p N e (has list) → IsConflictList p N e list
    conflict-list e el surplus list rising below conflict = let (rank, parts) = minimal p prime N big e el surplus (has list) conflict in record {
      surplus = among-surplus p prime N e el surplus;
      rising = rising;
      below = below;
      conflict = conflict;
      rank = rank;
      parts = parts;
    }

    some : (e k : ℕ) → e < N.rows → IsFirstWith sets e k → IsConflictList p N e (set_at sets k)
    some e k el first = at (G.kept e) refl
      where
        kl : k < length sets
        kl = first.below

        list : IsCircuitList p N G.kept (G.heads k) (set_at sets k)
        list = G.listed k first.below

        at : (b : Bool) → G.kept e ≡ b → IsConflictList p N e (set_at sets k)
        at false out = elim (holds-kept k e first.below el first.holds) [
          | inr b ↦ absurd (differ out b)
          | inl q ↦ let (surplus, tells) = others p prime N big G.kept choice e el out in
              conflict-list e el surplus (set_at sets k) (G.listed k first.below).rising (G.listed k first.below).below
              ((tells (has (set_at sets k))).1 (subst (λ f. IsCircuitOf p N G.kept f (has (set_at sets k))) (sym q) (G.listed k first.below).circuit))
        ]
        at true held =
            let (fl, out) : (G.heads k < N.rows) × (G.kept (G.heads k) ≡ false) = (G.heads_low k first.below, G.heads_out k first.below) in
            elim (((G.listed k first.below).circuit e el).0 first.holds) [
              | inl q ↦ absurd (differ (subst (λ x. G.kept x ≡ false) (sym q) out) held)
              | inr (_, ind) ↦
                  let surplus = replaced-surplus (G.heads k) e fl el out held ind in
                  let (f, fbelow, fout, finside, ffirst, tells) = held_ones p prime N big G.kept choice e el held surplus in
                  let (m, ml, is) = G.each f fbelow fout in
                  let holds : has (set_at sets m) e ≡ true = ((G.listed m ml).circuit e el).1 (subst (λ x. IsInCircuit p N G.kept x e) (sym is) finside) in
                  let same : m ≡ k = which m f ml is ffirst (inr (held, ind)) holds in
                  conflict-list e el surplus (set_at sets k) (G.listed k first.below).rising (G.listed k first.below).below
                  ((tells (has (set_at sets k))).1 (subst (λ x. IsCircuitOf p N G.kept x (has (set_at sets k))) (ap G.heads (sym same) ∙ is)
                  (G.listed k first.below).circuit))
            ]
          where
            -- it is the first list that holds e
            which : (m f : ℕ) → m < length sets → G.heads m ≡ f → ((g : ℕ) → g < f → G.kept g ≡ false → IsInCircuit p N G.kept g e → ⊥) →
                IsInCircuit p N G.kept (G.heads k) e → has (set_at sets m) e ≡ true → m ≡ k
            which m f ml is ffirst inside holds = elim (nat_cases m k) [
              | inl q ↦ q
              | inr ne ↦ elim (less_or m k ne) [
                | inl less ↦ absurd (differ (first.first m less) holds)
                | inr more ↦ absurd (ffirst (G.heads k) (subst (λ x. G.heads k < x) is (G.heads_rise k m more ml)) (G.heads_out k first.below) inside)
              ]
            ]
              where
                less_or : (x y : ℕ) → x ≢ y → (x < y) ⊎ (y < x)
                less_or x y ne = grind arith

    none : (e : ℕ) → e < N.rows → HasNoneWith sets e → IsSurplus p N e → ⊥
    none e el empty surplus = at (G.kept e) refl
      where
        at : (b : Bool) → G.kept e ≡ b → ⊥
        at false out = let (k, kl, is) = G.each e el out in differ (subst (λ x. has (set_at sets k) x ≡ false) (sym is) (empty k kl)) (holds-head k kl)
        at true held = let (f, fl, out, inside, _, _) = held_ones p prime N big G.kept choice e el held (surplus-among p prime N e el surplus) in
            let (k, kl, is) = G.each f fl out in
            differ (empty k kl) (((G.listed k kl).circuit e el).1 (subst (λ x. IsInCircuit p N G.kept x e) (sym is) inside))

    pub gone-conflicts : AreConflictLists p N sets
    gone-conflicts = record { below = λ k x kl h. (G.listed k kl).below x h; some = some; none = none }

-- the equations of rows are those of the model
pub origins-below : (model : MixedModel) (l : Layers) → AreLayersOf model l → AreLayers l → All (λ e. e < length model.equations) l.q_origins
    × All (λ e. e < length model.equations) l.t_origins
origins-below model l of are = (
  λ k d kl. subst (λ x. x < length model.equations) (get_or-any l.q_origins k 0 d kl) (of.layered.q_rows.below k (omega (arith, kl, are.q_origins))),
  λ k d kl. subst (λ x. x < length model.equations) (get_or-any l.t_origins k 0 d kl) (of.layered.t_rows.below k (omega (arith, kl, are.t_origins))),
)

-- a set of the view
pub set-given : (sets : List (Vec ℕ Global)) (now : List (List ℕ)) → map (λ (v : Vec ℕ Global). v.items) sets ≡ now → (xs : List (Vec ℕ Global)) →
    xs ≡ sets → (k : ℕ) → k < length xs → (r : Vec ℕ Global) → r ≡ get_or xs k r → set_at now k ≡ r.items
set-given sets now view xs same k kl r is = ap (λ ys. set_at ys k) (sym view)
    ∙ get_or-map (λ (v : Vec ℕ Global). v.items) sets k r [] (subst (λ ys. k < length ys) same kl)
    ∙ ap (λ (v : Vec ℕ Global). v.items) (ap (λ ys. get_or ys k r) (sym same) ∙ sym is)
