-- The tableau of the layered matrix in which the equations outside K are emptied, where only rows of K have columns.
use Rattle.std.proofs.Common.{◌≡◌, ◌≢◌, ℕ, ◌+◌, ◌-◌, ◌*◌, ◌%◌, ◌<◌, ◌≤◌, Bool, true, false, cond, eqb, ltb, not, ◌&&◌}
use Rattle.std.proofs.Common.{◌||◌, ◌⊎◌, inl, inr, refl, ap, sym, subst, ◌∙◌, arith}
use Rattle.std.proofs.Math.Nat.{zero-mod}
use Rattle.std.proofs.lemmas.Bool.Decides.{nat_tests}
use Rattle.residue_theory.proofs.ResidueLaws.{agree-sum, vanishes-mul, vanishes-sum, vanishes_by}
use Rattle.residue_theory.proofs.SetLaws.{both-first, both-second, differ}
use Rattle.residue_theory.proofs.SumLaws.{nat_cases, sum_on-ext}
use Rattle.residue_theory.specs.Sets.{both, everything}
use Rattle.residue_theory.specs.Sums.{size_on}
use Rattle.linear_algebra.specs.Bases.{IsBase}
use Rattle.linear_algebra.specs.Products.{Agree, IsInverse, identity, product}
use Rattle.linear_algebra_laws.proofs.Entries.{identity-other}
use Rattle.linear_algebra_laws.proofs.Products.{sum-identity}
use Rattle.mixed_matrices.specs.LayeredMatrices.{LayeredMatrix}
use Rattle.mixed_matrices.specs.Layerings.{IsLayering, Origins}
use Rattle.mixed_matrices.specs.Models.{MixedMatrix}
use Rattle.mixed_matrices.specs.Pairs.{IsMatching}
use Rattle.mixed_matrices.specs.Tableaus.{IsTableau, Tableau}
use Rattle.mixed_layering_laws.proofs.Members.{member-at, member-index, members-distinct}
use Rattle.equation_matroid_laws.specs.EquationRanks.{emptied_layers}
use Rattle.row_choice_laws.specs.RowSearches.{IsOnRowsOf}

pub pick : {A : Type 0} (b : Bool) (x y : A) → b ≡ true → cond b x y ≡ x
pick true x y e = refl
pick false x y e = absurd (differ refl e)

pub pass : {A : Type 0} (b : Bool) (x y : A) → b ≡ false → cond b x y ≡ y
pass true x y e = absurd (differ e refl)
pass false x y e = refl

pub less-test : (j k : ℕ) → j < k → ltb j k ≡ true
less-test j k l = grind (arith, nat_tests)

pub more-test : (j k : ℕ) → k ≤ j → ltb j k ≡ false
more-test j k l = grind (arith, nat_tests)

pub test-more : (j k : ℕ) → ltb j k ≡ false → k ≤ j
test-more j k l = grind (arith, nat_tests)

pub other-test : (i j : ℕ) → i ≢ j → eqb i j ≡ false
other-test i j ne = grind (arith, nat_tests)

pub same-test : (i j : ℕ) → i ≡ j → eqb i j ≡ true
same-test i j q = grind (arith, nat_tests)

pub not-false : (b : Bool) → not b ≡ true → b ≡ false
not-false b h = grind arith

pub false-not : (b : Bool) → b ≡ false → not b ≡ true
false-not b h = grind arith

pub zero-one : (x : ℕ) → x ≡ 0 → x ≡ 1 → ⊥
zero-one x a b = omega (arith, a, b)

module _ (p : ℕ) where
  pub vanishes-left : (s x : ℕ) → s % p ≡ 0 → (s * x) % p ≡ 0
  vanishes-left s x z = vanishes_by p (s * x) (x * s) (omega arith) (vanishes-mul p x s z)

  vanishes-none : (s x : ℕ) → x ≡ 0 → (s * x) % p ≡ 0
  vanishes-none s x z = vanishes-mul p s x (ap (λ y. y % p) z ∙ zero-mod p)

  -- the terms of the product of S' and U', and of S' and Q'
  kept_term : (a b c : Bool) (s d u e : ℕ) → a ≡ true → b ≡ true → (c ≡ false → s % p ≡ 0) → (cond a s d * cond c (cond b u 0) e) % p ≡ (s * u) % p
  kept_term true true true s d u e _ _ z = refl
  kept_term true true false s d u e _ _ z = vanishes-left s e (z refl) ∙ sym (vanishes-left s u (z refl))
  kept_term true false c s d u e _ h z = absurd (differ refl h)
  kept_term false b c s d u e h _ z = absurd (differ refl h)

  lost_term : (a b c : Bool) (s d u e : ℕ) → a ≡ true → b ≡ false → (c ≡ false → s % p ≡ 0) → (cond a s d * cond c (cond b u 0) e) % p ≡ 0
  lost_term true false true s d u e _ _ z = vanishes-none s 0 refl
  lost_term true false false s d u e _ _ z = vanishes-left s e (z refl)
  lost_term true true c s d u e _ h z = absurd (differ h refl)
  lost_term false b c s d u e h _ z = absurd (differ refl h)

  entry_term : (a c l : Bool) (s d q : ℕ) → a ≡ true → (c ≡ false → s % p ≡ 0) → (s * q) % p ≡ (cond a s d * cond (l && not c) 0 q) % p
  entry_term true true true s d q _ z = refl
  entry_term true true false s d q _ z = refl
  entry_term true false l s d q _ z = vanishes-left s q (z refl) ∙ sym (vanishes-left s (cond (l && true) 0 q) (z refl))
  entry_term false c l s d q h z = absurd (differ refl h)

module _ (p : ℕ) (M : MixedMatrix) (A D : ℕ → Bool) (L : LayeredMatrix) (O : Origins) (lay : IsLayering M A D L O)
    (S U : ℕ → ℕ → ℕ) (F : Tableau) (tab : IsTableau p L S U F) (K : ℕ → Bool) (on : IsOnRowsOf p L O S F K) where
  -- Q row i is one of K
  abbrev own : ℕ → Bool
  own i = K (O.of_q i)

  abbrev pub layers_of : LayeredMatrix
  layers_of = emptied_layers M O K L

  abbrev pub made_of : ℕ → ℕ → ℕ
  made_of i k = cond (own i) (S i k) (identity i k)

  abbrev pub undone : ℕ → ℕ → ℕ
  undone i k = cond (own i) (cond (own k) (U i k) 0) (identity i k)

  abbrev pub entries_of : ℕ → ℕ → ℕ
  entries_of i j = cond (own i) (F.P i j) (layers_of.q i j)

  -- the auxiliary column of an equation outside K, which is matched with its own T row
  abbrev pub outer : ℕ → Bool
  outer j = not (ltb j M.columns) && not (K (O.of_z (j - M.columns)))

  abbrev pub tableau_of : Tableau
  tableau_of = record {
    P = entries_of;
    base = F.base;
    row = F.row;
    matched = λ j. F.matched j || outer j;
    mate = λ j. cond (outer j) (size_on D (O.of_z (j - M.columns))) (F.mate j);
  }

  -- ---- S' and U'
  inverse_of : IsInverse p L.q_rows made_of undone
  inverse_of i j il jl = at (own i) (own j) refl refl
    where
      at : (a b : Bool) → own i ≡ a → own j ≡ b → product L.q_rows made_of undone i j % p ≡ identity i j % p
      at true true hi hj = agree-sum p everything L.q_rows (λ t. made_of i t * undone t j) (λ t. S i t * U t j)
          (λ t tl _. kept_term p (own i) (own j) (own t) (S i t) (identity i t) (U t j) (identity t j) hi hj (λ h. on.made i t il tl hi h))
          ∙ tab.inverse i j il jl
      at true false hi hj = vanishes-sum p everything L.q_rows (λ t. made_of i t * undone t j)
          (λ t tl _. lost_term p (own i) (own j) (own t) (S i t) (identity i t) (U t j) (identity t j) hi hj (λ h. on.made i t il tl hi h))
          ∙ sym (ap (λ y. y % p) (identity-other i j (λ q. differ (subst (λ k. own k ≡ false) (sym q) hj) hi)) ∙ zero-mod p)
      at false b hi hj = ap (λ y. y % p) (sum_on-ext everything L.q_rows (λ t. made_of i t * undone t j) (λ t. identity i t * undone t j)
          (λ t _ _. ap (λ y. y * undone t j) (pass (own i) (S i t) (identity i t) hi))
          ∙ sum-identity L.q_rows i (λ t. undone t j) il ∙ pass (own i) (cond (own j) (U i j) 0) (identity i j) hi)

  product_of : Agree p L.q_rows L.columns entries_of (product L.q_rows made_of layers_of.q)
  product_of i j il jl = at (own i) refl
    where
      at : (a : Bool) → own i ≡ a → entries_of i j % p ≡ product L.q_rows made_of layers_of.q i j % p
      at true hi = ap (λ y. y % p) (pick (own i) (F.P i j) (layers_of.q i j) hi) ∙ tab.product i j il jl
          ∙ agree-sum p everything L.q_rows (λ t. S i t * L.q t j) (λ t. made_of i t * layers_of.q t j)
          (λ t tl _. entry_term p (own i) (own t) (ltb j M.columns) (S i t) (identity i t) (L.q t j) hi (λ h. on.made i t il tl hi h))
      at false hi = ap (λ y. y % p) (pass (own i) (F.P i j) (layers_of.q i j) hi
          ∙ sym (sum_on-ext everything L.q_rows (λ t. made_of i t * layers_of.q t j) (λ t. identity i t * layers_of.q t j)
          (λ t _ _. ap (λ y. y * layers_of.q t j) (pass (own i) (S i t) (identity i t) hi))
          ∙ sum-identity L.q_rows i (λ t. layers_of.q t j) il))

  -- ---- auxiliary columns of equations outside K
  pub auxiliary-zero : (i k : ℕ) → i < L.q_rows → k < O.split → own i ≡ true → K (O.of_z k) ≡ false → F.P i (M.columns + k) % p ≡ 0
  auxiliary-zero i k il kl hi out = tab.product i (M.columns + k) il (omega (arith, lay.columns))
      ∙ vanishes-sum p everything L.q_rows (λ t. S i t * L.q t (M.columns + k)) (λ t tl _. term t tl (nat_cases (O.of_q t) (O.of_z k)))
    where
      term : (t : ℕ) → t < L.q_rows → (O.of_q t ≡ O.of_z k) ⊎ (O.of_q t ≢ O.of_z k) → (S i t * L.q t (M.columns + k)) % p ≡ 0
      term t tl (inl q) = vanishes-left p (S i t) (L.q t (M.columns + k)) (on.made i t il tl hi (subst (λ x. K x ≡ false) (sym q) out))
      term t tl (inr ne) = vanishes-none p (S i t) (L.q t (M.columns + k))
          (lay.q_auxiliary t k tl kl ∙ pass (eqb (O.of_q t) (O.of_z k)) 1 0 (other-test (O.of_q t) (O.of_z k) ne))

  module _ (j : ℕ) (jl : j < L.columns) (out : outer j ≡ true) where
    late : M.columns ≤ j
    late = test-more j M.columns (not-false (ltb j M.columns) (both-first (not (ltb j M.columns)) (not (K (O.of_z (j - M.columns)))) out))

    pub outer-index : j - M.columns < O.split
    outer-index = omega (arith, lay.columns, late, jl)

    pub outer-place : M.columns + (j - M.columns) ≡ j
    outer-place = omega (arith, late)

    pub outer-outside : K (O.of_z (j - M.columns)) ≡ false
    outer-outside = not-false (K (O.of_z (j - M.columns))) (both-second (not (ltb j M.columns)) (not (K (O.of_z (j - M.columns)))) out)

    split : both A D (O.of_z (j - M.columns)) ≡ true
    split = lay.auxiliary.member (j - M.columns) outer-index

    has_t : D (O.of_z (j - M.columns)) ≡ true
    has_t = both-second (A (O.of_z (j - M.columns))) (D (O.of_z (j - M.columns))) split

    pub outer-mate : tableau_of.mate j ≡ size_on D (O.of_z (j - M.columns))
    outer-mate = pick (outer j) (size_on D (O.of_z (j - M.columns))) (F.mate j) out

    pub outer-below : size_on D (O.of_z (j - M.columns)) < L.t_rows
    outer-below = member-index D M.rows O.of_t L.t_rows lay.t_rows (O.of_z (j - M.columns)) (lay.auxiliary.below (j - M.columns) outer-index) has_t

    pub outer-equation : O.of_t (size_on D (O.of_z (j - M.columns))) ≡ O.of_z (j - M.columns)
    outer-equation = member-at D M.rows O.of_t L.t_rows lay.t_rows (O.of_z (j - M.columns)) (lay.auxiliary.below (j - M.columns) outer-index) has_t

    -- no base column
    pub outer-no_base : F.base j ≡ true → ⊥
    outer-no_base h = zero-one (F.P (F.row j) j % p) (subst (λ x. F.P (F.row j) x % p ≡ 0) outer-place
        (auxiliary-zero (F.row j) (j - M.columns) (tab.base.row_below j jl h) outer-index (on.base j jl h) outer-outside)) (tab.base.one j jl h)

    -- no column that is matched in F
    pub outer-no_match : F.matched j ≡ true → ⊥
    outer-no_match h = differ outer-outside (subst (λ x. K x ≡ true) same (on.matched j jl h))
      where
        tests : (x y : ℕ) → eqb x y ≡ true → x ≡ y
        tests x y e = grind (arith, nat_tests)

        same : O.of_t (F.mate j) ≡ O.of_z (j - M.columns)
        same = tests (O.of_t (F.mate j)) (O.of_z (j - M.columns)) (sym (lay.t_auxiliary (F.mate j) (j - M.columns) (tab.matching.below j jl h) outer-index)
            ∙ ap (λ x. L.t (F.mate j) x) outer-place ∙ tab.matching.symbol j jl h)

    outer-symbol : layers_of.t (size_on D (O.of_z (j - M.columns))) j ≡ true
    outer-symbol = shown (ltb j M.columns) (K (O.of_t (size_on D (O.of_z (j - M.columns))))) (L.t (size_on D (O.of_z (j - M.columns))) j)
        (more-test j M.columns late)
        (subst (λ x. L.t (size_on D (O.of_z (j - M.columns))) x ≡ true) outer-place
        (lay.t_auxiliary (size_on D (O.of_z (j - M.columns))) (j - M.columns) outer-below outer-index
        ∙ same-test (O.of_t (size_on D (O.of_z (j - M.columns)))) (O.of_z (j - M.columns)) outer-equation))
      where
        shown : (l k t : Bool) → l ≡ false → t ≡ true → (not l || k) && t ≡ true
        shown l k t a b = grind arith

  -- ---- a column that is matched before
  module _ (j : ℕ) (jl : j < L.columns) (inner : outer j ≡ false) where
    pub inner-mate : tableau_of.mate j ≡ F.mate j
    inner-mate = pass (outer j) (size_on D (O.of_z (j - M.columns))) (F.mate j) inner

    pub inner-matched : tableau_of.matched j ≡ true → F.matched j ≡ true
    inner-matched h = first (F.matched j) (outer j) h inner
      where
        first : (a b : Bool) → a || b ≡ true → b ≡ false → a ≡ true
        first a b h k = grind arith

  -- a row of symbols of K keeps its symbols
  pub own-symbol : (t j : ℕ) → K (O.of_t t) ≡ true → layers_of.t t j ≡ L.t t j
  own-symbol t j h = same (not (ltb j M.columns)) (K (O.of_t t)) (L.t t j) h
    where
      same : (a b c : Bool) → b ≡ true → (a || b) && c ≡ c
      same a b c h = grind arith

  pub own-entry : (i j : ℕ) → K (O.of_q i) ≡ true → entries_of i j ≡ F.P i j
  own-entry i j h = pick (own i) (F.P i j) (layers_of.q i j) h

  -- an entry of a row outside K stands in its auxiliary column
  pub other-entry : (i j : ℕ) → i < L.q_rows → j < L.columns → K (O.of_q i) ≡ false → entries_of i j % p ≢ 0 → outer j ≡ true
  other-entry i j il jl hi ne = at (ltb j M.columns) refl
    where
      here : layers_of.q i j % p ≢ 0
      here z = ne (ap (λ y. y % p) (pass (own i) (F.P i j) (layers_of.q i j) hi) ∙ z)

      emptied : (l k : Bool) (q : ℕ) → l ≡ true → k ≡ false → cond (l && not k) 0 q ≡ 0
      emptied true false q _ _ = refl
      emptied true true q _ h = absurd (differ h refl)
      emptied false k q h _ = absurd (differ refl h)

      kept : (l k : Bool) (q : ℕ) → l ≡ false → cond (l && not k) 0 q ≡ q
      kept false k q _ = refl
      kept true k q h = absurd (differ h refl)

      at : (l : Bool) → ltb j M.columns ≡ l → outer j ≡ true
      at true l = absurd (here (ap (λ y. y % p) (emptied (ltb j M.columns) (K (O.of_q i)) (L.q i j) l hi) ∙ zero-mod p))
      at false l = found (nat_cases (O.of_q i) (O.of_z (j - M.columns)))
        where
          place : M.columns + (j - M.columns) ≡ j
          place = omega (arith, test-more j M.columns l)

          index : j - M.columns < O.split
          index = omega (arith, lay.columns, test-more j M.columns l, jl)

          found : (O.of_q i ≡ O.of_z (j - M.columns)) ⊎ (O.of_q i ≢ O.of_z (j - M.columns)) → outer j ≡ true
          found (inl q) = two (ltb j M.columns) (K (O.of_z (j - M.columns))) l (subst (λ x. K x ≡ false) q hi)
            where
              two : (a b : Bool) → a ≡ false → b ≡ false → not a && not b ≡ true
              two a b h k = grind arith
          found (inr unlike) = absurd (here (ap (λ y. y % p) (kept (ltb j M.columns) (K (O.of_q i)) (L.q i j) l
              ∙ ap (λ x. L.q i x) (sym place) ∙ lay.q_auxiliary i (j - M.columns) il index
              ∙ pass (eqb (O.of_q i) (O.of_z (j - M.columns))) 1 0 (other-test (O.of_q i) (O.of_z (j - M.columns)) unlike)) ∙ zero-mod p))

  pub other-symbol : (t j : ℕ) → t < L.t_rows → j < L.columns → K (O.of_t t) ≡ false → layers_of.t t j ≡ true → outer j ≡ true
  other-symbol t j tl jl out h = two (ltb j M.columns) (K (O.of_z (j - M.columns))) l (subst (λ x. K x ≡ false) same out)
    where
      aside : (l k s : Bool) → k ≡ false → (not l || k) && s ≡ true → l ≡ false
      aside l k s a b = grind arith

      l : ltb j M.columns ≡ false
      l = aside (ltb j M.columns) (K (O.of_t t)) (L.t t j) out h

      place : M.columns + (j - M.columns) ≡ j
      place = omega (arith, test-more j M.columns l)

      index : j - M.columns < O.split
      index = omega (arith, lay.columns, test-more j M.columns l, jl)

      tests : (x y : ℕ) → eqb x y ≡ true → x ≡ y
      tests x y e = grind (arith, nat_tests)

      same : O.of_t t ≡ O.of_z (j - M.columns)
      same = tests (O.of_t t) (O.of_z (j - M.columns)) (sym (lay.t_auxiliary t (j - M.columns) tl index)
          ∙ ap (λ x. L.t t x) place ∙ both-second (not (ltb j M.columns) || K (O.of_t t)) (L.t t j) h)

      two : (a b : Bool) → a ≡ false → b ≡ false → not a && not b ≡ true
      two a b h k = grind arith

  -- ---- the tableau
  base_of : IsBase p entries_of L.q_rows L.columns F.base F.row
  base_of = record {
    row_below = tab.base.row_below;
    one = λ b bl bh. ap (λ y. y % p) (own-entry (F.row b) b (on.base b bl bh)) ∙ tab.base.one b bl bh;
    zero = λ b i bl bh il ne. zero b i bl bh il ne (own i) refl (nat_cases (entries_of i b % p) 0);
    distinct = tab.base.distinct;
  }
    where
      zero : (b i : ℕ) → b < L.columns → F.base b ≡ true → i < L.q_rows → i ≢ F.row b → (a : Bool) → own i ≡ a →
          (entries_of i b % p ≡ 0) ⊎ (entries_of i b % p ≢ 0) → entries_of i b % p ≡ 0
      zero b i bl bh il ne true hi d = ap (λ y. y % p) (own-entry i b hi) ∙ tab.base.zero b i bl bh il ne
      zero b i bl bh il ne false hi (inl z) = z
      zero b i bl bh il ne false hi (inr nz) = absurd (outer-no_base b bl (other-entry i b il bl hi nz) bh)

  matching_of : IsMatching layers_of tableau_of.matched tableau_of.mate
  matching_of = record {
    below = λ j jl h. below j jl h (outer j) refl;
    symbol = λ j jl h. symbol j jl h (outer j) refl;
    distinct = λ j k jl kl h g q. distinct j k jl kl h g q (outer j) refl (outer k) refl;
  }
    where
      below : (j : ℕ) → j < L.columns → tableau_of.matched j ≡ true → (b : Bool) → outer j ≡ b → tableau_of.mate j < L.t_rows
      below j jl h true o = subst (λ x. x < L.t_rows) (sym (outer-mate j jl o)) (outer-below j jl o)
      below j jl h false o = subst (λ x. x < L.t_rows) (sym (inner-mate j jl o)) (tab.matching.below j jl (inner-matched j jl o h))

      symbol : (j : ℕ) → j < L.columns → tableau_of.matched j ≡ true → (b : Bool) → outer j ≡ b → layers_of.t (tableau_of.mate j) j ≡ true
      symbol j jl h true o = subst (λ x. layers_of.t x j ≡ true) (sym (outer-mate j jl o)) (outer-symbol j jl o)
      symbol j jl h false o = subst (λ x. layers_of.t x j ≡ true) (sym (inner-mate j jl o))
          (own-symbol (F.mate j) j (on.matched j jl (inner-matched j jl o h)) ∙ tab.matching.symbol j jl (inner-matched j jl o h))

      -- an outer column has a row outside K, and another one a row of K
      never : (j k : ℕ) → j < L.columns → k < L.columns → tableau_of.matched k ≡ true → tableau_of.mate j ≡ tableau_of.mate k →
          outer j ≡ true → outer k ≡ false → ⊥
      never j k jl kl g q o n = differ (subst (λ x. K x ≡ false) (sym (ap O.of_t (sym (inner-mate k kl n) ∙ sym q ∙ outer-mate j jl o) ∙ outer-equation j jl o))
          (outer-outside j jl o)) (on.matched k kl (inner-matched k kl n g))

      distinct : (j k : ℕ) → j < L.columns → k < L.columns → tableau_of.matched j ≡ true → tableau_of.matched k ≡ true →
          tableau_of.mate j ≡ tableau_of.mate k → (b : Bool) → outer j ≡ b → (c : Bool) → outer k ≡ c → j ≡ k
      distinct j k jl kl h g q true o true n = sym (outer-place j jl o) ∙ ap (λ x. M.columns + x) same ∙ outer-place k kl n
        where
          same : j - M.columns ≡ k - M.columns
          same = members-distinct (both A D) M.rows O.of_z O.split lay.auxiliary (j - M.columns) (k - M.columns) (outer-index j jl o) (outer-index k kl n)
              (sym (outer-equation j jl o) ∙ ap O.of_t (sym (outer-mate j jl o) ∙ q ∙ outer-mate k kl n) ∙ outer-equation k kl n)
      distinct j k jl kl h g q true o false n = absurd (never j k jl kl g q o n)
      distinct j k jl kl h g q false o true n = absurd (never k j kl jl h (sym q) n o)
      distinct j k jl kl h g q false o false n = tab.matching.distinct j k jl kl (inner-matched j jl o h) (inner-matched k kl n g)
          (sym (inner-mate j jl o) ∙ q ∙ inner-mate k kl n)

  pub own-tableau : IsTableau p layers_of made_of undone tableau_of
  own-tableau = record {
    inverse = inverse_of;
    product = product_of;
    base = base_of;
    matching = matching_of;
    apart = λ j jl h. apart j jl h (outer j) refl;
  }
    where
      neither : (a b : Bool) → a ≡ false → b ≡ false → a || b ≡ false
      neither a b h k = grind arith

      apart : (j : ℕ) → j < L.columns → F.base j ≡ true → (b : Bool) → outer j ≡ b → tableau_of.matched j ≡ false
      apart j jl h true o = absurd (outer-no_base j jl o h)
      apart j jl h false o = neither (F.matched j) (outer j) (tab.apart j jl h) o
