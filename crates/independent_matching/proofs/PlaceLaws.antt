-- Where the rows and the auxiliary column of an equation stand, told by the origins of a layered matrix.
use Rattle.std.proofs.Common.{◌≡◌, ℕ, zero, suc, ◌+◌, ◌-◌, ◌%◌, ◌<◌, ◌≤◌, Bool, true, false, cond, ltb, eqb, length, ◌||◌}
use Rattle.std.proofs.Common.{◌&&◌, not, List, [], ◌∷◌, Some, None, slice_index, refl, ap, sym, subst, ◌∙◌, ◌⊎◌, inl, inr, arith}
use Rattle.std.specs.List.{slice_get}
use Rattle.residue_theory.specs.Sets.{both}
use Rattle.residue_theory.specs.Sums.{size_on}
use Rattle.residue_theory.proofs.SetLaws.{differ, lt_cases}
use Rattle.std.proofs.lemmas.Bool.Decides.{nat_tests}
use Rattle.dense_q.specs.Tables.{height}
use Rattle.mixed_model.specs.Layers.{AreLayers, Layers, layered_matrix_of, split_of}
use Rattle.independent_matching.specs.declared.change.Change.{Change}
use Rattle.independent_matching.specs.declared.change.Change.TheVariants.{Added, Removed, Changed}
use Rattle.independent_matching.specs.Changes.{IsEdit, told_equation, equations_before, is_there, told_origins}
use Rattle.residue_theory.proofs.SumLaws.{sum_on-same}
use Rattle.linear_algebra_laws.proofs.SkipLaws.{skip-first}
use Rattle.mixed_matrices.specs.LayeredMatrices.{AreSameLayers, LayeredMatrix}
use Rattle.mixed_matrices.specs.Layerings.{AreMembers, IsLayeredMatrixOf, IsLayering, Origins, gives_q, has_constant, has_symbol}
use Rattle.mixed_matrices.specs.Models.{MixedMatrix}
use Rattle.mixed_matrices.specs.Removals.{without_equation}
use Rattle.mixed_edit_laws.specs.Changes.{IsAdded, IsChanged, IsRemoved, IsWider, IsWiderLayers}
use Rattle.mixed_edit_laws.specs.Rests.{auxiliary_place, gap, one, q_rest, rest, rest_origins, t_rest}
use Rattle.mixed_edit_laws.proofs.Members.{index-below, member-at}
use Rattle.mixed_edit_laws.proofs.Rests.{column-out, q-out, rest-layering, t-out}
use Rattle.mixed_edit_laws.proofs.Wider.{q-same, symbol-same}
use Rattle.mixed_edit_laws.proofs.WiderLayers.{wider-layers}
use Rattle.independent_matching.specs.declared.places.EquationPlaces.{EquationPlaces}
use Rattle.independent_matching.specs.declared.places.Places.{Places}
use Rattle.independent_matching.specs.Edits.{IsChain, IsColumnOutAt, IsQRowOutAt, IsThinned, IsTRowOutAt}

-- ---- what an equation takes
-- its rows and its auxiliary column, where it has them
abbrev pub places_of : Bool → Bool → ℕ → ℕ → ℕ → EquationPlaces
places_of a d q t v = record { q = cond a (Some q) None; t = cond d (Some t) None; column = cond (a && d) (Some v) None }

itself : (p : ℕ) (L : LayeredMatrix) → AreSameLayers p L L
itself p L = record { q_rows = refl; t_rows = refl; columns = refl; q = λ i j _ _. refl; t = λ i j _ _. refl }

pub thinned-none : (p : ℕ) (L : LayeredMatrix) → IsThinned p L L (record { q = None; t = None; column = None })
thinned-none p L = record { without_q = L; without_t = L; q = itself p L; t = itself p L; column = itself p L }

gap-false : (b : Bool) (v k : ℕ) → b ≡ false → gap b v k ≡ k
gap-false b v k h = ap (λ c. gap c v k) h

less-false : (b : Bool) (n : ℕ) → b ≡ false → n - one b ≡ n
less-false b n h = ap (λ c. n - one c) h ∙ (let q : n - 0 ≡ n = omega arith in q)

module _ (p : ℕ) (M : MixedMatrix) (A D : ℕ → Bool) (L : LayeredMatrix) (O : Origins) (e : ℕ) (layering : IsLayering M A D L O) (el : e < M.rows) where
  q-half : (b : Bool) → A e ≡ b → IsQRowOutAt p (cond b (Some (size_on A e)) None) L (q_rest A e L)
  q-half true h = q-out M A D L O e layering el p h
  q-half false h = record {
    q_rows = sym (less-false (A e) L.q_rows h);
    t_rows = refl;
    columns = refl;
    q = λ i j _ _. ap (λ k. L.q k j % p) (sym (gap-false (A e) (size_on A e) i h));
    t = λ i j _ _. refl;
  }

  t-half : (b : Bool) → D e ≡ b → IsTRowOutAt p (cond b (Some (size_on D e)) None) (q_rest A e L) (t_rest D e (q_rest A e L))
  t-half true h = t-out M A D L O e layering el p h
  t-half false h = record {
    q_rows = refl;
    t_rows = sym (less-false (D e) L.t_rows h);
    columns = refl;
    q = λ i j _ _. refl;
    t = λ i j _ _. ap (λ k. L.t k j) (sym (gap-false (D e) (size_on D e) i h));
  }

  abbrev between : LayeredMatrix
  between = t_rest D e (q_rest A e L)

  column-half : (b : Bool) → (A e && D e) ≡ b → IsColumnOutAt p (cond b (Some (auxiliary_place M A D e)) None) between (rest M A D e L)
  column-half true h = column-out M A D L O e layering el p h
  column-half false h = record {
    q_rows = refl;
    t_rows = refl;
    columns = sym (less-false (A e && D e) L.columns h);
    q = λ i j _ _. ap (λ k. between.q i k % p) (sym (gap-false (A e && D e) (auxiliary_place M A D e) j h));
    t = λ i j _ _. ap (λ k. between.t i k) (sym (gap-false (A e && D e) (auxiliary_place M A D e) j h));
  }

  pub thinned-rest : IsThinned p L (rest M A D e L) (places_of (A e) (D e) (size_on A e) (size_on D e) (auxiliary_place M A D e))
  thinned-rest = record {
    without_q = q_rest A e L;
    without_t = between;
    q = q-half (A e) refl;
    t = t-half (D e) refl;
    column = column-half (A e && D e) refl;
  }

-- ---- each equation has a Q row or a T row
pub both-count : (A D : ℕ → Bool) (n : ℕ) → ((i : ℕ) → (A i || D i) ≡ true) → size_on (both A D) n + n ≡ size_on A n + size_on D n
both-count A D zero all = refl
both-count A D (suc n) all = omega (arith, both-count A D n all, two (A n) (D n) (all n))
  where
    two : (a d : Bool) → (a || d) ≡ true → cond (a && d) 1 0 + 1 ≡ cond a 1 0 + cond d 1 0
    two true true h = refl
    two true false h = refl
    two false true h = refl
    two false false h = absurd (differs h)
      where
        differs : false ≡ true → ⊥
        differs q = cc

pub some-row : (M : MixedMatrix) (i : ℕ) → (gives_q M i || has_symbol M i) ≡ true
some-row M i = covers (has_constant M i) (has_symbol M i)
  where
    covers : (a d : Bool) → ((a || not d) || d) ≡ true
    covers true true = refl
    covers true false = refl
    covers false true = refl
    covers false false = refl

-- how many equations a layered matrix is of
pub row-count : (M : MixedMatrix) (L : LayeredMatrix) (O : Origins) → IsLayeredMatrixOf M L O → O.split + M.rows ≡ L.q_rows + L.t_rows
row-count M L O layering = omega (
  arith,
  both-count (gives_q M) (has_symbol M) M.rows (some-row M),
  layering.q_rows.count,
  layering.t_rows.count,
  layering.auxiliary.count,
)

-- ---- a list of members told up to e
module _ (A : ℕ → Bool) (n m : ℕ) (at : ℕ → ℕ) (members : AreMembers A n at m) where
  size-rises : (i j : ℕ) → i ≤ j → size_on A i ≤ size_on A j
  size-rises i zero le = let q : i ≡ 0 = omega arith in omega (arith, ap (size_on A) q)
  size-rises i (suc j) le = go (lt_cases j i) (λ g. size-rises i j g)
    where
      go : (j < i) ⊎ (i ≤ j) → (i ≤ j → size_on A i ≤ size_on A j) → size_on A i ≤ size_on A (suc j)
      go (inl l) less = let q : i ≡ suc j = omega arith in omega (arith, ap (size_on A) q)
      go (inr g) less = omega (arith, less g)

  -- the members before `count` are below e, and the next one is not
  pub told-size : (e count : ℕ) → e ≤ n → count ≤ m → ((k : ℕ) → k < count → at k < e) → (count < m → e ≤ at count) → size_on A e ≡ count
  told-size e count en le below next = omega (arith, lower count refl, upper (lt_cases count m))
    where
      lower : (c : ℕ) → c ≡ count → count ≤ size_on A e
      lower zero q = omega (arith, q)
      lower (suc c) q =
          let l : c < count = omega (arith, q) in
          let cm : c < m = omega (arith, q, le) in
          omega (arith, q, members.place c cm, one-more (at c) (members.member c cm), size-rises (suc (at c)) e (omega (arith, below c l)))
        where
          one-more : (x : ℕ) → A x ≡ true → size_on A (suc x) ≡ size_on A x + 1
          one-more x h = ap (λ b. size_on A x + cond b 1 0) h

      upper : (count < m) ⊎ (m ≤ count) → size_on A e ≤ count
      upper (inl l) = omega (arith, size-rises e (at count) (next l), members.place count l)
      upper (inr g) = omega (arith, size-rises e n en, members.count, le)

  -- e is a member where the member at its place is e
  pub told-member : (e : ℕ) → e < n → A e ≡ true → (size_on A e < m) × (at (size_on A e) ≡ e)
  told-member e el h = (index-below A n m e at members el h, member-at A n m e at members el h)

-- ---- the same rows below an equation
-- two models that are alike below equation e, and but for new unknowns
module _ (M N : MixedMatrix) (wide : IsWider M N) where
  pub q-below : (e : ℕ) → e ≤ M.rows → size_on (gives_q N) e ≡ size_on (gives_q M) e
  q-below e le = sum_on-same (gives_q N) (gives_q M) e (λ _. 1) (λ i il. q-same M N wide i (omega (arith, il, le)))

  pub t-below : (e : ℕ) → e ≤ M.rows → size_on (has_symbol N) e ≡ size_on (has_symbol M) e
  t-below e le = sum_on-same (has_symbol N) (has_symbol M) e (λ _. 1) (λ i il. symbol-same M N wide i (omega (arith, il, le)))

-- a model without equation e is alike below it
q-without : (M : MixedMatrix) (e : ℕ) → size_on (gives_q (without_equation e M)) e ≡ size_on (gives_q M) e
q-without M e = sum_on-same (gives_q (without_equation e M)) (gives_q M) e (λ _. 1) (λ i il. ap (gives_q M) (skip-first e i il))

t-without : (M : MixedMatrix) (e : ℕ) → size_on (has_symbol (without_equation e M)) e ≡ size_on (has_symbol M) e
t-without M e = sum_on-same (has_symbol (without_equation e M)) (has_symbol M) e (λ _. 1) (λ i il. ap (has_symbol M) (skip-first e i il))

-- the place of its auxiliary column
split-place : (M : MixedMatrix) (e : ℕ) → auxiliary_place M (gives_q M) (has_symbol M) e + e ≡ M.columns + (size_on (gives_q M) e + size_on (has_symbol M) e)
split-place M e = omega (arith, both-count (gives_q M) (has_symbol M) e (some-row M))

-- the places that are told of an edit
abbrev pub told_places : ℕ → ℕ → ℕ → ℕ → ℕ → Bool → Bool → Bool → Bool → Places
told_places q t column u w a d b f = record {
  out = places_of a d q t (u + column);
  unknowns = u;
  unknowns_after = w;
  put = places_of b f q t (w + column);
}

module _ (p : ℕ) (M N : MixedMatrix) (L K : LayeredMatrix) (O P : Origins) (first : IsLayeredMatrixOf M L O) (second : IsLayeredMatrixOf N K P) where
  -- the places of the rows of equation e of the first model, and of the second
  abbrev first_places : ℕ → EquationPlaces
  first_places e = places_of (gives_q M e) (has_symbol M e) (size_on (gives_q M) e) (size_on (has_symbol M) e) (auxiliary_place M (gives_q M) (has_symbol M) e)

  abbrev second_places : ℕ → EquationPlaces
  second_places e = places_of (gives_q N e) (has_symbol N e) (size_on (gives_q N) e) (size_on (has_symbol N) e) (auxiliary_place N (gives_q N) (has_symbol N) e)

  columns-within : M.columns ≤ L.columns
  columns-within = omega (arith, first.columns)

  module _ (at : Places) (u_is : at.unknowns ≡ M.columns) (w_is : at.unknowns_after ≡ N.columns) where
    wide-at : {B C : LayeredMatrix} → IsWiderLayers B C M.columns N.columns → IsWiderLayers B C at.unknowns at.unknowns_after
    wide-at {B} {C} W = subst (λ k. IsWiderLayers B C k at.unknowns_after) (sym u_is) (subst (λ k. IsWiderLayers B C M.columns k) (sym w_is) W)

    pub chain-added : IsAdded M N → at.out ≡ record { q = None; t = None; column = None } → at.put ≡ second_places M.rows → IsChain p L K at
    chain-added change none put = record {
      before = L;
      after = rest N (gives_q N) (has_symbol N) M.rows K;
      out = subst (IsThinned p L L) (sym none) (thinned-none p L);
      wider = wide-at (wider-layers M (without_equation M.rows N) L (rest N (gives_q N) (has_symbol N) M.rows K) O
          (rest_origins (gives_q N) (has_symbol N) M.rows P) change.others first (rest-layering N (gives_q N) (has_symbol N) K P M.rows second el));
      unknowns = omega (arith, u_is, w_is, change.others.columns);
      unknowns_before = omega (arith, u_is, columns-within);
      put = subst (IsThinned p K (rest N (gives_q N) (has_symbol N) M.rows K)) (sym put) (thinned-rest p N (gives_q N) (has_symbol N) K P M.rows second el);
    }
      where
        el : M.rows < N.rows
        el = omega (arith, change.rows)

    pub chain-removed : (e : ℕ) → IsRemoved M N e → at.out ≡ first_places e → at.put ≡ record { q = None; t = None; column = None } → IsChain p L K at
    chain-removed e change out none = record {
      before = rest M (gives_q M) (has_symbol M) e L;
      after = K;
      out = subst (IsThinned p L (rest M (gives_q M) (has_symbol M) e L)) (sym out) (thinned-rest p M (gives_q M) (has_symbol M) L O e first change.below);
      wider = wide-at (wider-layers (without_equation e M) N (rest M (gives_q M) (has_symbol M) e L) K
          (rest_origins (gives_q M) (has_symbol M) e O) P change.others left second);
      unknowns = omega (arith, u_is, w_is, change.others.columns);
      unknowns_before = omega (arith, u_is, left.columns);
      put = subst (IsThinned p K K) (sym none) (thinned-none p K);
    }
      where
        left : IsLayeredMatrixOf (without_equation e M) (rest M (gives_q M) (has_symbol M) e L) (rest_origins (gives_q M) (has_symbol M) e O)
        left = rest-layering M (gives_q M) (has_symbol M) L O e first change.below

    pub chain-changed : (e : ℕ) → IsChanged M N e → at.out ≡ first_places e → at.put ≡ second_places e → IsChain p L K at
    chain-changed e change out put = record {
      before = rest M (gives_q M) (has_symbol M) e L;
      after = rest N (gives_q N) (has_symbol N) e K;
      out = subst (IsThinned p L (rest M (gives_q M) (has_symbol M) e L)) (sym out) (thinned-rest p M (gives_q M) (has_symbol M) L O e first change.below);
      wider = wide-at (wider-layers (without_equation e M) (without_equation e N) (rest M (gives_q M) (has_symbol M) e L)
          (rest N (gives_q N) (has_symbol N) e K) (rest_origins (gives_q M) (has_symbol M) e O) (rest_origins (gives_q N) (has_symbol N) e P)
          change.others left (rest-layering N (gives_q N) (has_symbol N) K P e second el));
      unknowns = omega (arith, u_is, w_is, change.others.columns);
      unknowns_before = omega (arith, u_is, left.columns);
      put = subst (IsThinned p K (rest N (gives_q N) (has_symbol N) e K)) (sym put) (thinned-rest p N (gives_q N) (has_symbol N) K P e second el);
    }
      where
        el : e < N.rows
        el = omega (arith, change.rows, change.below)

        left : IsLayeredMatrixOf (without_equation e M) (rest M (gives_q M) (has_symbol M) e L) (rest_origins (gives_q M) (has_symbol M) e O)
        left = rest-layering M (gives_q M) (has_symbol M) L O e first change.below

-- ---- a place of a list that is read
pub item-told : (xs : List ℕ) (i x : ℕ) → slice_get xs i ≡ Some x → slice_index xs i ≡ x
item-told [] i x got = absurd (differs got)
  where
    differs : None ≡ Some x → ⊥
    differs q = cc
item-told (y ∷ ys) zero x got = cc
item-told (y ∷ ys) (suc i) x got = item-told ys i x got

-- ---- from what is told of the rows
-- e is a member where it stands at the place of the members below it
stands : (A : ℕ → Bool) (n m : ℕ) (at : ℕ → ℕ) → AreMembers A n at m → (e q : ℕ) → e < n → size_on A e ≡ q → (ltb q m && eqb (at q) e) ≡ A e
stands A n m at members e q el s = go (A e) refl
  where
    yes : A e ≡ true → (ltb q m && eqb (at q) e) ≡ true
    yes h =
        let told = told-member A n m at members e el h in
        let l : q < m = omega (arith, told.0, s) in
        let same : at q ≡ e = ap at (sym s) ∙ told.1 in
        grind (arith, nat_tests)

    no : A e ≡ false → (b : Bool) → (ltb q m && eqb (at q) e) ≡ b → b ≡ false
    no h false r = refl
    no h true r =
        let l : q < m = grind (arith, nat_tests) in
        let same : at q ≡ e = grind (arith, nat_tests) in
        absurd (differ h (ap A (sym same) ∙ members.member q l))

    go : (b : Bool) → A e ≡ b → (ltb q m && eqb (at q) e) ≡ b
    go true h = yes h
    go false h = no h (ltb q m && eqb (at q) e) refl

-- a row is missing exactly where there was one more
one-more : (a h : Bool) (l k : ℕ) → one a ≤ l → one h ≤ k → l - one a ≡ k - one h → ltb k (l + cond h 1 0) ≡ a
one-more true true l k al hk e = grind (arith, nat_tests)
one-more true false l k al hk e = grind (arith, nat_tests)
one-more false true l k al hk e = grind (arith, nat_tests)
one-more false false l k al hk e = grind (arith, nat_tests)

one-within : (A : ℕ → Bool) (n m : ℕ) (at : ℕ → ℕ) → AreMembers A n at m → (e : ℕ) → e < n → one (A e) ≤ m
one-within A n m at members e el = go (A e) refl
  where
    go : (b : Bool) → A e ≡ b → one b ≤ m
    go true h = omega (arith, (told-member A n m at members e el h).0)
    go false h = omega arith

places-same : (a a' d d' : Bool) (q q' t t' v v' : ℕ) → a ≡ a' → d ≡ d' → q ≡ q' → t ≡ t' → v ≡ v' → places_of a d q t v ≡ places_of a' d' q' t' v'
places-same a a' d d' q q' t t' v v' e f g h i = rw (e, f, g, h, i) refl

-- what is told: the equation e, the rows below it, which of its rows there are and were
pub record AreTold (change : Change) (L : LayeredMatrix) (new : Layers) (e q t : ℕ) (a d b f : Bool) : Type 0 where
  pub equation : e ≡ told_equation change (height new.q + length new.t.rows - split_of new)
  pub q_size : (A : ℕ → Bool) (n : ℕ) → AreMembers A n (slice_index new.q_origins) (length new.q_origins) → e ≤ n → size_on A e ≡ q
  pub t_size : (A : ℕ → Bool) (n : ℕ) → AreMembers A n (slice_index new.t_origins) (length new.t_origins) → e ≤ n → size_on A e ≡ t
  pub has_q : b ≡ (is_there change && (ltb q (length new.q_origins) && eqb (slice_index new.q_origins q) e))
  pub has_t : f ≡ (is_there change && (ltb t (length new.t_origins) && eqb (slice_index new.t_origins t) e))
  pub had_q : a ≡ ltb (height new.q) (L.q_rows + cond b 1 0)
  pub had_t : d ≡ ltb (length new.t.rows) (L.t_rows + cond f 1 0)

module _ (p : ℕ) (L : LayeredMatrix) (new : Layers) (sized : AreLayers new) where
  abbrev after : LayeredMatrix
  after = layered_matrix_of new

  module _ (M N : MixedMatrix) (O : Origins) (split : List ℕ) (first : IsLayeredMatrixOf M L O)
      (second : IsLayeredMatrixOf N after (told_origins new split)) (count : split_of new ≡ length split) where
    pub rows-after : height new.q + length new.t.rows - split_of new ≡ N.rows
    rows-after = omega (arith, row-count N after (told_origins new split) second, count)

    q-members : AreMembers (gives_q N) N.rows (slice_index new.q_origins) (length new.q_origins)
    q-members = subst (λ m. AreMembers (gives_q N) N.rows (slice_index new.q_origins) m) (sym sized.q_origins) second.q_rows

    t-members : AreMembers (has_symbol N) N.rows (slice_index new.t_origins) (length new.t_origins)
    t-members = subst (λ m. AreMembers (has_symbol N) N.rows (slice_index new.t_origins) m) (sym sized.t_origins) second.t_rows

    -- the unknowns before and after
    pub unknowns-before : (b : ℕ) → b ≡ M.rows → L.columns + b - (L.q_rows + L.t_rows) ≡ M.columns
    unknowns-before b is = omega (arith, is, first.columns, row-count M L O first)

    pub unknowns-after : after.columns - split_of new ≡ N.columns
    unknowns-after = omega (arith, second.columns, count)

    place-at : (X : MixedMatrix) (e q t v : ℕ) → size_on (gives_q X) e ≡ q → size_on (has_symbol X) e ≡ t → v ≡ X.columns →
        v + (q + t - e) ≡ auxiliary_place X (gives_q X) (has_symbol X) e
    place-at X e q t v qs ts vs = omega (
      arith,
      qs,
      ts,
      vs,
      split-place X e,
      both-count (gives_q X) (has_symbol X) e (some-row X),
    )

    -- an equation was added
    module _ (e q t : ℕ) (a d b f : Bool) (u w : ℕ) (u_is : u ≡ M.columns) (w_is : w ≡ N.columns) where
      abbrev told : Places
      told = told_places q t (q + t - e) u w a d b f

      second-as : (e < N.rows) → size_on (gives_q N) e ≡ q → size_on (has_symbol N) e ≡ t →
          b ≡ (ltb q (length new.q_origins) && eqb (slice_index new.q_origins q) e) →
          f ≡ (ltb t (length new.t_origins) && eqb (slice_index new.t_origins t) e) →
          (b ≡ gives_q N e) × (f ≡ has_symbol N e)
          × (told.put ≡ second_places p M N L after O (told_origins new split) first second e)
      second-as el qs ts bs fs =
          let bq : b ≡ gives_q N e = bs ∙ stands (gives_q N) N.rows (length new.q_origins) (slice_index new.q_origins) q-members e q el qs in
          let ft : f ≡ has_symbol N e = fs ∙ stands (has_symbol N) N.rows (length new.t_origins) (slice_index new.t_origins) t-members e t el ts in (
            bq,
            ft,
            places-same b (gives_q N e) f (has_symbol N e) q (size_on (gives_q N) e) t (size_on (has_symbol N) e) (w + (q + t - e))
                (auxiliary_place N (gives_q N) (has_symbol N) e) bq ft (sym qs) (sym ts) (place-at N e q t w qs ts w_is),
          )

      first-as : size_on (gives_q M) e ≡ q → size_on (has_symbol M) e ≡ t → a ≡ gives_q M e → d ≡ has_symbol M e →
          told.out ≡ first_places p M N L after O (told_origins new split) first second e
      first-as qs ts aq dt = places-same a (gives_q M e) d (has_symbol M e) q (size_on (gives_q M) e) t (size_on (has_symbol M) e) (u + (q + t - e))
          (auxiliary_place M (gives_q M) (has_symbol M) e) aq dt (sym qs) (sym ts) (place-at M e q t u qs ts u_is)

      pub told-added : IsAdded M N → e ≡ M.rows → size_on (gives_q N) e ≡ q → size_on (has_symbol N) e ≡ t →
          b ≡ (ltb q (length new.q_origins) && eqb (slice_index new.q_origins q) e) →
          f ≡ (ltb t (length new.t_origins) && eqb (slice_index new.t_origins t) e) →
          a ≡ ltb after.q_rows (L.q_rows + cond b 1 0) → d ≡ ltb after.t_rows (L.t_rows + cond f 1 0) → IsChain p L after told
      told-added change is qs ts bs fs ha hd =
          let el : e < N.rows = omega (arith, is, change.rows) in
          let em : M.rows < N.rows = omega (arith, change.rows) in
          let S = second-as el qs ts bs fs in
          let W = wider-layers M (without_equation M.rows N) L (rest N (gives_q N) (has_symbol N) M.rows after) O
          (rest_origins (gives_q N) (has_symbol N) M.rows (told_origins new split)) change.others first
          (rest-layering N (gives_q N) (has_symbol N) after (told_origins new split) M.rows second em) in
          let bm : one b ≡ one (gives_q N M.rows) = ap one (S.0 ∙ ap (gives_q N) is) in
          let fm : one f ≡ one (has_symbol N M.rows) = ap one (S.1 ∙ ap (has_symbol N) is) in
          let qw = one-within (gives_q N) N.rows after.q_rows (slice_index new.q_origins) second.q_rows M.rows em in
          let tw = one-within (has_symbol N) N.rows after.t_rows (slice_index new.t_origins) second.t_rows M.rows em in
          let af : a ≡ false = ha ∙ one-more false b L.q_rows after.q_rows (omega arith) (omega (arith, bm, qw)) (omega (arith, bm, W.q_rows)) in
          let df : d ≡ false = hd ∙ one-more false f L.t_rows after.t_rows (omega arith) (omega (arith, fm, tw)) (omega (arith, fm, W.t_rows)) in
          chain-added p M N L after O (told_origins new split) first second told u_is w_is change
          (places-same a false d false q q t t (u + (q + t - e)) (u + (q + t - e)) af df refl refl refl)
          (subst (λ k. told.put ≡ second_places p M N L after O (told_origins new split) first second k) is S.2)

      pub told-removed : IsRemoved M N e → size_on (gives_q N) e ≡ q → size_on (has_symbol N) e ≡ t → b ≡ false → f ≡ false →
          a ≡ ltb after.q_rows (L.q_rows + cond b 1 0) → d ≡ ltb after.t_rows (L.t_rows + cond f 1 0) → IsChain p L after told
      told-removed change qs ts bs fs ha hd =
          let le : e ≤ M.rows - 1 = omega (arith, change.below) in
          let mq : size_on (gives_q M) e ≡ q = sym (q-without M e) ∙ (sym (q-below (without_equation e M) N change.others e le) ∙ qs) in
          let mt : size_on (has_symbol M) e ≡ t = sym (t-without M e) ∙ (sym (t-below (without_equation e M) N change.others e le) ∙ ts) in
          let W = wider-layers (without_equation e M) N (rest M (gives_q M) (has_symbol M) e L) after
          (rest_origins (gives_q M) (has_symbol M) e O) (told_origins new split) change.others
          (rest-layering M (gives_q M) (has_symbol M) L O e first change.below) second in
          let qw = one-within (gives_q M) M.rows L.q_rows O.of_q first.q_rows e change.below in
          let tw = one-within (has_symbol M) M.rows L.t_rows O.of_t first.t_rows e change.below in
          let aq : a ≡ gives_q M e = ha ∙ one-more (gives_q M e) b L.q_rows after.q_rows qw (omega (arith, ap one bs)) (omega (arith, ap one bs, W.q_rows)) in
          let dt : d ≡ has_symbol M e = hd ∙ one-more (has_symbol M e) f L.t_rows after.t_rows tw (omega (arith, ap one fs))
          (omega (arith, ap one fs, W.t_rows)) in
          chain-removed p M N L after O (told_origins new split) first second told u_is w_is e change (first-as mq mt aq dt)
          (places-same b false f false q q t t (w + (q + t - e)) (w + (q + t - e)) bs fs refl refl refl)

      pub told-changed : IsChanged M N e → size_on (gives_q N) e ≡ q → size_on (has_symbol N) e ≡ t →
          b ≡ (ltb q (length new.q_origins) && eqb (slice_index new.q_origins q) e) →
          f ≡ (ltb t (length new.t_origins) && eqb (slice_index new.t_origins t) e) →
          a ≡ ltb after.q_rows (L.q_rows + cond b 1 0) → d ≡ ltb after.t_rows (L.t_rows + cond f 1 0) → IsChain p L after told
      told-changed change qs ts bs fs ha hd =
          let le : e ≤ M.rows - 1 = omega (arith, change.below) in
          let el : e < N.rows = omega (arith, change.below, change.rows) in
          let S = second-as el qs ts bs fs in
          let mq : size_on (gives_q M) e ≡ q = sym (q-without M e)
          ∙ (sym (q-below (without_equation e M) (without_equation e N) change.others e le) ∙ (q-without N e ∙ qs)) in
          let mt : size_on (has_symbol M) e ≡ t = sym (t-without M e)
          ∙ (sym (t-below (without_equation e M) (without_equation e N) change.others e le) ∙ (t-without N e ∙ ts)) in
          let W = wider-layers (without_equation e M) (without_equation e N) (rest M (gives_q M) (has_symbol M) e L)
          (rest N (gives_q N) (has_symbol N) e after) (rest_origins (gives_q M) (has_symbol M) e O)
          (rest_origins (gives_q N) (has_symbol N) e (told_origins new split)) change.others
          (rest-layering M (gives_q M) (has_symbol M) L O e first change.below)
          (rest-layering N (gives_q N) (has_symbol N) after (told_origins new split) e second el) in
          let qw = one-within (gives_q M) M.rows L.q_rows O.of_q first.q_rows e change.below in
          let tw = one-within (has_symbol M) M.rows L.t_rows O.of_t first.t_rows e change.below in
          let qn = one-within (gives_q N) N.rows after.q_rows (slice_index new.q_origins) second.q_rows e el in
          let tn = one-within (has_symbol N) N.rows after.t_rows (slice_index new.t_origins) second.t_rows e el in
          let aq : a ≡ gives_q M e = ha ∙ one-more (gives_q M e) b L.q_rows after.q_rows qw (omega (arith, ap one S.0, qn))
          (omega (arith, ap one S.0, W.q_rows)) in
          let dt : d ≡ has_symbol M e = hd ∙ one-more (has_symbol M e) f L.t_rows after.t_rows tw (omega (arith, ap one S.1, tn))
          (omega (arith, ap one S.1, W.t_rows)) in
          chain-changed p M N L after O (told_origins new split) first second told u_is w_is e change (first-as mq mt aq dt) S.2

-- each change
pub chain-told : (p : ℕ) (change : Change) (L : LayeredMatrix) (new : Layers) → AreLayers new → (edit : IsEdit change L new) → (e q t : ℕ) (a d b f : Bool) →
    AreTold change L new e q t a d b f → (u w before n : ℕ) → n ≡ height new.q + length new.t.rows - split_of new → before ≡ equations_before change n →
    u ≡ L.columns + before - (L.q_rows + L.t_rows) → w ≡ new.q.width - split_of new →
    IsChain p L (layered_matrix_of new) (told_places q t (q + t - e) u w a d b f)
chain-told p Added L new sized edit e q t a d b f T u w before n ns bs us ws =
    let M = edit.before in
    let N = edit.after in
    let rows = rows-after p L new sized M N edit.origins edit.split edit.layered edit.layered_after edit.count in
    let es : e ≡ M.rows = omega (arith, T.equation, rows, edit.change_is.rows) in
    let en : e ≤ N.rows = omega (arith, es, edit.change_is.rows) in
    let bm : before ≡ M.rows = omega (arith, bs, ns, rows, edit.change_is.rows) in
    told-added p L new sized M N edit.origins edit.split edit.layered edit.layered_after edit.count e q t a d b f u w
    (us ∙ unknowns-before p L new sized M N edit.origins edit.split edit.layered edit.layered_after edit.count before bm)
    (ws ∙ unknowns-after p L new sized M N edit.origins edit.split edit.layered edit.layered_after edit.count)
    edit.change_is es
    (T.q_size (gives_q N) N.rows (q-members p L new sized M N edit.origins edit.split edit.layered edit.layered_after edit.count) en)
    (T.t_size (has_symbol N) N.rows (t-members p L new sized M N edit.origins edit.split edit.layered edit.layered_after edit.count) en)
    T.has_q T.has_t T.had_q T.had_t
chain-told p (Removed x) L new sized edit e q t a d b f T u w before n ns bs us ws =
    let M = edit.before in
    let N = edit.after in
    let rows = rows-after p L new sized M N edit.origins edit.split edit.layered edit.layered_after edit.count in
    let wider = edit.change_is.others.rows in
    let change : IsRemoved M N e = subst (λ k. IsRemoved M N k) (sym T.equation) edit.change_is in
    let en : e ≤ N.rows = omega (arith, wider, change.below) in
    let bm : before ≡ M.rows = omega (arith, bs, ns, rows, wider, edit.change_is.below) in
    told-removed p L new sized M N edit.origins edit.split edit.layered edit.layered_after edit.count e q t a d b f u w
    (us ∙ unknowns-before p L new sized M N edit.origins edit.split edit.layered edit.layered_after edit.count before bm)
    (ws ∙ unknowns-after p L new sized M N edit.origins edit.split edit.layered edit.layered_after edit.count)
    change
    (T.q_size (gives_q N) N.rows (q-members p L new sized M N edit.origins edit.split edit.layered edit.layered_after edit.count) en)
    (T.t_size (has_symbol N) N.rows (t-members p L new sized M N edit.origins edit.split edit.layered edit.layered_after edit.count) en)
    T.has_q T.has_t T.had_q T.had_t
chain-told p (Changed x) L new sized edit e q t a d b f T u w before n ns bs us ws =
    let M = edit.before in
    let N = edit.after in
    let rows = rows-after p L new sized M N edit.origins edit.split edit.layered edit.layered_after edit.count in
    let change : IsChanged M N e = subst (λ k. IsChanged M N k) (sym T.equation) edit.change_is in
    let en : e ≤ N.rows = omega (arith, change.rows, change.below) in
    let bm : before ≡ M.rows = omega (arith, bs, ns, rows, change.rows) in
    told-changed p L new sized M N edit.origins edit.split edit.layered edit.layered_after edit.count e q t a d b f u w
    (us ∙ unknowns-before p L new sized M N edit.origins edit.split edit.layered edit.layered_after edit.count before bm)
    (ws ∙ unknowns-after p L new sized M N edit.origins edit.split edit.layered edit.layered_after edit.count)
    change
    (T.q_size (gives_q N) N.rows (q-members p L new sized M N edit.origins edit.split edit.layered edit.layered_after edit.count) en)
    (T.t_size (has_symbol N) N.rows (t-members p L new sized M N edit.origins edit.split edit.layered edit.layered_after edit.count) en)
    T.has_q T.has_t T.had_q T.had_t

-- ---- how many there are
pub edit-split : (change : Change) (L : LayeredMatrix) (new : Layers) → IsEdit change L new → split_of new ≤ height new.q + length new.t.rows
edit-split change L new edit = omega (
  arith,
  row-count edit.after (layered_matrix_of new) (told_origins new edit.split) edit.layered_after,
  edit.count,
)

pub edit-rows : (change : Change) (L : LayeredMatrix) (new : Layers) (edit : IsEdit change L new) → (n : ℕ) →
    n ≡ height new.q + length new.t.rows - split_of new →
    (equations_before change n ≡ edit.before.rows) × (told_equation change n ≤ edit.after.rows)
edit-rows Added L new edit n is =
    let count = row-count edit.after (layered_matrix_of new) (told_origins new edit.split) edit.layered_after in
    (omega (arith, is, count, edit.count, edit.change_is.rows), omega (arith, is, count, edit.count, edit.change_is.rows))
edit-rows (Removed e) L new edit n is =
    let count = row-count edit.after (layered_matrix_of new) (told_origins new edit.split) edit.layered_after in
    let wider = edit.change_is.others.rows in
    (omega (arith, is, count, edit.count, wider, edit.change_is.below), omega (arith, wider, edit.change_is.below))
edit-rows (Changed e) L new edit n is =
    let count = row-count edit.after (layered_matrix_of new) (told_origins new edit.split) edit.layered_after in
    (omega (arith, is, count, edit.count, edit.change_is.rows), omega (arith, edit.change_is.rows, edit.change_is.below))

pub edit-columns : (change : Change) (L : LayeredMatrix) (new : Layers) (edit : IsEdit change L new) →
    (L.q_rows + L.t_rows ≤ L.columns + edit.before.rows) × (edit.before.rows ≤ L.q_rows + L.t_rows)
edit-columns change L new edit =
    let count = row-count edit.before L edit.origins edit.layered in
    (omega (arith, count, edit.layered.columns), omega (arith, count))

-- the rows below equation e are at least e
pub below-told : (change : Change) (L : LayeredMatrix) (new : Layers) → AreLayers new → (edit : IsEdit change L new) → (e q t : ℕ) → e ≤ edit.after.rows →
    ((A : ℕ → Bool) (n : ℕ) → AreMembers A n (slice_index new.q_origins) (length new.q_origins) → e ≤ n → size_on A e ≡ q) →
    ((A : ℕ → Bool) (n : ℕ) → AreMembers A n (slice_index new.t_origins) (length new.t_origins) → e ≤ n → size_on A e ≡ t) → e ≤ q + t
below-told change L new sized edit e q t el qs ts =
    let N = edit.after in
    let a = qs (gives_q N) N.rows (q-members 0 L new sized edit.before N edit.origins edit.split edit.layered edit.layered_after edit.count) el in
    let b = ts (has_symbol N) N.rows (t-members 0 L new sized edit.before N edit.origins edit.split edit.layered edit.layered_after edit.count) el in
    omega (arith, a, b, both-count (gives_q N) (has_symbol N) e (some-row N))
