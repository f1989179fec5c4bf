-- Two tableaus that are the same at all rows and columns have the same arcs, free columns and ends.
use Rattle.std.proofs.Common.{◌≡◌, ℕ, zero, suc, ◌<◌, ◌%◌, Bool, true, false, ◌&&◌, ◌||◌, not, eqb, refl, ap, ◌∙◌, subst, arith}
use Rattle.residue_theory.specs.Sets.{some_below}
use Rattle.mixed_matrices.specs.Arcs.{has_base, has_match, is_end, is_free, leads_to}
use Rattle.mixed_matrices.specs.LayeredMatrices.{LayeredMatrix}
use Rattle.mixed_matrices.specs.Tableaus.{Tableau}

both_same : (a b c d : Bool) → a ≡ b → (a ≡ true → c ≡ d) → (a && c) ≡ (b && d)
both_same true b c d same rest = ap (λ x. x && c) same ∙ ap (λ x. b && x) (rest refl)
both_same false b c d same rest = subst (λ x. false ≡ (x && d)) same refl

either_same : (a b c d : Bool) → a ≡ b → c ≡ d → (a || c) ≡ (b || d)
either_same a b c d same rest = ap (λ x. x || c) same ∙ ap (λ x. b || x) rest

some_same : (n : ℕ) (X Y : ℕ → Bool) → ((j : ℕ) → j < n → X j ≡ Y j) → some_below n X ≡ some_below n Y
some_same zero X Y same = refl
some_same (suc n) X Y same = either_same (some_below n X) (some_below n Y) (X n) (Y n) (some_same n X Y (λ j jl. same j (omega arith))) (same n (omega arith))

module _ (p : ℕ) (L : LayeredMatrix) (F G : Tableau)
    (base : (y : ℕ) → y < L.columns → F.base y ≡ G.base y) (row : (y : ℕ) → y < L.columns → F.base y ≡ true → F.row y ≡ G.row y)
    (low : (y : ℕ) → y < L.columns → F.base y ≡ true → F.row y < L.q_rows)
    (matched : (y : ℕ) → y < L.columns → F.matched y ≡ G.matched y) (mate : (y : ℕ) → y < L.columns → F.matched y ≡ true → F.mate y ≡ G.mate y)
    (entries : (i j : ℕ) → i < L.q_rows → j < L.columns → F.P i j ≡ G.P i j) where
  entry_same : (i j : ℕ) → i < L.q_rows → j < L.columns → not (eqb (F.P i j % p) 0) ≡ not (eqb (G.P i j % p) 0)
  entry_same i j il jl = ap (λ x. not (eqb (x % p) 0)) (entries i j il jl)

  pub same-free : (x : ℕ) → x < L.columns → is_free F x ≡ is_free G x
  unfolding is_free
  same-free x xl = both_same (not (F.base x)) (not (G.base x)) (not (F.matched x)) (not (G.matched x)) (ap not (base x xl)) (λ _. ap not (matched x xl))

  pub same-arcs : (x y : ℕ) → x < L.columns → y < L.columns → leads_to p L F x y ≡ leads_to p L G x y
  unfolding leads_to
  same-arcs x y xl yl = ap (λ b. not (eqb x y) && b) (either_same
      (F.base y && not (eqb (F.P (F.row y) x % p) 0)) (G.base y && not (eqb (G.P (G.row y) x % p) 0))
      (F.matched y && L.t (F.mate y) x) (G.matched y && L.t (G.mate y) x)
      (both_same (F.base y) (G.base y) (not (eqb (F.P (F.row y) x % p) 0)) (not (eqb (G.P (G.row y) x % p) 0)) (base y yl)
      (λ h. entry_same (F.row y) x (low y yl h) xl ∙ ap (λ i. not (eqb (G.P i x % p) 0)) (row y yl h)))
      (both_same (F.matched y) (G.matched y) (L.t (F.mate y) x) (L.t (G.mate y) x) (matched y yl) (λ h. ap (λ i. L.t i x) (mate y yl h))))

  pub same-has_base : (i : ℕ) → has_base L F i ≡ has_base L G i
  unfolding has_base
  same-has_base i = some_same L.columns (λ y. F.base y && eqb (F.row y) i) (λ y. G.base y && eqb (G.row y) i) (λ y yl.
      both_same (F.base y) (G.base y) (eqb (F.row y) i) (eqb (G.row y) i) (base y yl) (λ h. ap (λ r. eqb r i) (row y yl h)))

  pub same-has_match : (i : ℕ) → has_match L F i ≡ has_match L G i
  unfolding has_match
  same-has_match i = some_same L.columns (λ y. F.matched y && eqb (F.mate y) i) (λ y. G.matched y && eqb (G.mate y) i) (λ y yl.
      both_same (F.matched y) (G.matched y) (eqb (F.mate y) i) (eqb (G.mate y) i) (matched y yl) (λ h. ap (λ r. eqb r i) (mate y yl h)))

  pub same-ends : (x : ℕ) → x < L.columns → is_end p L F x ≡ is_end p L G x
  unfolding is_end
  same-ends x xl = either_same
      (some_below L.q_rows (λ i. not (eqb (F.P i x % p) 0) && not (has_base L F i)))
      (some_below L.q_rows (λ i. not (eqb (G.P i x % p) 0) && not (has_base L G i)))
      (some_below L.t_rows (λ i. L.t i x && not (has_match L F i))) (some_below L.t_rows (λ i. L.t i x && not (has_match L G i)))
      (some_same L.q_rows (λ i. not (eqb (F.P i x % p) 0) && not (has_base L F i)) (λ i. not (eqb (G.P i x % p) 0) && not (has_base L G i)) (λ i il.
      both_same (not (eqb (F.P i x % p) 0)) (not (eqb (G.P i x % p) 0)) (not (has_base L F i))
      (not (has_base L G i)) (entry_same i x il xl) (λ _. ap not (same-has_base i))))
      (some_same L.t_rows (λ i. L.t i x && not (has_match L F i)) (λ i. L.t i x && not (has_match L G i))
      (λ i _. ap (λ b. L.t i x && not b) (same-has_match i)))
