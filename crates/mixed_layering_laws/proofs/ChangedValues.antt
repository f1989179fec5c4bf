-- The value of one symbol changed: 1 or 2 in its place keeps columns independent, so 1 and 2 alone reach a rank.
use Rattle.std.proofs.Common.{◌≡◌, ℕ, zero, suc, ◌+◌, ◌-◌, ◌%◌, ◌<◌, ◌≤◌, ◌≢◌, Bool, true, false, cond, eqb, ltb, ◌&&◌, ◌⊎◌}
use Rattle.std.proofs.Common.{inl, inr, refl, ap, sym, subst, ◌∙◌, arith}
use Rattle.std.proofs.lemmas.Bool.Decides.{nat_tests}
use Rattle.residue_theory.proofs.SetLaws.{both-first, both-second, eqb_true, lt_cases}
use Rattle.residue_theory.proofs.SumLaws.{nat_cases}
use Rattle.residue_theory.specs.Residues.{IsPrime}
use Rattle.residue_theory.specs.Sets.{everything}
use Rattle.linear_algebra.specs.Columns.{IsIndependent, IsRank}
use Rattle.linear_algebra.specs.Parts.{above, with_entry}
use Rattle.linear_algebra_laws.proofs.Entries.{above-low, above-top, with_entry-column, with_entry-row, with_entry-there}
use Rattle.linear_algebra_laws.proofs.OneOrTwo.{one_of_next, one_of_two}
use Rattle.linear_algebra_laws.proofs.Products.{independent-agree}
use Rattle.linear_algebra_laws.proofs.Ranks.{rank_exists}
use Rattle.mixed_matrices.specs.LayeredMatrices.{LayeredMatrix, layered_value}
use Rattle.mixed_matrices.specs.Models.{MixedMatrix, numbers, value}
use Rattle.mixed_matrices.specs.StructuralRanks.{IsGreatestRank}
use Rattle.mixed_layering_laws.proofs.ScaledRows.{small}
use Rattle.mixed_layering_laws.specs.LayeredValues.{IsOneOrTwo}

-- ---- what a change of one value does to the entries
module _ (t : ℕ → ℕ → Bool) (w : ℕ → ℕ → ℕ) (r v x : ℕ) where
  at_place : (s : Bool) → t r v ≡ s → (i j : ℕ) → eqb i r && eqb j v ≡ true → t i j ≡ s
  at_place s e i j h = subst (λ k. t k j ≡ s) (sym (eqb_true i r (both-first (eqb i r) (eqb j v) h)))
      (subst (λ k. t r k ≡ s) (sym (eqb_true j v (both-second (eqb i r) (eqb j v) h))) e)

  numbers-changed : t r v ≡ true → (i j : ℕ) → numbers t (with_entry w r v x) i j ≡ with_entry (numbers t w) r v x i j
  numbers-changed s i j = moved (eqb i r && eqb j v) (t i j) x (w i j) (at_place true s i j)
    where
      moved : (here there : Bool) (x y : ℕ) → (here ≡ true → there ≡ true) → cond there (cond here x y) 0 ≡ cond here x (cond there y 0)
      moved here there x y h = grind arith

  numbers-kept : t r v ≡ false → (i j : ℕ) → numbers t w i j ≡ numbers t (with_entry w r v x) i j
  numbers-kept s i j = unseen (eqb i r && eqb j v) (t i j) x (w i j) (at_place false s i j)
    where
      unseen : (here there : Bool) (x y : ℕ) → (here ≡ true → there ≡ false) → cond there y 0 ≡ cond there (cond here x y) 0
      unseen here there x y h = grind arith

eqb-shift : (m k r : ℕ) → eqb (m + k) (m + r) ≡ eqb k r
eqb-shift m k r = grind (arith, nat_tests)

above-changed : (m : ℕ) (a b : ℕ → ℕ → ℕ) (r v x i j : ℕ) → above m a (with_entry b r v x) i j ≡ with_entry (above m a b) (m + r) v x i j
above-changed m a b r v x i j = elim (lt_cases i m) [
  | inl top ↦ above-top m a (with_entry b r v x) i j top ∙ sym (above-top m a b i j top)
      ∙ sym (with_entry-row (above m a b) (m + r) v x i j (λ q. absurd (omega arith)))
  | inr more ↦ subst (λ k. above m a (with_entry b r v x) k j ≡ with_entry (above m a b) (m + r) v x k j)
      (let q : m + (i - m) ≡ i = omega arith in q) (low (i - m))
]
  where
    low : (k : ℕ) → above m a (with_entry b r v x) (m + k) j ≡ with_entry (above m a b) (m + r) v x (m + k) j
    low k = above-low m a (with_entry b r v x) k j
        ∙ ap (λ y. cond (eqb k r && eqb j v) x y) (sym (above-low m a b k j))
        ∙ ap (λ e. cond (e && eqb j v) x (above m a b (m + k) j)) (sym (eqb-shift m k r))

-- ---- one symbol of a model
module _ (p : ℕ) (prime : IsPrime p) (M : MixedMatrix) (Y : ℕ → Bool) where
  abbrev Keeps : (ℕ → ℕ → ℕ) → Type 0
  Keeps v = IsIndependent p (value M v) M.rows M.columns Y

  value-changed : (v : ℕ → ℕ → ℕ) (r c x : ℕ) → M.symbol r c ≡ true → (i j : ℕ) → with_entry (value M v) r c (M.constant r c + x) i j ≡ value M
      (with_entry v r c x) i j
  value-changed v r c x s i j =
      added (eqb i r && eqb j c) (M.constant i j) (M.constant r c) x (numbers M.symbol v i j)
      (λ h. ap (λ k. M.constant k j) (eqb_true i r (both-first (eqb i r) (eqb j c) h))
      ∙ ap (M.constant r) (eqb_true j c (both-second (eqb i r) (eqb j c) h)))
      ∙ ap (λ y. M.constant i j + y) (sym (numbers-changed M.symbol v r c x s i j))
    where
      added : (here : Bool) (k q x y : ℕ) → (here ≡ true → k ≡ q) → cond here (q + x) (k + y) ≡ k + cond here x y
      added here k q x y h = grind arith

  pub model-placed : (v : ℕ → ℕ → ℕ) → Keeps v → (r c : ℕ) → r < M.rows → (x : ℕ) × IsOneOrTwo x × Keeps (with_entry v r c x)
  model-placed v ind r c rl = go (M.symbol r c) refl
    where
      go : (b : Bool) → M.symbol r c ≡ b → (x : ℕ) × IsOneOrTwo x × Keeps (with_entry v r c x)
      go false s = (
        1,
        inl refl,
        independent-agree p M.rows M.columns (value M v) (value M (with_entry v r c 1)) Y
            (λ i j _ _. ap (λ y. (M.constant i j + y) % p) (numbers-kept M.symbol v r c 1 s i j)) ind,
      )
      go true s = elim (one_of_next p prime M.rows M.columns (value M v) r c Y (M.constant r c + 1) rl ind) [
        | inl one ↦ (
          1,
          inl refl,
          independent-agree p M.rows M.columns (with_entry (value M v) r c (M.constant r c + 1)) (value M (with_entry v r c 1)) Y
              (λ i j _ _. ap (λ y. y % p) (value-changed v r c 1 s i j)) one,
        )
        | inr two ↦ (
          2,
          inr refl,
          independent-agree p M.rows M.columns (with_entry (value M v) r c (M.constant r c + 1 + 1)) (value M (with_entry v r c 2)) Y
              (λ i j _ _. ap (λ y. y % p) (ap (λ z. with_entry (value M v) r c z i j)
              (let e : M.constant r c + 1 + 1 ≡ M.constant r c + 2 = omega arith in e) ∙ value-changed v r c 2 s i j)) two,
        )
      ]

-- ---- one symbol of a layered matrix
module _ (p : ℕ) (prime : IsPrime p) (L : LayeredMatrix) (Y : ℕ → Bool) where
  abbrev KeepsLayered : (ℕ → ℕ → ℕ) → Type 0
  KeepsLayered w = IsIndependent p (layered_value L w) (L.q_rows + L.t_rows) L.columns Y

  layered-changed : (w : ℕ → ℕ → ℕ) (r c x : ℕ) → L.t r c ≡ true → (i j : ℕ) → with_entry (layered_value L w)
      (L.q_rows + r) c x i j ≡ layered_value L (with_entry w r c x) i j
  layered-changed w r c x s i j = sym (ap (λ y. cond (ltb i L.q_rows) (L.q i j) y) (numbers-changed L.t w r c x s (i - L.q_rows) j)
      ∙ above-changed L.q_rows L.q (numbers L.t w) r c x i j)

  pub layered-placed : (w : ℕ → ℕ → ℕ) → KeepsLayered w → (r c : ℕ) → r < L.t_rows → (x : ℕ) × IsOneOrTwo x × KeepsLayered (with_entry w r c x)
  layered-placed w ind r c rl = go (L.t r c) refl
    where
      shown : (x : ℕ) → L.t r c ≡ true → IsIndependent p (with_entry (layered_value L w) (L.q_rows + r) c x)
          (L.q_rows + L.t_rows) L.columns Y → KeepsLayered (with_entry w r c x)
      shown x s = independent-agree p (L.q_rows + L.t_rows) L.columns (with_entry (layered_value L w) (L.q_rows + r) c x)
          (layered_value L (with_entry w r c x)) Y
          (λ i j _ _. ap (λ y. y % p) (layered-changed w r c x s i j))

      go : (b : Bool) → L.t r c ≡ b → (x : ℕ) × IsOneOrTwo x × KeepsLayered (with_entry w r c x)
      go false s = (
        1,
        inl refl,
        independent-agree p (L.q_rows + L.t_rows) L.columns (layered_value L w) (layered_value L (with_entry w r c 1)) Y
            (λ i j _ _. ap (λ y. cond (ltb i L.q_rows) (L.q i j) y % p) (numbers-kept L.t w r c 1 s (i - L.q_rows) j)) ind,
      )
      go true s = elim (one_of_two p prime (L.q_rows + L.t_rows) L.columns (layered_value L w) (L.q_rows + r) c Y (omega arith) ind) [
        | inl one ↦ (1, inl refl, shown 1 s one)
        | inr two ↦ (2, inr refl, shown 2 s two)
      ]

-- ---- all places, one after the other
module _ (rows columns : ℕ) (Serves : (ℕ → ℕ → ℕ) → Type 0)
    (placed : (v : ℕ → ℕ → ℕ) → Serves v → (r c : ℕ) → r < rows → (x : ℕ) × IsOneOrTwo x × Serves (with_entry v r c x)) where
  -- a place in the rows below R, or in row R below column C
  abbrev Before : ℕ → ℕ → ℕ → ℕ → Type 0
  Before R C i j = ((i < R) × (j < columns)) ⊎ ((i ≡ R) × (j < C))

  abbrev Done : ℕ → ℕ → (ℕ → ℕ → ℕ) → Type 0
  Done R C v = (i j : ℕ) → Before R C i j → IsOneOrTwo (v i j)

  along : (R : ℕ) → R < rows → (C : ℕ) → ((v : ℕ → ℕ → ℕ) × Serves v × Done R 0 v) → (v : ℕ → ℕ → ℕ) × Serves v × Done R C v
  along R rl zero start = start
  along R rl (suc C) start = go (along R rl C start)
    where
      go : ((v : ℕ → ℕ → ℕ) × Serves v × Done R C v) → (v : ℕ → ℕ → ℕ) × Serves v × Done R (suc C) v
      go (v, serves, done) = with_x (placed v serves R C rl)
        where
          before : (i j : ℕ) → i ≢ R → Before R (suc C) i j → (i < R) × (j < columns)
          before i j ne (inl h) = h
          before i j ne (inr h) = absurd (ne h.0)

          earlier : (i j : ℕ) → j ≢ C → Before R (suc C) i j → Before R C i j
          earlier i j o (inl h) = inl h
          earlier i j o (inr h) = inr (h.0, (let l : j < suc C = h.1 in omega arith))

          with_x : (x : ℕ) × IsOneOrTwo x × Serves (with_entry v R C x) → (w : ℕ → ℕ → ℕ) × Serves w × Done R (suc C) w
          with_x (x, small, kept) = (
            with_entry v R C x,
            kept,
            λ i j place. elim (nat_cases i R) [
              | inr ne ↦ subst IsOneOrTwo (sym (with_entry-row v R C x i j ne)) (done i j (inl (before i j ne place)))
              | inl q ↦ elim (nat_cases j C) [
                | inr o ↦ subst IsOneOrTwo (sym (with_entry-column v R C x i j o)) (done i j (earlier i j o place))
                | inl o ↦ subst (λ k. IsOneOrTwo (with_entry v R C x k j)) (sym q)
                    (subst (λ k. IsOneOrTwo (with_entry v R C x R k)) (sym o) (subst IsOneOrTwo (sym (with_entry-there v R C x)) small))
              ]
            ],
          )

  down : (R : ℕ) → R ≤ rows → (v : ℕ → ℕ → ℕ) → Serves v → (w : ℕ → ℕ → ℕ) × Serves w × Done R 0 w
  down zero le v serves = (
    v,
    serves,
    λ i j h. elim h [
      | inl w ↦ absurd (let l : i < zero = w.0 in omega arith)
      | inr w ↦ absurd
          (let l : j < 0 = w.1 in omega arith)
    ],
  )
  down (suc R) le v serves = go (along R (omega arith) columns (down R (omega arith) v serves))
    where
      go : (w : ℕ → ℕ → ℕ) × Serves w × Done R columns w → (w : ℕ → ℕ → ℕ) × Serves w × Done (suc R) 0 w
      go (w, kept, done) = (w, kept, λ i j h. done i j (elim h [ inl k ↦ below i j k.0 k.1 | inr k ↦ absurd (let l : j < 0 = k.1 in omega arith) ]))
        where
          below : (i j : ℕ) → i < suc R → j < columns → Before R columns i j
          below i j l h = elim (nat_cases i R) [ inl q ↦ inr (q, h) | inr ne ↦ inl ((omega arith), h) ]

  ones_and_twos : (v : ℕ → ℕ → ℕ) → Serves v → (w : ℕ → ℕ → ℕ) × Serves w × ((i j : ℕ) → i < rows → j < columns → IsOneOrTwo (w i j))
  ones_and_twos v serves = go (down rows (omega arith) v serves)
    where
      go : (w : ℕ → ℕ → ℕ) × Serves w × Done rows 0 w → (w : ℕ → ℕ → ℕ) × Serves w × ((i j : ℕ) → i < rows → j < columns → IsOneOrTwo (w i j))
      go (w, kept, done) = (w, kept, λ i j il jl. done i j (inl (il, jl)))

pub model-ones_and_twos : (p : ℕ) → IsPrime p → (M : MixedMatrix) (Y : ℕ → Bool) (v : ℕ → ℕ → ℕ) → IsIndependent p (value M v) M.rows M.columns Y →
    (w : ℕ → ℕ → ℕ) × IsIndependent p (value M w) M.rows M.columns Y × ((i j : ℕ) → i < M.rows → j < M.columns → IsOneOrTwo (w i j))
model-ones_and_twos p prime M Y = ones_and_twos M.rows M.columns (λ v. IsIndependent p (value M v) M.rows M.columns Y) (model-placed p prime M Y)

pub layered-ones_and_twos : (p : ℕ) → IsPrime p → (L : LayeredMatrix) (Y : ℕ → Bool) (w : ℕ → ℕ → ℕ) → IsIndependent p (layered_value L w)
    (L.q_rows + L.t_rows) L.columns Y →
    (u : ℕ → ℕ → ℕ) × IsIndependent p (layered_value L u) (L.q_rows + L.t_rows) L.columns Y ×
    ((i j : ℕ) → i < L.t_rows → j < L.columns → IsOneOrTwo (u i j))
layered-ones_and_twos p prime L Y = ones_and_twos L.t_rows L.columns (λ w. IsIndependent p (layered_value L w) (L.q_rows + L.t_rows) L.columns Y)
    (layered-placed p prime L Y)

-- values that keep the independent columns of a greatest rank have it
pub kept-greatest : (p : ℕ) → IsPrime p → (m n : ℕ) (at : (ℕ → ℕ → ℕ) → ℕ → ℕ → ℕ) (r : ℕ) → (R : IsGreatestRank p m n at r) → (w : ℕ → ℕ → ℕ) →
    IsIndependent p (at w) m n R.reached.1.reached.0 → IsRank p (at w) m n everything r
kept-greatest p prime m n at r R w ind = go (rank_exists p prime (at w) m n everything)
  where
    go : (s : ℕ) × IsRank p (at w) m n everything s → IsRank p (at w) m n everything r
    go (s, S) = subst (λ k. IsRank p (at w) m n everything k)
        (omega (arith, R.greatest w s S, S.greatest R.reached.1.reached.0 (λ _ _ _. refl) ind, R.reached.1.reached.3)) S
