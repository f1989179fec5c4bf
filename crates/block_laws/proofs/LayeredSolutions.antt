-- What solves a model, with some numbers for the auxiliary columns, solves its layered matrix, and back.
use Rattle.std.proofs.Common.{◌≡◌, ℕ, ◌+◌, ◌-◌, ◌*◌, ◌%◌, ◌<◌, ◌≤◌, ◌≢◌, Bool, true, false, cond, eqb, ltb, not, ◌&&◌}
use Rattle.std.proofs.Common.{◌||◌, refl, ap, sym, subst, ◌∙◌, arith}
use Rattle.std.proofs.lemmas.Bool.Decides.{nat_tests}
use Rattle.std.proofs.Math.Nat.{mod_self, zero-mod}
use Rattle.residue_theory.specs.Residues.{IsPrime}
use Rattle.residue_theory.specs.Sets.{both, everything, without}
use Rattle.residue_theory.specs.Sums.{size_on, sum_below}
use Rattle.residue_theory.proofs.CountLaws.{sum_on-join}
use Rattle.residue_theory.proofs.ResidueLaws.{agree-add, agree-mul, agree-sum, agree_of, lacks}
use Rattle.residue_theory.proofs.SetLaws.{both_true, differ, eqb_true}
use Rattle.residue_theory.proofs.SumLaws.{sum_on-add, sum_on-ext, sum_on-mul, sum_on-none, sum_on-without}
use Rattle.residue_theory.proofs.SumLaws.{without-member}
use Rattle.mixed_matrices.specs.LayeredMatrices.{LayeredMatrix, layered_value}
use Rattle.mixed_matrices.specs.Layerings.{IsLayeredMatrixOf, Origins, gives_q, has_constant, has_symbol}
use Rattle.mixed_matrices.specs.Models.{MixedMatrix, numbers, value}
use Rattle.mixed_layering_laws.proofs.Members.{member-at, member-index, members-distinct}
use Rattle.mixed_layering_laws.specs.LayeredValues.{AreValuesFor}
use Rattle.block_laws.specs.NumbersInBlocks.{layered_right, q_right, t_right}
use Rattle.block_laws.specs.Systems.{IsSystemSolution}
use Rattle.block_laws.proofs.Systems.{solution-low, solution-stacked, solution-top}

-- the entry of an auxiliary column at a row: 1 at its own, 0 elsewhere
mark : ℕ → ℕ → ℕ
mark e z = cond (eqb e z) 1 0

mark-same : (e : ℕ) → mark e e ≡ 1
unfolding mark
mark-same e = grind (arith, nat_tests)

mark-other : (e z : ℕ) → e ≢ z → mark e z ≡ 0
unfolding mark
mark-other e z ne = grind (arith, nat_tests)

mark-is : (e z : ℕ) → cond (eqb e z) 1 0 ≡ mark e z
unfolding mark
mark-is e z = refl

and_first : (a b : Bool) → a ≡ false → a && b ≡ false
and_first a b h = grind arith

and_second : (a b : Bool) → b ≡ false → a && b ≡ false
and_second a b h = grind arith

module _ (p : ℕ) (prime : IsPrime p) (M : MixedMatrix) (L : LayeredMatrix) (O : Origins) (lay : IsLayeredMatrixOf M L O)
    (v w : ℕ → ℕ → ℕ) (values : AreValuesFor p M L O v w) where
  abbrev A : ℕ → Bool
  A = gives_q M

  abbrev D : ℕ → Bool
  D = has_symbol M

  -- each row gives one of the two
  covered : (e : ℕ) → gives_q M e ≡ false → has_symbol M e ≡ true
  covered e h = one (has_constant M e) (has_symbol M e) h
    where
      one : (c s : Bool) → c || not s ≡ false → s ≡ true
      one c s q = grind arith

  -- ---- what a row of the layers and of the model sums up to: constants, symbols, and the auxiliary columns
  csum : (ℕ → ℕ) → ℕ → ℕ
  csum c e = sum_below M.columns (λ j. c j * M.constant e j)

  ssum : (ℕ → ℕ) → ℕ → ℕ
  ssum c e = sum_below M.columns (λ j. c j * numbers M.symbol v e j)

  zsum : (ℕ → ℕ) → ℕ → ℕ
  zsum c e = sum_below O.split (λ k. c (M.columns + k) * mark e (O.of_z k))

  q-row : (c : ℕ → ℕ) (i : ℕ) → i < L.q_rows → sum_below L.columns (λ j. c j * L.q i j) ≡ csum c (O.of_q i) + zsum c (O.of_q i)
  unfolding csum zsum
  q-row c i il =
      ap (λ k. sum_below k (λ j. c j * L.q i j)) lay.columns
      ∙ sum_on-join everything M.columns O.split (λ j. c j * L.q i j)
      ∙ ap (λ s. s + sum_below O.split (λ k. c (M.columns + k) * L.q i (M.columns + k)))
      (sum_on-ext everything M.columns (λ j. c j * L.q i j) (λ j. c j * M.constant (O.of_q i) j) (λ j jl _. ap (λ s. c j * s) (lay.q i j il jl)))
      ∙ ap (λ s. sum_below M.columns (λ j. c j * M.constant (O.of_q i) j) + s)
      (sum_on-ext everything O.split (λ k. c (M.columns + k) * L.q i (M.columns + k)) (λ k. c (M.columns + k) * mark (O.of_q i) (O.of_z k))
      (λ k kl _. ap (λ s. c (M.columns + k) * s) (lay.q_auxiliary i k il kl ∙ mark-is (O.of_q i) (O.of_z k))))

  low-unknown : (i j : ℕ) → i < L.t_rows → j < M.columns → numbers L.t w i j % p ≡ numbers M.symbol v (O.of_t i) j % p
  low-unknown i j il jl = ap (λ b. cond b (w i j) 0 % p) (lay.t i j il jl) ∙ go (M.symbol (O.of_t i) j)
    where
      go : (b : Bool) → cond b (w i j) 0 % p ≡ cond b (v (O.of_t i) j) 0 % p
      go true = values.unknown i j il jl
      go false = refl

  minus_one : (y : ℕ) → (y + 1) % p ≡ 0 → y % p ≡ (p - 1) % p
  minus_one y e = agree_of p y 1 (p - 1) e (ap (λ s. s % p) (let q : p - 1 + 1 ≡ p = omega (arith, prime.above_one) in q) ∙ mod_self p)

  low-auxiliary : (i k : ℕ) → i < L.t_rows → k < O.split → numbers L.t w i (M.columns + k) % p ≡ (p - 1) * mark (O.of_t i) (O.of_z k) % p
  unfolding mark
  low-auxiliary i k il kl = ap (λ b. cond b (w i (M.columns + k)) 0 % p) (lay.t_auxiliary i k il kl) ∙ go (eqb (O.of_t i) (O.of_z k)) refl
    where
      go : (b : Bool) → eqb (O.of_t i) (O.of_z k) ≡ b → cond b (w i (M.columns + k)) 0 % p ≡ (p - 1) * cond b 1 0 % p
      go true e = minus_one (w i (M.columns + k)) (values.auxiliary i k il kl (eqb_true (O.of_t i) (O.of_z k) e))
          ∙ ap (λ s. s % p) (let q : p - 1 ≡ (p - 1) * 1 = omega arith in q)
      go false e = ap (λ s. s % p) (let q : 0 ≡ (p - 1) * 0 = omega arith in q)

  t-row : (c : ℕ → ℕ) (i : ℕ) → i < L.t_rows →
      sum_below L.columns (λ j. c j * numbers L.t w i j) % p ≡ (ssum c (O.of_t i) + (p - 1) * zsum c (O.of_t i)) % p
  unfolding ssum zsum
  t-row c i il =
      ap (λ k. sum_below k (λ j. c j * numbers L.t w i j) % p) lay.columns
      ∙ ap (λ s. s % p) (sum_on-join everything M.columns O.split (λ j. c j * numbers L.t w i j))
      ∙ agree-add p (sum_below M.columns (λ j. c j * numbers L.t w i j)) (sum_below M.columns (λ j. c j * numbers M.symbol v (O.of_t i) j))
      (sum_below O.split (λ k. c (M.columns + k) * numbers L.t w i (M.columns + k)))
      ((p - 1) * sum_below O.split (λ k. c (M.columns + k) * mark (O.of_t i) (O.of_z k)))
      (agree-sum p everything M.columns (λ j. c j * numbers L.t w i j) (λ j. c j * numbers M.symbol v (O.of_t i) j)
      (λ j jl _. agree-mul p (c j) (numbers L.t w i j) (numbers M.symbol v (O.of_t i) j) (low-unknown i j il jl)))
      (agree-sum p everything O.split (λ k. c (M.columns + k) * numbers L.t w i (M.columns + k))
      (λ k. (p - 1) * (c (M.columns + k) * mark (O.of_t i) (O.of_z k)))
      (λ k kl _. agree-mul p (c (M.columns + k)) (numbers L.t w i (M.columns + k)) ((p - 1) * mark (O.of_t i) (O.of_z k)) (low-auxiliary i k il kl)
      ∙ ap (λ s. s % p) (swapped (c (M.columns + k)) (p - 1) (mark (O.of_t i) (O.of_z k))))
      ∙ ap (λ s. s % p) (sum_on-mul everything O.split (p - 1) (λ k. c (M.columns + k) * mark (O.of_t i) (O.of_z k))))
    where
      swapped : (y q m : ℕ) → y * (q * m) ≡ q * (y * m)
      swapped y q m = omega arith

  model-row : (c : ℕ → ℕ) (e : ℕ) → sum_below M.columns (λ j. c j * value M v e j) ≡ csum c e + ssum c e
  unfolding csum ssum
  model-row c e = sum_on-ext everything M.columns (λ j. c j * value M v e j) (λ j. c j * M.constant e j + c j * numbers M.symbol v e j)
      (λ j _ _. spread (c j) (M.constant e j) (numbers M.symbol v e j))
      ∙ sum_on-add everything M.columns (λ j. c j * M.constant e j) (λ j. c j * numbers M.symbol v e j)
    where
      spread : (y f g : ℕ) → y * (f + g) ≡ y * f + y * g
      spread y f g = omega arith

  -- ---- the auxiliary columns at a row
  zsum-at : (c : ℕ → ℕ) (k : ℕ) → k < O.split → zsum c (O.of_z k) ≡ c (M.columns + k)
  unfolding zsum
  zsum-at c k kl =
      sum_on-without everything O.split k (λ t. c (M.columns + t) * mark (O.of_z k) (O.of_z t)) kl refl
      ∙ ap (λ s. s + c (M.columns + k) * mark (O.of_z k) (O.of_z k))
      (sum_on-ext (without everything k) O.split (λ t. c (M.columns + t) * mark (O.of_z k) (O.of_z t)) (λ _. 0)
      (λ t tl th. ap (λ s. c (M.columns + t) * s) (mark-other (O.of_z k) (O.of_z t)
      (λ q. (without-member everything k t th).1 (sym (members-distinct (both A D) M.rows O.of_z O.split lay.auxiliary k t kl tl q)))) ∙ omega arith)
      ∙ sum_on-none (without everything k) O.split)
      ∙ ap (λ s. 0 + c (M.columns + k) * s) (mark-same (O.of_z k))
      ∙ omega arith

  zsum-none : (c : ℕ → ℕ) (e : ℕ) → both (gives_q M) (has_symbol M) e ≡ false → zsum c e ≡ 0
  unfolding zsum
  zsum-none c e h =
      sum_on-ext everything O.split (λ k. c (M.columns + k) * mark e (O.of_z k)) (λ _. 0)
      (λ k kl _. ap (λ s. c (M.columns + k) * s) (mark-other e (O.of_z k)
      (λ q. differ (subst (λ x. both (gives_q M) (has_symbol M) x ≡ false) q h) (lay.auxiliary.member k kl))) ∙ omega arith)
      ∙ sum_on-none everything O.split

  no_constants : (c : ℕ → ℕ) (e : ℕ) → e < M.rows → gives_q M e ≡ false → csum c e ≡ 0
  unfolding csum
  no_constants c e el h = sum_on-ext everything M.columns (λ j. c j * M.constant e j) (λ _. 0)
      (λ j jl _. ap (λ s. c j * s) (lay.constants e j el jl h) ∙ omega arith) ∙ sum_on-none everything M.columns

  no_symbols : (c : ℕ → ℕ) (e : ℕ) → e < M.rows → has_symbol M e ≡ false → ssum c e ≡ 0
  unfolding ssum
  no_symbols c e el h = sum_on-ext everything M.columns (λ j. c j * numbers M.symbol v e j) (λ _. 0)
      (λ j jl _. ap (λ b. c j * cond b (v e j) 0) (lay.symbols e j el jl h) ∙ omega arith) ∙ sum_on-none everything M.columns

  same-sums : (c x : ℕ → ℕ) → ((j : ℕ) → j < M.columns → c j ≡ x j) → (e : ℕ) → (csum c e ≡ csum x e) × (ssum c e ≡ ssum x e)
  unfolding csum ssum
  same-sums c x same e = (
    sum_on-ext everything M.columns (λ j. c j * M.constant e j) (λ j. x j * M.constant e j) (λ j jl _. ap (λ s. s * M.constant e j) (same j jl)),
    sum_on-ext everything M.columns (λ j. c j * numbers M.symbol v e j) (λ j. x j * numbers M.symbol v e j)
        (λ j jl _. ap (λ s. s * numbers M.symbol v e j) (same j jl)),
  )

  module _ (x b : ℕ → ℕ) where
    abbrev layers_solved : (ℕ → ℕ) → Type 0
    layers_solved y = IsSystemSolution p (layered_value L w) (L.q_rows + L.t_rows) L.columns y (layered_right (gives_q M) L O b)

    -- ---- from the layers to the model
    module _ (y : ℕ → ℕ) (same : (j : ℕ) → j < M.columns → y j ≡ x j)
        (s : IsSystemSolution p (layered_value L w) (L.q_rows + L.t_rows) L.columns y (layered_right (gives_q M) L O b)) where
      q-solved : (e : ℕ) → e < M.rows → gives_q M e ≡ true → (csum y e + zsum y e) % p ≡ b e % p
      q-solved e el h = subst (λ r. (csum y r + zsum y r) % p ≡ b r % p) (member-at A M.rows O.of_q L.q_rows lay.q_rows e el h)
          (ap (λ r. r % p) (sym (q-row y (size_on A e) (member-index A M.rows O.of_q L.q_rows lay.q_rows e el h)))
          ∙ solution-top p L.q_rows L.t_rows L.columns L.q (numbers L.t w) y (q_right O b) (t_right (gives_q M) O b) s (size_on A e)
          (member-index A M.rows O.of_q L.q_rows lay.q_rows e el h))

      t-solved : (e : ℕ) → e < M.rows → has_symbol M e ≡ true → (ssum y e + (p - 1) * zsum y e) % p ≡ cond (gives_q M e) 0 (b e) % p
      t-solved e el h = subst (λ r. (ssum y r + (p - 1) * zsum y r) % p ≡ cond (gives_q M r) 0 (b r) % p)
          (member-at D M.rows O.of_t L.t_rows lay.t_rows e el h)
          (sym (t-row y (size_on D e) (member-index D M.rows O.of_t L.t_rows lay.t_rows e el h))
          ∙ solution-low p L.q_rows L.t_rows L.columns L.q (numbers L.t w) y (q_right O b) (t_right (gives_q M) O b) s (size_on D e)
          (member-index D M.rows O.of_t L.t_rows lay.t_rows e el h))

      row-solved : (e : ℕ) → e < M.rows → (csum y e + ssum y e) % p ≡ b e % p
      row-solved e el = go (gives_q M e) (has_symbol M e) refl refl
        where
          cancel : (f g z r : ℕ) → (f + z) % p ≡ r % p → (g + (p - 1) * z) % p ≡ 0 → (f + g) % p ≡ r % p
          cancel f g z r u t = agree-add p f f g z refl (agree_of p g ((p - 1) * z) z t (lacks p prime z)) ∙ u

          go : (a d : Bool) → gives_q M e ≡ a → has_symbol M e ≡ d → (csum y e + ssum y e) % p ≡ b e % p
          go true true ha hd = cancel (csum y e) (ssum y e) (zsum y e) (b e) (q-solved e el ha)
              (t-solved e el hd ∙ ap (λ t. cond t 0 (b e) % p) ha ∙ zero-mod p)
          go true false ha hd = ap (λ t. (csum y e + t) % p) (no_symbols y e el hd ∙ sym (zsum-none y e (and_second (gives_q M e) (has_symbol M e) hd)))
              ∙ q-solved e el ha
          go false d ha hd =
              ap (λ t. (t + ssum y e) % p) (no_constants y e el ha)
              ∙ ap (λ t. t % p) (ordered (ssum y e) (p - 1))
              ∙ ap (λ t. (ssum y e + (p - 1) * t) % p) (sym (zsum-none y e (and_first (gives_q M e) (has_symbol M e) ha)))
              ∙ t-solved e el (covered e ha) ∙ ap (λ t. cond t 0 (b e) % p) ha
            where
              ordered : (t q : ℕ) → 0 + t ≡ t + q * 0
              ordered t q = omega arith

      row-given : IsSystemSolution p (value M v) M.rows M.columns x b
      row-given e el = ap (λ r. r % p) (model-row x e)
          ∙ ap (λ r. (r + ssum x e) % p) (sym (same-sums y x same e).0) ∙ ap (λ r. (csum y e + r) % p) (sym (same-sums y x same e).1)
          ∙ row-solved e el

    pub model_solution : (y : ℕ → ℕ) × ((j : ℕ) → j < M.columns → y j ≡ x j) ×
        IsSystemSolution p (layered_value L w) (L.q_rows + L.t_rows) L.columns y (layered_right (gives_q M) L O b) →
        IsSystemSolution p (value M v) M.rows M.columns x b
    model_solution (y, same, s) = row-given y same s

    -- ---- from the model to the layers: the auxiliary unknowns are what the constants lack
    module _ (given : IsSystemSolution p (value M v) M.rows M.columns x b) where
      chosen : ℕ → ℕ
      chosen j = cond (ltb j M.columns) (x j) ((p - 1) * csum x (O.of_z (j - M.columns)) + b (O.of_z (j - M.columns)))

      chosen-unknown : (j : ℕ) → j < M.columns → chosen j ≡ x j
      unfolding chosen
      chosen-unknown j jl = ap (λ t. cond t (x j) ((p - 1) * csum x (O.of_z (j - M.columns)) + b (O.of_z (j - M.columns))))
          (let e : ltb j M.columns ≡ true = grind (arith, nat_tests) in e)

      chosen-auxiliary : (k : ℕ) → chosen (M.columns + k) ≡ (p - 1) * csum x (O.of_z k) + b (O.of_z k)
      unfolding chosen
      chosen-auxiliary k = ap (λ t. cond t (x (M.columns + k)) ((p - 1) * csum x (O.of_z (M.columns + k - M.columns)) + b (O.of_z (M.columns + k - M.columns))))
          (let g : M.columns ≤ M.columns + k = omega arith in let e : ltb (M.columns + k) M.columns ≡ false = grind (arith, nat_tests) in e)
          ∙ ap (λ i. (p - 1) * csum x (O.of_z i) + b (O.of_z i)) (let e : M.columns + k - M.columns ≡ k = omega arith in e)

      zsum-chosen : (e : ℕ) → e < M.rows → gives_q M e ≡ true → has_symbol M e ≡ true → zsum chosen e ≡ (p - 1) * csum x e + b e
      zsum-chosen e el a d =
          let h : both (gives_q M) (has_symbol M) e ≡ true = both_true (gives_q M e) (has_symbol M e) a d in
          let index : size_on (both (gives_q M) (has_symbol M)) e < O.split = member-index (both A D) M.rows O.of_z O.split lay.auxiliary e el h in
          subst (λ r. zsum chosen r ≡ (p - 1) * csum x r + b r) (member-at (both A D) M.rows O.of_z O.split lay.auxiliary e el h)
          (zsum-at chosen (size_on (both A D) e) index ∙ chosen-auxiliary (size_on (both A D) e))

      csum-chosen : (e : ℕ) → csum chosen e ≡ csum x e
      csum-chosen e = (same-sums chosen x chosen-unknown e).0

      ssum-chosen : (e : ℕ) → ssum chosen e ≡ ssum x e
      ssum-chosen e = (same-sums chosen x chosen-unknown e).1

      both-sums : (e : ℕ) → e < M.rows → (csum x e + ssum x e) % p ≡ b e % p
      both-sums e el = ap (λ r. r % p) (sym (model-row x e)) ∙ given e el

      -- constants and auxiliary unknowns give the right side
      lacking : (f r : ℕ) → (f + ((p - 1) * f + r)) % p ≡ r % p
      lacking f r = ap (λ s. s % p) (let e : f + ((p - 1) * f + r) ≡ (f + (p - 1) * f) + r = omega arith in e)
          ∙ agree-add p (f + (p - 1) * f) 0 r r (lacks p prime f ∙ sym (zero-mod p)) refl
          ∙ ap (λ s. s % p) (let e : 0 + r ≡ r = omega arith in e)

      q-chosen : (e : ℕ) → e < M.rows → gives_q M e ≡ true → (csum chosen e + zsum chosen e) % p ≡ b e % p
      q-chosen e el a = go (has_symbol M e) refl
        where
          go : (d : Bool) → has_symbol M e ≡ d → (csum chosen e + zsum chosen e) % p ≡ b e % p
          go true d = ap (λ s. (s + zsum chosen e) % p) (csum-chosen e) ∙ ap (λ s. (csum x e + s) % p) (zsum-chosen e el a d)
              ∙ lacking (csum x e) (b e)
          go false d = ap (λ s. (s + zsum chosen e) % p) (csum-chosen e)
              ∙ ap (λ s. (csum x e + s) % p) (zsum-none chosen e (and_second (gives_q M e) (has_symbol M e) d) ∙ sym (no_symbols x e el d))
              ∙ both-sums e el

      -- the auxiliary unknowns are what the symbols give
      same_as-symbols : (f g r : ℕ) → (f + g) % p ≡ r % p → ((p - 1) * f + r) % p ≡ g % p
      same_as-symbols f g r q =
          agree-add p ((p - 1) * f) ((p - 1) * f) r (f + g) refl (sym q)
          ∙ ap (λ s. s % p) (let e : (p - 1) * f + (f + g) ≡ (f + (p - 1) * f) + g = omega arith in e)
          ∙ agree-add p (f + (p - 1) * f) 0 g g (lacks p prime f ∙ sym (zero-mod p)) refl
          ∙ ap (λ s. s % p) (let e : 0 + g ≡ g = omega arith in e)

      t-chosen : (e : ℕ) → e < M.rows → has_symbol M e ≡ true → (ssum chosen e + (p - 1) * zsum chosen e) % p ≡ cond (gives_q M e) 0 (b e) % p
      t-chosen e el d = go (gives_q M e) refl
        where
          go : (a : Bool) → gives_q M e ≡ a → (ssum chosen e + (p - 1) * zsum chosen e) % p ≡ cond a 0 (b e) % p
          go true a = ap (λ s. (s + (p - 1) * zsum chosen e) % p) (ssum-chosen e)
              ∙ agree-add p (ssum x e) (ssum x e) ((p - 1) * zsum chosen e) ((p - 1) * ssum x e) refl
              (agree-mul p (p - 1) (zsum chosen e) (ssum x e)
              (ap (λ s. s % p) (zsum-chosen e el a d) ∙ same_as-symbols (csum x e) (ssum x e) (b e) (both-sums e el)))
              ∙ lacks p prime (ssum x e) ∙ sym (zero-mod p)
          go false a = ap (λ s. (s + (p - 1) * zsum chosen e) % p) (ssum-chosen e)
              ∙ ap (λ s. (ssum x e + (p - 1) * s) % p) (zsum-none chosen e (and_first (gives_q M e) (has_symbol M e) a))
              ∙ ap (λ s. s % p) (ordered (ssum x e) (p - 1))
              ∙ ap (λ s. (s + ssum x e) % p) (sym (no_constants x e el a))
              ∙ both-sums e el
            where
              ordered : (t q : ℕ) → t + q * 0 ≡ 0 + t
              ordered t q = omega arith

      layers-solved : IsSystemSolution p (layered_value L w) (L.q_rows + L.t_rows) L.columns chosen (layered_right (gives_q M) L O b)
      layers-solved = solution-stacked p L.q_rows L.t_rows L.columns L.q (numbers L.t w) chosen (q_right O b) (t_right (gives_q M) O b)
          (λ i il. ap (λ r. r % p) (q-row chosen i il) ∙ q-chosen (O.of_q i) (lay.q_rows.below i il) (lay.q_rows.member i il))
          (λ i il. t-row chosen i il ∙ t-chosen (O.of_t i) (lay.t_rows.below i il) (lay.t_rows.member i il))

    pub layered_solution : IsSystemSolution p (value M v) M.rows M.columns x b →
        (y : ℕ → ℕ) × ((j : ℕ) → j < M.columns → y j ≡ x j) ×
        IsSystemSolution p (layered_value L w) (L.q_rows + L.t_rows) L.columns y (layered_right (gives_q M) L O b)
    layered_solution given = (chosen given, chosen-unknown given, layers-solved given)
