-- The kernel of the layered matrix, with -1 at its auxiliary symbols, is that of the mixed matrix.
use Rattle.std.proofs.Common.{◌≡◌, ℕ, ◌+◌, ◌-◌, ◌*◌, ◌%◌, ◌<◌, ◌≤◌, ◌≢◌, Bool, true, false, cond, ◌&&◌, eqb, ltb, inl, inr, refl, ap, sym, subst, ◌∙◌, arith}
use Rattle.std.proofs.lemmas.Bool.Decides.{nat_tests}
use Rattle.std.proofs.Math.Nat.{zero-mod}
use Rattle.residue_theory.proofs.CountLaws.{size-everything, sum_on-join}
use Rattle.residue_theory.proofs.ResidueLaws.{agree-add, agree_of, lacks, vanishes-add, vanishes-mul, vanishes-rest, vanishes-sum, vanishes_by}
use Rattle.residue_theory.proofs.SetLaws.{both_true, differ, lt_cases}
use Rattle.residue_theory.proofs.SumLaws.{sum_on-add, sum_on-ext, sum_on-mul, sum_on-none, sum_on-same, sum_on-without, without-member}
use Rattle.residue_theory.specs.Residues.{IsPrime}
use Rattle.residue_theory.specs.Sets.{both, everything, without}
use Rattle.residue_theory.specs.Sums.{size_on, sum_on}
use Rattle.linear_algebra.specs.Columns.{CombinesToZero, IsIndependent, IsRank}
use Rattle.linear_algebra_laws.proofs.Ranks.{Basis, basis, basis-rank}
use Rattle.linear_algebra_laws.proofs.Stacked.{above-zero, low-zero, top-zero}
use Rattle.mixed_matrices.specs.LayeredMatrices.{LayeredMatrix, layered_value}
use Rattle.mixed_matrices.specs.Layerings.{IsLayering, Origins}
use Rattle.mixed_matrices.specs.Models.{MixedMatrix, numbers, value}
use Rattle.mixed_layering_laws.proofs.Members.{member-at, member-index, members-distinct}

-- the values of the layered matrix that stand for v: at unknowns those of v, at auxiliary columns -1
abbrev pub layered_values : ℕ → MixedMatrix → Origins → (ℕ → ℕ → ℕ) → ℕ → ℕ → ℕ
layered_values p M O v i j = cond (ltb j M.columns) (v (O.of_t i) j) (p - 1)

pub ltb-first : (m i : ℕ) → i < m → ltb i m ≡ true
ltb-first m i l = grind (arith, nat_tests)

pub ltb-next : (m i : ℕ) → ltb (m + i) m ≡ false
ltb-next m i = let g : m ≤ m + i = omega arith in grind (arith, nat_tests)

-- the entry of an auxiliary column at a row: 1 at its own, 0 elsewhere
mark : ℕ → ℕ → ℕ
mark e z = cond (eqb e z) 1 0

mark-same : (e z : ℕ) → e ≡ z → mark e z ≡ 1
unfolding mark
mark-same e z q = grind (arith, nat_tests)

mark-other : (e z : ℕ) → e ≢ z → mark e z ≡ 0
unfolding mark
mark-other e z ne = grind (arith, nat_tests)

mark-is : (e z : ℕ) → cond (eqb e z) 1 0 ≡ mark e z
unfolding mark
mark-is e z = refl

module _ (p : ℕ) (prime : IsPrime p) (M : MixedMatrix) (A D : ℕ → Bool) (L : LayeredMatrix) (O : Origins) (lay : IsLayering M A D L O) where
  -- what the columns of X combine to: constants, and the auxiliary columns
  abbrev csum : (ℕ → Bool) → (ℕ → ℕ) → ℕ → ℕ
  csum X c e = sum_on X M.columns (λ j. c j * M.constant e j)

  abbrev zsum : (ℕ → Bool) → (ℕ → ℕ) → ℕ → ℕ
  zsum X c e = sum_on (λ k. X (M.columns + k)) O.split (λ k. c (M.columns + k) * mark e (O.of_z k))

  q-row : (X : ℕ → Bool) (c : ℕ → ℕ) (i : ℕ) → i < L.q_rows → sum_on X L.columns (λ j. c j * L.q i j) ≡ csum X c (O.of_q i) + zsum X c (O.of_q i)
  q-row X c i il =
      ap (λ k. sum_on X k (λ j. c j * L.q i j)) lay.columns
      ∙ sum_on-join X M.columns O.split (λ j. c j * L.q i j)
      ∙ ap (λ s. s + sum_on (λ k. X (M.columns + k)) O.split (λ k. c (M.columns + k) * L.q i (M.columns + k)))
      (sum_on-ext X M.columns (λ j. c j * L.q i j) (λ j. c j * M.constant (O.of_q i) j) (λ j jl _. ap (λ s. c j * s) (lay.q i j il jl)))
      ∙ ap (λ s. csum X c (O.of_q i) + s)
      (sum_on-ext (λ k. X (M.columns + k)) O.split (λ k. c (M.columns + k) * L.q i (M.columns + k))
      (λ k. c (M.columns + k) * mark (O.of_q i) (O.of_z k))
      (λ k kl _. ap (λ s. c (M.columns + k) * s) (lay.q_auxiliary i k il kl ∙ mark-is (O.of_q i) (O.of_z k))))

  -- at the row of an auxiliary column, that column's coefficient
  zsum-at : (X : ℕ → Bool) (c : ℕ → ℕ) (k : ℕ) → k < O.split → X (M.columns + k) ≡ true → zsum X c (O.of_z k) ≡ c (M.columns + k)
  zsum-at X c k kl h =
      sum_on-without (λ t. X (M.columns + t)) O.split k (λ t. c (M.columns + t) * mark (O.of_z k) (O.of_z t)) kl h
      ∙ ap (λ s. s + c (M.columns + k) * mark (O.of_z k) (O.of_z k))
      (sum_on-ext (without (λ t. X (M.columns + t)) k) O.split (λ t. c (M.columns + t) * mark (O.of_z k) (O.of_z t)) (λ _. 0)
      (λ t tl th. ap (λ s. c (M.columns + t) * s) (mark-other (O.of_z k) (O.of_z t)
      (λ q. (without-member (λ t. X (M.columns + t)) k t th).1
      (sym (members-distinct (both A D) M.rows O.of_z O.split lay.auxiliary k t kl tl q)))) ∙ omega arith)
      ∙ sum_on-none (without (λ t. X (M.columns + t)) k) O.split)
      ∙ ap (λ s. 0 + c (M.columns + k) * s) (mark-same (O.of_z k) (O.of_z k) refl)
      ∙ omega arith

  -- at any other row, nothing
  zsum-none : (X : ℕ → Bool) (c : ℕ → ℕ) (e : ℕ) → both A D e ≡ false → zsum X c e ≡ 0
  zsum-none X c e h =
      sum_on-ext (λ k. X (M.columns + k)) O.split (λ k. c (M.columns + k) * mark e (O.of_z k)) (λ _. 0)
      (λ k kl _. ap (λ s. c (M.columns + k) * s) (mark-other e (O.of_z k)
      (λ q. differ (subst (λ x. both A D x ≡ false) q h) (lay.auxiliary.member k kl))) ∙ omega arith)
      ∙ sum_on-none (λ k. X (M.columns + k)) O.split

  no_constants : (X : ℕ → Bool) (c : ℕ → ℕ) (e : ℕ) → e < M.rows → A e ≡ false → csum X c e ≡ 0
  no_constants X c e el h = sum_on-ext X M.columns (λ j. c j * M.constant e j) (λ _. 0)
      (λ j jl _. ap (λ s. c j * s) (lay.constants e j el jl h) ∙ omega arith) ∙ sum_on-none X M.columns

  and_first : (a b : Bool) → a ≡ false → a && b ≡ false
  and_first a b h = grind arith

  and_second : (a b : Bool) → b ≡ false → a && b ≡ false
  and_second a b h = grind arith

  module _ (v : ℕ → ℕ → ℕ) where
    abbrev ssum : (ℕ → Bool) → (ℕ → ℕ) → ℕ → ℕ
    ssum X c e = sum_on X M.columns (λ j. c j * numbers M.symbol v e j)

    abbrev model : ℕ → ℕ → ℕ
    model = value M v

    abbrev layers : ℕ → ℕ → ℕ
    layers = layered_value L (layered_values p M O v)

    low : ℕ → ℕ → ℕ
    low = numbers L.t (layered_values p M O v)

    low-is : (i j : ℕ) → numbers L.t (layered_values p M O v) i j ≡ low i j
    unfolding low
    low-is i j = refl

    low-unknown : (i j : ℕ) → i < L.t_rows → j < M.columns → low i j ≡ numbers M.symbol v (O.of_t i) j
    unfolding low
    low-unknown i j il jl = ap (λ b. cond b (layered_values p M O v i j) 0) (lay.t i j il jl)
        ∙ ap (λ b. cond (M.symbol (O.of_t i) j) (cond b (v (O.of_t i) j) (p - 1)) 0) (ltb-first M.columns j jl)

    low-auxiliary : (i k : ℕ) → i < L.t_rows → k < O.split → low i (M.columns + k) ≡ (p - 1) * mark (O.of_t i) (O.of_z k)
    unfolding low mark
    low-auxiliary i k il kl = ap (λ b. cond b (layered_values p M O v i (M.columns + k)) 0) (lay.t_auxiliary i k il kl)
        ∙ ap (λ b. cond (eqb (O.of_t i) (O.of_z k)) (cond b (v (O.of_t i) (M.columns + k)) (p - 1)) 0) (ltb-next M.columns k)
        ∙ as_product (eqb (O.of_t i) (O.of_z k)) (p - 1)
      where
        as_product : (b : Bool) (x : ℕ) → cond b x 0 ≡ x * cond b 1 0
        as_product b x = grind arith

    t-row : (X : ℕ → Bool) (c : ℕ → ℕ) (i : ℕ) → i < L.t_rows → sum_on X L.columns (λ j. c j * low i j) ≡ ssum X c (O.of_t i) + (p - 1) * zsum X c
        (O.of_t i)
    t-row X c i il =
        ap (λ k. sum_on X k (λ j. c j * low i j)) lay.columns
        ∙ sum_on-join X M.columns O.split (λ j. c j * low i j)
        ∙ ap (λ s. s + sum_on (λ k. X (M.columns + k)) O.split (λ k. c (M.columns + k) * low i (M.columns + k)))
        (sum_on-ext X M.columns (λ j. c j * low i j) (λ j. c j * numbers M.symbol v (O.of_t i) j)
        (λ j jl _. ap (λ s. c j * s) (low-unknown i j il jl)))
        ∙ ap (λ s. ssum X c (O.of_t i) + s)
        (sum_on-ext (λ k. X (M.columns + k)) O.split (λ k. c (M.columns + k) * low i (M.columns + k))
        (λ k. (p - 1) * (c (M.columns + k) * mark (O.of_t i) (O.of_z k)))
        (λ k kl _. ap (λ s. c (M.columns + k) * s) (low-auxiliary i k il kl) ∙ omega arith)
        ∙ sum_on-mul (λ k. X (M.columns + k)) O.split (p - 1) (λ k. c (M.columns + k) * mark (O.of_t i) (O.of_z k)))

    no_symbols : (X : ℕ → Bool) (c : ℕ → ℕ) (e : ℕ) → e < M.rows → D e ≡ false → ssum X c e ≡ 0
    no_symbols X c e el h = sum_on-ext X M.columns (λ j. c j * numbers M.symbol v e j) (λ _. 0)
        (λ j jl _. ap (λ b. c j * cond b (v e j) 0) (lay.symbols e j el jl h) ∙ omega arith) ∙ sum_on-none X M.columns

    model-row : (X : ℕ → Bool) (c : ℕ → ℕ) (e : ℕ) → sum_on X M.columns (λ j. c j * model e j) ≡ csum X c e + ssum X c e
    model-row X c e = sum_on-ext X M.columns (λ j. c j * model e j) (λ j. c j * M.constant e j + c j * numbers M.symbol v e j) (λ j _ _. omega arith)
        ∙ sum_on-add X M.columns (λ j. c j * M.constant e j) (λ j. c j * numbers M.symbol v e j)

    -- ---- from the layers to the model
    module _ (X : ℕ → Bool) (c : ℕ → ℕ) (z : CombinesToZero p layers (L.q_rows + L.t_rows) L.columns X c) where
      q-zero : (e : ℕ) → e < M.rows → (csum X c e + zsum X c e) % p ≡ 0
      q-zero e el = go (A e) refl
        where
          go : (b : Bool) → A e ≡ b → (csum X c e + zsum X c e) % p ≡ 0
          go false h = ap (λ s. (s + zsum X c e) % p) (no_constants X c e el h) ∙ ap (λ s. (0 + s) % p) (zsum-none X c e (and_first (A e) (D e) h))
              ∙ zero-mod p
          go true h = subst (λ x. (csum X c x + zsum X c x) % p ≡ 0) (member-at A M.rows O.of_q L.q_rows lay.q_rows e el h)
              (ap (λ s. s % p) (sym (q-row X c (size_on A e) (member-index A M.rows O.of_q L.q_rows lay.q_rows e el h)))
              ∙ top-zero p L.q_rows L.t_rows L.columns L.q (numbers L.t (layered_values p M O v)) X c z (size_on A e)
              (member-index A M.rows O.of_q L.q_rows lay.q_rows e el h))

      t-zero : (e : ℕ) → e < M.rows → (ssum X c e + (p - 1) * zsum X c e) % p ≡ 0
      t-zero e el = go (D e) refl
        where
          low-row : (i : ℕ) → i < L.t_rows → sum_on X L.columns (λ j. c j * low i j) % p ≡ 0
          low-row i il = ap (λ s. s % p) (sum_on-ext X L.columns (λ j. c j * low i j) (λ j. c j * numbers L.t (layered_values p M O v) i j)
              (λ j _ _. ap (λ s. c j * s) (sym (low-is i j))))
              ∙ low-zero p L.q_rows L.t_rows L.columns L.q (numbers L.t (layered_values p M O v)) X c z i il

          go : (b : Bool) → D e ≡ b → (ssum X c e + (p - 1) * zsum X c e) % p ≡ 0
          go false h = ap (λ s. (s + (p - 1) * zsum X c e) % p) (no_symbols X c e el h)
              ∙ ap (λ s. (0 + (p - 1) * s) % p) (zsum-none X c e (and_second (A e) (D e) h)) ∙ ap (λ s. s % p) (omega arith) ∙ zero-mod p
          go true h = subst (λ x. (ssum X c x + (p - 1) * zsum X c x) % p ≡ 0) (member-at D M.rows O.of_t L.t_rows lay.t_rows e el h)
              (ap (λ s. s % p) (sym (t-row X c (size_on D e) (member-index D M.rows O.of_t L.t_rows lay.t_rows e el h)))
              ∙ low-row (size_on D e) (member-index D M.rows O.of_t L.t_rows lay.t_rows e el h))

      model-zero : CombinesToZero p model M.rows M.columns X c
      model-zero e el = ap (λ s. s % p) (model-row X c e)
          ∙ vanishes-rest p (zsum X c e + (p - 1) * zsum X c e) (csum X c e + ssum X c e)
          (vanishes_by p _ ((csum X c e + zsum X c e) + (ssum X c e + (p - 1) * zsum X c e)) (omega arith)
          (vanishes-add p (csum X c e + zsum X c e) (ssum X c e + (p - 1) * zsum X c e) (q-zero e el) (t-zero e el)))
          (lacks p prime (zsum X c e))

    -- ---- from the model to the layers: the coefficients of the auxiliary columns are chosen
    module _ (X : ℕ → Bool) (c : ℕ → ℕ) (all : (k : ℕ) → k < O.split → X (M.columns + k) ≡ true)
        (z : CombinesToZero p model M.rows M.columns X c) where
      chosen : ℕ → ℕ
      chosen j = cond (ltb j M.columns) (c j) ((p - 1) * csum X c (O.of_z (j - M.columns)))

      chosen-unknown : (j : ℕ) → j < M.columns → chosen j ≡ c j
      unfolding chosen
      chosen-unknown j jl = ap (λ b. cond b (c j) ((p - 1) * csum X c (O.of_z (j - M.columns)))) (ltb-first M.columns j jl)

      chosen-auxiliary : (k : ℕ) → chosen (M.columns + k) ≡ (p - 1) * csum X c (O.of_z k)
      unfolding chosen
      chosen-auxiliary k = ap (λ b. cond b (c (M.columns + k)) ((p - 1) * csum X c (O.of_z (M.columns + k - M.columns)))) (ltb-next M.columns k)
          ∙ ap (λ i. (p - 1) * csum X c (O.of_z i)) (let e : M.columns + k - M.columns ≡ k = omega arith in e)

      csum-chosen : (e : ℕ) → csum X chosen e ≡ csum X c e
      csum-chosen e = sum_on-ext X M.columns (λ j. chosen j * M.constant e j) (λ j. c j * M.constant e j)
          (λ j jl _. ap (λ s. s * M.constant e j) (chosen-unknown j jl))

      ssum-chosen : (e : ℕ) → ssum X chosen e ≡ ssum X c e
      ssum-chosen e = sum_on-ext X M.columns (λ j. chosen j * numbers M.symbol v e j) (λ j. c j * numbers M.symbol v e j)
          (λ j jl _. ap (λ s. s * numbers M.symbol v e j) (chosen-unknown j jl))

      both-sums : (e : ℕ) → e < M.rows → (csum X c e + ssum X c e) % p ≡ 0
      both-sums e el = ap (λ s. s % p) (sym (model-row X c e)) ∙ z e el

      zsum-chosen : (e : ℕ) → e < M.rows → A e ≡ true → D e ≡ true → zsum X chosen e ≡ (p - 1) * csum X c e
      zsum-chosen e el a d = subst (λ x. zsum X chosen x ≡ (p - 1) * csum X c x)
          (member-at (both A D) M.rows O.of_z O.split lay.auxiliary e el (both_true (A e) (D e) a d))
          (zsum-at X chosen (size_on (both A D) e) (member-index (both A D) M.rows O.of_z O.split lay.auxiliary e el (both_true (A e) (D e) a d))
          (all (size_on (both A D) e) (member-index (both A D) M.rows O.of_z O.split lay.auxiliary e el (both_true (A e) (D e) a d)))
          ∙ chosen-auxiliary (size_on (both A D) e))

      q-chosen : (e : ℕ) → e < M.rows → A e ≡ true → (csum X chosen e + zsum X chosen e) % p ≡ 0
      q-chosen e el a = go (D e) refl
        where
          go : (b : Bool) → D e ≡ b → (csum X chosen e + zsum X chosen e) % p ≡ 0
          go true d = ap (λ s. (s + zsum X chosen e) % p) (csum-chosen e) ∙ ap (λ s. (csum X c e + s) % p) (zsum-chosen e el a d)
              ∙ lacks p prime (csum X c e)
          go false d = ap (λ s. (s + zsum X chosen e) % p) (csum-chosen e)
              ∙ ap (λ s. (csum X c e + s) % p) (zsum-none X chosen e (and_second (A e) (D e) d) ∙ sym (no_symbols X c e el d)) ∙ both-sums e el

      t-chosen : (e : ℕ) → e < M.rows → D e ≡ true → (ssum X chosen e + (p - 1) * zsum X chosen e) % p ≡ 0
      t-chosen e el d = go (A e) refl
        where
          go : (b : Bool) → A e ≡ b → (ssum X chosen e + (p - 1) * zsum X chosen e) % p ≡ 0
          go true a = ap (λ s. (s + (p - 1) * zsum X chosen e) % p) (ssum-chosen e)
              ∙ agree-add p (ssum X c e) (zsum X chosen e) ((p - 1) * zsum X chosen e) ((p - 1) * zsum X chosen e)
              (agree_of p (ssum X c e) (csum X c e) (zsum X chosen e)
              (ap (λ s. s % p) (let q : ssum X c e + csum X c e ≡ csum X c e + ssum X c e = omega arith in q) ∙ both-sums e el)
              (ap (λ s. (s + csum X c e) % p) (zsum-chosen e el a d)
              ∙ ap (λ s. s % p) (let q : (p - 1) * csum X c e + csum X c e ≡ csum X c e + (p - 1) * csum X c e = omega arith in q)
              ∙ lacks p prime (csum X c e)))
              refl
              ∙ lacks p prime (zsum X chosen e)
          go false a = ap (λ s. (s + (p - 1) * zsum X chosen e) % p) (ssum-chosen e)
              ∙ ap (λ s. (ssum X c e + (p - 1) * s) % p) (zsum-none X chosen e (and_first (A e) (D e) a))
              ∙ ap (λ s. s % p) (let q : ssum X c e + (p - 1) * 0 ≡ 0 + ssum X c e = omega arith in q)
              ∙ ap (λ s. (s + ssum X c e) % p) (sym (no_constants X c e el a))
              ∙ both-sums e el

      layers-zero : CombinesToZero p layers (L.q_rows + L.t_rows) L.columns X chosen
      layers-zero = above-zero p L.q_rows L.t_rows L.columns L.q (numbers L.t (layered_values p M O v)) X chosen
          (λ i il. ap (λ s. s % p) (q-row X chosen i il) ∙ q-chosen (O.of_q i) (lay.q_rows.below i il) (lay.q_rows.member i il))
          (λ i il. ap (λ s. s % p) (sum_on-ext X L.columns (λ j. chosen j * numbers L.t (layered_values p M O v) i j) (λ j. chosen j * low i j)
          (λ j _ _. ap (λ s. chosen j * s) (low-is i j)))
          ∙ ap (λ s. s % p) (t-row X chosen i il) ∙ t-chosen (O.of_t i) (lay.t_rows.below i il) (lay.t_rows.member i il))

    -- ---- the ranks
    -- unknowns I and all auxiliary columns
    abbrev joined : (ℕ → Bool) → ℕ → Bool
    joined I j = cond (ltb j M.columns) (I j) true

    joined-unknown : (I : ℕ → Bool) (j : ℕ) → j < M.columns → joined I j ≡ I j
    joined-unknown I j jl = ap (λ b. cond b (I j) true) (ltb-first M.columns j jl)

    joined-auxiliary : (I : ℕ → Bool) (k : ℕ) → joined I (M.columns + k) ≡ true
    joined-auxiliary I k = ap (λ b. cond b (I (M.columns + k)) true) (ltb-next M.columns k)

    sum-joined : (X : ℕ → Bool) → ((k : ℕ) → k < O.split → X (M.columns + k) ≡ true) → size_on X L.columns ≡ size_on X M.columns + O.split
    sum-joined X all = ap (λ k. size_on X k) lay.columns ∙ sum_on-join X M.columns O.split (λ _. 1)
        ∙ ap (λ s. size_on X M.columns + s) (sum_on-same (λ k. X (M.columns + k)) everything O.split (λ _. 1) (λ k kl. all k kl)
        ∙ size-everything O.split)

    joined-independent : (I : ℕ → Bool) → IsIndependent p model M.rows M.columns I → IsIndependent p layers (L.q_rows + L.t_rows) L.columns (joined I)
    joined-independent I ind c z j jl jh = elim (lt_cases j M.columns) [
      | inl unknown ↦ at_unknown j unknown (sym (joined-unknown I j unknown) ∙ jh)
      | inr high ↦ subst (λ k. c k % p ≡ 0) (let q : M.columns + (j - M.columns) ≡ j = omega arith in q)
          (at_auxiliary (j - M.columns) (omega (arith, lay.columns)))
    ]
      where
        at_unknown : (k : ℕ) → k < M.columns → I k ≡ true → c k % p ≡ 0
        at_unknown = ind c (λ e el. ap (λ s. s % p) (sum_on-same I (joined I) M.columns (λ k. c k * model e k) (λ k kl. sym (joined-unknown I k kl)))
            ∙ model-zero (joined I) c z e el)

        at_auxiliary : (k : ℕ) → k < O.split → c (M.columns + k) % p ≡ 0
        at_auxiliary k kl = ap (λ s. s % p) (sym (zsum-at (joined I) c k kl (joined-auxiliary I k)))
            ∙ vanishes-rest p (csum (joined I) c (O.of_z k)) (zsum (joined I) c (O.of_z k))
            (q-zero (joined I) c z (O.of_z k) (lay.auxiliary.below k kl))
            (vanishes-sum p (joined I) M.columns (λ t. c t * M.constant (O.of_z k) t)
            (λ t tl th. vanishes_by p _ (M.constant (O.of_z k) t * c t) (omega arith)
            (vanishes-mul p (M.constant (O.of_z k) t) (c t) (at_unknown t tl (sym (joined-unknown I t tl) ∙ th)))))

    restricted-independent : (X : ℕ → Bool) → ((k : ℕ) → k < O.split → X (M.columns + k) ≡ true) → IsIndependent p layers
        (L.q_rows + L.t_rows) L.columns X → IsIndependent p model M.rows M.columns X
    restricted-independent X all ind c z j jl jh = ap (λ s. s % p) (sym (chosen-unknown X c all z j jl))
        ∙ ind (chosen X c all z) (layers-zero X c all z) j (omega (arith, lay.columns)) jh

    -- the rank of the layers is that of the model and one more for each split row
    pub layering-rank : (r : ℕ) → IsRank p model M.rows M.columns everything r → IsRank p layers (L.q_rows + L.t_rows) L.columns everything
        (r + O.split)
    layering-rank r R = record {
      reached = (
        joined R.reached.0,
        (λ _ _ _. refl),
        joined-independent R.reached.0 R.reached.2,
        omega (
          arith,
          sum-joined (joined R.reached.0) (λ k _. joined-auxiliary R.reached.0 k),
          sum_on-same
              (joined R.reached.0) R.reached.0 M.columns (λ _. 1) (joined-unknown R.reached.0),
          R.reached.3,
        ),
      );
      greatest = λ Y _ ind. go Y ind (basis p prime layers (L.q_rows + L.t_rows) L.columns everything (joined (λ _. false)) (λ _ _ _. refl)
          (joined-independent (λ _. false) (λ c s j l h. absurd (differ refl h))) L.columns);
    }
      where
        go : (Y : ℕ → Bool) → IsIndependent p layers (L.q_rows + L.t_rows) L.columns Y → Basis p layers
            (L.q_rows + L.t_rows) L.columns L.columns everything (joined (λ _. false)) → size_on Y L.columns ≤ r + O.split
        go Y ind B = omega (
          arith,
          (basis-rank p prime layers (L.q_rows + L.t_rows) L.columns everything (joined (λ _. false)) B).greatest Y (λ _ _ _. refl) ind,
          sum-joined B.I holds,
          R.greatest B.I (λ _ _ _. refl) (restricted-independent B.I holds B.independent),
        )
          where
            holds : (k : ℕ) → k < O.split → B.I (M.columns + k) ≡ true
            holds k kl = B.keeps (M.columns + k) (omega (arith, lay.columns)) (joined-auxiliary (λ _. false) k)
