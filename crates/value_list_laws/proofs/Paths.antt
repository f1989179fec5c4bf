-- Where a path leads from a place back to itself through other symbols, 1 at the place keeps the rank: the last symbol of
-- the path is changed, which makes the path shorter, until 1 at the place is regular.
use Rattle.std.proofs.Common.{◌≡◌, ℕ, zero, suc, ◌+◌, ◌-◌, ◌*◌, ◌%◌, ◌<◌, ◌≤◌, ◌≢◌, Bool, true, false, cond, ◌⊎◌, inl}
use Rattle.std.proofs.Common.{inr, refl, ap, sym, subst, ◌∙◌, arith}
use Rattle.std.proofs.Math.Nat.{mod-eq_of_lt, zero-mod}
use Rattle.residue_theory.proofs.CountLaws.{size-everything}
use Rattle.residue_theory.proofs.ResidueLaws.{agree-add, agree-mul, agree-sum, lacks, negative_inverse, one_non_zero}
use Rattle.residue_theory.proofs.ResidueLaws.{vanishes-mul, vanishes-rest, vanishes_by, vanishes_factor}
use Rattle.residue_theory.proofs.SetLaws.{differ, zero_cases}
use Rattle.residue_theory.proofs.SumLaws.{nat_cases, sum_on-add, sum_on-ext, sum_on-mul, sum_on-without, without-member}
use Rattle.residue_theory.specs.Residues.{IsPrime}
use Rattle.residue_theory.specs.Sets.{everything, without}
use Rattle.residue_theory.specs.Sums.{sum_below, sum_on}
use Rattle.linear_algebra.specs.Columns.{IsRank}
use Rattle.linear_algebra.specs.Parts.{with_entry}
use Rattle.linear_algebra.specs.Products.{IsInverse, identity, product}
use Rattle.linear_algebra_laws.proofs.Entries.{identity-other, identity-same, with_entry-there}
use Rattle.linear_algebra_laws.proofs.RankLaws.{rank-size, rank_of-independent}
use Rattle.mixed_matrices.specs.Models.{MixedMatrix, value}
use Rattle.value_list_laws.proofs.FixedRanks.{at-place, keeps-with, place-there, with_entry-else}
use Rattle.value_list_laws.proofs.KeptInverses.{inverse-independent}
use Rattle.value_list_laws.specs.FixedSymbols.{IsSymbolPlace, KeepsRank, ReachesRank, fixed_at, place}
use Rattle.value_list_laws.specs.Paths.{HasPath}

-- ---- an inverse after a change of one entry
-- e is added at (a, b); h is minus the inverse of 1 + e * G[b][a]
abbrev pub moved_inverse : (ℕ → ℕ → ℕ) → ℕ → ℕ → ℕ → ℕ → ℕ → ℕ → ℕ
moved_inverse G a b e h u t = G u t + G u a * (e * h * G b t)

module _ (p : ℕ) (prime : IsPrime p) (n : ℕ) (W V G : ℕ → ℕ → ℕ) (inv : IsInverse p n W G) (a b e h : ℕ) (al : a < n) (bl : b < n)
    (there : V a b % p ≡ (W a b + e) % p) (others : (r u : ℕ) → r < n → u < n → place a b r u ≡ false → V r u % p ≡ W r u % p)
    (negative : ((1 + e * G b a) * h + 1) % p ≡ 0) where
  -- what the rows of W make of the moved inverse
  through_w : (r t : ℕ) → sum_below n (λ u. W r u * moved_inverse G a b e h u t) ≡ product n W G r t + e * h * G b t * product n W G r a
  through_w r t =
      sum_on-ext everything n (λ u. W r u * moved_inverse G a b e h u t) (λ u. W r u * G u t + e * h * G b t * (W r u * G u a))
      (λ u _ _. spread (W r u) (G u t) (G u a) (e * h * G b t))
      ∙ sum_on-add everything n (λ u. W r u * G u t) (λ u. e * h * G b t * (W r u * G u a))
      ∙ ap (λ y. product n W G r t + y) (sum_on-mul everything n (e * h * G b t) (λ u. W r u * G u a))
    where
      spread : (x y z f : ℕ) → x * (y + z * f) ≡ x * y + f * (x * z)
      spread x y z f = omega arith

  first-agree : (x y z : ℕ) → x % p ≡ y % p → (x * z) % p ≡ (y * z) % p
  first-agree x y z h = ap (λ s. s % p) (let q : x * z ≡ z * x = omega arith in q) ∙ agree-mul p z x y h
      ∙ ap (λ s. s % p) (let q : z * y ≡ y * z = omega arith in q)

  w_times : (r t : ℕ) → r < n → t < n → sum_below n (λ u. W r u * moved_inverse G a b e h u t) % p ≡ (identity r t + e * h * G b t * identity r a) % p
  w_times r t rl tl = ap (λ y. y % p) (through_w r t)
      ∙ agree-add p (product n W G r t) (identity r t) (e * h * G b t * product n W G r a) (e * h * G b t * identity r a) (inv r t rl tl)
      (agree-mul p (e * h * G b t) (product n W G r a) (identity r a) (inv r a rl al))

  other : (r t : ℕ) → r < n → t < n → r ≢ a → product n V (moved_inverse G a b e h) r t % p ≡ identity r t % p
  other r t rl tl ne =
      agree-sum p everything n (λ u. V r u * moved_inverse G a b e h u t) (λ u. W r u * moved_inverse G a b e h u t)
      (λ u ul _. first-agree (V r u) (W r u) (moved_inverse G a b e h u t) (others r u rl ul (elsewhere u)))
      ∙ w_times r t rl tl
      ∙ ap (λ y. (identity r t + e * h * G b t * y) % p) (identity-other r a ne)
      ∙ ap (λ y. y % p) (let q : identity r t + e * h * G b t * 0 ≡ identity r t = omega arith in q)
    where
      elsewhere : (u : ℕ) → place a b r u ≡ false
      elsewhere u = go (place a b r u) refl
        where
          go : (q : Bool) → place a b r u ≡ q → place a b r u ≡ false
          go false k = k
          go true k = absurd (ne (at-place (λ x y. x ≡ a) a b r u k refl))

  same : (t : ℕ) → t < n → product n V (moved_inverse G a b e h) a t % p ≡ identity a t % p
  same t tl =
      ap (λ y. y % p) (sum_on-without everything n b (λ u. V a u * moved_inverse G a b e h u t) bl refl)
      ∙ agree-add p (sum_on (without everything b) n (λ u. V a u * moved_inverse G a b e h u t))
      (sum_on (without everything b) n (λ u. W a u * moved_inverse G a b e h u t))
      (V a b * moved_inverse G a b e h b t) ((W a b + e) * moved_inverse G a b e h b t) rest
      (first-agree (V a b) (W a b + e) (moved_inverse G a b e h b t) there)
      ∙ ap (λ y. y % p) (regrouped (sum_on (without everything b) n (λ u. W a u * moved_inverse G a b e h u t)) (W a b) (moved_inverse G a b e h b t)
      ∙ ap (λ y. y + e * moved_inverse G a b e h b t) (sym (sum_on-without everything n b (λ u. W a u * moved_inverse G a b e h u t) bl refl)))
      ∙ agree-add p (sum_below n (λ u. W a u * moved_inverse G a b e h u t)) (identity a t + e * h * G b t * identity a a)
      (e * moved_inverse G a b e h b t) (e * moved_inverse G a b e h b t) (w_times a t al tl) refl
      ∙ ap (λ y. (identity a t + e * h * G b t * y + e * moved_inverse G a b e h b t) % p) (identity-same a)
      ∙ ap (λ y. y % p) (collected (identity a t) e h (G b t) (G b a))
      ∙ agree-add p (identity a t) (identity a t) (e * G b t * ((1 + e * G b a) * h + 1)) 0 refl
      (vanishes-mul p (e * G b t) ((1 + e * G b a) * h + 1) negative ∙ sym (zero-mod p))
      ∙ ap (λ y. y % p) (let q : identity a t + 0 ≡ identity a t = omega arith in q)
    where
      regrouped : (x y z : ℕ) → x + (y + e) * z ≡ x + y * z + e * z
      regrouped x y z = omega arith

      collected : (k e h g c : ℕ) → k + e * h * g * 1 + e * (g + c * (e * h * g)) ≡ k + e * g * ((1 + e * c) * h + 1)
      collected k e h g c = omega arith

      rest : sum_on (without everything b) n (λ u. V a u * moved_inverse G a b e h u t) % p
          ≡ sum_on (without everything b) n (λ u. W a u * moved_inverse G a b e h u t) % p
      rest = agree-sum p (without everything b) n (λ u. V a u * moved_inverse G a b e h u t) (λ u. W a u * moved_inverse G a b e h u t)
          (λ u ul k. first-agree (V a u) (W a u) (moved_inverse G a b e h u t) (others a u al ul (elsewhere u (without-member everything b u k).1)))
        where
          elsewhere : (u : ℕ) → u ≢ b → place a b a u ≡ false
          elsewhere u ne = go (place a b a u) refl
            where
              go : (q : Bool) → place a b a u ≡ q → place a b a u ≡ false
              go false k = k
              go true k = absurd (ne (at-place (λ x y. y ≡ b) a b a u k refl))

  pub inverse-moved : IsInverse p n V (moved_inverse G a b e h)
  inverse-moved r t rl tl = elim (nat_cases r a) [
    | inl q ↦ subst (λ x. product n V (moved_inverse G a b e h) x t % p ≡ identity x t % p) (sym q) (same t tl)
    | inr ne ↦ other r t rl tl ne
  ]

module _ (p : ℕ) (prime : IsPrime p) (M : MixedMatrix) (square : M.rows ≡ M.columns) where
  abbrev Inverted : (ℕ → ℕ → ℕ) → (ℕ → ℕ → ℕ) → Type 0
  Inverted w G = IsInverse p M.columns (value M w) G

  non_zero-times : (x y : ℕ) → x % p ≢ 0 → y % p ≢ 0 → (x * y) % p ≢ 0
  non_zero-times x y nx ny z = ny (vanishes_factor p prime x y nx z)

  -- a symbol changed by e
  changed-inverse : (w G : ℕ → ℕ → ℕ) → Inverted w G → (a b : ℕ) → IsSymbolPlace M a b → (e h : ℕ) → ((1 + e * G b a) * h + 1) % p ≡ 0 →
      Inverted (with_entry w a b (w a b + e)) (moved_inverse G a b e h)
  changed-inverse w G inv a b at e h negative = inverse-moved p prime M.columns (value M w) (value M (with_entry w a b (w a b + e))) G inv a b e h
      (omega (arith, at.0, square)) at.1
      (ap (λ s. (M.constant a b + cond s (with_entry w a b (w a b + e) a b) 0) % p) at.2
      ∙ ap (λ y. (M.constant a b + y) % p) (with_entry-there w a b (w a b + e))
      ∙ ap (λ y. y % p) (let q : M.constant a b + (w a b + e) ≡ M.constant a b + w a b + e = omega arith in q)
      ∙ ap (λ s. (M.constant a b + cond s (w a b) 0 + e) % p) (sym at.2))
      (λ r u _ _ k. ap (λ y. (M.constant r u + cond (M.symbol r u) y 0) % p) (with_entry-else w a b (w a b + e) r u k))
      negative

  inverted-reaches : (w G : ℕ → ℕ → ℕ) → Inverted w G → ReachesRank p M w
  inverted-reaches w G inv = (
    M.columns,
    record {
      reached = (w, full);
      greatest = λ v s S. omega (arith, rank-size p (value M v) M.rows M.columns everything s S, size-everything M.columns);
    },
    full,
  )
    where
      full : IsRank p (value M w) M.rows M.columns everything M.columns
      full = subst (λ m. IsRank p (value M w) m M.columns everything M.columns) (sym square)
          (subst (λ r. IsRank p (value M w) M.columns M.columns everything r) (size-everything M.columns)
          (rank_of-independent p (value M w) M.columns M.columns everything (inverse-independent p prime M.columns (value M w) G inv)))

  module _ (big : 2 < p) (i j : ℕ) (here : IsSymbolPlace M i j) (d : ℕ) where
    abbrev Path : (ℕ → ℕ → ℕ) → ℕ → ℕ → Type 0
    Path G s b = HasPath p M G i j s b

    -- d takes the symbol to 1 without making M(w) singular
    regular-keeps : (w G : ℕ → ℕ → ℕ) → Inverted w G → (w i j + d) % p ≡ 1 % p → (1 + d * G j i) % p ≢ 0 → KeepsRank p M (fixed_at i j 1 M)
    regular-keeps w G inv to_one ne = go (negative_inverse p prime (1 + d * G j i) ne)
      where
        go : (h : ℕ) × (((1 + d * G j i) * h + 1) % p ≡ 0) → KeepsRank p M (fixed_at i j 1 M)
        go (h, negative) = keeps-with p M (place i j) (λ _ _. 1) (with_entry w i j (w i j + d))
            (λ k l _ q. at-place (λ x y. with_entry w i j (w i j + d) x y % p ≡ 1 % p) i j k l q
            (ap (λ y. y % p) (with_entry-there w i j (w i j + d)) ∙ to_one))
            (inverted-reaches (with_entry w i j (w i j + d)) (moved_inverse G i j d h) (changed-inverse w G inv i j here d h negative))

    -- a number to add at a symbol: 1 or 2
    record Step (G : ℕ → ℕ → ℕ) (a b : ℕ) : Type 0 where
      e : ℕ
      h : ℕ
      e_non_zero : e % p ≢ 0
      negative : ((1 + e * G b a) * h + 1) % p ≡ 0

    a_step : (G : ℕ → ℕ → ℕ) (a b : ℕ) → Step G a b
    a_step G a b = elim (zero_cases ((1 + 1 * G b a) % p)) [
      | inr ne ↦ made 1 (one_non_zero p prime 1 refl) ne
      | inl z ↦ made 2 (two_non_zero (2 % p) (mod-eq_of_lt big)) (λ y. one_non_zero p prime 1 refl
          (vanishes-rest p (1 + 2 * G b a) 1 (vanishes_by p (1 + 2 * G b a + 1) (2 * (1 + 1 * G b a)) (omega arith)
          (vanishes-mul p 2 (1 + 1 * G b a) z)) y))
    ]
      where
        two_non_zero : (u : ℕ) → u ≡ 2 → u ≢ 0
        two_non_zero u q z = omega arith

        made : (e : ℕ) → e % p ≢ 0 → (1 + e * G b a) % p ≢ 0 → Step G a b
        made e en ne = go (negative_inverse p prime (1 + e * G b a) ne)
          where
            go : (h : ℕ) × (((1 + e * G b a) * h + 1) % p ≡ 0) → Step G a b
            go (h, negative) = record { e = e; h = h; e_non_zero = en; negative = negative }

    module _ (G : ℕ → ℕ → ℕ) (a b : ℕ) (S : Step G a b) (last : G b i % p ≢ 0) where
      h_non_zero : S.h % p ≢ 0
      h_non_zero z = one_non_zero p prime 1 refl (vanishes-rest p ((1 + S.e * G b a) * S.h) 1 S.negative (vanishes-mul p (1 + S.e * G b a) S.h z))

      factor : (S.e * S.h * G b i) % p ≢ 0
      factor = non_zero-times (S.e * S.h) (G b i) (non_zero-times S.e S.h S.e_non_zero h_non_zero) last

      -- columns from which G does not lead to row a stay as they are
      stays : (u t : ℕ) → G u a % p ≡ 0 → moved_inverse G a b S.e S.h u t % p ≡ G u t % p
      stays u t z = agree-add p (G u t) (G u t) (G u a * (S.e * S.h * G b t)) 0 refl
          (ap (λ y. y % p) (let q : G u a * (S.e * S.h * G b t) ≡ S.e * S.h * G b t * G u a = omega arith in q)
          ∙ vanishes-mul p (S.e * S.h * G b t) (G u a) z ∙ sym (zero-mod p))
          ∙ ap (λ y. y % p) (let q : G u t + 0 ≡ G u t = omega arith in q)

      -- and from the others it leads to row i now, if it did not before
      leads : (u : ℕ) → G u a % p ≢ 0 → G u i % p ≡ 0 → moved_inverse G a b S.e S.h u i % p ≢ 0
      leads u ne z y = non_zero-times (G u a) (S.e * S.h * G b i) ne factor (vanishes-rest p (G u i) (G u a * (S.e * S.h * G b i)) y z)

    -- ---- a path cut at its first symbol from whose column G leads to row i
    -- from column u to row a through s symbols from whose columns G does not lead to row i
    Way : (ℕ → ℕ → ℕ) → ℕ → ℕ → ℕ → Type 0
    Way G zero u a = G u a % p ≢ 0
    Way G (suc s) u a = (c k : ℕ) × IsSymbolPlace M c k × (place i j c k ≡ false) × (G u c % p ≢ 0) × (G k i % p ≡ 0) × Way G s k a

    record Cut (G : ℕ → ℕ → ℕ) (s u : ℕ) : Type 0 where
      length : ℕ
      shorter : length ≤ s
      a : ℕ
      b : ℕ
      at : IsSymbolPlace M a b
      beside : place i j a b ≡ false
      last : G b i % p ≢ 0
      way : Way G length u a

    cut : (G : ℕ → ℕ → ℕ) (s u : ℕ) → Path G (suc s) u → Cut G s u
    unfolding Way
    cut G zero u (c, k, at, beside, lead, end) = record { length = 0; shorter = omega arith; a = c; b = k; at = at; beside = beside; last = end; way = lead }
    cut G (suc s) u (c, k, at, beside, lead, rest) = go (zero_cases (G k i % p)) (cut G s k rest)
      where
        go : (G k i % p ≡ 0) ⊎ (G k i % p ≢ 0) → Cut G s k → Cut G (suc s) u
        go (inr ne) C = record { length = 0; shorter = omega arith; a = c; b = k; at = at; beside = beside; last = ne; way = lead }
        go (inl z) C = record {
          length = suc C.length;
          shorter = omega (arith, C.shorter);
          a = C.a;
          b = C.b;
          at = C.at;
          beside = C.beside;
          last = C.last;
          way = (c, k, at, beside, lead, z, C.way);
        }

    -- after the change the way leads to row i
    led : (G : ℕ → ℕ → ℕ) (a b : ℕ) (S : Step G a b) → G b i % p ≢ 0 → (s u : ℕ) → Way G s u a → G u i % p ≡ 0 →
        (t : ℕ) × (t ≤ s) × Path (moved_inverse G a b S.e S.h) t u
    unfolding Way
    led G a b S last zero u lead z = (0, omega arith, leads G a b S last u lead z)
    led G a b S last (suc s) u (c, k, at, beside, lead, none, rest) z = go (zero_cases (G u a % p)) (led G a b S last s k rest none)
      where
        go : (G u a % p ≡ 0) ⊎ (G u a % p ≢ 0) → (t : ℕ) × (t ≤ s) × Path (moved_inverse G a b S.e S.h) t k →
            (t : ℕ) × (t ≤ suc s) × Path (moved_inverse G a b S.e S.h) t u
        go (inr ne) _ = (0, omega arith, leads G a b S last u ne z)
        go (inl zero_there) (t, le, path) = (
          suc t,
          omega arith,
          (c, k, at, beside, (λ y. lead (sym (stays G a b S last u c zero_there) ∙ y)), path),
        )

    -- ---- shorter and shorter paths
    after_cut : (fuel s : ℕ) → s ≤ fuel → (w G : ℕ → ℕ → ℕ) → Inverted w G → (w i j + d) % p ≡ 1 % p → (1 + d * G j i) % p ≡ 0 →
        ((t : ℕ) → t < s → (v F : ℕ → ℕ → ℕ) → Inverted v F → (v i j + d) % p ≡ 1 % p → Path F (suc t) j → KeepsRank p M (fixed_at i j 1 M)) →
        Cut G s j → KeepsRank p M (fixed_at i j 1 M)
    unfolding Way
    after_cut fuel s le w G inv to_one tie shorter C = at_way C.length C.way C.shorter
      where
        v-inverted : Inverted (with_entry w C.a C.b (w C.a C.b + (a_step G C.a C.b).e)) (moved_inverse G C.a C.b (a_step G C.a C.b).e (a_step G C.a C.b).h)
        v-inverted = changed-inverse w G inv C.a C.b C.at (a_step G C.a C.b).e (a_step G C.a C.b).h (a_step G C.a C.b).negative

        turned : place C.a C.b i j ≡ false
        turned = go (place C.a C.b i j) refl
          where
            go : (q : Bool) → place C.a C.b i j ≡ q → place C.a C.b i j ≡ false
            go false k = k
            go true k = absurd (differ C.beside (at-place (λ x y. place x y C.a C.b ≡ true) C.a C.b i j k (place-there C.a C.b)))

        v-to_one : (with_entry w C.a C.b (w C.a C.b + (a_step G C.a C.b).e) i j + d) % p ≡ 1 % p
        v-to_one = ap (λ y. (y + d) % p) (with_entry-else w C.a C.b (w C.a C.b + (a_step G C.a C.b).e) i j turned) ∙ to_one

        d_non_zero : d % p ≢ 0
        d_non_zero z = one_non_zero p prime 1 refl (vanishes-rest p (d * G j i) 1
            (vanishes_by p (d * G j i + 1) (1 + d * G j i) (omega arith) tie)
            (vanishes_by p (d * G j i) (G j i * d) (omega arith) (vanishes-mul p (G j i) d z)))

        -- row a is met from the place itself: now 1 is regular there
        direct : G j C.a % p ≢ 0 → KeepsRank p M (fixed_at i j 1 M)
        direct ne = regular-keeps (with_entry w C.a C.b (w C.a C.b + (a_step G C.a C.b).e)) (moved_inverse G C.a C.b (a_step G C.a C.b).e (a_step G C.a C.b).h)
            v-inverted v-to_one
            (λ y. non_zero-times d (G j C.a * ((a_step G C.a C.b).e * (a_step G C.a C.b).h * G C.b i)) d_non_zero
            (non_zero-times (G j C.a) ((a_step G C.a C.b).e * (a_step G C.a C.b).h * G C.b i) ne (factor G C.a C.b (a_step G C.a C.b) C.last))
            (vanishes-rest p (1 + d * G j i) (d * (G j C.a * ((a_step G C.a C.b).e * (a_step G C.a C.b).h * G C.b i)))
            (vanishes_by p _ (1 + d * (G j i + G j C.a * ((a_step G C.a C.b).e * (a_step G C.a C.b).h * G C.b i))) (omega arith) y) tie))

        at_way : (t : ℕ) → Way G t j C.a → t ≤ s → KeepsRank p M (fixed_at i j 1 M)
        at_way zero lead _ = direct lead
        at_way (suc t) (c, k, at, beside, lead, none, rest) small = elim (zero_cases (G j C.a % p)) [
          | inr ne ↦ direct ne
          | inl z ↦ go z (led G C.a C.b (a_step G C.a C.b) C.last t k rest none)
        ]
          where
            go : G j C.a % p ≡ 0 → (q : ℕ) × (q ≤ t) × Path (moved_inverse G C.a C.b (a_step G C.a C.b).e (a_step G C.a C.b).h) q k →
                KeepsRank p M (fixed_at i j 1 M)
            go z (q, le, path) = shorter q (omega arith) (with_entry w C.a C.b (w C.a C.b + (a_step G C.a C.b).e))
                (moved_inverse G C.a C.b (a_step G C.a C.b).e (a_step G C.a C.b).h) v-inverted v-to_one
                (c, k, at, beside, (λ y. lead (sym (stays G C.a C.b (a_step G C.a C.b) C.last j c z) ∙ y)), path)

    keeps_by : (fuel s : ℕ) → s ≤ fuel → (w G : ℕ → ℕ → ℕ) → Inverted w G → (w i j + d) % p ≡ 1 % p → Path G (suc s) j → KeepsRank p M (fixed_at i j 1 M)
    keeps_by zero s le w G inv to_one path = elim (zero_cases ((1 + d * G j i) % p)) [
      | inr ne ↦ regular-keeps w G inv to_one ne
      | inl tie ↦ after_cut zero s le w G inv to_one tie (λ t tl. absurd (omega arith)) (cut G s j path)
    ]
    keeps_by (suc fuel) s le w G inv to_one path = elim (zero_cases ((1 + d * G j i) % p)) [
      | inr ne ↦ regular-keeps w G inv to_one ne
      | inl tie ↦ after_cut (suc fuel) s le w G inv to_one tie (λ t tl v F. keeps_by fuel t (omega arith) v F) (cut G s j path)
    ]

    pub path-keeps : (s : ℕ) → 0 < s → (w G : ℕ → ℕ → ℕ) → Inverted w G → (w i j + d) % p ≡ 1 % p → Path G s j → KeepsRank p M (fixed_at i j 1 M)
    path-keeps zero pos w G inv to_one path = absurd (omega arith)
    path-keeps (suc s) pos w G inv to_one path = keeps_by s s (omega arith) w G inv to_one path

-- what takes x to 1
pub to-one : (p : ℕ) → IsPrime p → (x : ℕ) → (x + (1 + (p - 1) * x)) % p ≡ 1 % p
to-one p prime x = ap (λ s. s % p) (let q : x + (1 + (p - 1) * x) ≡ 1 + (x + (p - 1) * x) = omega arith in q)
    ∙ agree-add p 1 1 (x + (p - 1) * x) 0 refl (lacks p prime x ∙ sym (zero-mod p))
