-- Equations whose rows have columns are independent; one that joins them in vain has its circuit in the reached rows.
use Rattle.std.proofs.Common.{◌≡◌, ◌≢◌, ℕ, ◌+◌, ◌*◌, ◌%◌, ◌<◌, Bool, true, false, eqb, not, ◌&&◌, ◌||◌, ◌⊎◌, inl, inr}
use Rattle.std.proofs.Common.{refl, ap, sym, subst, ◌∙◌, arith}
use Rattle.std.proofs.lemmas.Bool.Decides.{nat_tests}
use Rattle.residue_theory.proofs.SetLaws.{both_true, differ, eqb_true, first_on, with_one-member, with_one-new}
use Rattle.residue_theory.proofs.SumLaws.{member-without, nat_cases, size_on-within, sum_on-ext, without-member}
use Rattle.residue_theory.specs.Residues.{IsPrime}
use Rattle.residue_theory.specs.Sets.{IsWithin, both, everything, with_one, without}
use Rattle.residue_theory.specs.Sums.{size_on}
use Rattle.linear_algebra.specs.Products.{identity}
use Rattle.linear_algebra_laws.proofs.Products.{sum-identity_right}
use Rattle.mixed_matrices.specs.LayeredMatrices.{LayeredMatrix}
use Rattle.mixed_matrices.specs.Layerings.{IsLayering, Origins}
use Rattle.mixed_matrices.specs.Models.{MixedMatrix}
use Rattle.mixed_matrices.specs.Tableaus.{IsTableau, Tableau}
use Rattle.mixed_layering_laws.proofs.Members.{member-at, member-index, members-distinct}
use Rattle.equation_matroid_laws.proofs.Matroids.{IsLargest, largest-same, size-grown, size-shrunk}
use Rattle.equation_matroid_laws.proofs.RowRanks.{Free, largest-rank, rank-largest, rank_exists-of, rank_unique-of}
use Rattle.equation_matroid_laws.specs.Conflicts.{IsInCircuit, IsSurplusAmong}
use Rattle.equation_matroid_laws.specs.EquationRanks.{AreIndependent, IsRankOf}
use Rattle.row_choice_laws.proofs.ReachedRows.{closed, q_place, reached-surplus, surplus-reached, surplus-used, t_place}
use Rattle.row_choice_laws.proofs.ReachedRows.{used-surplus}
use Rattle.row_choice_laws.proofs.RowPlaces.{leads-holds, q-entry, q-row, t-column, t-row}
use Rattle.row_choice_laws.specs.RowSearches.{HaveRows, IsJoining, IsOnRowsOf, AreRowsReachedInVain, bare_of}
use Rattle.row_choice_laws.specs.RowSearches.{is_bare_row}
use Rattle.row_choice_laws.specs.RowSearches.{is_row_of, places}

module _ (p : ℕ) (prime : IsPrime p) (M : MixedMatrix) where
  same-rank : (X Y : ℕ → Bool) (r : ℕ) → IsWithin M.rows X Y → IsWithin M.rows Y X → IsRankOf p M X r → IsRankOf p M Y r
  same-rank X Y r there back R = largest-rank p prime M Y r (largest-same M.rows (Free p prime M) X Y r there back (rank-largest p prime M X r R))

  -- of dependent equations one is surplus
  pub independent-or_surplus : (K : ℕ → Bool) → AreIndependent p M K ⊎ ((x : ℕ) × (x < M.rows) × (K x ≡ true) × IsSurplusAmong p M K x)
  independent-or_surplus K = go (rank_exists-of p prime M K)
    where
      go : (r : ℕ) × IsRankOf p M K r → AreIndependent p M K ⊎ ((x : ℕ) × (x < M.rows) × (K x ≡ true) × IsSurplusAmong p M K x)
      go (r, R) = at (rank-largest p prime M K r R)
        where
          at : IsLargest M.rows (Free p prime M) K r → AreIndependent p M K ⊎ ((x : ℕ) × (x < M.rows) × (K x ≡ true) × IsSurplusAmong p M K x)
          at big = elim (first_on (λ x. K x && not (big.reached.0 x)) M.rows) [
            | inl (x, xl, h) ↦ inr (
              x,
              xl,
              first (K x) (big.reached.0 x) h,
              (
                r,
                R,
                largest-rank p prime M (without K x) r (record {
                  reached = (
                    big.reached.0,
                    (λ j jl g. member-without K x j (big.reached.1 j jl g)
                        (λ q. differ (second (K x) (big.reached.0 x) h) (subst (λ i. big.reached.0 i ≡ true) q g))),
                    big.reached.2,
                    big.reached.3,
                  );
                  greatest = λ Z within free. big.greatest Z (λ j jl g. (without-member K x j (within j jl g)).0) free;
                }),
              ),
            )
            | inr none ↦ inl (subst (λ s. IsRankOf p M K s) (omega (
              arith,
              big.reached.3,
              size_on-within big.reached.0 K M.rows (λ j jl g. inside (K j) (big.reached.0 j) (none j jl) g),
              size_on-within K big.reached.0 M.rows big.reached.1,
            )) R)
          ]
            where
              first : (a b : Bool) → a && not b ≡ true → a ≡ true
              first a b h = grind arith

              second : (a b : Bool) → a && not b ≡ true → b ≡ false
              second a b h = grind arith

              inside : (a b : Bool) → a && not b ≡ false → a ≡ true → b ≡ true
              inside a b h k = grind arith

  -- a member of dependent equations that is surplus among them
  pub surplus-dependent : (K : ℕ → Bool) (x : ℕ) → x < M.rows → K x ≡ true → IsSurplusAmong p M K x → AreIndependent p M K → ⊥
  surplus-dependent K x xl k (r, R, T) ind = omega (
    arith,
    rank_unique-of p prime M K r (size_on K M.rows) R ind,
    size-shrunk M.rows K x xl k,
    at_most (rank-largest p prime M (without K x) r T),
  )
    where
      at_most : IsLargest M.rows (Free p prime M) (without K x) r → size_on (without K x) M.rows < r → ⊥
      at_most big = λ less. omega (arith, less, big.reached.3, size_on-within (without K x) big.reached.0 M.rows big.reached.1)

  module _ (B : ℕ → Bool) (f : ℕ) (fl : f < M.rows) (new : B f ≡ false) (ind : AreIndependent p M B)
      (surplus : IsSurplusAmong p M (with_one B f) f) where
    old_rank : IsRankOf p M (with_one B f) (size_on B M.rows)
    old_rank = at surplus
      where
        leave : (b e : Bool) → (b || e) && not e ≡ true → b ≡ true
        leave b e h = grind arith

        at : IsSurplusAmong p M (with_one B f) f → IsRankOf p M (with_one B f) (size_on B M.rows)
        at (r, R, T) = subst (λ k. IsRankOf p M (with_one B f) k) (rank_unique-of p prime M B r (size_on B M.rows)
            (same-rank (without (with_one B f) f) B r (λ j jl h. leave (B j) (eqb j f) h)
            (λ j jl h. member-without (with_one B f) f j (with_one-member B f j h) (λ q. differ new (subst (λ i. B i ≡ true) q h))) T) ind) R

    module _ (x : ℕ) (xl : x < M.rows) (held : B x ≡ true) where
      apart : x ≢ f
      apart q = differ new (subst (λ i. B i ≡ true) q held)

      there : IsWithin M.rows (without (with_one B f) x) (with_one (without B x) f)
      there j jl h = at (B j) (eqb j f) (eqb j x) h
        where
          at : (b e g : Bool) → (b || e) && not g ≡ true → (b && not g) || e ≡ true
          at b e g h = grind arith

      back : IsWithin M.rows (with_one (without B x) f) (without (with_one B f) x)
      back j jl h = elim (nat_cases j x) [
        | inl q ↦ absurd (apart (sym q ∙ eqb_true j f (here (B j) (eqb j f) (eqb j x) h (itself j q))))
        | inr ne ↦ member-without (with_one B f) x j (away (B j) (eqb j f) (eqb j x) h) ne
      ]
        where
          itself : (j : ℕ) → j ≡ x → eqb j x ≡ true
          itself j q = grind (arith, nat_tests)

          here : (b e g : Bool) → (b && not g) || e ≡ true → g ≡ true → e ≡ true
          here b e g h k = grind arith

          away : (b e g : Bool) → (b && not g) || e ≡ true → b || e ≡ true
          away b e g h = grind arith

      same-size : size_on (with_one (without B x) f) M.rows ≡ size_on B M.rows
      same-size = omega (arith, size-grown M.rows (without B x) f fl (gone (B f) (eqb f x) new), size-shrunk M.rows B x xl held)
        where
          gone : (b g : Bool) → b ≡ false → b && not g ≡ false
          gone b g h = grind arith

      pub circuit-surplus : IsInCircuit p M B f x → IsSurplusAmong p M (with_one B f) x
      circuit-surplus (inl q) = absurd (apart q)
      circuit-surplus (inr (_, free)) = (
        size_on B M.rows,
        old_rank,
        same-rank (with_one (without B x) f) (without (with_one B f) x) (size_on B M.rows) back there
            (subst (λ k. IsRankOf p M (with_one (without B x) f) k) same-size free),
      )

      pub surplus-circuit : IsSurplusAmong p M (with_one B f) x → IsInCircuit p M B f x
      surplus-circuit (r, R, T) = inr (
        held,
        same-rank (without (with_one B f) x) (with_one (without B x) f) (size_on (with_one (without B x) f) M.rows) there back
            (subst (λ k. IsRankOf p M (without (with_one B f) x) k)
            (rank_unique-of p prime M (with_one B f) r (size_on B M.rows) R old_rank ∙ sym same-size) T),
      )

module _ (p : ℕ) (prime : IsPrime p) (big : 2 < p) (M : MixedMatrix) (A D : ℕ → Bool) (L : LayeredMatrix) (O : Origins) (lay : IsLayering M A D L O)
    (S U : ℕ → ℕ → ℕ) (F : Tableau) (tab : IsTableau p L S U F) where
  -- ---- all rows have columns
  module _ (K : ℕ → Bool) (on : IsOnRowsOf p L O S F K) (rows : HaveRows M A D K)
      (used : (r : ℕ) → r < places L → is_row_of L O K r ≡ true → is_bare_row L F r ≡ false) where
    pub none : ℕ → Bool
    none r = false

    no_start : (s : ℕ) → s < places L → bare_of L O F K s ≡ true → ⊥
    no_start s sl h = differ (used s sl (first (is_row_of L O K s) (is_bare_row L F s) h)) (second (is_row_of L O K s) (is_bare_row L F s) h)
      where
        first : (a b : Bool) → a && b ≡ true → a ≡ true
        first a b h = grind arith

        second : (a b : Bool) → a && b ≡ true → b ≡ true
        second a b h = grind arith

    pub in_vain : AreRowsReachedInVain p L O F K none
    unfolding none
    in_vain = record {
      reached = λ y yl. ((λ h. absurd (differ refl h)), (λ (s, sl, sh, _). absurd (no_start s sl sh)));
      vain = λ e el eh (s, sl, sh, _). no_start s sl sh;
    }

    pub rows-independent : AreIndependent p M K
    unfolding none
    rows-independent = elim (independent-or_surplus p prime M K) [ inl ind ↦ ind | inr (x, xl, k, s) ↦ absurd (at x xl k s (D x) refl (rows x xl k)) ]
      where
        by_t : (x : ℕ) → x < M.rows → K x ≡ true → IsSurplusAmong p M K x → D x ≡ true → ⊥
        by_t x xl k s d = differ refl (surplus-reached p prime M A D L O lay S U F tab K none on in_vain big (size_on D x)
            (member-index D M.rows O.of_t L.t_rows lay.t_rows x xl d) (subst (λ i. K i ≡ true) (sym e) k) (subst (λ i. IsSurplusAmong p M K i) (sym e) s))
          where
            e : O.of_t (size_on D x) ≡ x
            e = member-at D M.rows O.of_t L.t_rows lay.t_rows x xl d

        by_q : (x : ℕ) → x < M.rows → K x ≡ true → IsSurplusAmong p M K x → D x ≡ false → A x ≡ true → ⊥
        by_q x xl k s d a = go (surplus-used p prime M A D L O lay S U F tab K none on in_vain big (size_on A x)
            (member-index A M.rows O.of_q L.q_rows lay.q_rows x xl a) (subst (λ i. K i ≡ true) (sym e) k) (subst (λ i. D i ≡ false) (sym e) d)
            (subst (λ i. IsSurplusAmong p M K i) (sym e) s))
          where
            e : O.of_q (size_on A x) ≡ x
            e = member-at A M.rows O.of_q L.q_rows lay.q_rows x xl a

            go : (i : ℕ) × (i < L.q_rows) × (none i ≡ true) × (S i (size_on A x) % p ≢ 0) → ⊥
            go (i, il, w, _) = differ refl w

        at : (x : ℕ) → x < M.rows → K x ≡ true → IsSurplusAmong p M K x → (b : Bool) → D x ≡ b → (A x ≡ true) ⊎ (D x ≡ true) → ⊥
        at x xl k s true d _ = by_t x xl k s d
        at x xl k s false d (inr h) = differ d h
        at x xl k s false d (inl a) = by_q x xl k s d a

  -- ---- an equation that joins
  module _ (B : ℕ → Bool) (f : ℕ) (fl : f < M.rows) (row : (A f ≡ true) ⊎ (D f ≡ true)) (join : IsJoining p M A L O S F B f)
      (W : ℕ → Bool) (reach : AreRowsReachedInVain p L O F (with_one B f) W) where
    abbrev K : ℕ → Bool
    K = with_one B f

    member : K f ≡ true
    member = with_one-new B f

    start : (r : ℕ) → r < places L → is_row_of L O K r ≡ true → is_bare_row L F r ≡ true → W r ≡ true
    start r rl k b = (closed p prime M A D L O lay S U F tab K W join.on reach).holds_starts r rl (both_true (is_row_of L O K r) (is_bare_row L F r) k b)

    -- P has the entry of S at the auxiliary column
    auxiliary : (i k : ℕ) → i < L.q_rows → k < O.split → O.of_q i ≡ O.of_z k → F.P i (M.columns + k) % p ≡ S i i % p
    auxiliary i k il kl q = tab.product i (M.columns + k) il (omega (arith, lay.columns, kl))
        ∙ ap (λ y. y % p) (sum_on-ext everything L.q_rows (λ t. S i t * L.q t (M.columns + k)) (λ t. S i t * identity t i)
        (λ t tl _. ap (λ y. S i t * y) (lay.q_auxiliary t k tl kl ∙ same t tl)) ∙ sum-identity_right L.q_rows i (S i) il)
      where
        yes : (x y u v : ℕ) → x ≡ y → u ≡ v → identity x y ≡ identity u v
        yes x y u v g h = grind (arith, nat_tests)

        no_one : (x y u v : ℕ) → x ≢ y → u ≢ v → identity x y ≡ identity u v
        no_one x y u v g h = grind (arith, nat_tests)

        same : (t : ℕ) → t < L.q_rows → identity (O.of_q t) (O.of_z k) ≡ identity t i
        same t tl = elim (nat_cases t i) [
          | inl e ↦ yes (O.of_q t) (O.of_z k) t i (ap O.of_q e ∙ q) e
          | inr ne ↦ no_one (O.of_q t) (O.of_z k) t i
              (λ h. ne (members-distinct A M.rows O.of_q L.q_rows lay.q_rows t i tl il (h ∙ sym q))) ne
        ]

    pub joined-surplus : IsSurplusAmong p M K f
    joined-surplus = at (D f) refl (A f) refl row
      where
        d_index : D f ≡ true → size_on D f < L.t_rows
        d_index h = member-index D M.rows O.of_t L.t_rows lay.t_rows f fl h

        d_at : D f ≡ true → O.of_t (size_on D f) ≡ f
        d_at h = member-at D M.rows O.of_t L.t_rows lay.t_rows f fl h

        a_index : A f ≡ true → size_on A f < L.q_rows
        a_index h = member-index A M.rows O.of_q L.q_rows lay.q_rows f fl h

        a_at : A f ≡ true → O.of_q (size_on A f) ≡ f
        a_at h = member-at A M.rows O.of_q L.q_rows lay.q_rows f fl h

        of_f : (e : ℕ) → e ≡ f → K e ≡ true
        of_f e q = subst (λ i. K i ≡ true) (sym q) member

        q_reached : A f ≡ true → W (size_on A f) ≡ true
        q_reached a = start (size_on A f) (q_place p prime M A D L O lay S U F tab K W join.on reach (size_on A f) (a_index a))
            (q-row L O K (size_on A f) (a_index a) (of_f (O.of_q (size_on A f)) (a_at a))) (join.own (size_on A f) (a_index a) (a_at a)).0

        t_told : (d : D f ≡ true) → W (L.q_rows + size_on D f) ≡ true → IsSurplusAmong p M K f
        t_told d w = subst (λ i. IsSurplusAmong p M K i) (d_at d) (reached-surplus p prime M A D L O lay S U F tab K W join.on reach big (size_on D f)
            (d_index d) (of_f (O.of_t (size_on D f)) (d_at d)) w)

        at : (d : Bool) → D f ≡ d → (a : Bool) → A f ≡ a → (A f ≡ true) ⊎ (D f ≡ true) → IsSurplusAmong p M K f
        at true d false a _ = t_told d (start (L.q_rows + size_on D f)
            (t_place p prime M A D L O lay S U F tab K W join.on reach (size_on D f) (d_index d))
            (t-row L O K (size_on D f) (of_f (O.of_t (size_on D f)) (d_at d))) (join.single (size_on D f) (d_index d) (d_at d) a))
        at true d true a _ = t_told d ((closed p prime M A D L O lay S U F tab K W join.on reach).follows (size_on A f) (L.q_rows + size_on D f)
            (q_place p prime M A D L O lay S U F tab K W join.on reach (size_on A f) (a_index a))
            (t_place p prime M A D L O lay S U F tab K W join.on reach (size_on D f) (d_index d)) (q_reached a)
            (leads-holds p L F (size_on A f) (L.q_rows + size_on D f) (M.columns + size_on (both A D) f) (omega (arith, lay.columns, z_index))
            (q-entry p L F (size_on A f) (M.columns + size_on (both A D) f) (a_index a)
            (λ z. (join.own (size_on A f) (a_index a) (a_at a)).1
            (sym (auxiliary (size_on A f) (size_on (both A D) f) (a_index a) z_index (a_at a ∙ sym z_at)) ∙ z)))
            (t-column p L F (size_on D f) (M.columns + size_on (both A D) f) paired.0 paired.1)))
          where
            split : both A D f ≡ true
            split = both_true (A f) (D f) a d

            z_index : size_on (both A D) f < O.split
            z_index = member-index (both A D) M.rows O.of_z O.split lay.auxiliary f fl split

            z_at : O.of_z (size_on (both A D) f) ≡ f
            z_at = member-at (both A D) M.rows O.of_z O.split lay.auxiliary f fl split

            paired : (F.matched (M.columns + size_on (both A D) f) ≡ true) × (F.mate (M.columns + size_on (both A D) f) ≡ size_on D f)
            paired = join.split (size_on D f) (size_on (both A D) f) (d_index d) z_index (d_at d) z_at
        at false d true a _ = subst (λ i. IsSurplusAmong p M K i) (a_at a) (used-surplus p prime M A D L O lay S U F tab K W join.on reach big (size_on A f)
            (a_index a) (of_f (O.of_q (size_on A f)) (a_at a)) (subst (λ i. D i ≡ false) (sym (a_at a)) d)
            (size_on A f, a_index a, q_reached a, (join.own (size_on A f) (a_index a) (a_at a)).1))
        at false d false a (inl h) = absurd (differ a h)
        at false d false a (inr h) = absurd (differ d h)

    pub joined-dependent : AreIndependent p M K → ⊥
    joined-dependent = surplus-dependent p prime M K f fl member joined-surplus
