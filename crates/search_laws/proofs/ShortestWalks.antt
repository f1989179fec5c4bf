-- Of a shortest walk.
use Rattle.std.proofs.Common.{◌≡◌, ℕ, zero, suc, ◌+◌, ◌-◌, ◌<◌, ◌≤◌, Bool, true, ◌⊎◌, inl, inr, refl, sym, subst, arith}
use Rattle.closed_sets.specs.Walks.{Walk}
use Rattle.residue_theory.proofs.SetLaws.{lt_cases}
use Rattle.search_laws.specs.Searches.{IsShortest}

module _ (arc : ℕ → ℕ → Bool) (n : ℕ) (starts ends : ℕ → Bool) (at : ℕ → ℕ) (k : ℕ) (W : IsShortest arc n starts ends at k) where
  -- the part of the walk up to place i
  pub head_part : (i : ℕ) → i ≤ k → Walk arc n (at 0) (at i) i
  head_part zero le = refl
  head_part (suc i) le = (
    at i,
    W.below i (omega arith),
    head_part i (omega arith),
    subst (λ v. arc (at i) (at v) ≡ true) (omega arith) (W.follows i (omega arith)),
  )

  -- a walk of m arcs from v to place j goes on to the end
  go_on : (v j m r : ℕ) → j + r ≡ k → Walk arc n v (at j) m → Walk arc n v (at k) (m + r)
  go_on v j m zero e w = subst (λ u. Walk arc n v (at k) u) (omega arith) (subst (λ u. Walk arc n v (at u) m) (omega arith) w)
  go_on v j m (suc r) e w = subst (λ u. Walk arc n v (at k) u) (omega arith)
      (go_on v (j + 1) (suc m) r (omega arith) (at j, W.below j (omega arith), w, W.follows j (omega arith)))

  -- no walk of fewer than j arcs leads from a start to place j
  pub no_fewer : (v j m : ℕ) → v < n → starts v ≡ true → j ≤ k → Walk arc n v (at j) m → j ≤ m
  no_fewer v j m vl st le w = omega (arith, W.least v (at k) (m + (k - j)) vl (W.below k (omega arith)) st W.stops (go_on v j m (k - j) (omega arith) w))

  pub no_shortcut : (i j : ℕ) → j ≤ k → i + 1 < j → arc (at i) (at j) ≡ true → ⊥
  no_shortcut i j le less a = omega (
    arith,
    no_fewer (at 0) j (suc i) (W.below 0 (omega arith)) W.begins le
        (at i, W.below i (omega arith), head_part i (omega arith), a),
  )

  -- no place but the first is a start, and none but the last an end
  pub one_start : (i : ℕ) → i ≤ k → starts (at i) ≡ true → i ≡ 0
  one_start i le st = omega (arith, no_fewer (at i) i 0 (W.below i le) st le refl)

  pub one_end : (i : ℕ) → i ≤ k → ends (at i) ≡ true → i ≡ k
  one_end i le e = omega (arith, W.least (at 0) (at i) i (W.below 0 (omega arith)) (W.below i le) W.begins e (head_part i le))

  -- the places differ
  no_repeat : (i j : ℕ) → i < j → j ≤ k → at i ≡ at j → ⊥
  no_repeat i j less le e = omega (
    arith,
    no_fewer (at 0) j i (W.below 0 (omega arith)) W.begins le
        (subst (λ u. Walk arc n (at 0) u i) e (head_part i (omega arith))),
  )

  pub places_differ : (i j : ℕ) → i ≤ k → j ≤ k → at i ≡ at j → i ≡ j
  places_differ i j il jl e = go (lt_cases i j) (lt_cases j i)
    where
      go : (i < j) ⊎ (j ≤ i) → (j < i) ⊎ (i ≤ j) → i ≡ j
      go (inl l) _ = absurd (no_repeat i j l jl e)
      go (inr g) (inl l) = absurd (no_repeat j i l il (sym e))
      go (inr g) (inr h) = omega arith
