-- Chains of lists: their first steps, and where they lead.
use Rattle.std.proofs.Common.{◌≡◌, ℕ, zero, suc, ◌<◌, ◌⊎◌, Bool, true, inl, inr, refl, sym, subst, arith}
use Rattle.closed_sets.specs.Walks.{Walk, Reaches, ReachesOn}
use Rattle.closed_sets.proofs.WalkLaws.{walk-join}
use Rattle.part_rules.specs.Laws.{AreFalling}

module _ (lower : ℕ → ℕ → Bool) (b : ℕ) where
  pub one-step : (l k : ℕ) → l < b → lower l k ≡ true → ReachesOn lower b l k
  one-step l k lb h = (0, (l, lb, refl, h))

  pub chain-join : (x y z : ℕ) → ReachesOn lower b x y → ReachesOn lower b y z → ReachesOn lower b x z
  chain-join x y z (k, w) (m, (v, l, u, h)) = go (walk-join lower b x y v (suc k) m w u)
    where
      go : Reaches lower b x v → ReachesOn lower b x z
      go (j, t) = (j, (v, l, t, h))

  -- the first step of a chain, and what is left of it
  pub first-step : (j l k : ℕ) → l < b → k < b → Walk lower b l k (suc j) → (m : ℕ) × (m < b) × (lower l m ≡ true) × ((m ≡ k) ⊎ ReachesOn lower b m k)
  first-step zero l k lb kb (z, zb, e, h) = (k, kb, subst (λ v. lower v k ≡ true) (sym e) h, inl refl)
  first-step (suc j) l k lb kb (z, zb, w, h) = go (first-step j l z lb zb w)
    where
      go : ((m : ℕ) × (m < b) × (lower l m ≡ true) × ((m ≡ z) ⊎ ReachesOn lower b m z)) → (m : ℕ) × (m < b)
          × (lower l m ≡ true) × ((m ≡ k) ⊎ ReachesOn lower b m k)
      go (m, mb, lm, inl same) = (m, mb, lm, inr (one-step m k mb (subst (λ v. lower v k ≡ true) (sym same) h)))
      go (m, mb, lm, inr chain) = (m, mb, lm, inr (chain-join m z k chain (one-step z k zb h)))

  module _ (falling : AreFalling lower) where
    walk-falls : (j l k : ℕ) → Walk lower b l k (suc j) → k < l
    walk-falls zero l k (z, zb, e, h) = omega (arith, falling k z h, e)
    walk-falls (suc j) l k (z, zb, w, h) = omega (arith, falling k z h, walk-falls j l z w)

    pub chain-falls : (l k : ℕ) → ReachesOn lower b l k → k < l
    chain-falls l k (j, w) = walk-falls j l k w
