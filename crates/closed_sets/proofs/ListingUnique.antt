-- Two listings of the blocks are the same.
use Rattle.std.proofs.Common.{◌≡◌, ℕ, zero, suc, ◌<◌, ◌≤◌, ◌≢◌, Bool, ◌⊎◌, inl, inr, sym, ◌∙◌, arith}
use Rattle.closed_sets.specs.Walks.{Reaches}
use Rattle.closed_sets.specs.Closed.{IsMiddle}
use Rattle.closed_sets.specs.Blocks.{IsListing}
use Rattle.residue_theory.proofs.SumLaws.{nat_cases}
use Rattle.residue_theory.proofs.SetLaws.{lt_cases}

module _ (arc : ℕ → ℕ → Bool) (n : ℕ) (starts ends : ℕ → Bool) where
  abbrev Middle : ℕ → Type 0
  Middle x = IsMiddle arc n starts ends x

  -- the first k blocks are the same
  record SameBelow (f g : ℕ → ℕ) (k : ℕ) : Type 0 where
    to : (x : ℕ) → IsMiddle arc n starts ends x → f x < k → g x ≡ f x
    back : (x : ℕ) → IsMiddle arc n starts ends x → g x < k → f x ≡ g x

  same-swap : (f g : ℕ → ℕ) (k : ℕ) → SameBelow f g k → SameBelow g f k
  same-swap f g k s = record { to = s.back; back = s.to }

  -- what block k holds below x in one listing has all its lower blocks before k in the other
  lower : (f g : ℕ → ℕ) (b c k : ℕ) → IsListing arc n starts ends f b → IsListing arc n starts ends g c → SameBelow f g k →
      (x : ℕ) → IsMiddle arc n starts ends x → f x ≡ k → (y : ℕ) → IsMiddle arc n starts ends y → Reaches arc n x y → (g y < k) ⊎ (g y ≡ g x)
  lower f g b c k F G s x mx e y my r = go (nat_cases (f y) k)
    where
      go : (f y ≡ k) ⊎ (f y ≢ k) → (g y < k) ⊎ (g y ≡ g x)
      go (inl q) = inr (G.joined y x my mx (F.shared y x my mx (q ∙ sym e)))
      go (inr ne) = let less : f y < k = omega (arith, F.lower_before x y mx my r) in inl (omega (arith, s.to y my less))

  descend : (f g : ℕ → ℕ) (b c k : ℕ) → IsListing arc n starts ends f b → IsListing arc n starts ends g c → SameBelow f g k →
      (fuel x : ℕ) → x < fuel → IsMiddle arc n starts ends x → f x ≡ k → k < g x → ⊥
  descend f g b c k F G s zero x l mx e more = omega arith
  descend f g b c k F G s (suc fuel) x l mx e more = first (G.least x k mx more (lower f g b c k F G s x mx e)) (λ w. descend f g b c k F G s fuel w)
    where
      first : ((z : ℕ) × (z < x) × IsMiddle arc n starts ends z × (g z ≡ k)) → ((w : ℕ) → w < fuel → IsMiddle arc n starts ends w → f w ≡ k → k < g w → ⊥) → ⊥
      first (z, zx, mz, ez) again = at (lt_cases (f z) k) (nat_cases (f z) k)
        where
          second : ((w : ℕ) × (w < z) × IsMiddle arc n starts ends w × (f w ≡ k)) → ⊥
          second (w, wz, mw, ew) = again w (omega arith) mw ew (omega (arith, G.joined w x mw mx (F.shared w x mw mx (ew ∙ sym e))))

          at : (f z < k) ⊎ (k ≤ f z) → (f z ≡ k) ⊎ (f z ≢ k) → ⊥
          at (inl less) _ = omega (arith, s.to z mz less)
          at (inr _) (inl q) = omega (arith, G.joined z x mz mx (F.shared z x mz mx (q ∙ sym e)))
          at (inr le) (inr ne) = second (F.least z k mz (omega arith) (lower g f c b k G F (same-swap f g k s) z mz ez))

  half : (f g : ℕ → ℕ) (b c k : ℕ) → IsListing arc n starts ends f b → IsListing arc n starts ends g c → SameBelow f g k →
      (x : ℕ) → IsMiddle arc n starts ends x → f x < suc k → g x ≡ f x
  half f g b c k F G s x mx l = go (lt_cases (f x) k) (lt_cases (g x) k) (lt_cases k (g x))
    where
      go : (f x < k) ⊎ (k ≤ f x) → (g x < k) ⊎ (k ≤ g x) → (k < g x) ⊎ (g x ≤ k) → g x ≡ f x
      go (inl less) _ _ = s.to x mx less
      go (inr _) (inl less) _ = sym (s.back x mx less)
      go (inr ge) (inr _) (inl more) = absurd (descend f g b c k F G s (suc x) x (omega arith) mx (omega arith) more)
      go (inr ge) (inr le) (inr q) = omega arith

  same_below : (f g : ℕ → ℕ) (b c k : ℕ) → IsListing arc n starts ends f b → IsListing arc n starts ends g c → SameBelow f g k
  same_below f g b c zero F G = record { to = λ x m l. absurd (omega arith); back = λ x m l. absurd (omega arith) }
  same_below f g b c (suc k) F G = let s = same_below f g b c k F G in record {
    to = half f g b c k F G s;
    back = half g f c b k G F (same-swap f g k s);
  }

  pub listing-same : (f g : ℕ → ℕ) (b c : ℕ) → IsListing arc n starts ends f b → IsListing arc n starts ends g c →
      (x : ℕ) → IsMiddle arc n starts ends x → f x ≡ g x
  listing-same f g b c F G x m = sym ((same_below f g b c (suc (f x)) F G).to x m (omega arith))

  listing-le : (f g : ℕ → ℕ) (b c : ℕ) → IsListing arc n starts ends f b → IsListing arc n starts ends g c → b ≤ c
  listing-le f g b c F G = go (lt_cases c b)
    where
      at : ((x : ℕ) × IsMiddle arc n starts ends x × (f x ≡ c)) → b ≤ c
      at (x, m, e) = absurd (omega (arith, listing-same f g b c F G x m, G.below_b x m))

      go : (c < b) ⊎ (b ≤ c) → b ≤ c
      go (inl less) = at (F.each c less)
      go (inr le) = le

  pub listing-size : (f g : ℕ → ℕ) (b c : ℕ) → IsListing arc n starts ends f b → IsListing arc n starts ends g c → b ≡ c
  listing-size f g b c F G = omega (arith, listing-le f g b c F G, listing-le g f c b G F)
