-- Walks by arcs that are the same from each place below n.
use Rattle.std.proofs.Common.{◌≡◌, ℕ, zero, suc, ◌<◌, Bool, sym, ◌∙◌}
use Rattle.closed_sets.specs.Blocks.{IsBelow}
use Rattle.closed_sets.specs.Closed.{IsMiddle}
use Rattle.closed_sets.specs.Walks.{Walk, Reaches, FromSome, ToSome, Mutual}

module _ (n : ℕ) (a b : ℕ → ℕ → Bool) (same : (x y : ℕ) → x < n → a x y ≡ b x y) where
  walk-moved : (x y k : ℕ) → Walk a n x y k → Walk b n x y k
  walk-moved x y zero e = e
  walk-moved x y (suc k) (z, low, walk, arc) = (z, low, walk-moved x z k walk, sym (same z y low) ∙ arc)

  pub reaches-moved : (x y : ℕ) → Reaches a n x y → Reaches b n x y
  reaches-moved x y (k, walk) = (k, walk-moved x y k walk)

  pub mutual-moved : (x y : ℕ) → Mutual a n x y → Mutual b n x y
  mutual-moved x y (to, back) = (reaches-moved x y to, reaches-moved y x back)

  pub from-moved : (S : ℕ → Bool) (y : ℕ) → FromSome a n S y → FromSome b n S y
  from-moved S y (s, low, start, reached) = (s, low, start, reaches-moved s y reached)

  -- to ends that are the same below n
  pub to-moved : (E F : ℕ → Bool) → ((x : ℕ) → x < n → E x ≡ F x) → (x : ℕ) → ToSome a n E x → ToSome b n F x
  to-moved E F ends x (e, low, stop, reached) = (e, low, sym (ends e low) ∙ stop, reaches-moved x e reached)

  -- what is of the middle by b is so by a
  pub middle-moved : (S E F : ℕ → Bool) → ((x : ℕ) → x < n → E x ≡ F x) → (x : ℕ) → IsMiddle b n S F x → IsMiddle a n S E x
  middle-moved S E F ends x (low, no_start, no_end) = (low, λ from. no_start (from-moved S x from), λ to. no_end (to-moved E F ends x to))

-- the order of blocks
pub below-moved : (n : ℕ) (a b : ℕ → ℕ → Bool) → ((x y : ℕ) → x < n → a x y ≡ b x y) → (S E F : ℕ → Bool) → ((x : ℕ) → x < n → E x ≡ F x) →
    (block : ℕ → ℕ) (blocks : ℕ) (below : ℕ → ℕ → Bool) → IsBelow a n S E block blocks below → IsBelow b n S F block blocks below
below-moved n a b same S E F ends block blocks below B = record {
  apart = B.apart;
  tells = λ x y of_x of_y h. reaches-moved n a b same x y (B.tells x y (middle-moved n a b same S E F ends x of_x)
      (middle-moved n a b same S E F ends y of_y) h);
  made = λ x y of_x of_y reached other. B.made x y (middle-moved n a b same S E F ends x of_x) (middle-moved n a b same S E F ends y of_y)
      (reaches-moved n b a (λ v w low. sym (same v w low)) x y reached) other;
}
