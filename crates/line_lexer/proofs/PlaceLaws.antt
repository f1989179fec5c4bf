-- The first place at which a test passes, or the length.
use Rattle.std.proofs.Common.{◌≡◌, ℕ, Bool, true, false, not, List, length, refl, sym, ap, ◌∙◌, arith, ltb, ltb-false, unwrap_or, position, Some, None}
use Rattle.std.specs.List.{position_or_len}
use Rattle.std.proofs.lemmas.List.Sums.{prefix_len-le-length}

pub unwrap_or-position : {X : Type 0} (test : X → Bool) (xs : List X) → unwrap_or (position test xs) (length xs) ≡ position_or_len test xs
unwrap_or-position test xs = by (ltb (position_or_len test xs) (length xs)) refl
  where
    by : (b : Bool) → ltb (position_or_len test xs) (length xs) ≡ b → unwrap_or (position test xs) (length xs) ≡ position_or_len test xs
    by true e = rw e refl
    by false e = rw e (omega (arith, ltb-false (position_or_len test xs) (length xs) e, prefix_len-le-length (λ x. not (test x)) xs))

-- the place that `position` gives
pub position_or_len-Some : {X : Type 0} (test : X → Bool) (xs : List X) (n : ℕ) → position test xs ≡ Some n → position_or_len test xs ≡ n
position_or_len-Some test xs n e = sym (unwrap_or-position test xs) ∙ ap (λ o. unwrap_or o (length xs)) e

-- the length, where it gives none
pub position_or_len-None : {X : Type 0} (test : X → Bool) (xs : List X) → position test xs ≡ None → position_or_len test xs ≡ length xs
position_or_len-None test xs e = sym (unwrap_or-position test xs) ∙ ap (λ o. unwrap_or o (length xs)) e
