-- A number that is taken away.
use Rattle.std.proofs.Common.{◌≡◌, ◌≢◌, ℕ, ◌+◌, ◌%◌, ◌<◌, Bool, true, false, cond, nat_eq, List, [], ◌∷◌, refl, sym, ap, ◌∙◌}
use Rattle.std.proofs.lemmas.Bool.{eqb-true}
use Rattle.term_model.proofs.Negatives.{negative_is}
use Rattle.unit_equations.specs.Parts.{Summand, less, times}

-- what is less by a number, where that is not 0
pub less_is : (p n m : ℕ) (unknown : List ℕ) → n < p → m < p → (n + m) % p ≡ 0 → m ≢ 0 → times m unknown ∷ [] ≡ less p n unknown
less_is p n m unknown below small none some = by (nat_eq m 0) refl ∙ ap of (negative_is p n m below small none)
  where
    of : ℕ → List Summand
    of k = cond (nat_eq k 0) [] (times k unknown ∷ [])

    by : (b : Bool) → nat_eq m 0 ≡ b → times m unknown ∷ [] ≡ of m
    by true e = absurd (some (eqb-true m 0 e))
    by false e = ap (λ b. cond b [] (times m unknown ∷ [])) (sym e)
