-- Where at most sixteen numbers are told apart among some costs, these are few.
use Rattle.std.proofs.Common.{◌≡◌, ℕ, zero, suc, ◌<◌, ◌≤◌, Bool, true, false, ◌||◌, cond, eqb, nat_eq, List, [], ◌∷◌, ◌++◌, length, get_or, fold}
use Rattle.std.proofs.Common.{refl, ap, ap₂, sym, ◌∙◌, arith}
use Rattle.std.proofs.lemmas.Bool.Decides.{nat_tests}
use Rattle.std.specs.List.{list_any}
use Rattle.residue_theory.specs.Sets.{has}
use Rattle.sparse_t.proofs.ListLaws.{has-append, nat_eq-itself}
use Rattle.problem_heads.specs.Problems.{different, level_limit, see_number}
use Rattle.repair_checker.specs.Costs.{AreFew}

-- both sides of a test
turned : (a b : ℕ) → nat_eq a b ≡ eqb b a
turned a b = grind (arith, nat_tests)

told-has : (seen : List ℕ) (number : ℕ) → list_any (nat_eq number) seen ≡ has seen number
told-has [] number = refl
told-has (item ∷ seen) number = ap₂ (λ a b. a || b) (turned number item) (told-has seen number)

-- one number more is seen: what was there stays, and it is there
module _ (seen : List ℕ) (number x : ℕ) where
  kept-on : (b : Bool) → has seen x ≡ true → has (cond b seen (seen ++ number ∷ [])) x ≡ true
  kept-on true there = there
  kept-on false there = has-append seen number x ∙ ap (λ b. b || nat_eq number x) there

seen-stays : (seen : List ℕ) (number x : ℕ) → has seen x ≡ true → has (see_number seen number) x ≡ true
seen-stays seen number x there = kept-on seen number x (list_any (nat_eq number) seen) there

seen-there : (seen : List ℕ) (number : ℕ) → has (see_number seen number) number ≡ true
seen-there seen number = at (list_any (nat_eq number) seen) refl
  where
    at : (b : Bool) → list_any (nat_eq number) seen ≡ b → has (cond b seen (seen ++ number ∷ [])) number ≡ true
    at true told = sym (told-has seen number) ∙ told
    at false told = has-append seen number number ∙ ap (λ b. has seen number || b) (nat_eq-itself number) ∙ last (has seen number)
      where
        last : (b : Bool) → (b || true) ≡ true
        last true = refl
        last false = refl

all-stay : (seen numbers : List ℕ) (x : ℕ) → has seen x ≡ true → has (fold see_number seen numbers) x ≡ true
all-stay seen [] x there = there
all-stay seen (number ∷ numbers) x there = all-stay (see_number seen number) numbers x (seen-stays seen number x there)

each-seen : (seen numbers : List ℕ) (e : ℕ) → e < length numbers → has (fold see_number seen numbers) (get_or numbers e 0) ≡ true
each-seen seen [] e el = absurd (omega (arith, el))
each-seen seen (number ∷ numbers) zero el = all-stay (see_number seen number) numbers number (seen-there seen number)
each-seen seen (number ∷ numbers) (suc e) el = each-seen (see_number seen number) numbers e (omega (arith, el))

-- the different ones of some costs are few where they are at most sixteen
pub few : (costs : List ℕ) → length (different costs) ≤ level_limit → AreFew costs
few costs short = (different costs, short, λ e el. each-seen [] costs e el)
