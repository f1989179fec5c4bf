-- Terms of a new equation, which stand where no others do.
use Rattle.std.proofs.Common.{◌≡◌, ℕ, Bool, true, false, ◌&&◌, List, [], ◌∷◌, ◌++◌, map, refl, ap, ◌∙◌}
use Rattle.std.specs.List.{AllByRecursion, IsDistinct}
use Rattle.std.specs.Str.{bytes_eq}
use Rattle.std.proofs.lemmas.List.Folds.{list_any-append}
use Rattle.mixed_model.specs.Names.{has_name}
use Rattle.term_model.specs.Putting.{AreFree, IsFree}
use Rattle.term_model.specs.Terms.{Term, stands_at}
use Rattle.term_model.proofs.Clearing.{and_false, bytes_eq-sym}
use Rattle.term_model.proofs.Growing.{equation-free}
use Rattle.term_model.proofs.Lists.{Differ, distinct-differ}
use Rattle.unit_equations.specs.Parts.{Summand, equation, equation_terms}

-- a place stays free after a term at another unknown
free-next : (before : List Term) (name unknown : List ℕ) (term : Term) → IsFree before name unknown →
    bytes_eq term.unknown unknown ≡ false → IsFree (before ++ term ∷ []) name unknown
free-next before name unknown term free other =
    let here : stands_at name unknown term ≡ false = ap (λ b. bytes_eq name term.equation && b)
    (bytes_eq-sym term.unknown unknown other) ∙ and_false (bytes_eq name term.equation) in
    list_any-append (stands_at name unknown) before (term ∷ []) ∙ rw (free, here) refl

-- so do the places of others than the summand's
free-others : (before : List Term) (name : List ℕ) (term : Term) (summands : List Summand) →
    has_name (map (λ summand. summand.unknown) summands) term.unknown ≡ false
    → AllByRecursion (λ summand. IsFree before name summand.unknown) summands →
    AllByRecursion (λ summand. IsFree (before ++ term ∷ []) name summand.unknown) summands
free-others before name term [] none all = tt
free-others before name term (summand ∷ summands) none all = by (bytes_eq term.unknown summand.unknown) refl none (free-others before name term summands)
  where
    by : (b : Bool) → bytes_eq term.unknown summand.unknown ≡ b → has_name (map (λ summand. summand.unknown) (summand ∷ summands)) term.unknown ≡ false
        → (has_name (map (λ summand. summand.unknown) summands) term.unknown ≡ false →
        AllByRecursion (λ summand. IsFree before name summand.unknown) summands →
        AllByRecursion (λ summand. IsFree (before ++ term ∷ []) name summand.unknown) summands)
        → AllByRecursion (λ summand. IsFree (before ++ term ∷ []) name summand.unknown) (summand ∷ summands)
    by true e none more = let f : true ≡ false = rw e at none in absurd (cc)
    by false e none more = (free-next before name summand.unknown term all.0 e, more (rw e at none) all.1)

summands-free : (before : List Term) (name : List ℕ) (summands : List Summand) → Differ (map (λ summand. summand.unknown) summands)
    → AllByRecursion (λ summand. IsFree before name summand.unknown) summands → AreFree before (equation_terms (equation name summands))
summands-free before name [] differ all = tt
summands-free before name (summand ∷ summands) differ all =
    let term : Term = record { equation = name; unknown = summand.unknown; constant = summand.constant; symbol = summand.symbol } in
    (all.0, summands-free (before ++ term ∷ []) name summands differ.1 (free-others before name term summands differ.0 all.1))

-- what an equation of a new name has, after terms of others
pub fresh-free : (names : List (List ℕ)) (before : List Term) (name : List ℕ) (summands : List Summand) → has_name names name ≡ false
    → AllByRecursion (λ (term : Term). has_name names term.equation ≡ true) before → IsDistinct bytes_eq (map (λ summand. summand.unknown) summands)
    → AreFree before (equation_terms (equation name summands))
fresh-free names before name summands new among distinct =
    summands-free before name summands (distinct-differ (map (λ summand. summand.unknown) summands) distinct) (each summands)
  where
    each : (summands : List Summand) → AllByRecursion (λ summand. IsFree before name summand.unknown) summands
    each [] = tt
    each (summand ∷ summands) = (equation-free names before name summand.unknown new among, each summands)
