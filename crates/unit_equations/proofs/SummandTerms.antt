-- The terms of summands, put one by one.
use Rattle.std.proofs.Common.{◌≡◌, ℕ, ◌+◌, ◌<◌, List, [], ◌∷◌, ◌++◌, length, take, drop, get_or, refl, sym, ap, subst, ◌∙◌}
use Rattle.std.proofs.lemmas.List.{drop_more}
use Rattle.mixed_model.specs.Models.{MixedModel}
use Rattle.mixed_model.specs.declared.errors.AddError.{AddError}
use Rattle.mixed_model.specs.Names.{has_name}
use Rattle.term_model.specs.Putting.{AreFree, IsPlaced, LacksRoom}
use Rattle.term_model.specs.Terms.{Term}
use Rattle.term_model.proofs.Taking.{PutsSoFar}
use Rattle.unit_equations.specs.Parts.{Summand, equation, equation_terms}
use Rattle.unit_equations.proofs.Pairing.{seen-is, seen-within}

-- the term of a summand
abbrev pub term_of : List ℕ → Summand → Term
term_of name summand = record { equation = name; unknown = summand.unknown; constant = summand.constant; symbol = summand.symbol }

-- a term is the next of some
pub record IsNextTerm (terms : List Term) (i : ℕ) (term : Term) : Type 0 where
  pub within : i < length terms
  pub is : term ≡ get_or terms i term

pub next_term : (name : List ℕ) (summands : List Summand) (i : ℕ) (summand : Summand) (term : Term) →
    i < length summands → summand ≡ get_or summands i summand → term ≡ term_of name summand →
    IsNextTerm (equation_terms (equation name summands)) i term
next_term name summands i summand term within is seen =
    let terms = equation_terms (equation name summands) in
    record {
      within = seen-within (term_of name) summands i summand within is terms refl;
      is = sym (seen-is (term_of name) summands i summand within is terms refl ∙ sym seen) ∙ ap (get_or terms i) (sym seen);
    }

-- why one is not put
pub next-lacks : (p : ℕ) (old now : MixedModel) (terms : List Term) (i : ℕ) (term : Term) (error : AddError) →
    IsNextTerm terms i term → PutsSoFar p old now terms i
    → LacksRoom p now (term ∷ []) error → LacksRoom p old terms error
next-lacks p old now terms i term error next so_far lacks = λ before says free.
    let rest = subst (AreFree (before ++ take i terms)) (drop_more terms i term next.within
    ∙ ap (λ first. first ∷ drop (i + 1) terms) (sym next.is)) (so_far.free before free) in
    lacks (before ++ take i terms) (so_far.says before says free) (rest.0, tt)

-- a place among the same names
pub placed-at : (equations unknowns names others : List (List ℕ)) (term : Term) → names ≡ equations →
    others ≡ unknowns → IsPlaced equations unknowns term → IsPlaced names others term
placed-at equations unknowns names others term same like placed = record {
  equation = ap (λ all. has_name all term.equation) same ∙ placed.equation;
  unknown = ap (λ all. has_name all term.unknown) like ∙ placed.unknown;
}
