use Rattle.std.proofs.Common.{◌≡◌, ◌∙◌, ℕ, Option, None, Some, List, Vec, Global, get_or, refl, ap, sym, subst, arith}
use Rattle.std.proofs.lemmas.List.{length-map}
use Rattle.equation_choice.specs.ConflictLists.{IsFirstWith}
use Rattle.equation_choice.specs.Places.{place_at}
use Rattle.equation_choice.proofs.Refused.{set-given}
use Rattle.equation_choice.proofs.conflicts.Conflicts.set_of.Goals as goal

-- what the table has for the equation
told : (items : List (Option ℕ)) (now : List (Option ℕ)) → now ≡ items → (e k : ℕ) (o : Option ℕ) → o ≡ get_or now e None → o ≡ Some k →
    place_at items e ≡ Some k
told items now same e k o at is = ap (λ xs. get_or xs e None) (sym same) ∙ (sym at ∙ is)

pub index-requires : goal.index-requires
index-requires c =
    let least = c.self.invariant.some c.args.equation c.in-Some-Some.k (told c.self.inside.first.items c.deref.result.now c.deref.ensures.value
    c.args.equation c.in-Some-Some.k c.in-Some-Some.field-0.now (c.in-Some-Some.ensures.lookup.3.1 None) c.in-Some-Some.field-0-is) in
    omega (arith, least.below, length-map c.self.inside.sets.items (λ (set : Vec ℕ Global). set.items), c.self.inside.sets.ok.0)

pub returns-in-Some-Some-clause-some : goal.returns-in-Some-Some-clause-some
returns-in-Some-Some-clause-some c =
    let sets = c.self.inside.sets.items in
    let k = c.in-Some-Some.k in
    let least = c.self.invariant.some c.args.equation k (told c.self.inside.first.items c.deref.result.now c.deref.ensures.value
    c.args.equation k c.in-Some-Some.field-0.now (c.in-Some-Some.ensures.lookup.3.1 None) c.in-Some-Some.field-0-is) in (
      k,
      subst (λ lists. IsFirstWith lists c.args.equation k) c.self.view_is least,
      c.as_slice.ensures.value ∙ sym (set-given sets c.args.self.now c.self.view_is sets refl k
          (omega (arith, least.below, length-map sets (λ (set : Vec ℕ Global). set.items))) c.index.result.now c.index.ensures),
    )
