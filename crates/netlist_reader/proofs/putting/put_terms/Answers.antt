use Rattle.std.proofs.Common.{◌≡◌, ℕ, ◌+◌, ◌<◌, ◌++◌, ◌∷◌, [], List, length, map, take, drop, get_or, refl, sym, ap, subst, ◌∙◌, arith}
use Rattle.std.proofs.lemmas.List.{drop_more, get_or-map, length-map}
use Rattle.std.proofs.lemmas.Result.{err_from_is_err_and}
use Rattle.term_model.specs.Putting.{AreFree, CountsAsTerm, LacksRoom, PutsTerms}
use Rattle.term_model.specs.Terms.{Term}
use Rattle.term_model.proofs.Taking.{begins, goes_on}
use Rattle.netlist_reader.specs.Numbers.{NumberedTerm, StandsWithin, name_term}
use Rattle.netlist_reader.proofs.putting.put_terms.Goals as goal

-- a term by its names is that at its place
named_at : (name : NumberedTerm → Term) (terms : List NumberedTerm) (i : ℕ) (term : NumberedTerm) → i < length terms →
    term ≡ get_or terms i term → name term ≡ get_or (map name terms) i (name term)
named_at name terms i term within is = ap name is ∙ sym (get_or-map name terms i term (name term) within)

-- where the next one is to stand, nothing stands
next_is_free : (terms : List Term) (i : ℕ) (term : Term) (before : List Term) → i < length terms → term ≡ get_or terms i term →
    AreFree (before ++ take i terms) (drop i terms) → AreFree (before ++ take i terms) (term ∷ [])
next_is_free terms i term before within is free =
    let all = subst (AreFree (before ++ take i terms)) (drop_more terms i term within ∙ ap (λ first. first ∷ drop (i + 1) terms) (sym is)) free in
    (all.0, tt)

pub loop-term-init : goal.loop-term-init
loop-term-init g c = record {
  equations = refl;
  unknowns = refl;
  says = begins g.F.Field.modulus c.args.model.now (map (name_term c.args.model.now.equations c.args.model.now.unknowns) c.args.terms.now);
}

pub put_term-requires-clause-within : goal.put_term-requires-clause-within
put_term-requires-clause-within g c =
    let old = c.args.model.now in
    let term = c.term-item.result in
    let here : StandsWithin old.equations old.unknowns term =
    subst (StandsWithin old.equations old.unknowns) (sym c.term-item.is)
    (c.requires.within c.loop-term.term-index term c.loop-term-test.true) in
    subst (λ equations. StandsWithin equations c.loop-term.model.unknowns term) (sym c.loop-term.invariant.equations)
    (subst (λ unknowns. StandsWithin old.equations unknowns term) (sym c.loop-term.invariant.unknowns) here)

pub put_term-requires-clause-constant : goal.put_term-requires-clause-constant
put_term-requires-clause-constant g c =
    let name = name_term c.args.model.now.equations c.args.model.now.unknowns in
    let terms = c.args.terms.now in
    let i = c.loop-term.term-index in
    let term = c.term-item.result in
    subst CountsAsTerm (sym (named_at name terms i term c.loop-term-test.true c.term-item.is))
    (c.requires.constants i (name term) (omega (arith, c.loop-term-test.true, length-map terms name)))

pub loop-term-preserved : goal.loop-term-preserved
loop-term-preserved g c =
    let p = g.F.Field.modulus in
    let old = c.args.model.now in
    let now = c.loop-term.model in
    let name = name_term old.equations old.unknowns in
    let terms = c.args.terms.now in
    let i = c.loop-term.term-index in
    let term = c.term-item.result in
    let same : name_term now.equations now.unknowns term ≡ name term =
    λ k. name_term (c.loop-term.invariant.equations k) (c.loop-term.invariant.unknowns k) term in
    record {
      equations = c.in_ok-put_term.ensures.equations ∙ c.loop-term.invariant.equations;
      unknowns = c.in_ok-put_term.ensures.unknowns ∙ c.loop-term.invariant.unknowns;
      says = goes_on p old now (map name terms) i (name term)
          (omega (arith, c.loop-term-test.true, length-map terms name))
          (named_at name terms i term c.loop-term-test.true c.term-item.is) c.loop-term.invariant.says c.put_term.new.model
          (subst (λ put. PutsTerms p now c.put_term.new.model (put ∷ [])) same c.in_ok-put_term.ensures.says);
    }

pub returns-in_err-put_term-clause-refused : goal.returns-in_err-put_term-clause-refused
returns-in_err-put_term-clause-refused g c =
    let failed = err_from_is_err_and c.from_residual.result c.from_residual.ensures.1 in
    let p = g.F.Field.modulus in
    let old = c.args.model.now in
    let now = c.loop-term.model in
    let name = name_term old.equations old.unknowns in
    let terms = c.args.terms.now in
    let i = c.loop-term.term-index in
    let term = c.term-item.result in
    let error = c.in_err-put_term.field-0.0 in
    let same : name_term now.equations now.unknowns term ≡ name term =
    λ k. name_term (c.loop-term.invariant.equations k) (c.loop-term.invariant.unknowns k) term in
    let lacks : LacksRoom p now (name term ∷ []) error =
    subst (λ put. LacksRoom p now (put ∷ []) error) same c.in_err-put_term.ensures.refused in
    rw failed.1
    (subst (LacksRoom p old (map name terms)) (sym failed.2)
    (λ before says free. lacks (before ++ take i (map name terms)) (c.loop-term.invariant.says.says before says free)
    (next_is_free (map name terms) i (name term) before (omega (arith, c.loop-term-test.true, length-map terms name))
    (named_at name terms i term c.loop-term-test.true c.term-item.is) (c.loop-term.invariant.says.free before free))))
