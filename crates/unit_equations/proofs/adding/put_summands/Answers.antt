use Rattle.std.proofs.Common.{refl, sym, ap, subst, ◌∙◌}
use Rattle.std.proofs.lemmas.Result.{err_from_is_err_and}
use Rattle.term_model.specs.Putting.{IsPlaced, CountsAsTerm, term_of_value}
use Rattle.term_model.proofs.Taking.{begins, goes_on}
use Rattle.unit_equations.specs.Parts.{equation, equation_terms}
use Rattle.unit_equations.proofs.SummandTerms.{next-lacks, next_term, placed-at, term_of}
use Rattle.unit_equations.proofs.adding.put_summands.Goals as goal

pub put_value-requires-clause-placed : goal.put_value-requires-clause-placed
put_value-requires-clause-placed g c =
    let name = c.args.name.now in
    let next = next_term name c.args.summands.now c.loop-summand.summand-index c.summand-item.result _ c.loop-summand-test.true c.summand-item.is
    ((λ t. term_of_value g.F.Field.number name (c.deref.ensures t) c.summand.inside.value) ∙ ap (term_of name) c.summand.view_is) in
    placed-at c.args.model.now.equations c.args.model.now.unknowns c.loop-summand.model.equations
    c.loop-summand.model.unknowns _ c.loop-summand.invariant.equations c.loop-summand.invariant.unknowns
    (subst (IsPlaced c.args.model.now.equations c.args.model.now.unknowns) (sym next.is) (c.requires.placed _ _ next.within))

pub put_value-requires-clause-constant : goal.put_value-requires-clause-constant
put_value-requires-clause-constant g c =
    let name = c.args.name.now in
    let next = next_term name c.args.summands.now c.loop-summand.summand-index c.summand-item.result _ c.loop-summand-test.true c.summand-item.is
    ((λ t. term_of_value g.F.Field.number name (c.deref.ensures t) c.summand.inside.value) ∙ ap (term_of name) c.summand.view_is) in
    subst CountsAsTerm (sym next.is) (c.requires.constants _ _ next.within)

pub loop-summand-init : goal.loop-summand-init
loop-summand-init g c = record {
  equations = refl;
  unknowns = refl;
  says = begins g.F.Field.modulus c.args.model.now (equation_terms (equation c.args.name.now c.args.summands.now));
}

pub loop-summand-preserved : goal.loop-summand-preserved
loop-summand-preserved g c =
    let name = c.args.name.now in
    let next = next_term name c.args.summands.now c.loop-summand.summand-index c.summand-item.result _ c.loop-summand-test.true c.summand-item.is
    ((λ t. term_of_value g.F.Field.number name (c.deref.ensures t) c.summand.inside.value) ∙ ap (term_of name) c.summand.view_is) in
    record {
      equations = c.in_ok-put_value.ensures.equations ∙ c.loop-summand.invariant.equations;
      unknowns = c.in_ok-put_value.ensures.unknowns ∙ c.loop-summand.invariant.unknowns;
      says = goes_on g.F.Field.modulus c.args.model.now c.loop-summand.model
          (equation_terms (equation name c.args.summands.now)) _ _ next.within next.is c.loop-summand.invariant.says
          c.put_value.new.model c.in_ok-put_value.ensures.says;
    }

pub returns-in_err-put_value-clause-refused : goal.returns-in_err-put_value-clause-refused
returns-in_err-put_value-clause-refused g c =
    let name = c.args.name.now in
    let next = next_term name c.args.summands.now c.loop-summand.summand-index c.summand-item.result _ c.loop-summand-test.true c.summand-item.is
    ((λ t. term_of_value g.F.Field.number name (c.deref.ensures t) c.summand.inside.value) ∙ ap (term_of name) c.summand.view_is) in
    let failed = err_from_is_err_and c.from_residual.result c.from_residual.ensures.1 in
    rw (failed.1, failed.2) (next-lacks g.F.Field.modulus c.args.model.now c.loop-summand.model
    (equation_terms (equation name c.args.summands.now)) _ _ _ next c.loop-summand.invariant.says c.in_err-put_value.ensures.refused)
