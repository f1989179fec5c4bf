use Rattle.std.proofs.Common.{◌++◌, ◌∷◌, [], All, sym, ap, subst, ◌∙◌}
use Rattle.std.proofs.lemmas.Result.{err_from_is_err_and}
use Rattle.mixed_model.specs.Faults.{fault_of}
use Rattle.mixed_model.specs.Models.{with_equation}
use Rattle.term_model.specs.Putting.{IsPlaced, CountsAsTerm, LacksRoom, PutsTerms}
use Rattle.unit_equations.specs.Growing.{IsOverLimit}
use Rattle.unit_equations.specs.Parts.{UnitEquation, equation, equation_terms}
use Rattle.unit_equations.proofs.Growing.{equation-lacks, grows-equation, new-placed, terms-put}
use Rattle.unit_equations.proofs.adding.add_equation.Goals as goal

pub put_summands-requires-clause-placed : goal.put_summands-requires-clause-placed
put_summands-requires-clause-placed g c =
    let same = (λ t. equation_terms (equation (c.deref-2.ensures t) (c.deref-3.ensures.value t))) ∙ ap equation_terms c.equation.view_is in
    let grown = c.in_ok-add_equation.ensures.added ∙ ap (with_equation c.args.model.now) (c.deref.ensures
    ∙ ap (λ (e : UnitEquation). e.name) c.equation.view_is) in
    subst (All (IsPlaced c.add_equation.new.self.equations c.add_equation.new.self.unknowns)) (sym same)
    (new-placed g.F.Field.modulus c.args.model.now c.add_equation.new.self c.args.equation.now c.is_model.ensures
    c.requires.new grown c.requires.summands)

pub put_summands-requires-clause-constants : goal.put_summands-requires-clause-constants
put_summands-requires-clause-constants g c =
    let same = (λ t. equation_terms (equation (c.deref-2.ensures t) (c.deref-3.ensures.value t))) ∙ ap equation_terms c.equation.view_is in
    subst (All CountsAsTerm) (sym same) (terms-put g.F.Field.modulus c.args.equation.now c.requires.summands.filled)

pub returns-in_err-put_summands-clause-full : goal.returns-in_err-put_summands-clause-full
returns-in_err-put_summands-clause-full g c =
    let p = g.F.Field.modulus in
    let of = c.args.equation.now in
    let mid = c.add_equation.new.self in
    let same = (λ t. equation_terms (equation (c.deref-2.ensures t) (c.deref-3.ensures.value t))) ∙ ap equation_terms c.equation.view_is in
    let grown = c.in_ok-add_equation.ensures.added ∙ ap (with_equation c.args.model.now) (c.deref.ensures
    ∙ ap (λ (e : UnitEquation). e.name) c.equation.view_is) in
    let error = c.in_err-put_summands.field-0.0 in
    let none = equation-lacks p c.args.model.now mid of c.is_model.ensures c.requires.new grown
    c.requires.summands error
    (subst (λ terms. LacksRoom p mid terms error) same c.in_err-put_summands.ensures.refused) in
    let failed = err_from_is_err_and c.from_residual-in_err-put_summands.result c.from_residual-in_err-put_summands.ensures.1 in
    rw (failed.1, failed.2) (subst (λ error. IsOverLimit (c.args.model.now.equations ++ of.name ∷ []) (fault_of error)) (sym none) tt)

pub returns-clause-grown : goal.returns-clause-grown
returns-clause-grown g c =
    let p = g.F.Field.modulus in
    let mid = c.add_equation.new.self in
    let new = c.put_summands.new.model in
    let same = (λ t. equation_terms (equation (c.deref-2.ensures t) (c.deref-3.ensures.value t))) ∙ ap equation_terms c.equation.view_is in
    let grown = c.in_ok-add_equation.ensures.added ∙ ap (with_equation c.args.model.now) (c.deref.ensures
    ∙ ap (λ (e : UnitEquation). e.name) c.equation.view_is) in
    grows-equation p c.args.model.now mid c.args.equation.now c.is_model.ensures c.requires.new grown
    c.requires.summands new c.in_ok-put_summands.ensures.equations c.in_ok-put_summands.ensures.unknowns
    (subst (PutsTerms p mid new) same c.in_ok-put_summands.ensures.says)
