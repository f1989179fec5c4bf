use Rattle.std.proofs.Common.{map, ap, subst, ◌∙◌}
use Rattle.std.specs.String.{string_bytes}
use Rattle.unit_equations.specs.Growing.{GrowsBy, equations_alone, unknowns_alone}
use Rattle.unit_equations.specs.Parts.{UnitPart, system_of}
use Rattle.unit_equations.proofs.Growing.{grows-then, model-grows, part-alone}
use Rattle.unit_equations.proofs.adding.add_part.Goals as goal

pub returns-clause-added : goal.returns-clause-added
returns-clause-added g c =
    let p = g.F.Field.modulus in
    let part = c.args.part.now in
    let old = c.args.model.now in
    let mid = c.add_unknowns.new.model in
    let new = c.add_equations.new.model in
    let first = subst (λ names. GrowsBy p old mid (unknowns_alone names))
    (ap (map string_bytes) c.deref.ensures.value
    ∙ ap (λ (all : UnitPart). all.unknowns) c.part.view_is) c.in_ok-add_unknowns.ensures.grown in
    let then = subst (λ equations. GrowsBy p mid new (equations_alone equations)) (c.deref-2.ensures.value
    ∙ ap (λ (all : UnitPart). all.equations) c.part.view_is) c.in_ok-add_equations.ensures.grown in
    let grown = subst (GrowsBy p old new) (part-alone part) (grows-then p old mid new (unknowns_alone part.unknowns)
    (equations_alone part.equations) first then) in
    model-grows p old new (system_of part) grown c.is_model.ensures
