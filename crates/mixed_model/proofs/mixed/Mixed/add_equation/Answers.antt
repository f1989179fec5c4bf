use Rattle.std.proofs.Common.{rules, ◌∷◌, [], ap, length, ◌∙◌, length-append}
use Rattle.mixed_model.proofs.ModelLaws.{IsModel-with_row}
use Rattle.mixed_model.proofs.mixed.Mixed.add_equation.Goals as goal

pub invariant_of-self-2 : goal.invariant_of-self-2
invariant_of-self-2 g c =
    let before = c.self.inside.equations in
    IsModel-with_row g.F.Field.modulus before c.add.new.self c.self.inside.unknowns c.self.inside.rows.items c.push.new.self.items c.new.result
    c.self.invariant c.in_ok-place.ensures.names (ap length c.in_ok-place.ensures.added ∙ length-append before (c.args.name.now ∷ []))
    (search rules) c.new.ensures.items

pub returns-clause-model : goal.returns-clause-model
returns-clause-model g c =
    let before = c.self.inside.equations in
    IsModel-with_row g.F.Field.modulus before c.add.new.self c.self.inside.unknowns c.self.inside.rows.items c.push.new.self.items c.new.result
    c.self.invariant c.in_ok-place.ensures.names (ap length c.in_ok-place.ensures.added ∙ length-append before (c.args.name.now ∷ []))
    (search rules) c.new.ensures.items
