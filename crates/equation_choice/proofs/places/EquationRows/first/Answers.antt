use Rattle.std.proofs.Common.{None, ap, sym, ◌∙◌}
use Rattle.equation_choice.specs.Choosers.{first_place}
use Rattle.equation_choice.proofs.places.EquationRows.first.Goals as goal

pub returns-in-Some-default : goal.returns-in-Some-default
returns-in-Some-default c = sym (ap (λ a. first_place c.args.rows a c.args.self.t) c.in-Some-default.is-0)

pub returns-in-None-Some : goal.returns-in-None-Some
returns-in-None-Some c = sym (ap (λ a. first_place c.args.rows a c.args.self.t) c.in-None-Some.is-0
    ∙ ap (λ b. first_place c.args.rows None b) c.in-None-Some.is-1)

pub returns-in-None-None : goal.returns-in-None-None
returns-in-None-None c = sym (ap (λ a. first_place c.args.rows a c.args.self.t) c.in-None-None.is-0
    ∙ ap (λ b. first_place c.args.rows None b) c.in-None-None.is-1)
