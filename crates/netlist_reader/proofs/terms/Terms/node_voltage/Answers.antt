use Rattle.std.proofs.Common.{◌++◌, ap, sym, subst, ◌∙◌}
use Rattle.std.proofs.lemmas.Result.{on_ok_weaker}
use Rattle.mixed_model.specs.Names.{name_at}
use Rattle.netlist_reader.specs.Numbers.{IsNode, name_terms, node_named}
use Rattle.netlist_reader.specs.Terms.{node_voltage}
use Rattle.netlist_reader.proofs.Numbering.{voltage_there}
use Rattle.netlist_reader.proofs.terms.Terms.node_voltage.Goals as goal

pub returns-in-Some : goal.returns-in-Some
returns-in-Some g c =
    let name = name_at g.names.equations c.args.equation in
    let times = g.F.Field.number c.args.times in
    let old = name_terms g.names c.args.self.now in
    on_ok_weaker c.put.result
    (λ put. put
    ∙ ap (λ more. old ++ more)
    (voltage_there g.names c.requires.1.0 c.in-Some.voltage (subst (IsNode g.names.nodes) c.in-Some.is c.requires.1.1) name times)
    ∙ ap (λ node. old ++ node_voltage name times (node_named g.names.nodes node)) (sym c.in-Some.is))
    c.put.ensures
