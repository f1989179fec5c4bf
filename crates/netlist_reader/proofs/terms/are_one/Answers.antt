use Rattle.std.proofs.Common.{sym, subst, ◌∙◌}
use Rattle.std.specs.Str.{bytes_eq}
use Rattle.netlist_reader.specs.Numbers.{IsNode, node_named}
use Rattle.netlist_reader.proofs.Numbering.{nodes_one}
use Rattle.netlist_reader.proofs.terms.are_one.Goals as goal

pub returns-in-Some-Some : goal.returns-in-Some-Some
returns-in-Some-Some g c =
    let nodes = g.names.nodes in
    nodes_one g.names c.requires.0 c.in-Some-Some.plus c.in-Some-Some.minus
    (subst (IsNode nodes) c.in-Some-Some.is-0 c.requires.1.0) (subst (IsNode nodes) c.in-Some-Some.is-1 c.requires.1.1)
    ∙ (λ k. bytes_eq (node_named nodes (sym c.in-Some-Some.is-0 k)) (node_named nodes (sym c.in-Some-Some.is-1 k)))
