use Rattle.std.proofs.Common.{◌+◌, ◌%◌, ap, sym, ◌∙◌}
use Rattle.std.proofs.lemmas.Result.{on_ok_weaker}
use Rattle.mixed_model.specs.Names.{name_at}
use Rattle.term_model.proofs.Negatives.{minus_one_is}
use Rattle.netlist_reader.specs.Numbers.{name_terms, node_named}
use Rattle.netlist_reader.proofs.Numbering.{flow_put}
use Rattle.netlist_reader.proofs.terms.Terms.flow.Goals as goal

pub returns : goal.returns
returns g c =
    let p = g.F.Field.modulus in
    let names = g.names in
    let less = minus_one_is p (g.F.Field.number c.neg.result) g.met.F.Field.odd c.neg.ensures.below
    (ap (λ n. (n + g.F.Field.number c.neg.result) % p) (sym c.one-2.ensures) ∙ c.neg.ensures.negative) in
    on_ok_weaker c.node_current-2.result
    (flow_put p (name_terms names c.args.self.now) (name_terms names c.node_current.new.self) (name_terms names c.node_current-2.new.self)
    (name_at names.unknowns c.args.current) (node_named names.nodes c.args.plus) (node_named names.nodes c.args.minus)
    (g.F.Field.number c.one.result) (g.F.Field.number c.neg.result) c.if-are_one.ensures c.one.ensures less c.in_ok-node_current.ensures)
    c.node_current-2.ensures
