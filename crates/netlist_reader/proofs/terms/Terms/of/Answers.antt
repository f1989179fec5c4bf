use Rattle.std.proofs.Common.{◌++◌, [], ap, ◌∙◌}
use Rattle.netlist_devices.specs.Devices.{Device}
use Rattle.netlist_reader.specs.Numbers.{name_terms, put_at}
use Rattle.netlist_reader.proofs.Numbering.{put_there, terms_named}
use Rattle.netlist_reader.proofs.terms.Terms.of.Goals as goal

pub returns : goal.returns
returns g c =
    let p = g.F.Field.modulus in
    let names = g.names in
    let d = c.args.device.now in
    let places = c.args.places.now in
    let put = put_at p c.device.inside.kind names places (g.F.Field.number c.device.inside.number) in
    let kind = ap (λ (device : Device). device.kind) c.device.view_is in
    let number = ap (λ (device : Device). device.number) c.device.view_is in
    ap (name_terms names) c.terms.view_is
    ∙ c.in_ok-device.ensures
    ∙ ap (λ items. name_terms names items ++ put) c.new.ensures.items
    ∙ ap (λ front. front ++ put) (terms_named names [])
    ∙ (λ k. put_at p (kind k) names places (number k))
    ∙ put_there p names d places c.requires.1.1.1 c.requires.1.1.0.nodes_wanted
