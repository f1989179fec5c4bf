use Rattle.std.proofs.Common.{subst}
use Rattle.std.proofs.lemmas.Result.{IfOk-weaker}
use Rattle.minimiser_lattice.specs.Views.{parts_in}
use Rattle.ccf_builder.specs.Placings.{ListsColumns}
use Rattle.ccf_builder.proofs.CanonicalLists.{canonical-lists}
use Rattle.ccf_builder.proofs.decomposition.parts.Goals as goal

pub returns : goal.returns
returns g c =
    let v = parts_in c.in_ok-lattice.lattice in
    IfOk-weaker c.of.result _ _ (λ parts listed q entries.
    canonical-lists g.F.Field.modulus g.met.F.Field.prime (g.T.Tableau.state c.args.engine.now.tableau) c.args.engine.now.matching
    c.requires v c.in_ok-lattice.ensures c.in_ok-columns.columns.items c.in_ok-columns.ensures parts
    (subst (λ places. ListsColumns v places parts) c.deref.ensures.value listed) q (c.size-size.ensures.pair q entries))
    c.of.ensures
