use Rattle.std.proofs.Common.{◌∙◌, ap, sym}
use Rattle.bipartite_matching.proofs.MateLaws.{pair-matched}
use Rattle.independent_matching.specs.Sides.{in_q, number, tableau_of_pair}
use Rattle.independent_matching.proofs.SideLaws.{unlinked-free}
use Rattle.independent_matching.proofs.pair.Pair.take.Goals as goal

pub link-requires-clause-row_free : goal.link-requires-clause-row_free
link-requires-clause-row_free g c =
    let F = tableau_of_pair (g.T.Tableau.state c.args.self.now.tableau) c.args.self.now.mates in
    let none = (c.requires.can.of_t (ap in_q c.in-T.is)).2 in
    unlinked-free c.args.self.now.mates c.leave.new.self.mates c.in-T.row c.leave.ensures.matching c.leave.ensures.kept
    (g.T.Tableau.state c.args.self.now.tableau).columns c.requires.width F.matched F.mate (λ col h. pair-matched c.args.self.now.mates c.in-T.row col h)
    (λ y yl m e. none y yl m (e ∙ ap number (sym c.in-T.is)))
