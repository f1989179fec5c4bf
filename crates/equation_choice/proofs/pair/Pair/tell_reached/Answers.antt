use Rattle.exchange_graph.specs.Results.{reached_of}
use Rattle.equation_choice.proofs.TellLaws.{reached-more}
use Rattle.equation_choice.proofs.pair.Pair.tell_reached.Goals as goal

pub loop-x-preserved : goal.loop-x-preserved
loop-x-preserved g c = reached-more g.F.Field.modulus c.args.layered.now (g.T.Tableau.state c.args.self.now.tableau) c.args.self.now.mates
    c.args.symbols.now (reached_of c.args.search.now) c.loop-x.x c.args.told.now c.loop-x.told c.tell_column.new.told c.loop-x.invariant
    c.tell_column.ensures
