use Rattle.std.proofs.Common.{arith, length, ap, None}
use Rattle.std.proofs.lemmas.List.{get_or_read_under}
use Rattle.number_pairs.specs.Pairs.{PairLists}
use Rattle.number_pairs.proofs.PairLaws.{some-below}
use Rattle.number_pairs.proofs.pairs.NumberPairs.left_of.Goals as goal

pub returns-clause-below : goal.returns-clause-below
returns-clause-below c =
    rw (← c.self.view_is)
    (some-below c.self.inside.lefts.items c.self.inside.rights.items c.args.right c.index.result.now
    c.self.invariant.one_to_one.lefts_point
    (get_or_read_under c.self.inside.lefts.items c.args.right c.self.inside.lefts.len c.index.result.now None
    c.index.ensures
    (omega (arith, c.self.inside.lefts.ok.0, ap (λ (p : PairLists). length p.lefts) c.self.view_is))
    c.self.inside.lefts.ok.0))
