use Rattle.std.proofs.Common.{arith}
use Rattle.part_search.proofs.ListLaws.{entered}
use Rattle.part_search.proofs.neighbours.Neighbours.enter.Goals as goal

pub returns : goal.returns
returns c = entered c.args.self.now.lists.items c.args.from c.args.to c.index_mut.result.now c.push.new.self
    (omega arith) c.index_mut.ensures.value c.in_ok-push.ensures.items
