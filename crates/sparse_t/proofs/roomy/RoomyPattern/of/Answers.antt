use Rattle.sparse_t.proofs.EditLaws.{roomy-open}
use Rattle.sparse_t.proofs.roomy.RoomyPattern.of.Goals as goal

pub invariant_of-result : goal.invariant_of-result
invariant_of-result c = roomy-open c.into_lists-rows.result.0.items c.into_lists-rows.result.1.items c.into_lists-rows.ensures.indexed
    c.of-2.result c.of-3.result c.of-2.ensures c.of-3.ensures
