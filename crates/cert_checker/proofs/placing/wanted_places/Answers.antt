use Rattle.std.proofs.Common.{length, refl}
use Rattle.cert_checker.proofs.PlacedRows.{placed-more}
use Rattle.cert_checker.proofs.placing.wanted_places.Goals as goal

pub loop-pair-preserved : goal.loop-pair-preserved
loop-pair-preserved c =
    placed-more c.args.rows (length c.args.columns.now) c.args.pairs.now c.args.columns.now c.args.last c.requires
    c.loop-pair.pair-index c.loop-pair.places.items _ c.loop-pair.invariant c.loop-pair-test.true refl
