use Rattle.ccf_builder.proofs.PlacedRows.{IsPlacedTo, placed-more, placed-none}
use Rattle.std.proofs.Common.{rules, get_or, subst, sym}
use Rattle.std.proofs.lemmas.Option.{slice_get-get_or}
use Rattle.cert_text.specs.Readings.{pair_at}
use Rattle.minimiser_lattice.specs.declared.lattice.Part.TheVariants.{First}
use Rattle.ccf_builder.proofs.placing.row_parts.Goals as goal

pub loop-pair-init : goal.loop-pair-init
loop-pair-init c = subst (IsPlacedTo c.args.rows c.args.pairs.now c.args.columns.now 0)
    (sym (c.in_ok-parts.ensures.items_if_clones_equal (λ y. search rules)))
    (placed-none c.args.rows c.args.pairs.now c.args.columns.now)

pub loop-pair-preserved : goal.loop-pair-preserved
loop-pair-preserved c =
    let n = c.loop-pair.pair-index in
    placed-more c.args.rows c.args.pairs.now c.args.columns.now c.requires n c.loop-pair.parts.items
    (get_or c.args.columns.now (pair_at c.args.pairs.now n).1 First) c.loop-pair.invariant c.loop-pair-test.true
    (slice_get-get_or c.args.columns.now (pair_at c.args.pairs.now n).1 First (c.requires.column n c.loop-pair-test.true))
