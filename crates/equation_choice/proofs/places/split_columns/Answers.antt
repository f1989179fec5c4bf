use Rattle.std.proofs.Common.{◌∙◌, ◌+◌, Some, ap, arith, subst, sym}
use Rattle.equation_choice.proofs.EquationPlaces.{Splits, TellsBelow, below-none, below-put, below-skip, splits-none, splits-one, splits-told}
use Rattle.equation_choice.proofs.places.split_columns.Goals as goal
use Rattle.equation_choice.proofs.places.split_columns.Goals.{in-Split, in-Unknown}

pub loop-col-init : goal.loop-col-init
loop-col-init g c = below-none (Splits c.args.layered.now.column_origins) c.args.n c.in_ok-columns.columns.items
    c.in_ok-columns.ensures.count c.in_ok-columns.ensures.none

pub loop-col-preserved : goal.loop-col-preserved
loop-col-preserved g c =
    let origins = c.args.layered.now.column_origins in
    let k = c.loop-col.col in
    elim c.match-column_origin.branch [
      | in-Split w ↦ subst (λ items. TellsBelow (Splits origins) c.args.n (k + 1) items) (sym (ap (λ v. v.items) w.columns-is))
          (below-put (Splits origins) c.args.n k w.in-Split.equation c.loop-col.columns.items w.put.new.places.items
          (λ y told. splits-one origins k c.column_origin.result w.in-Split.equation y c.column_origin.ensures w.in-Split.is told)
          (c.column_origin.ensures ∙ ap Some w.in-Split.is) w.put.ensures c.loop-col.invariant)
      | in-Unknown w ↦ subst (λ items. TellsBelow (Splits origins) c.args.n (k + 1) items) (sym (ap (λ v. v.items) w.columns-is))
          (below-skip (Splits origins) c.args.n k c.loop-col.columns.items
          (λ y told. splits-none origins k c.column_origin.result w.in-Unknown.field-0 y c.column_origin.ensures w.in-Unknown.is told) c.loop-col.invariant)
    ]

pub returns : goal.returns
returns g c = splits-told c.args.n c.args.layered.now.column_origins c.loop-col.col c.loop-col.columns.items
    (omega (arith, c.loop-col-test.false, c.columns-col-end.ensures, c.are_layers.ensures.column_origins)) c.loop-col.invariant
