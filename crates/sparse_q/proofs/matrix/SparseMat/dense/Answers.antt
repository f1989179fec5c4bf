use Rattle.std.proofs.Common.{◌<◌, ◌∙◌, arith, ap, length, slice_index_or, sym}
use Rattle.std.proofs.lemmas.List.{length-map}
use Rattle.sparse_q.specs.Rows.{Row}
use Rattle.sparse_q.specs.Tables.{SparseTable, sparse_rows}
use Rattle.sparse_q.proofs.TableLaws.{row-at}
use Rattle.sparse_q.proofs.MadeLaws.{dense-none, dense-next, dense-all}
use Rattle.sparse_q.proofs.matrix.SparseMat.dense.Goals as goal

pub loop-i-init : goal.loop-i-init
loop-i-init g c = dense-none c.args.self.now c.in_ok-m.m c.len.result c.self.inside.width c.in_ok-m.ensures
    (c.len.ensures ∙ c.self.inside.rows.ok.0 ∙ sym (length-map c.self.inside.rows.items (λ (r : Row). r.items))
    ∙ ap sparse_rows c.self.view_is) (ap (λ (t : SparseTable). t.width) c.self.view_is)

pub put_into-requires-clause-row : goal.put_into-requires-clause-row
put_into-requires-clause-row g c =
    omega (
      arith,
      c.loop-i.invariant.tall,
      ap sparse_rows c.self.view_is,
      length-map c.self.inside.rows.items
          (λ (r : Row). r.items),
      ap (λ rs. length rs) c.deref-row-items.ensures.value,
    )

pub put_into-requires-clause-width : goal.put_into-requires-clause-width
put_into-requires-clause-width g c =
    let less : c.loop-i.i < length c.self.inside.rows.items = omega
    (arith, ap (λ rs. length rs) c.deref-row-items.ensures.value) in
    ap (λ (r : Row). r.width) (c.row-item.is ∙ ap (λ rs. slice_index_or rs c.loop-i.i c.row-item.result)
    c.deref-row-items.ensures.value)
    ∙ c.self.invariant.0.full c.loop-i.i c.row-item.result less ∙ ap (λ (t : SparseTable). t.width) c.self.view_is
    ∙ sym c.loop-i.invariant.wide

pub put_into-requires-clause-zero : goal.put_into-requires-clause-zero
put_into-requires-clause-zero g c j = c.loop-i.invariant.rest c.loop-i.i j (omega arith)

pub loop-i-preserved : goal.loop-i-preserved
loop-i-preserved g c =
    let less : c.loop-i.i < sparse_rows c.args.self.now = omega (
      arith,
      ap sparse_rows c.self.view_is,
      length-map
          c.self.inside.rows.items (λ (r : Row). r.items),
      ap (λ rs. length rs) c.deref-row-items.ensures.value,
    ) in
    dense-next c.args.self.now c.loop-i.m c.put_into.new.m c.loop-i.i c.row-item.result c.loop-i.invariant
    c.put_into.ensures.size c.put_into.ensures.numbers c.put_into.ensures.others
    (row-at c.self.inside.width c.self.inside.rows.items c.args.self.now c.self.view_is c.loop-i.i less
    c.row-item.result (c.row-item.is ∙ ap (λ rs. slice_index_or rs c.loop-i.i c.row-item.result)
    c.deref-row-items.ensures.value))

pub returns : goal.returns
returns g c = dense-all c.args.self.now c.loop-i.m c.loop-i.i c.loop-i.invariant
    (omega (
      arith,
      ap sparse_rows c.self.view_is,
      length-map c.self.inside.rows.items (λ (r : Row). r.items),
      ap (λ rs. length rs) c.deref-row-items.ensures.value,
    ))
