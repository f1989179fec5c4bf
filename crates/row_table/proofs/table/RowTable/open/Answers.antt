use Rattle.std.proofs.Common.{arith, ◌∙◌, subst}
use Rattle.dense_q.specs.Tables.{Table, height}
use Rattle.row_table.specs.Layouts.{layout_places, IsFirst}
use Rattle.row_table.proofs.RowTableLaws.{opened-combined, opened-p, opened-s, opened-u}
use Rattle.row_table.proofs.table.RowTable.open.Goals as goal

pub invariant_of-result : goal.invariant_of-result
invariant_of-result g c =
    let q : Table = c.args.q.now in
    let first : IsFirst (height q) q.width (layout_places c.in_ok-places.places) =
    subst (λ m. IsFirst m q.width (layout_places c.in_ok-places.places)) c.rows-rows.ensures.rows
    (subst (λ n. IsFirst c.rows-rows.result n (layout_places c.in_ok-places.places)) c.cols-columns.ensures.cols
    c.in_ok-places.ensures.first) in (
      opened-combined g.F.Field.modulus g.met.F.Field.prime (record {
        q = c.in_ok-of.field-0;
        kept = c.in_ok-table.table;
        layout = c.in_ok-places.places;
        row_room = 0;
        column_room = 0;
      }) q c.rows-rows.ensures.matrix c.in_field.ensures
          c.in_ok-of.ensures.size.rows_are c.in_ok-of.ensures.size.width_is c.in_ok-of.ensures.numbers c.in_ok-table.ensures.rows
          c.in_ok-table.ensures.columns c.in_ok-table.ensures.stored c.in_ok-table.ensures.count
          (c.in_ok-places.ensures.columns ∙ c.cols-columns.ensures.cols) (c.in_ok-places.ensures.rows
          ∙ c.rows-rows.ensures.rows) first c.in_ok-table.ensures.stored,
      omega (
        arith,
        c.in_ok-space.space.ok.0,
        c.in_ok-space.ensures.len,
        c.rows-rows.ensures.rows,
        c.in_ok-of.ensures.size.rows_are,
      ),
      record {
        stored_rows = omega arith;
        stored_columns = omega arith;
        layout_rows = omega arith;
        layout_columns = omega arith;
        q_rows = omega arith;
        q_columns = omega arith;
        space_rows = omega arith;
      },
    )

pub returns-clause-p : goal.returns-clause-p
returns-clause-p g c =
    let q : Table = c.args.q.now in
    let first : IsFirst (height q) q.width (layout_places c.in_ok-places.places) =
    subst (λ m. IsFirst m q.width (layout_places c.in_ok-places.places)) c.rows-rows.ensures.rows
    (subst (λ n. IsFirst c.rows-rows.result n (layout_places c.in_ok-places.places)) c.cols-columns.ensures.cols
    c.in_ok-places.ensures.first) in
    opened-p g.F.Field.modulus g.met.F.Field.prime (record {
      q = c.in_ok-of.field-0;
      kept = c.in_ok-table.table;
      layout = c.in_ok-places.places;
      row_room = 0;
      column_room = 0;
    }) q c.rows-rows.ensures.matrix c.in_field.ensures
    c.in_ok-of.ensures.size.rows_are c.in_ok-of.ensures.size.width_is c.in_ok-of.ensures.numbers c.in_ok-table.ensures.rows
    c.in_ok-table.ensures.columns c.in_ok-table.ensures.stored c.in_ok-table.ensures.count (c.in_ok-places.ensures.columns
    ∙ c.cols-columns.ensures.cols) (c.in_ok-places.ensures.rows ∙ c.rows-rows.ensures.rows) first

pub returns-clause-s : goal.returns-clause-s
returns-clause-s g c =
    let q : Table = c.args.q.now in
    let first : IsFirst (height q) q.width (layout_places c.in_ok-places.places) =
    subst (λ m. IsFirst m q.width (layout_places c.in_ok-places.places)) c.rows-rows.ensures.rows
    (subst (λ n. IsFirst c.rows-rows.result n (layout_places c.in_ok-places.places)) c.cols-columns.ensures.cols
    c.in_ok-places.ensures.first) in
    opened-s g.F.Field.modulus g.met.F.Field.prime (record {
      q = c.in_ok-of.field-0;
      kept = c.in_ok-table.table;
      layout = c.in_ok-places.places;
      row_room = 0;
      column_room = 0;
    }) q c.rows-rows.ensures.matrix c.in_field.ensures
    c.in_ok-of.ensures.size.rows_are c.in_ok-of.ensures.size.width_is c.in_ok-of.ensures.numbers c.in_ok-table.ensures.rows
    c.in_ok-table.ensures.columns c.in_ok-table.ensures.stored c.in_ok-table.ensures.count (c.in_ok-places.ensures.columns
    ∙ c.cols-columns.ensures.cols) (c.in_ok-places.ensures.rows ∙ c.rows-rows.ensures.rows) first

pub returns-clause-u : goal.returns-clause-u
returns-clause-u g c =
    let q : Table = c.args.q.now in
    let first : IsFirst (height q) q.width (layout_places c.in_ok-places.places) =
    subst (λ m. IsFirst m q.width (layout_places c.in_ok-places.places)) c.rows-rows.ensures.rows
    (subst (λ n. IsFirst c.rows-rows.result n (layout_places c.in_ok-places.places)) c.cols-columns.ensures.cols
    c.in_ok-places.ensures.first) in
    opened-u g.F.Field.modulus g.met.F.Field.prime (record {
      q = c.in_ok-of.field-0;
      kept = c.in_ok-table.table;
      layout = c.in_ok-places.places;
      row_room = 0;
      column_room = 0;
    }) q c.rows-rows.ensures.matrix c.in_field.ensures
    c.in_ok-of.ensures.size.rows_are c.in_ok-of.ensures.size.width_is c.in_ok-of.ensures.numbers c.in_ok-table.ensures.rows
    c.in_ok-table.ensures.columns c.in_ok-table.ensures.stored c.in_ok-table.ensures.count (c.in_ok-places.ensures.columns
    ∙ c.cols-columns.ensures.cols) (c.in_ok-places.ensures.rows ∙ c.rows-rows.ensures.rows) first
