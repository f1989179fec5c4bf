use Rattle.std.proofs.Common.{◌≤◌, ℕ, refl, ap, sym, subst, arith}
use Rattle.limits.specs.Limits.{column_limit}
use Rattle.row_transform.specs.Bases.{BaseLists}
use Rattle.row_transform.specs.Dense.{Dense}
use Rattle.row_transform.proofs.DenseEdits.{widened-dense, widened-listed}
use Rattle.row_transform.proofs.RoomLaws.{grown-few}
use Rattle.row_transform.proofs.dense.DenseTableauTableau.room.Goals as goal

pub invariant_of-self : goal.invariant_of-self
invariant_of-self g c =
    let p = g.F.Field.modulus in
    let d : Dense = record {
      table = c.self.inside.table;
      base = c.self.inside.base;
      row_room = c.self.inside.row_room;
      column_room = c.self.inside.column_room;
    } in (
      widened-dense p d c.room.new.self c.self.inside.base c.self.inside.row_room c.self.inside.column_room c.self.invariant.0 c.room.ensures.same refl refl,
      widened-listed p d.table c.room.new.self c.self.inside.entries.bits c.self.inside.entries.bits c.room.ensures.same c.self.invariant.1.size
          (λ i j il jl h. h) c.self.invariant.1,
      record {
        table_rows = omega (arith, c.self.invariant.2.table_rows, c.in_err-room.ensures.err.rows_same);
        table_columns = omega (arith, c.self.invariant.2.table_columns, c.in_err-room.ensures.err.columns_same);
        base_rows = c.self.invariant.2.base_rows;
        base_columns = c.self.invariant.2.base_columns;
        listed_rows = c.self.invariant.2.listed_rows;
        listed_columns = c.self.invariant.2.listed_columns;
        few = c.self.invariant.2.few;
        narrow = c.self.invariant.2.narrow;
      },
    )

pub invariant_of-self-in_err-room-2 : goal.invariant_of-self-in_err-room-2
invariant_of-self-in_err-room-2 g c =
    let p = g.F.Field.modulus in
    let d : Dense = record {
      table = c.self.inside.table;
      base = c.self.inside.base;
      row_room = c.self.inside.row_room;
      column_room = c.self.inside.column_room;
    } in (
      widened-dense p d c.room.new.self c.room-2.new.self c.self.inside.row_room c.self.inside.column_room c.self.invariant.0 c.room.ensures.same (ap (λ
          (b : BaseLists). b.columns) c.in_err-room-2.ensures.err) (ap (λ (b : BaseLists). b.rows) c.in_err-room-2.ensures.err),
      widened-listed p d.table c.room.new.self c.self.inside.entries.bits c.self.inside.entries.bits c.room.ensures.same c.self.invariant.1.size
          (λ i j il jl h. h) c.self.invariant.1,
      record {
        table_rows = omega (arith, c.self.invariant.2.table_rows, c.in_ok-room.ensures.row_room);
        table_columns = omega (arith, c.self.invariant.2.table_columns, c.in_ok-room.ensures.column_room);
        base_rows = omega (arith, c.self.invariant.2.base_rows, ap (λ (b : BaseLists). b.row_room) c.in_err-room-2.ensures.err);
        base_columns = omega (arith, c.self.invariant.2.base_columns, ap (λ (b : BaseLists). b.column_room) c.in_err-room-2.ensures.err);
        listed_rows = c.self.invariant.2.listed_rows;
        listed_columns = c.self.invariant.2.listed_columns;
        few = c.self.invariant.2.few;
        narrow = c.self.invariant.2.narrow;
      },
    )

pub invariant_of-self-in_err-room-3 : goal.invariant_of-self-in_err-room-3
invariant_of-self-in_err-room-3 g c =
    let p = g.F.Field.modulus in
    let d : Dense = record {
      table = c.self.inside.table;
      base = c.self.inside.base;
      row_room = c.self.inside.row_room;
      column_room = c.self.inside.column_room;
    } in (
      widened-dense p d c.room.new.self c.room-2.new.self c.self.inside.row_room c.self.inside.column_room c.self.invariant.0 c.room.ensures.same (ap (λ
          (b : BaseLists). b.columns) c.in_ok-room-2.ensures.ok) (ap (λ (b : BaseLists). b.rows) c.in_ok-room-2.ensures.ok),
      widened-listed p d.table c.room.new.self c.self.inside.entries.bits c.room-3.new.self.bits c.room.ensures.same (record {
        columns_fit = omega (arith, c.self.invariant.1.size.columns_fit, ap (λ e. e.bits.rows) c.in_err-room-3.ensures.err);
        rows_fit = omega (arith, c.self.invariant.1.size.rows_fit, ap (λ e. e.bits.size) c.in_err-room-3.ensures.err);
      }) (λ i j il jl h. c.room-3.ensures.kept i j (omega (arith, il, c.rows.ensures.rows)) (omega
          (arith, jl, c.columns.ensures.columns)) h) c.self.invariant.1,
      record {
        table_rows = omega (arith, c.self.invariant.2.table_rows, c.in_ok-room.ensures.row_room);
        table_columns = omega (arith, c.self.invariant.2.table_columns, c.in_ok-room.ensures.column_room);
        base_rows = omega (arith, c.self.invariant.2.base_rows, ap (λ (b : BaseLists). b.row_room) c.in_ok-room-2.ensures.ok);
        base_columns = omega (arith, c.self.invariant.2.base_columns, ap (λ (b : BaseLists). b.column_room) c.in_ok-room-2.ensures.ok);
        listed_rows = omega (arith, c.self.invariant.2.listed_rows, ap (λ e. e.bits.size) c.in_err-room-3.ensures.err);
        listed_columns = omega (arith, c.self.invariant.2.listed_columns, ap (λ e. e.bits.rows) c.in_err-room-3.ensures.err);
        few = c.self.invariant.2.few;
        narrow = c.self.invariant.2.narrow;
      },
    )

pub invariant_of-self-2 : goal.invariant_of-self-2
invariant_of-self-2 g c =
    let p = g.F.Field.modulus in
    let d : Dense = record {
      table = c.self.inside.table;
      base = c.self.inside.base;
      row_room = c.self.inside.row_room;
      column_room = c.self.inside.column_room;
    } in
    let rows_few : c.grown-rows.result ≤ column_limit = subst (λ (n : ℕ). n ≤ column_limit) (sym c.grown-rows.ensures.grown)
    (grown-few c.self.inside.row_room c.args.rows c.self.invariant.2.few c.requires.rows) in
    let columns_few : c.grown-cols.result ≤ column_limit = subst (λ (n : ℕ). n ≤ column_limit) (sym c.grown-cols.ensures.grown)
    (grown-few c.self.inside.column_room c.args.cols c.self.invariant.2.narrow c.requires.cols) in (
      widened-dense p d c.room.new.self c.room-2.new.self c.max.result c.max-2.result c.self.invariant.0 c.room.ensures.same (ap (λ
          (b : BaseLists). b.columns) c.in_ok-room-2.ensures.ok) (ap (λ (b : BaseLists). b.rows) c.in_ok-room-2.ensures.ok),
      widened-listed p d.table c.room.new.self c.self.inside.entries.bits c.room-3.new.self.bits c.room.ensures.same (record {
        columns_fit = omega (arith, c.in_ok-room-3.ensures.size.columns_fit, c.max-2.ensures, c.columns.ensures.columns);
        rows_fit = omega (arith, c.in_ok-room-3.ensures.size.rows_fit, c.max.ensures, c.rows.ensures.rows);
      }) (λ i j il jl h. c.room-3.ensures.kept i j (omega (arith, il, c.rows.ensures.rows)) (omega
          (arith, jl, c.columns.ensures.columns)) h) c.self.invariant.1,
      record {
        table_rows = omega (arith, c.in_ok-room.ensures.row_room);
        table_columns = omega (arith, c.in_ok-room.ensures.column_room);
        base_rows = omega (arith, ap (λ (b : BaseLists). b.row_room) c.in_ok-room-2.ensures.ok);
        base_columns = omega (arith, ap (λ (b : BaseLists). b.column_room) c.in_ok-room-2.ensures.ok);
        listed_rows = omega (arith, c.in_ok-room-3.ensures.size.rows_fit);
        listed_columns = omega (arith, c.in_ok-room-3.ensures.size.columns_fit);
        few = omega (arith, rows_few, c.max.ensures, c.rows.ensures.few, c.rows.ensures.rows);
        narrow = omega (arith, columns_few, c.max-2.ensures, c.columns.ensures.narrow, c.columns.ensures.columns);
      },
    )
