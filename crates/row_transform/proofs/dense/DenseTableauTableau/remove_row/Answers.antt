use Rattle.std.proofs.Common.{IfSome, subst}
use Rattle.linear_algebra.specs.Bases.{HasNoBase}
use Rattle.sparse_q.specs.Tables.{sparse_rows}
use Rattle.row_table.specs.RowTables.{Combined, s_part, u_part}
use Rattle.row_table.specs.TableEdits.{IsTableWithoutRow}
use Rattle.row_transform.specs.Bases.{base_row, is_base}
use Rattle.row_transform.specs.Dense.{IsLeavingRow}
use Rattle.row_transform.proofs.DenseRemovals.{leaves-none, leaving-some, row-left}
use Rattle.row_transform.proofs.dense.DenseTableauTableau.remove_row.Goals as goal

pub unwrap-row-requires : goal.unwrap-row-requires
unwrap-row-requires g c =
    let p = g.F.Field.modulus in
    let d = c.args.self.now in
    leaving-some p g.met.F.Field.prime c.some_row_of_s_has_an_entry.ensures (sparse_rows d.table.q) (s_part p d.table) (u_part d.table) c.args.at
    c.leaving_row.result c.requires.at c.is_tableau.ensures.tableau.inverse c.leaving_row.ensures.none

pub returns-clause-row : goal.returns-clause-row
returns-clause-row g c =
    let gone = subst (λ (t : Combined). IsTableWithoutRow g.F.Field.modulus t c.take_row.new.self.table c.args.at c.unwrap-row.result)
    c.free_row-told.ensures.table c.take_row.ensures.row in
    row-left g.F.Field.modulus c.args.self.now c.take_row.new.self c.args.at c.unwrap-row.result c.free_row-told.new.self.base
    c.free_row-told.result gone c.take_row.ensures.base c.free_row-told.ensures.none c.free_row-told.ensures.dropped c.free_row-told.ensures.below
    c.free_row-told.ensures.member

pub returns-clause-none : goal.returns-clause-none
returns-clause-none g c =
    let p = g.F.Field.modulus in
    let d = c.args.self.now in
    let leaving : IsLeavingRow p d c.args.at c.unwrap-row.result =
    subst (λ o. IfSome o (IsLeavingRow p d c.args.at)) c.unwrap-row.ensures c.leaving_row.ensures.chosen in
    let gone = subst (λ (t : Combined). IsTableWithoutRow p t c.take_row.new.self.table c.args.at c.unwrap-row.result)
    c.free_row-told.ensures.table c.take_row.ensures.row in
    let now = c.free_row-told.new.self.base in
    let free = subst (λ (t : Combined). HasNoBase t.q.width (is_base now) (base_row now) c.unwrap-row.result) c.free_row-told.ensures.table
    c.free_row-told.ensures.bare in
    leaves-none p g.met.F.Field.prime c.bases_stay_independent_without_a_row.ensures d c.is_tableau.ensures.tableau c.args.at c.unwrap-row.result
    (sparse_rows c.take_row.new.self.table.q) c.requires.at gone.q_is.rows_are leaving now c.free_row-told.result
    c.free_row-told.ensures.none free c.free_row-told.ensures.below c.free_row-told.ensures.member c.free_row-told.ensures.at_row
