use Rattle.std.proofs.Common.{rules}
use Rattle.std.proofs.lemmas.Result.{err_from_is_err_and}
use Rattle.std.specs.Option.{option_map}
use Rattle.mixed_model.specs.Rows.{SetsColumn}
use Rattle.mixed_model.proofs.ModelLaws.{ChangesRow-set, rows_kept}
use Rattle.mixed_model.proofs.rows.set_in_row.Goals as goal

pub returns-in_err-set_column-clause-kept : goal.returns-in_err-set_column-clause-kept
returns-in_err-set_column-clause-kept g c =
    let failed = err_from_is_err_and c.from_residual.result c.from_residual.ensures.1 in
    rw failed.1 (rows_kept c.args.rows.now.items c.args.i c.index_mut-row.result.now c.set_column.new.row
    c.index_mut-row.ensures.value c.in_err-set_column.ensures.kept)

pub returns-clause-set : goal.returns-clause-set
returns-clause-set g c =
    ChangesRow-set (SetsColumn g.F.Field.modulus c.args.column (option_map g.F.Field.number c.args.constant) c.args.symbol)
    c.args.rows.now.items c.args.i c.index_mut-row.result.now c.set_column.new.row
    (search rules) c.index_mut-row.ensures.value c.in_ok-set_column.ensures.set
