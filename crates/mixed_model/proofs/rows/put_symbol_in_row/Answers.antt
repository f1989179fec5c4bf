use Rattle.std.proofs.Common.{rules}
use Rattle.std.proofs.lemmas.Result.{err_from_is_err_and}
use Rattle.mixed_model.specs.Rows.{PutsSymbol}
use Rattle.mixed_model.proofs.ModelLaws.{ChangesRow-set, rows_kept}
use Rattle.mixed_model.proofs.rows.put_symbol_in_row.Goals as goal

pub returns-in_err-put_symbol-clause-kept : goal.returns-in_err-put_symbol-clause-kept
returns-in_err-put_symbol-clause-kept g c =
    let failed = err_from_is_err_and c.from_residual.result c.from_residual.ensures.1 in
    rw failed.1 (rows_kept c.args.rows.now.items c.args.i c.index_mut-row.result.now c.put_symbol.new.row
    c.index_mut-row.ensures.value c.in_err-put_symbol.ensures.kept)

pub returns-clause-put : goal.returns-clause-put
returns-clause-put g c =
    ChangesRow-set (PutsSymbol g.F.Field.modulus c.args.column) c.args.rows.now.items c.args.i c.index_mut-row.result.now c.put_symbol.new.row
    (search rules) c.index_mut-row.ensures.value c.in_ok-put_symbol.ensures.put
