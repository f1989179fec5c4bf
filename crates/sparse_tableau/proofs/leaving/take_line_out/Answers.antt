use Rattle.sparse_tableau.proofs.LeaveLaws.{line-replaced}
use Rattle.sparse_tableau.proofs.leaving.take_line_out.Goals as goal

pub returns : goal.returns
returns g c = line-replaced c.args.m.now c.swap_remove.new.m c.remove_column.new.self c.args.row c.args.col c.swap_remove.ensures
    c.remove_column.ensures
