use Rattle.row_table.proofs.PutOffLaws.{put-size, put-here, put-other_rows, put-other_columns}
use Rattle.row_table.proofs.put_off.put.Goals as goal

pub returns-clause-size : goal.returns-clause-size
returns-clause-size g c = put-size c.args.m.now _ c.args.i c.args.j _ c.is_matrix.ensures c.requires.row
    c.requires.column c.set.ensures

pub returns-clause-here : goal.returns-clause-here
returns-clause-here g c = put-here c.args.m.now _ c.args.i c.args.j _ c.is_matrix.ensures c.requires.row
    c.requires.column c.set.ensures

pub returns-clause-other_rows : goal.returns-clause-other_rows
returns-clause-other_rows g c = put-other_rows c.args.m.now _ c.args.i c.args.j _ c.is_matrix.ensures
    c.requires.row c.requires.column c.set.ensures

pub returns-clause-other_columns : goal.returns-clause-other_columns
returns-clause-other_columns g c = put-other_columns c.args.m.now _ c.args.i c.args.j _ c.is_matrix.ensures
    c.requires.row c.requires.column c.set.ensures
