use Rattle.std.proofs.Common.{inl, inr}
use Rattle.block_solver.proofs.RowPlaces.{found-count}
use Rattle.block_solver.proofs.numbers.unknowns_among.Goals as goal

pub returns-in-Ok : goal.returns-in-Ok
returns-in-Ok c = found-count c.args.columns.now c.args.unknowns c.in-Ok.place c.binary_search.result c.requires c.binary_search.ensures.position
    (inl c.in-Ok.is)

pub returns-in-Err : goal.returns-in-Err
returns-in-Err c = found-count c.args.columns.now c.args.unknowns c.in-Err.place c.binary_search.result c.requires c.binary_search.ensures.position
    (inr c.in-Err.is)
