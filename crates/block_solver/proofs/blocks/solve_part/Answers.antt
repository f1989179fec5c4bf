use Rattle.std.proofs.Common.{ℕ, List, IfNone, IfSome, length, map, slice_index, subst}
use Rattle.residue_theory.specs.Sets.{everything}
use Rattle.linear_algebra.specs.Columns.{IsIndependent}
use Rattle.block_laws.specs.Systems.{IsSystemSolution}
use Rattle.dense_q.specs.Tables.{entry, height}
use Rattle.block_solver.specs.Blocks.{BlockSystem, PutsNumbers, block_system}
use Rattle.block_solver.proofs.PartTables.{part-regular, part-solved, table-regular}
use Rattle.block_solver.proofs.blocks.solve_part.Goals as goal

pub returns-in_default-clause-singular : goal.returns-in_default-clause-singular
returns-in_default-clause-singular g c _ ind =
    let p = g.F.Field.modulus in
    let number = g.F.Field.number in
    let s : BlockSystem = block_system number c.args.p.now c.args.t.now c.args.p_right.now c.args.t_right.now in
    let table = c.in_ok-table.table in
    subst (λ found. IfNone found (IsIndependent p (entry table) (height table) (height table) everything → ⊥)) c.in_default.is
    c.in_ok-numbers.ensures.singular
    (table-regular p s c.args.part.now table c.in_ok-table.ensures ind)

pub returns-clause-regular : goal.returns-clause-regular
returns-clause-regular g c _ =
    let p = g.F.Field.modulus in
    let number = g.F.Field.number in
    let s : BlockSystem = block_system number c.args.p.now c.args.t.now c.args.p_right.now c.args.t_right.now in
    let table = c.in_ok-table.table in
    part-regular p s c.args.part.now table c.in_ok-table.ensures
    (subst (λ found. IfSome found (λ x. IsIndependent p (entry table) (height table) (height table) everything)) c.in-Some.is
    c.in_ok-numbers.ensures.regular)

pub returns-clause-solved : goal.returns-clause-solved
returns-clause-solved g c _ =
    let p = g.F.Field.modulus in
    let number = g.F.Field.number in
    let part = c.args.part.now in
    let old = c.args.x.now in
    let new = c.put_numbers.new.x in
    let s : BlockSystem = block_system number c.args.p.now c.args.t.now c.args.p_right.now c.args.t_right.now in
    let table = c.in_ok-table.table in
    let sides = c.in_ok-sides.sides.items in
    let numbers = c.in-Some.numbers.items in
    part-solved p s part table c.in_ok-table.ensures (length old) c.requires.fits (map number old) (map number new) (map number sides)
    (map number numbers) c.in_ok-sides.ensures c.requires.zero
    (subst (λ (l : List g.row.F.Denot). IsSystemSolution p (entry table) (height table) (height table) (slice_index (map number numbers))
    (slice_index (map number l))) c.deref.ensures.value
    (subst (λ found. IfSome found (λ x. IsSystemSolution p (entry table) (height table) (height table) (slice_index (map number x.items))
    (slice_index (map number c.deref.result.now)))) c.in-Some.is c.in_ok-numbers.ensures.solved))
    (subst (λ (l : List ℕ). PutsNumbers l (map number old) (map number new) (map number numbers) (length l)) c.as_slice.ensures
    (subst (λ (l : List g.row.F.Denot). PutsNumbers c.as_slice.result.now (map number old) (map number new) (map number l) (length c.as_slice.result.now))
    c.deref-2.ensures.value c.put_numbers.ensures))
