use Rattle.std.proofs.Common.{◌≤◌, ℕ, List, length, map, ap, sym, subst, arith}
use Rattle.mixed_model.specs.Models.{mixed_matrix_of}
use Rattle.value_lists.specs.Fixing.{AreSymbolColumns}
use Rattle.value_lists.proofs.Numbers.{all-below, zero-from}
use Rattle.value_lists.proofs.Rows.{goes-begin, goes-end}
use Rattle.value_lists.proofs.listing.list_equation.Goals as goal

pub returns-then-is_empty-clause-listed : goal.returns-then-is_empty-clause-listed
returns-then-is_empty-clause-listed g c =
    let p = g.F.Field.modulus in
    let i = c.args.i in
    let old = c.args.held.now.model in
    let columns = c.in_ok-columns.columns.items in
    let values = map g.F.Field.number c.args.values.now.items in
    let empty = zero-from c.in_ok-columns.columns.len (sym c.if-is_empty.ensures) in
    let none : length columns ≤ 0 = omega (arith, empty, c.in_ok-columns.columns.ok.0) in
    goes-end p c.args.rank old old i columns 0 values values none (goes-begin p c.args.rank old i columns values) (mixed_matrix_of c.args.model.now)
    c.requires.rank c.requires.equation c.in_ok-columns.ensures

pub list_columns-requires-clause-columns : goal.list_columns-requires-clause-columns
list_columns-requires-clause-columns g c = all-below (length c.args.model.now.unknowns) _ c.in_ok-columns.columns.items c.deref.result.now
    (length c.args.held.now.model.unknowns) c.in_ok-columns.ensures c.deref.ensures.value
    (ap (λ (names : List (List ℕ)). length names) c.requires.unknowns)

pub returns-clause-listed : goal.returns-clause-listed
returns-clause-listed g c =
    let M = mixed_matrix_of c.args.model.now in
    c.in_ok-list_columns.ensures.listed M c.requires.rank c.requires.equation
    (subst (AreSymbolColumns M c.args.i) (sym c.deref.ensures.value) c.in_ok-columns.ensures)
