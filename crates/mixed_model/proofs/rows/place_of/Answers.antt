use Rattle.std.proofs.Common.{◌<◌, subst, arith, rules}
use Rattle.std.proofs.lemmas.List.Sorted.{answers_always}
use Rattle.mixed_model.specs.Entries.{RowEntry}
use Rattle.mixed_model.proofs.RowLaws.{found_place, fits_at_end}
use Rattle.mixed_model.proofs.rows.place_of.Goals as goal

pub returns-in-Some : goal.returns-in-Some
returns-in-Some g c =
    found_place g.F.Field.modulus c.args.row.now c.args.column c.binary_search_by_key.result c.requires c.binary_search_by_key.ensures.bound
    (c.binary_search_by_key.ensures.position (λ entry. entry.column) (answers_always _ _ _ (λ f a r g called. search rules)))

pub returns-in_default : goal.returns-in_default
returns-in_default g c =
    let lower : c.in-Some.last.now.column < c.args.column = search rules in
    fits_at_end g.F.Field.modulus c.args.row.now c.args.column c.requires
    (λ d some. subst (λ (last : RowEntry). last.column < c.args.column) (c.in-Some.ensures.item.4 (omega arith) d) lower)
