use Rattle.std.proofs.Common.{◌==◌, ◌∙◌, ap, []}
use Rattle.std.specs.List.{list_any}
use Rattle.matrix_picture.proofs.Listing.{constant-at}
use Rattle.matrix_picture.proofs.entries.has_constant.Goals as goal

pub returns-in-Some : goal.returns-in-Some
returns-in-Some g c =
    c.has_key.ensures ∙ ap (list_any (λ entry. entry.0 == c.args.column)) c.as_slice.ensures
    ∙ constant-at g.F.Field.number c.args.rows.now c.args.row c.args.column c.in-Some.entries.now (c.in-Some.ensures.lookup.3.1 [])
