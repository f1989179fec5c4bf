use Rattle.std.proofs.Common.{◌≡◌}
use Rattle.std.specs.List.{AllZip, each_same}
use Rattle.std.specs.Vec.{vec_len}
use Rattle.mixed_model.proofs.ListLaws.{map-copied}
use Rattle.mixed_model.proofs.rows.copy_rows.Goals as goal

pub returns : goal.returns
returns g c =
    map-copied (λ row. row.items) (λ row copy. AllZip (λ entry copied. copied ≡ entry) row.items copy.items × (vec_len copy ≡ vec_len row))
    (λ row copy same. each_same row.items copy.items same.0)
    c.args.rows.now.items c.in_ok-clone.field-0.items c.in_ok-clone.ensures.cases.0
