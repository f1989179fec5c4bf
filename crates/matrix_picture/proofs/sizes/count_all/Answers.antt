use Rattle.std.proofs.Common.{◌≡◌, ℕ, ◌+◌, List, length, ap, ◌∙◌, arith}
use Rattle.std.specs.List.{sum_by}
use Rattle.port_io.specs.Causes.{shown}
use Rattle.matrix_picture.proofs.Listing.{same_count, shown_more}
use Rattle.matrix_picture.proofs.sizes.count_all.Goals as goal

pub returns : goal.returns
returns g c =
    let form = c.args.ccf.now in
    let symbols = sum_by length c.as_slice-2.result.now in
    c.count_entries.ensures
    ∙ ap (λ n. shown (n + symbols)) (c.count_entries-constants.ensures
    ∙ ap shown (let q : 0 + sum_by length c.as_slice.result.now ≡ sum_by length c.as_slice.result.now = omega arith in q)
    ∙ ap (λ (rows : List (List (ℕ × g.row.F.Denot))). shown (sum_by length rows)) c.as_slice.ensures
    ∙ ap shown (same_count g.F.Field.number c.p.result.now) ∙ ap (λ (rows : List (List (ℕ × ℕ))). shown (sum_by length rows)) c.p.ensures.p)
    ∙ shown_more (sum_by length form.p) symbols
    ∙ ap (λ (rows : List (List ℕ)). shown (sum_by length form.p + sum_by length rows)) (c.as_slice-2.ensures ∙ c.t.ensures.t)
