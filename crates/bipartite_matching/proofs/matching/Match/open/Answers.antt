use Rattle.std.proofs.Common.{◌≡◌, ◌∙◌, ap, sym}
use Rattle.sparse_t.specs.Incidences.{Incidence, incidence_rows}
use Rattle.sparse_t.specs.Edits.{RoomyIncidence}
use Rattle.bipartite_matching.proofs.MatchingLaws.{stored-empty}
use Rattle.bipartite_matching.proofs.matching.Match.open.Goals as goal

pub invariant_of-result : goal.invariant_of-result
invariant_of-result c =
    let told : c.in_ok-pattern.pattern.pattern ≡ c.args.t.now = ap (λ (t : RoomyIncidence). t.pattern) c.in_ok-pattern.ensures in
    stored-empty c.in_ok-pattern.pattern c.in_ok-pairs.pairs c.rows.result c.cols.result
    (c.rows.ensures.rows ∙ ap incidence_rows (sym told)) (c.cols.ensures.cols ∙ ap (λ (p : Incidence). p.width) (sym told))
    c.in_ok-pairs.ensures
