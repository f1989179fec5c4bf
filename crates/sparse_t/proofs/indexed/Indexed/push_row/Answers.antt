use Rattle.std.proofs.Common.{ℕ, ◌≡◌, ◌<◌, List, [], ◌∷◌, ◌++◌, length, ap, ◌∙◌, arith}
use Rattle.std.proofs.lemmas.List.{length-map}
use Rattle.smallvec.specs.SmallVec.{SmallVec}
use Rattle.sparse_t.specs.Incidences.{Incidence, incidence_rows}
use Rattle.sparse_t.proofs.StoredLaws.{stored-kept, stored-push}
use Rattle.sparse_t.proofs.indexed.Indexed.push_row.Goals as goal

pub invariant_of-self-in_err-enter : goal.invariant_of-self-in_err-enter
invariant_of-self-in_err-enter c = stored-kept c.self.inside.rows.items c.reserve.new.self.items
    c.self.inside.columns.lists.items c.enter.new.self.lists.items c.reserve.ensures.items c.in_err-enter.ensures.err
    c.self.invariant

pub invariant_of-self-2 : goal.invariant_of-self-2
invariant_of-self-2 c =
    let rows_before = c.self.inside.rows.items in
    let same : c.reserve.new.self.items ≡ rows_before = c.reserve.ensures.items in
    let few : length rows_before < 8192 = omega (
      arith,
      ap incidence_rows c.self.view_is,
      length-map rows_before (λ (r : SmallVec ℕ). r.items),
      c.requires.room,
    ) in
    stored-push rows_before c.push.new.self.items c.self.inside.columns.lists.items c.enter.new.self.lists.items
    c.in_ok-row.row c.args.columns.now (c.len.result) c.self.invariant
    (c.in_ok-push.ensures.items ∙ ap (λ (rs : List (SmallVec ℕ)). rs ++ c.in_ok-row.row ∷ []) same)
    c.in_ok-row.ensures.ok (omega (arith, c.len.ensures, ap length same)) c.in_ok-enter.ensures.ok c.requires.rising
    (λ k l. omega (arith, c.requires.below k l, ap (λ (p : Incidence). p.width) c.self.view_is)) few
