use Rattle.std.proofs.Common.{◌≡◌, ◌<◌, ◌∙◌, true, refl, sym, subst, Some}
use Rattle.std.proofs.lemmas.List.{length-set}
use Rattle.number_pairs.specs.Pairs.{PairLists}
use Rattle.sparse_t.specs.Incidences.{incidence_rows, touches}
use Rattle.bipartite_matching.specs.Matchings.{Matching, IsRowFree, IsTwoSided}
use Rattle.bipartite_matching.proofs.MatchingLaws.{linked-is_matching, free-right}
use Rattle.bipartite_matching.proofs.matching.Match.link.Goals as goal

pub link-requires-clause-left_free : goal.link-requires-clause-left_free
link-requires-clause-left_free c =
    let S = c.self.invariant in
    let m : Matching = record {
      pattern = c.self.inside.pattern.pattern;
      mates = c.self.inside.pairs.lefts;
      row_room = c.self.inside.row_room;
      column_room = c.self.inside.column_room;
    } in
    free-right m c.self.inside.pairs c.args.row refl c.are_one_to_one.ensures
    (subst (λ (m : Matching). IsRowFree m c.args.row) (sym c.self.view_is) c.requires.row_free)

pub invariant_of-self : goal.invariant_of-self
invariant_of-self c =
    let S = c.self.invariant in
    let m : Matching = record {
      pattern = c.self.inside.pattern.pattern;
      mates = c.self.inside.pairs.lefts;
      row_room = c.self.inside.row_room;
      column_room = c.self.inside.column_room;
    } in
    let same = sym c.self.view_is in
    subst (λ (pairs : PairLists). IsTwoSided (record m { mates = pairs.lefts }) c.self.inside.pattern pairs) (sym c.link.ensures) (record {
      matching = linked-is_matching m S.matching c.args.row c.args.col
          (subst (λ (m : Matching). c.args.row < incidence_rows m.pattern) same c.requires.row)
          (subst (λ (m : Matching). c.args.col < m.pattern.width) same c.requires.col)
          (subst (λ (m : Matching). touches m.pattern c.args.row c.args.col ≡ true) same c.requires.touches)
          (subst (λ (m : Matching). IsRowFree m c.args.row) same c.requires.row_free);
      rows = length-set c.self.inside.pairs.rights c.args.row (Some c.args.col) ∙ S.rows;
      pattern_rows = S.pattern_rows;
      pattern_columns = S.pattern_columns;
      pair_rows = S.pair_rows;
      pair_columns = S.pair_columns;
    })
