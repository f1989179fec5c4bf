use Rattle.std.proofs.Common.{◌<◌, refl, sym, subst, arith}
use Rattle.std.proofs.lemmas.List.Edits.{length-remove}
use Rattle.number_pairs.specs.Pairs.{PairLists}
use Rattle.sparse_t.specs.Incidences.{incidence_rows}
use Rattle.sparse_t.specs.Edits.{RoomyIncidence, row_removed}
use Rattle.bipartite_matching.specs.Matchings.{Matching, IsRowFree, IsTwoSided}
use Rattle.bipartite_matching.proofs.MatchingLaws.{free-right}
use Rattle.bipartite_matching.proofs.MatchEdits.{row_out-is_matching}
use Rattle.bipartite_matching.proofs.matching.Match.remove_row.Goals as goal

pub remove_left-requires-clause-free : goal.remove_left-requires-clause-free
remove_left-requires-clause-free c =
    let S = c.self.invariant in
    let m : Matching = record {
      pattern = c.self.inside.pattern.pattern;
      mates = c.self.inside.pairs.lefts;
      row_room = c.self.inside.row_room;
      column_room = c.self.inside.column_room;
    } in
    free-right m c.self.inside.pairs c.args.at refl c.are_one_to_one.ensures
    (subst (λ (m : Matching). IsRowFree m c.args.at) (sym c.self.view_is) c.requires.free)

pub invariant_of-self : goal.invariant_of-self
invariant_of-self c =
    let S = c.self.invariant in
    let m : Matching = record {
      pattern = c.self.inside.pattern.pattern;
      mates = c.self.inside.pairs.lefts;
      row_room = c.self.inside.row_room;
      column_room = c.self.inside.column_room;
    } in
    let at : c.args.at < incidence_rows m.pattern = subst (λ (m : Matching). c.args.at < incidence_rows m.pattern) (sym c.self.view_is) c.requires.at in
    let free = subst (λ (m : Matching). IsRowFree m c.args.at) (sym c.self.view_is) c.requires.free in
    subst (λ (t : RoomyIncidence). IsTwoSided
    (record m { pattern = t.pattern; mates = c.remove_left.new.self.lefts }) t c.remove_left.new.self) (sym c.remove_row.ensures)
    (subst (λ (pairs : PairLists). IsTwoSided (record m { pattern = row_removed m.pattern c.args.at; mates = pairs.lefts })
    (record c.self.inside.pattern { pattern = row_removed m.pattern c.args.at }) pairs)
    (sym c.remove_left.ensures) (record {
      matching = row_out-is_matching m S.matching c.args.at at free;
      rows = omega (
        arith,
        length-remove c.self.inside.pairs.rights c.args.at (omega (arith, at, S.rows)),
        length-remove m.pattern.rows c.args.at at,
        S.rows,
      );
      pattern_rows = S.pattern_rows;
      pattern_columns = S.pattern_columns;
      pair_rows = S.pair_rows;
      pair_columns = S.pair_columns;
    }))

pub returns-clause-matching : goal.returns-clause-matching
returns-clause-matching c = (invariant_of-self c).matching
