use Rattle.std.proofs.Common.{◌≤◌, sym, subst, None, arith}
use Rattle.std.proofs.lemmas.List.Edits.{length-insert}
use Rattle.number_pairs.specs.Pairs.{PairLists}
use Rattle.sparse_t.specs.Incidences.{incidence_rows}
use Rattle.sparse_t.specs.Edits.{RoomyIncidence, row_inserted}
use Rattle.bipartite_matching.specs.Matchings.{Matching, IsTwoSided}
use Rattle.bipartite_matching.proofs.MatchEdits.{row_in-is_matching}
use Rattle.bipartite_matching.proofs.matching.Match.insert_row.Goals as goal

pub invariant_of-self : goal.invariant_of-self
invariant_of-self c =
    let S = c.self.invariant in
    let m : Matching = record {
      pattern = c.self.inside.pattern.pattern;
      mates = c.self.inside.pairs.lefts;
      row_room = c.self.inside.row_room;
      column_room = c.self.inside.column_room;
    } in
    let at : c.args.at ≤ incidence_rows m.pattern = subst (λ (m : Matching). c.args.at ≤ incidence_rows m.pattern) (sym c.self.view_is) c.requires.at in
    subst (λ (t : RoomyIncidence). IsTwoSided
    (record m { pattern = t.pattern; mates = c.insert_left.new.self.lefts }) t c.insert_left.new.self) (sym c.insert_row.ensures)
    (subst (λ (pairs : PairLists). IsTwoSided
    (record m { pattern = row_inserted m.pattern c.args.at c.args.columns.now; mates = pairs.lefts })
    (record c.self.inside.pattern { pattern = row_inserted m.pattern c.args.at c.args.columns.now }) pairs)
    (sym c.insert_left.ensures) (record {
      matching = row_in-is_matching m S.matching c.args.at c.args.columns.now at;
      rows = omega (
        arith,
        length-insert c.self.inside.pairs.rights c.args.at None (omega (arith, at, S.rows)),
        length-insert m.pattern.rows c.args.at c.args.columns.now at,
        S.rows,
      );
      pattern_rows = S.pattern_rows;
      pattern_columns = S.pattern_columns;
      pair_rows = S.pair_rows;
      pair_columns = S.pair_columns;
    }))

pub returns-clause-matching : goal.returns-clause-matching
returns-clause-matching c = (invariant_of-self c).matching
