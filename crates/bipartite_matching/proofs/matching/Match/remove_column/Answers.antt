use Rattle.std.proofs.Common.{◌≡◌, ◌<◌, ◌∙◌, ℕ, false, map, sym, subst}
use Rattle.std.proofs.lemmas.List.{length-map}
use Rattle.std.specs.Option.{option_map}
use Rattle.linear_algebra.specs.Parts.{unskip}
use Rattle.number_pairs.specs.Pairs.{PairLists}
use Rattle.sparse_t.specs.Incidences.{incidence_rows, touches}
use Rattle.sparse_t.specs.Edits.{RoomyIncidence, column_removed}
use Rattle.bipartite_matching.specs.Matchings.{Matching, IsTwoSided}
use Rattle.bipartite_matching.proofs.MatchEdits.{column_out-is_matching, bare-loose}
use Rattle.bipartite_matching.proofs.matching.Match.remove_column.Goals as goal

pub remove_right-requires-clause-free : goal.remove_right-requires-clause-free
remove_right-requires-clause-free c =
    let S = c.self.invariant in
    let m : Matching = record {
      pattern = c.self.inside.pattern.pattern;
      mates = c.self.inside.pairs.lefts;
      row_room = c.self.inside.row_room;
      column_room = c.self.inside.column_room;
    } in
    let at : c.args.at < m.pattern.width = subst (λ (m : Matching). c.args.at < m.pattern.width) (sym c.self.view_is) c.requires.at in
    let bare = subst (λ (m : Matching). (r : ℕ) → r < incidence_rows m.pattern → touches m.pattern r c.args.at ≡ false) (sym c.self.view_is)
    c.requires.bare in
    bare-loose m S.matching c.args.at at bare

pub invariant_of-self : goal.invariant_of-self
invariant_of-self c =
    let S = c.self.invariant in
    let m : Matching = record {
      pattern = c.self.inside.pattern.pattern;
      mates = c.self.inside.pairs.lefts;
      row_room = c.self.inside.row_room;
      column_room = c.self.inside.column_room;
    } in
    let at : c.args.at < m.pattern.width = subst (λ (m : Matching). c.args.at < m.pattern.width) (sym c.self.view_is) c.requires.at in
    let bare = subst (λ (m : Matching). (r : ℕ) → r < incidence_rows m.pattern → touches m.pattern r c.args.at ≡ false) (sym c.self.view_is)
    c.requires.bare in
    subst (λ (t : RoomyIncidence). IsTwoSided
    (record m { pattern = t.pattern; mates = c.remove_right.new.self.lefts }) t c.remove_right.new.self) (sym c.remove_column.ensures)
    (subst (λ (pairs : PairLists). IsTwoSided (record m { pattern = column_removed m.pattern c.args.at; mates = pairs.lefts })
    (record c.self.inside.pattern { pattern = column_removed m.pattern c.args.at }) pairs)
    (sym c.remove_right.ensures) (record {
      matching = column_out-is_matching m S.matching c.args.at at bare;
      rows = length-map c.self.inside.pairs.rights (option_map (unskip c.args.at))
          ∙ (S.rows ∙ sym (length-map m.pattern.rows (map (unskip c.args.at))));
      pattern_rows = S.pattern_rows;
      pattern_columns = S.pattern_columns;
      pair_rows = S.pair_rows;
      pair_columns = S.pair_columns;
    }))

pub returns-clause-matching : goal.returns-clause-matching
returns-clause-matching c = (invariant_of-self c).matching
