use Rattle.std.proofs.Common.{◌≡◌, ◌∙◌, sym, subst, Some, None, IfSome}
use Rattle.std.proofs.lemmas.List.{length-set}
use Rattle.number_pairs.specs.Pairs.{PairLists, left_at}
use Rattle.bipartite_matching.specs.Matchings.{Matching, IsTwoSided}
use Rattle.bipartite_matching.proofs.MatchingLaws.{parted-is_matching}
use Rattle.bipartite_matching.proofs.matching.Match.unlink.Goals as goal

pub invariant_of-self : goal.invariant_of-self
invariant_of-self c =
    let S = c.self.invariant in
    let m : Matching = record {
      pattern = c.self.inside.pattern.pattern;
      mates = c.self.inside.pairs.lefts;
      row_room = c.self.inside.row_room;
      column_room = c.self.inside.column_room;
    } in
    let pair = subst (λ mate. IfSome mate (λ col. left_at c.self.inside.pairs col ≡ Some c.args.row)) c.unwrap-col.ensures c.right_of.ensures.pair in
    subst (λ (pairs : PairLists). IsTwoSided (record m { mates = pairs.lefts }) c.self.inside.pattern pairs) (sym c.unlink.ensures) (record {
      matching = parted-is_matching m S.matching c.args.row c.unwrap-col.result pair;
      rows = length-set c.self.inside.pairs.rights c.args.row None ∙ S.rows;
      pattern_rows = S.pattern_rows;
      pattern_columns = S.pattern_columns;
      pair_rows = S.pair_rows;
      pair_columns = S.pair_columns;
    })
