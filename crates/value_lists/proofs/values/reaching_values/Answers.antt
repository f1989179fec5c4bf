use Rattle.std.proofs.Common.{map, subst}
use Rattle.mixed_matrices.specs.StructuralRanks.{IsStructuralRank}
use Rattle.mixed_model.specs.Models.{mixed_matrix_of}
use Rattle.value_lists.proofs.Tests.{ones-answered}
use Rattle.value_lists.proofs.values.reaching_values.Goals as goal

pub returns-then-rank_of_ones-rank : goal.returns-then-rank_of_ones-rank
returns-then-rank_of_ones-rank g c =
    let p = g.F.Field.modulus in
    let M = mixed_matrix_of c.args.model.now in
    let N = mixed_matrix_of c.in_ok-with_ones.field-0 in
    let rank = c.args.rank in
    let S = subst (IsStructuralRank p N) c.if-rank_of_ones-rank.true c.in_ok-rank_of_ones.ensures in
    ones-answered p g.met.F.Field.prime M rank c.requires N c.in_ok-with_ones.ensures S (map g.F.Field.number c.in_ok-ones.ones.items) c.in_ok-ones.ensures
