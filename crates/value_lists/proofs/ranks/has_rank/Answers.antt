use Rattle.std.proofs.Common.{subst}
use Rattle.mixed_matrices.specs.Models.{value}
use Rattle.mixed_matrices.specs.StructuralRanks.{IsStructuralRank}
use Rattle.mixed_model.specs.Models.{MixedModel, mixed_matrix_of}
use Rattle.mixed_pair_laws.proofs.PairRank.{greatest-unique}
use Rattle.value_lists.proofs.Numbers.{equal-numbers, numbers-equal}
use Rattle.value_lists.proofs.ranks.has_rank.Goals as goal

pub returns-clause-rank : goal.returns-clause-rank
returns-clause-rank g c =
    let p = g.F.Field.modulus in
    let M = mixed_matrix_of c.args.model in
    let is = subst (λ (m : MixedModel). IsStructuralRank p (mixed_matrix_of m) c.rank.result) c.in_ok-follow.ensures c.rank.ensures in (
      λ same. subst (IsStructuralRank p M) (numbers-equal c.rank.result c.args.rank same) is,
      λ R. equal-numbers c.rank.result c.args.rank (greatest-unique p M.rows M.columns (value M) c.rank.result c.args.rank is R),
    )
