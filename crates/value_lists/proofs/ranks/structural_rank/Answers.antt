use Rattle.std.proofs.Common.{subst}
use Rattle.mixed_matrices.specs.StructuralRanks.{IsStructuralRank}
use Rattle.mixed_model.specs.Models.{MixedModel, mixed_matrix_of}
use Rattle.value_lists.proofs.ranks.structural_rank.Goals as goal

pub returns : goal.returns
returns g c =
    subst (λ (m : MixedModel). IsStructuralRank g.F.Field.modulus (mixed_matrix_of m) c.in_ok-rank.rank) c.in_ok-copy.ensures.same c.in_ok-rank.ensures
