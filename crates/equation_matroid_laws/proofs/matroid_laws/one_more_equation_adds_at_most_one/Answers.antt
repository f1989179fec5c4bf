use Rattle.equation_matroid_laws.proofs.RowRanks.{free-within, rank-largest}
use Rattle.equation_matroid_laws.proofs.Matroids.{largest-one_more}
use Rattle.equation_matroid_laws.proofs.RowRanks.{Free}
use Rattle.equation_matroid_laws.proofs.matroid_laws.one_more_equation_adds_at_most_one.Goals as goal
use Rattle.residue_theory.specs.Sets.{with_one}

pub returns : goal.returns
returns c p prime M X e r s el R S = largest-one_more M.rows (Free p prime M) (free-within p prime M) X e r s el
    (rank-largest p prime M X r R) (rank-largest p prime M (with_one X e) s S)
