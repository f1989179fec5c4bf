use Rattle.std.proofs.Common.{◌≡◌, refl, arith}
use Rattle.residue_theory.proofs.SetLaws.{differ}
use Rattle.residue_theory.specs.Sets.{nothing, only}
use Rattle.mixed_matrices.specs.Examples.{split_matrix}
use Rattle.mixed_matrices.specs.Pairs.{pair_size}
use Rattle.mixed_pair_laws.proofs.ExampleFacts.{split-best, split-pair}
use Rattle.mixed_pair_laws.proofs.examples.pairs_at_examples.Goals as goal

pub returns-clause-holds : goal.returns-clause-holds
returns-clause-holds c = split-pair

pub returns-clause-fails : goal.returns-clause-fails
returns-clause-fails c pair = differ (pair.apart 1 (omega arith) refl) refl

pub returns-clause-holds_for_best : goal.returns-clause-holds_for_best
returns-clause-holds_for_best c = split-best

pub returns-clause-fails_for_best : goal.returns-clause-fails_for_best
returns-clause-fails_for_best c best =
    let two : pair_size split_matrix (only 0) (only 1) ≡ 2 = refl in
    let one : pair_size split_matrix (only 0) nothing ≡ 1 = refl in
    omega (arith, best (only 0) (only 1) (λ j. 0) split-pair)
