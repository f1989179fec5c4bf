use Rattle.std.proofs.Common.{refl, arith}
use Rattle.residue_theory.proofs.SetLaws.{differ}
use Rattle.mixed_matrices.specs.Arcs.{IsFromFree}
use Rattle.mixed_matrices.specs.Examples.{split_matrix, split_tableau}
use Rattle.mixed_pair_laws.proofs.ExampleFacts.{empty-walk, split-clear, split-no_free, triangle-closed, triangle-open}
use Rattle.mixed_pair_laws.proofs.examples.closed_sets_at_examples.Goals as goal

pub returns-clause-holds : goal.returns-clause-holds
returns-clause-holds c = triangle-closed

pub returns-clause-fails : goal.returns-clause-fails
returns-clause-fails c = triangle-open

pub returns-clause-holds_without_walk : goal.returns-clause-holds_without_walk
returns-clause-holds_without_walk c = split-clear

pub returns-clause-fails_with_walk : goal.returns-clause-fails_with_walk
returns-clause-fails_with_walk c = empty-walk

pub returns-clause-holds_reached : goal.returns-clause-holds_reached
returns-clause-holds_reached c y yl = ((λ h. absurd (differ refl h)), λ f. absurd (differ (split-no_free f.0 f.1) f.2))

pub returns-clause-fails_reached : goal.returns-clause-fails_reached
returns-clause-fails_reached c R = let f : IsFromFree 65521 split_matrix split_tableau 0 = (R 0 (omega arith)).0 refl in differ (split-no_free f.0 f.1) f.2
