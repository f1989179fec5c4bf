use Rattle.std.proofs.Common.{◌≡◌, refl, arith}
use Rattle.residue_theory.specs.Sets.{nothing, only}
use Rattle.residue_theory.specs.Sums.{size_on}
use Rattle.mixed_matrices.specs.Examples.{split_matrix}
use Rattle.mixed_matrices.specs.SetFunctions.{gamma}
use Rattle.mixed_pair_laws.proofs.ExampleFacts.{split-least, split_column-rho, split_none-rho}
use Rattle.mixed_pair_laws.proofs.examples.set_functions_at_examples.Goals as goal

pub returns-clause-holds : goal.returns-clause-holds
returns-clause-holds c = split-least (only 0)

pub returns-clause-fails : goal.returns-clause-fails
returns-clause-fails c less =
    let one : gamma split_matrix (only 0) ≡ 1 = refl in
    let none : gamma split_matrix nothing ≡ 0 = refl in
    let here : size_on (only 0) 2 ≡ 1 = refl in
    let nowhere : size_on nothing 2 ≡ 0 = refl in
    omega (arith, less 1 0 split_column-rho split_none-rho)
