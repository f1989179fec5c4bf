use Rattle.std.proofs.Common.{◌≡◌, refl, arith}
use Rattle.residue_theory.proofs.SetLaws.{differ}
use Rattle.residue_theory.specs.Sets.{only}
use Rattle.residue_theory.specs.Sums.{size_on}
use Rattle.mixed_matrices.specs.Examples.{split_model}
use Rattle.mixed_matrices.specs.Layerings.{has_symbol}
use Rattle.mixed_pair_laws.proofs.ExampleFacts.{below_one, split-layered}
use Rattle.mixed_pair_laws.proofs.examples.layered_matrices_at_examples.Goals as goal

pub returns-clause-holds : goal.returns-clause-holds
returns-clause-holds c = split-layered

pub returns-clause-fails : goal.returns-clause-fails
returns-clause-fails c lay = let one : size_on (has_symbol split_model) 1 ≡ 1 = refl in omega (arith, lay.t_rows.count)

pub returns-clause-holds_of_members : goal.returns-clause-holds_of_members
returns-clause-holds_of_members c =
    record {
      count = refl;
      below = λ k l. omega arith;
      member = λ k l. refl;
      place =
          below_one (λ k. size_on (only 1) 1 ≡ k) refl;
    }

pub returns-clause-fails_of_members : goal.returns-clause-fails_of_members
returns-clause-fails_of_members c m = differ refl (m.member 0 (omega arith))
