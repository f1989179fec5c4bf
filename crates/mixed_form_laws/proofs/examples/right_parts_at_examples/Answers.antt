use Rattle.std.proofs.Common.{refl, arith}
use Rattle.residue_theory.proofs.Primes.{prime_65521}
use Rattle.residue_theory.proofs.SetLaws.{differ}
use Rattle.mixed_matrices.specs.Examples.{symbol_triangle, triangle_below, triangle_lower, triangle_parts, triangle_tableau}
use Rattle.mixed_pair_laws.proofs.ExampleFacts.{triangle-has_tableau}
use Rattle.mixed_form_laws.proofs.Canonical.{below-block, block-below, block-lower, lower-block}
use Rattle.mixed_form_laws.proofs.ExampleFacts.{triangle-canonical, triangle-form, triangle-lower_block, triangle-rules_kept}
use Rattle.mixed_form_laws.proofs.examples.right_parts_at_examples.Goals as goal

pub returns-clause-holds : goal.returns-clause-holds
returns-clause-holds c = record {
  form = triangle-form;
  canonical = triangle-canonical;
  order = λ k l kl ll. (
    below-block 65521 prime_65521 symbol_triangle triangle_tableau triangle-has_tableau triangle_parts triangle_below
        triangle_lower triangle-rules_kept k l kl ll,
    block-below 65521 prime_65521 symbol_triangle triangle_tableau triangle-has_tableau triangle_parts triangle_below
        triangle_lower triangle-rules_kept k l kl ll,
  );
  lists = λ k l kl ll. (
    lower-block 65521 prime_65521 symbol_triangle triangle_tableau triangle-has_tableau triangle_parts triangle_below
        triangle_lower triangle-rules_kept k l kl ll,
    block-lower 65521 prime_65521 symbol_triangle triangle_tableau triangle-has_tableau triangle_parts triangle_below
        triangle_lower triangle-rules_kept k l kl ll,
  );
}

pub returns-clause-fails : goal.returns-clause-fails
returns-clause-fails c R = differ refl ((R.lists 0 1 (omega arith) (omega arith)).1 triangle-lower_block)
