use Rattle.std.proofs.Common.{refl, arith}
use Rattle.residue_theory.proofs.SetLaws.{differ}
use Rattle.mixed_form_laws.proofs.ExampleFacts.{tall-form, triangle-form, turned-no_form}
use Rattle.mixed_form_laws.proofs.examples.forms_at_examples.Goals as goal

pub returns-clause-holds : goal.returns-clause-holds
returns-clause-holds c = triangle-form

pub returns-clause-fails : goal.returns-clause-fails
returns-clause-fails c = turned-no_form

pub returns-clause-holds_for_last : goal.returns-clause-holds_for_last
returns-clause-holds_for_last c = tall-form

pub returns-clause-triangular : goal.returns-clause-triangular
returns-clause-triangular c = triangle-form.1

pub returns-clause-not_triangular : goal.returns-clause-not_triangular
returns-clause-not_triangular c tri = differ ((tri.empty 2 1 (omega arith)).t 0 0 (omega arith) (omega arith) refl refl) refl
