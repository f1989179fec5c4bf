use Rattle.std.proofs.Common.{refl}
use Rattle.mixed_matrices.specs.Arcs.{has_base, has_match, is_end, is_free, leads_to}
use Rattle.mixed_pair_laws.proofs.examples.arcs_at_examples.Goals as goal

pub returns-clause-holds_for_base : goal.returns-clause-holds_for_base
unfolding has_base
returns-clause-holds_for_base c = refl

pub returns-clause-fails_for_base : goal.returns-clause-fails_for_base
unfolding has_base
returns-clause-fails_for_base c = refl

pub returns-clause-holds_for_match : goal.returns-clause-holds_for_match
unfolding has_match
returns-clause-holds_for_match c = refl

pub returns-clause-fails_for_match : goal.returns-clause-fails_for_match
unfolding has_match
returns-clause-fails_for_match c = refl

pub returns-clause-holds_for_free : goal.returns-clause-holds_for_free
unfolding is_free
returns-clause-holds_for_free c = refl

pub returns-clause-fails_for_free : goal.returns-clause-fails_for_free
unfolding is_free
returns-clause-fails_for_free c = refl

pub returns-clause-holds_for_end : goal.returns-clause-holds_for_end
unfolding is_end has_base has_match
returns-clause-holds_for_end c = refl

pub returns-clause-fails_for_end : goal.returns-clause-fails_for_end
unfolding is_end has_base has_match
returns-clause-fails_for_end c = refl

pub returns-clause-holds_for_arc : goal.returns-clause-holds_for_arc
unfolding leads_to
returns-clause-holds_for_arc c = refl

pub returns-clause-fails_for_arc : goal.returns-clause-fails_for_arc
unfolding leads_to
returns-clause-fails_for_arc c = refl
