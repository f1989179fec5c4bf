use Rattle.std.proofs.Common.{◌≡◌}
use Rattle.term_model.proofs.Taking.{PutsSoFar}
use Rattle.unit_equations.specs.Parts.{equation, equation_terms}
use Rattle.unit_equations.proofs.adding.put_summands.Given as goal

abbrev pub invariant-loop-summand : goal.invariant-loop-summand
invariant-loop-summand g l = record {
  equations : l.model.equations ≡ l.fn.model.equations;
  unknowns : l.model.unknowns ≡ l.fn.model.unknowns;
  says : PutsSoFar g.F.Field.modulus l.fn.model l.model (equation_terms (equation l.name l.summands)) l.summand-index;
}
