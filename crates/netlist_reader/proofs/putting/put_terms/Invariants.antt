use Rattle.std.proofs.Common.{◌≡◌, map}
use Rattle.term_model.proofs.Taking.{PutsSoFar}
use Rattle.netlist_reader.specs.Numbers.{name_term}
use Rattle.netlist_reader.proofs.putting.put_terms.Given as goal

abbrev pub invariant-loop-term : goal.invariant-loop-term
invariant-loop-term g l = record {
  equations : l.model.equations ≡ l.fn.model.equations;
  unknowns : l.model.unknowns ≡ l.fn.model.unknowns;
  says : PutsSoFar g.F.Field.modulus l.fn.model l.model (map (name_term l.fn.model.equations l.fn.model.unknowns) l.terms) l.term-index;
}
