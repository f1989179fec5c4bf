use Rattle.std.proofs.Common.{◌≡◌}
use Rattle.toml.specs.View.{members_view}
use Rattle.flowsheet_reader.specs.Units.{are_coefficients}
use Rattle.document_values.specs.Values.{members_in}
use Rattle.flowsheet_reader.proofs.unit_keys.are_coefficients.Given as goal

abbrev pub invariant-loop-component : goal.invariant-loop-component
invariant-loop-component g l = record {
  next : (goal.iterator-loop-component g).can_next l.component-iterator;
  finite : (goal.iterator-loop-component g).is_finite l.component-iterator;
  left : are_coefficients g.F.Field.modulus l.components (members_in (members_view l.fn.table.entries))
      ≡ are_coefficients g.F.Field.modulus l.components (members_in (members_view l.component-iterator));
}
