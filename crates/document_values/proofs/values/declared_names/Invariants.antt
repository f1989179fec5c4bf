use Rattle.std.proofs.Common.{◌≡◌, ◌++◌, map, drop}
use Rattle.std.specs.String.{string_bytes}
use Rattle.toml.specs.View.{view}
use Rattle.document_values.specs.Values.{declared_name, declared_names, each}
use Rattle.document_values.proofs.values.declared_names.Given as goal

abbrev pub invariant-loop-item : goal.invariant-loop-item
invariant-loop-item g l = record {
  read : declared_names (g.D.Declared.names l.declared) l.fn.before (map view l.items)
      ≡ each (λ found. declared_name (g.D.Declared.names l.declared) (l.fn.before ++ found)) (map string_bytes l.names.items)
      (map view (drop l.item-index l.items));
  before : l.before ≡ l.fn.before ++ map string_bytes l.names.items;
}
