use Rattle.std.proofs.Common.{◌≡◌, ℕ, List, String, Global, map, take, ap, sym, ◌∙◌}
use Rattle.std.specs.String.{string_bytes}
use Rattle.std.proofs.lemmas.List.{take_all}
use Rattle.toml.specs.Data.{get_member}
use Rattle.toml.specs.View.{table_view}
use Rattle.flowsheet_reader.specs.Units.{coefficient_of}
use Rattle.std.proofs.lemmas.Simd.{map-map}
use Rattle.flowsheet_reader.proofs.unit_keys.coefficients.Goals as goal

pub returns : goal.returns
returns g c =
    let coefficient : List ℕ → ℕ = λ component. coefficient_of g.F.Field.modulus (get_member component (table_view c.args.table.now)) in
    let all : List (String Global) = c.as_slice-component-items.result.now in
    let whole : take c.loop-component.component-index all ≡ all = take_all c.loop-component.component-index all c.loop-component-test.false in
    c.loop-component.invariant ∙ ap (map (λ component. coefficient (string_bytes component))) whole
    ∙ sym (map-map coefficient string_bytes all) ∙ ap (map coefficient) c.as_slice-component-items.ensures
