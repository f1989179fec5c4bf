use Rattle.std.proofs.Common.{◌≡◌, ℕ, List, codes, map, Ok, ap, sym, ◌∙◌}
use Rattle.std.specs.List.{zip}
use Rattle.toml.specs.View.{table_view, view}
use Rattle.flowsheet_reader.specs.Keeping.{KeptSheet, scope_of_kept}
use Rattle.unit_equations.specs.Kinds.{reactor}
use Rattle.unit_equations.specs.Parts.{UnitPart}
use Rattle.flowsheet_reader.specs.Units.{are_coefficients, coefficients, stream_at}
use Rattle.document_values.specs.Values.{members_in}
use Rattle.flowsheet_reader.proofs.UnitSteps.{reactor-kept}
use Rattle.flowsheet_reader.proofs.unit.read_reactor.Goals as goal

pub returns : goal.returns
returns g c =
    let p = g.F.Field.modulus in
    let scope = scope_of_kept c.args.sheet.now in
    let table = table_view c.args.table.now in
    let inlet = c.in_ok-inlet.inlet.now in
    let outlet = c.in_ok-outlet.outlet.now in
    let stoich = table_view c.in_ok-stoich.stoich.now in
    let components : List (List ℕ) = c.sheet.inside.components in
    let same : components ≡ c.args.sheet.now.components = ap (λ (sheet : KeptSheet). sheet.components) c.sheet.view_is in
    let part : List (List ℕ × ℕ) → UnitPart = reactor p c.args.unit.now inlet outlet in
    reactor-kept p scope c.args.unit.now table stoich (view c.in_ok-due.field-0.now) inlet outlet
    (ap (λ before. stream_at scope before (codes "inlet") table) (sym c.new.ensures) ∙ c.in_ok-inlet.ensures)
    (ap (λ before. stream_at scope before (codes "outlet") table) (sym c.in_ok-named.ensures) ∙ c.in_ok-outlet.ensures)
    c.in_ok-due.ensures c.in_ok-stoich.ensures
    (ap (λ names. are_coefficients p names (members_in stoich)) (sym same) ∙ c.in_ok-are_coefficients.ensures)
    ∙ ap Ok (sym (c.in_ok-part.ensures ∙ ap (λ items. part (zip components (map g.F.Field.number items))) c.deref.ensures.value
    ∙ ap (λ made. part (zip components made)) c.in_ok-coefficients.ensures
    ∙ ap (λ names. part (coefficients p names stoich)) same))
