use Rattle.std.proofs.Common.{◌≡◌, Err, codes, map, sym, subst, ◌∙◌}
use Rattle.refusals.specs.declared.Place.{Place}
use Rattle.refusals.specs.declared.Refused.{Refused as Refusal}
use Rattle.term_model.specs.Systems.{IsModelOf}
use Rattle.toml.specs.Data.{get_member}
use Rattle.toml.specs.View.{table_view, view}
use Rattle.document_values.specs.Answers.{OnRefused}
use Rattle.document_values.specs.Chains.{at}
use Rattle.flowsheet_reader.specs.Keeping.{KeptSheet}
use Rattle.flowsheet_reader.specs.Models.{list_at_key, sheet_in, start_of, units_in, with_units_of}
use Rattle.flowsheet_reader.specs.Reached.{IsRefusedBy}
use Rattle.document_values.proofs.Failing.{on_refused, same-error}
use Rattle.document_values.proofs.Inversion.{broken, then}
use Rattle.flowsheet_reader.proofs.Starting.{listed-Err, listed-Ok}
use Rattle.flowsheet_reader.proofs.flowsheet.read_document.Goals as goal

pub returns-in_err-units-clause-refused : goal.returns-in_err-units-clause-refused
returns-in_err-units-clause-refused g c =
    let p = g.F.Field.modulus in
    let document = table_view c.args.document.now in
    let start = c.in_ok-sheet.ensures.kept in
    let wanted : Refusal → Type 0 = λ refused. sheet_in p document ≡ Err refused in
    same-error (λ why. OnRefused why wanted) c.from_residual-in_err-units.result c.in_err-units.field-0.0 c.from_residual-in_err-units.ensures.1
    (on_refused (λ refused. at Place.Document (list_at_key (get_member (codes "unit") document)) ≡ Err refused) wanted c.in_err-units.field-0.0
    (λ refused breaks.
    then (start_of document) (with_units_of p document) start.0 start.1
    ∙ broken (at Place.Document (list_at_key (get_member (codes "unit") document))) (units_in p start.0) refused breaks)
    (listed-Err Place.Document c.list_at.result (list_at_key
    (get_member (codes "unit") document)) c.in_err-units.field-0.0 c.list_at.ensures (sym c.at.ensures
    ∙ c.in_err-units.was)))

pub returns-in_err-add_units-clause-refused : goal.returns-in_err-add_units-clause-refused
returns-in_err-add_units-clause-refused g c =
    let p = g.F.Field.modulus in
    let document = table_view c.args.document.now in
    let start = c.in_ok-sheet.ensures.kept in
    let wanted : Refusal → Type 0 = λ refused. sheet_in p document ≡ Err refused in
    let listed = listed-Ok Place.Document c.list_at.result
    (list_at_key (get_member (codes "unit") document)) c.in_ok-units.units c.list_at.ensures (sym c.at.ensures
    ∙ c.in_ok-units.was) in
    same-error (λ why. OnRefused why wanted) c.from_residual-in_err-add_units.result c.in_err-add_units.field-0.0 c.from_residual-in_err-add_units.ensures.1
    (on_refused (IsRefusedBy p c.in_ok-sheet.sheet (λ sheet. units_in p sheet (map view c.in_ok-units.units.now))) wanted c.in_err-add_units.field-0.0
    (λ refused breaks.
    then (start_of document) (with_units_of p document) start.0 start.1
    ∙ then (at Place.Document (list_at_key (get_member (codes "unit") document))) (units_in p start.0) (map view c.in_ok-units.units.now) listed
    ∙ breaks start.0 start.2)
    c.in_err-add_units.ensures.refused)

pub returns-clause-model : goal.returns-clause-model
returns-clause-model g c =
    let p = g.F.Field.modulus in
    let document = table_view c.args.document.now in
    let start = c.in_ok-sheet.ensures.kept in
    let listed = listed-Ok Place.Document c.list_at.result
    (list_at_key (get_member (codes "unit") document)) c.in_ok-units.units c.list_at.ensures (sym c.at.ensures
    ∙ c.in_ok-units.was) in
    let next = c.in_ok-add_units.ensures.added start.0 start.2 in (
      next.0,
      then (start_of document) (with_units_of p document) start.0 start.1
          ∙ then (at Place.Document (list_at_key (get_member (codes "unit") document))) (units_in p start.0) (map view c.in_ok-units.units.now) listed
          ∙ next.1,
      subst (λ (kept : KeptSheet). IsModelOf p next.0.system kept.model) (sym c.sheet-2.view_is) next.2.model,
    )
