use Rattle.std.proofs.Common.{◌+◌, length, map, drop, refl, ap, ◌∙◌}
use Rattle.std.proofs.lemmas.List.{drop_all}
use Rattle.toml.specs.View.{view}
use Rattle.refusals.specs.declared.Refused.{Refused as Refusal}
use Rattle.document_values.specs.Answers.{OnRefused}
use Rattle.flowsheet_reader.specs.Models.{unit_at, units_in}
use Rattle.flowsheet_reader.specs.Reached.{IsRefusedBy}
use Rattle.document_values.proofs.Failing.{on_refused, same-error}
use Rattle.document_values.proofs.Inversion.{broken, then}
use Rattle.document_values.proofs.NamesRead.{items-left}
use Rattle.flowsheet_reader.proofs.sheet.Sheet.add_units.Goals as goal

pub loop-place-init : goal.loop-place-init
loop-place-init g c = record {
  kept = c.requires.kept;
  count = ap length c.requires.none;
  grown = λ sheet keeps. (sheet, refl, keeps);
}

pub loop-place-preserved : goal.loop-place-preserved
loop-place-preserved g c =
    let left = items-left c.args.items.now c.loop-place.place c.index-items-place.result c.loop-place-test.true c.index-items-place.is in
    let first = c.in_ok-add_unit_at.ensures.added c.loop-place.invariant.kept.0 c.loop-place.invariant.kept.1 in
    record {
      kept = (first.0, first.2);
      count = c.in_ok-add_unit_at.ensures.counted;
      grown = λ sheet keeps.
          let now = c.loop-place.invariant.grown sheet keeps in
          let next = c.in_ok-add_unit_at.ensures.added now.0 now.2 in (
            next.0,
            now.1 ∙ ap (units_in g.F.Field.modulus now.0) left
                ∙ then (unit_at g.F.Field.modulus now.0 (view c.index-items-place.result))
                (λ next. units_in g.F.Field.modulus next
                (map view (drop (c.loop-place.place + 1) c.args.items.now))) next.0 next.1,
            next.2,
          );
    }

pub returns-in_err-add_unit_at-clause-refused : goal.returns-in_err-add_unit_at-clause-refused
returns-in_err-add_unit_at-clause-refused g c =
    let left = items-left c.args.items.now c.loop-place.place c.index-items-place.result c.loop-place-test.true c.index-items-place.is in
    let here : Refusal → Type 0 = IsRefusedBy g.F.Field.modulus c.loop-place.self
    (λ sheet. unit_at g.F.Field.modulus sheet (view c.index-items-place.result)) in
    let wanted : Refusal → Type 0 = IsRefusedBy g.F.Field.modulus c.args.self.now (λ sheet. units_in g.F.Field.modulus sheet (map view c.args.items.now)) in
    same-error (λ why. OnRefused why wanted) c.from_residual.result c.in_err-add_unit_at.field-0.0 c.from_residual.ensures.1
    (on_refused here wanted c.in_err-add_unit_at.field-0.0
    (λ refused told sheet keeps.
    let now = c.loop-place.invariant.grown sheet keeps in
    now.1 ∙ ap (units_in g.F.Field.modulus now.0) left
    ∙ broken (unit_at g.F.Field.modulus now.0 (view c.index-items-place.result))
    (λ next. units_in g.F.Field.modulus next (map view
    (drop (c.loop-place.place + 1) c.args.items.now))) refused (told now.0 now.2))
    c.in_err-add_unit_at.ensures.refused)

pub returns-clause-added : goal.returns-clause-added
returns-clause-added g c = λ sheet keeps.
    let now = c.loop-place.invariant.grown sheet keeps in
    (now.0, now.1 ∙ ap (λ rest. units_in g.F.Field.modulus now.0 (map view rest)) (drop_all c.loop-place.place c.args.items.now c.loop-place-test.false), now.2)
