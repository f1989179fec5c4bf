use Rattle.std.proofs.Common.{◌≡◌, ◌<◌, ◌^◌, ◌⊎◌, ◌∷◌, ◌++◌, [], Err, length, map, refl, sym, ap, subst, ◌∙◌, arith}
use Rattle.std.specs.String.{string_bytes}
use Rattle.refusals.specs.declared.Why.{Why}
use Rattle.refusals.specs.declared.Why.TheVariants.{TooMany}
use Rattle.refusals.specs.Faults.{OnBroken}
use Rattle.mixed_model.specs.Names.{has_name}
use Rattle.toml.specs.View.{view}
use Rattle.flowsheet_reader.specs.Keeping.{KeptSheet, scope_of_kept}
use Rattle.unit_equations.specs.Parts.{UnitPart}
use Rattle.flowsheet_reader.specs.Reached.{IsRefusedBy, Keeps}
use Rattle.flowsheet_reader.specs.Sheets.{sheet_with_unit}
use Rattle.flowsheet_reader.specs.Units.{add_unit, unit_in}
use Rattle.document_values.proofs.Failing.{on_broken, same-fault}
use Rattle.flowsheet_reader.proofs.Reaching.{keeps-more, part-new, reached-sound, unit-added, unit-full, unit-new}
use Rattle.flowsheet_reader.proofs.sheet.Sheet.add_unit.Goals as goal

pub add_part-requires : goal.add_part-requires
add_part-requires g c =
    let kept : KeptSheet = record {
      version = c.self.inside.version;
      components = c.self.inside.components;
      streams =
          c.self.inside.streams;
      units = c.self.inside.units;
      model = c.self.inside.model;
    } in
    let seen : kept ≡ c.args.self.now = c.self.view_is in
    let keeps = subst (λ kept. Keeps g.F.Field.modulus kept c.requires.0) (sym seen) c.requires.1 in
    let few : length c.in_ok-name.part.equations < 2 ^ 64 =
    omega (arith, ap (λ (part : UnitPart). length part.equations) c.part.view_is, c.part.inside.equations.small) in
    part-new g.F.Field.modulus g.met.F.Field.odd kept c.requires.0 keeps (view c.args.value.now) (string_bytes c.in_ok-name.name) c.in_ok-name.part
    (ap (λ kept. unit_in g.F.Field.modulus (scope_of_kept kept) (view c.args.value.now)) seen ∙ c.in_ok-name.ensures) few

pub returns-in_err-add_part-clause-refused : goal.returns-in_err-add_part-clause-refused
returns-in_err-add_part-clause-refused g c =
    let kept : KeptSheet = record {
      version = c.self.inside.version;
      components = c.self.inside.components;
      streams =
          c.self.inside.streams;
      units = c.self.inside.units;
      model = c.self.inside.model;
    } in
    let seen : kept ≡ c.args.self.now = c.self.view_is in
    let few : length c.in_ok-name.part.equations < 2 ^ 64 =
    omega (arith, ap (λ (part : UnitPart). length part.equations) c.part.view_is, c.part.inside.equations.small) in
    let over : Why → Type 0 = λ why. (why ≡ TooMany)
    × ((4096 < length (kept.model.equations ++ map (λ e. e.name) c.in_ok-name.part.equations)) ⊎
    (4096 < length (kept.model.unknowns ++ c.in_ok-name.part.unknowns))) in
    let wanted : Why → Type 0 = IsRefusedBy g.F.Field.modulus c.args.self.now (λ sheet. add_unit g.F.Field.modulus sheet (view c.args.value.now)) in
    same-fault (λ fault. OnBroken fault wanted) c.from_residual-in_err-add_part.result c.in_err-add_part.field-0.0 c.from_residual-in_err-add_part.ensures.1
    (on_broken over wanted c.in_err-add_part.field-0.0
    (λ why told sheet keeps.
    unit-full g.F.Field.modulus g.met.F.Field.odd kept sheet (subst (λ kept. Keeps g.F.Field.modulus kept sheet)
    (sym seen) keeps) (view c.args.value.now) (string_bytes c.in_ok-name.name) c.in_ok-name.part
    (ap (λ kept. unit_in g.F.Field.modulus (scope_of_kept kept) (view c.args.value.now)) seen ∙ c.in_ok-name.ensures) few told.1 ∙ ap Err (sym told.0))
    c.in_err-add_part.ensures.full)

pub push-requires : goal.push-requires
push-requires g c =
    let kept : KeptSheet = record {
      version = c.self.inside.version;
      components = c.self.inside.components;
      streams =
          c.self.inside.streams;
      units = c.self.inside.units;
      model = c.self.inside.model;
    } in
    let seen : kept ≡ c.args.self.now = c.self.view_is in
    let keeps = subst (λ kept. Keeps g.F.Field.modulus kept c.requires.0) (sym seen) c.requires.1 in
    let few : length c.in_ok-name.part.equations < 2 ^ 64 =
    omega (arith, ap (λ (part : UnitPart). length part.equations) c.part.view_is, c.part.inside.equations.small) in
    ap (has_name c.self.inside.units) c.deref.ensures
    ∙ unit-new g.F.Field.modulus g.met.F.Field.odd kept c.requires.0 keeps (view c.args.value.now) (string_bytes c.in_ok-name.name) c.in_ok-name.part
    (ap (λ kept. unit_in g.F.Field.modulus (scope_of_kept kept) (view c.args.value.now)) seen ∙ c.in_ok-name.ensures) few

pub returns-clause-added : goal.returns-clause-added
returns-clause-added g c = λ sheet given.
    let kept : KeptSheet = record {
      version = c.self.inside.version;
      components = c.self.inside.components;
      streams =
          c.self.inside.streams;
      units = c.self.inside.units;
      model = c.self.inside.model;
    } in
    let seen : kept ≡ c.args.self.now = c.self.view_is in
    let keeps = subst (λ kept. Keeps g.F.Field.modulus kept sheet) (sym seen) given in
    let few : length c.in_ok-name.part.equations < 2 ^ 64 =
    omega (arith, ap (λ (part : UnitPart). length part.equations) c.part.view_is, c.part.inside.equations.small) in
    let read = ap (λ kept. unit_in g.F.Field.modulus (scope_of_kept kept) (view c.args.value.now)) seen ∙ c.in_ok-name.ensures in
    let model = c.in_ok-add_part.ensures.added sheet.system ((reached-sound g.F.Field.modulus sheet g.met.F.Field.odd keeps.reached).placed) keeps.model in
    let new : KeptSheet = record {
      version = c.self.inside.version;
      components = c.self.inside.components;
      streams =
          c.self.inside.streams;
      units = c.push.new.self;
      model = c.add_part.new.model;
    } in
    let pushed : c.push.new.self ≡ c.self.inside.units ++ string_bytes c.in_ok-name.name ∷ [] =
    c.in_ok-push.ensures.pushed ∙ ap (λ name. c.self.inside.units ++ name ∷ []) c.deref.ensures in (
      sheet_with_unit sheet (string_bytes c.in_ok-name.name) c.in_ok-name.part,
      unit-added g.F.Field.modulus g.met.F.Field.odd kept sheet keeps (view c.args.value.now)
          (string_bytes c.in_ok-name.name) c.in_ok-name.part read few new model refl refl refl pushed,
      keeps-more g.F.Field.modulus g.met.F.Field.odd kept sheet keeps (view c.args.value.now)
          (string_bytes c.in_ok-name.name) c.in_ok-name.part read few new model refl refl refl pushed,
    )
