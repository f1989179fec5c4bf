-- A flowsheet without units, and units that are added to it.
use Rattle.std.proofs.Common.{Bor, ◌≡◌, ℕ, IsTrue, List, [], length, map, codes, Result, Ok, Err, OnOk, refl, sym, ap, subst, ◌∙◌, arith}
use Rattle.std.specs.List.{AllByRecursion}
use Rattle.refusals.specs.declared.Place.{Place}
use Rattle.refusals.specs.declared.ReadModel.{ReadModel}
use Rattle.refusals.specs.declared.ReadModel.TheVariants.{Refused}
use Rattle.refusals.specs.declared.Refused.{Refused as Refusal}
use Rattle.refusals.specs.declared.Why.{Why}
use Rattle.refusals.specs.declared.fault.Fault.{Fault}
use Rattle.refusals.specs.declared.fault.Fault.TheVariants.{Broken, NoMemory}
use Rattle.mixed_model.specs.Models.{MixedModel, IsModel, empty_model}
use Rattle.mixed_model.specs.Names.{is_label}
use Rattle.term_model.specs.Putting.{IsPlaced}
use Rattle.term_model.specs.Systems.{IsModelOf, System}
use Rattle.term_model.proofs.Lists.{all-flat_map, all-map, all_at, differ-distinct}
use Rattle.toml.specs.Data.{Data, Members, get_member}
use Rattle.toml.specs.View.{view}
use Rattle.toml.specs.declared.value.Value.{Value}
use Rattle.unit_equations.specs.declared.version.Version.{Version}
use Rattle.unit_equations.specs.Adding.{ArePlaced, AreSummands, IsNewPart}
use Rattle.document_values.specs.Answers.{GivesAnswer, OnRefused, fault_at, refused_at}
use Rattle.document_values.specs.Chains.{at}
use Rattle.flowsheet_reader.specs.Keeping.{KeptSheet}
use Rattle.unit_equations.specs.Kinds.{flow, flows}
use Rattle.flowsheet_reader.specs.Models.{components_in, components_of, list_at_key, streams_in, streams_of}
use Rattle.unit_equations.specs.Parts.{UnitEquation, system_of, together}
use Rattle.flowsheet_reader.specs.Reached.{AreGivenByItems, Grows, Keeps}
use Rattle.flowsheet_reader.specs.Sheets.{Sheet, sheet_without_units}
use Rattle.unit_equations.proofs.EquationNames.{IsWord, own_for-spelled}
use Rattle.document_values.proofs.Inversion.{chain-Ok}
use Rattle.flowsheet_reader.proofs.Reaching.{listed-sound}
use Rattle.unit_equations.proofs.Spelled.{IsShort, spelled-label, spelled-more}

-- a unit at its place
pub grows-at : (p : ℕ) (old new : KeptSheet) (place : Place) (result : Result (Unit {0}) Fault)
    (final : Result (Unit {0}) ReadModel) (wanted : Sheet → Result Sheet Why) (here : Sheet → Result Sheet Refusal)
    → final ≡ fault_at place result → ((sheet : Sheet) → Keeps p old sheet → here sheet ≡ at place (wanted sheet)) →
    OnOk result (Grows p old new wanted) → OnOk final (Grows p old new here)
grows-at p old new place (Ok done) final wanted here is same grows =
    subst (λ final. OnOk final (Grows p old new here)) (sym is) (λ sheet keeps.
    let (next, told, more) = grows sheet keeps in
    (next, same sheet keeps ∙ ap (at place) told, more))
grows-at p old new place (Err (Broken why)) final wanted here is same grows = subst (λ final. OnOk final (Grows p old new here)) (sym is) tt
grows-at p old new place (Err NoMemory) final wanted here is same grows = subst (λ final. OnOk final (Grows p old new here)) (sym is) tt

-- what a document lists
pub listed-of : (document : Members) (components streams : List (List ℕ)) → components_of document ≡ Ok components →
    streams_of document components ≡ Ok streams → AreGivenByItems components streams
listed-of document components streams first second =
    let (items, told, last) = chain-Ok (at Place.Document (list_at_key (get_member (codes "components") document))) components_in components first in
    let (others, given, end) = chain-Ok (at Place.Document (list_at_key (get_member (codes "streams") document))) (streams_in components) streams second in
    record { component_items = items; stream_items = others; components_are = last; streams_are = end }

f-word : IsWord (codes "f")
f-word = record { dotless = refl; spelled = record { some = omega arith; bytes = refl; short = omega arith } }

module _ (p : ℕ) (version : Version) (components streams : List (List ℕ)) (listed : AreGivenByItems components streams) where
  flow-labels : AllByRecursion (λ name. IsTrue (is_label name)) (flows components streams)
  flow-labels =
      let sound = listed-sound version components streams listed in
      all-flat_map IsShort (λ name. IsTrue (is_label name)) (λ stream. map (flow stream) components) streams
      (λ stream s. all-map IsShort (λ name. IsTrue (is_label name)) (flow stream) components
      (λ component c. spelled-label (flow stream component) (spelled-more (flow stream component) 67 96
      (own_for-spelled (codes "f") stream component f-word s c) (omega arith))) sound.good) sound.short

  -- flows may be added to an empty model
  flows-new : IsNewPart p [] [] (record { unknowns = flows components streams; equations = [] })
  flows-new = record {
    equation_labels = all_at (λ equation. IsTrue (is_label equation.name)) [] tt;
    unknown_labels = all_at (λ name. IsTrue (is_label name)) (flows components streams) flow-labels;
    equations_distinct = differ-distinct [] tt;
    unknowns_distinct = differ-distinct (flows components streams) (listed-sound version components streams listed).unknowns_differ;
    summands = all_at (λ equation. AreSummands p (flows components streams) equation.summands) [] tt;
  }

  pub flows-part : (model : MixedModel) (names : List (List ℕ)) (made : List UnitEquation) → model ≡ empty_model →
      names ≡ flows components streams → made ≡ [] → IsNewPart p model.equations model.unknowns
      (record { unknowns = names; equations = made })
  flows-part model names made empty flows_are none =
      subst (λ (model : MixedModel). IsNewPart p model.equations model.unknowns (record { unknowns = names; equations = made })) (sym empty)
      (subst (λ names. IsNewPart p [] [] (record { unknowns = names; equations = made })) (sym flows_are)
      (subst (λ made. IsNewPart p [] [] (record { unknowns = flows components streams; equations = made })) (sym none) flows-new))

  -- and make the model of a flowsheet without units
  empty-model : (model : MixedModel) → model ≡ empty_model → IsModel p model → IsModelOf p (record { equations = []; unknowns = []; terms = [] }) model
  empty-model model empty is = record {
    is_model = is;
    equations_are = ap (λ (model : MixedModel). model.equations) empty;
    unknowns_are = ap (λ (model : MixedModel). model.unknowns) empty;
    constants_are = λ i j row column. absurd (omega (arith, row, ap (λ (model : MixedModel). length model.equations) empty));
    symbols_are = λ i j row column. absurd (omega (arith, row, ap (λ (model : MixedModel). length model.equations) empty));
  }

  pub start-model : (model new : MixedModel) (names : List (List ℕ)) (made : List UnitEquation) → model ≡ empty_model →
      IsModel p model → names ≡ flows components streams → made ≡ []
      → ((system : System) → ArePlaced system → IsModelOf p system model →
      IsModelOf p (together system (system_of (record { unknowns = names; equations = made }))) new)
      → IsModelOf p (sheet_without_units version components streams).system new
  start-model model new names made empty is flows_are none added =
      subst (λ names. IsModelOf p (record { equations = []; unknowns = names; terms = [] }) new) flows_are
      (subst (λ made. IsModelOf p (together (record { equations = []; unknowns = []; terms = [] })
      (system_of (record { unknowns = names; equations = made }))) new) none
      (added (record { equations = []; unknowns = []; terms = [] }) (all_at (IsPlaced [] []) [] tt) (empty-model model empty is)))

-- the list at a key, as a call gives it
pub listed-Ok : (place : Place) (given : Result (Bor (List Value)) Why) (wanted : Result (List Data) Why)
    (items : Bor (List Value)) → GivesAnswer (λ items. map view items.now) given wanted → refused_at place given ≡ Ok items →
    at place wanted ≡ Ok (map view items.now)
listed-Ok place (Ok other) wanted items gives is = let same : other ≡ items = cc in ap (at place) gives
    ∙ ap (λ (items : Bor (List Value)). Ok (map view items.now)) same
listed-Ok place (Err why) wanted items gives is = let f : ⊥ = cc in absurd f

pub listed-Err : (place : Place) (given : Result (Bor (List Value)) Why) (wanted : Result (List Data) Why)
    (error : ReadModel) → GivesAnswer (λ items. map view items.now) given wanted → refused_at place given ≡ Err error →
    OnRefused error (λ refused. at place wanted ≡ Err refused)
listed-Err place (Ok other) wanted error gives is = let f : ⊥ = cc in absurd f
listed-Err place (Err why) wanted error gives is =
    let same : Refused (record { place = place; why = why }) ≡ error = cc in
    subst (λ error. OnRefused error (λ refused. at place wanted ≡ Err refused)) same (ap (at place) gives)
