-- Models that grow by systems of equations.
use Rattle.std.proofs.Common.{◌≡◌, ℕ, ◌+◌, ◌<◌, ◌≤◌, false, true, ◌||◌, All, List, [], ◌∷◌, ◌++◌, length, map, take}
use Rattle.std.proofs.Common.{get_or, sym, ap, subst, ◌∙◌, arith, append_assoc, append-nil, length-append}
use Rattle.std.specs.List.{IsDistinct, flat_map}
use Rattle.std.specs.Str.{bytes_eq}
use Rattle.std.proofs.Math.Seq.{take-append-add}
use Rattle.std.proofs.lemmas.List.{get_or-append-add, map-append}
use Rattle.std.proofs.lemmas.List.Concat.{flat_map-append}
use Rattle.std.proofs.lemmas.List.Elements.{All-append}
use Rattle.refusals.specs.declared.fault.Fault.{Fault}
use Rattle.refusals.specs.declared.fault.Fault.TheVariants.{Broken, NoMemory}
use Rattle.mixed_model.specs.Models.{MixedModel, IsModel, with_equation, with_unknown}
use Rattle.mixed_model.specs.Names.{has_name}
use Rattle.mixed_model.specs.declared.errors.AddError.{AddError}
use Rattle.mixed_model.specs.declared.errors.AddError.TheVariants as refusal
use Rattle.mixed_model.proofs.NameLaws.{bytes_eq-refl}
use Rattle.term_model.specs.Putting.{AreFree, IsPlaced, CountsAsTerm, LacksRoom, PutsTerms, Says}
use Rattle.term_model.specs.Systems.{IsModelOf, System}
use Rattle.term_model.specs.Terms.{Term}
use Rattle.term_model.proofs.Adding.{new_among}
use Rattle.term_model.proofs.Growing.{says-equation, says-unknown}
use Rattle.term_model.proofs.Lists.{all-map, all_at, at_all}
use Rattle.term_model.proofs.NamesAmong.{has-left, has-right}
use Rattle.unit_equations.specs.Adding.{ArePlaced, AreSummands, IsFilledSummand}
use Rattle.unit_equations.specs.Growing.{GrowsBy, IsOverLimit, equations_alone, unknowns_alone}
use Rattle.unit_equations.specs.Parts.{Summand, UnitEquation, UnitPart, system_of, equation_terms, together}
use Rattle.unit_equations.proofs.Free.{fresh-free}
use Rattle.unit_equations.proofs.SaidBy.{said_by}
use Rattle.unit_equations.proofs.SummandTerms.{term_of}

-- a model that does not grow
pub grows-none : (p : ℕ) (model : MixedModel) → GrowsBy p model model (unknowns_alone [])
grows-none p model = record {
  equations_are = sym (append-nil model.equations);
  unknowns_are = sym (append-nil model.unknowns);
  placed = all_at (IsPlaced model.equations model.unknowns) [] tt;
  says = λ before says placed. subst (λ all. Says p all model) (sym (append-nil before)) says;
}

-- what is placed stays so
pub stays-placed : (p : ℕ) (old new : MixedModel) (system : System) → GrowsBy p old new system → (terms : List Term) →
    All (IsPlaced old.equations old.unknowns) terms → All (IsPlaced new.equations new.unknowns) terms
stays-placed p old new system grows terms placed = λ k d at. record {
  equation = ap (λ names. has_name names (get_or terms k d).equation) grows.equations_are
      ∙ has-left old.equations system.equations (get_or terms k d).equation (placed k d at).equation;
  unknown = ap (λ names. has_name names (get_or terms k d).unknown) grows.unknowns_are
      ∙ has-left old.unknowns system.unknowns (get_or terms k d).unknown (placed k d at).unknown;
}

-- one that grows twice
pub grows-then : (p : ℕ) (old mid new : MixedModel) (system more : System) → GrowsBy p old mid system →
    GrowsBy p mid new more → GrowsBy p old new (together system more)
grows-then p old mid new system more first then = record {
  equations_are = then.equations_are ∙ ap (λ names. names ++ more.equations) first.equations_are ∙ append_assoc old.equations system.equations more.equations;
  unknowns_are = then.unknowns_are ∙ ap (λ names. names ++ more.unknowns) first.unknowns_are ∙ append_assoc old.unknowns system.unknowns more.unknowns;
  placed = All-append (IsPlaced new.equations new.unknowns) system.terms more.terms (stays-placed p mid new more then system.terms first.placed) then.placed;
  says = λ before says placed.
      let all = All-append (IsPlaced mid.equations mid.unknowns) before system.terms (stays-placed p old mid system first before placed) first.placed in
      subst (λ terms. Says p terms new) (append_assoc before system.terms more.terms) (then.says (before ++ system.terms) (first.says before says placed) all);
}

-- one more unknown
pub grows-unknown : (p : ℕ) (old new : MixedModel) (name : List ℕ) → IsModel p old →
    has_name old.unknowns name ≡ false → new ≡ with_unknown old name → GrowsBy p old new (unknowns_alone (name ∷ []))
grows-unknown p old new name is absent grown = record {
  equations_are = ap (λ (model : MixedModel). model.equations) grown ∙ sym (append-nil old.equations);
  unknowns_are = ap (λ (model : MixedModel). model.unknowns) grown;
  placed = all_at (IsPlaced new.equations new.unknowns) [] tt;
  says = λ before says placed.
      subst (λ all. Says p all new) (sym (append-nil before)) (says-unknown p before old name says (λ k d at. (placed k d at).unknown) absent is new grown);
}

-- the terms of an equation stand where its name and its unknowns do, and each puts something there
pub terms-placed : (equations unknowns : List (List ℕ)) (of : UnitEquation) → has_name equations of.name ≡ true →
    All (λ summand. has_name unknowns summand.unknown ≡ true) of.summands → All (IsPlaced equations unknowns)
    (equation_terms of)
terms-placed equations unknowns of there among =
    all_at (IsPlaced equations unknowns) (equation_terms of)
    (all-map (λ summand. has_name unknowns summand.unknown ≡ true) (IsPlaced equations unknowns)
    (term_of of.name) of.summands (λ summand at. record { equation = there; unknown = at })
    (at_all (λ (summand : Summand). has_name unknowns summand.unknown ≡ true) of.summands among))

pub terms-put : (p : ℕ) (of : UnitEquation) → All (IsFilledSummand p) of.summands → All CountsAsTerm (equation_terms of)
terms-put p of filled =
    all_at CountsAsTerm (equation_terms of) (all-map (IsFilledSummand p) CountsAsTerm (term_of of.name) of.summands
    (λ summand is. is.constant) (at_all (IsFilledSummand p) of.summands filled))

-- one more equation
module _ (p : ℕ) (old mid : MixedModel) (of : UnitEquation) (is : IsModel p old)
    (absent : has_name old.equations of.name ≡ false) (grown : mid ≡ with_equation old of.name)
    (summands : AreSummands p old.unknowns of.summands) where
  pub named : has_name mid.equations of.name ≡ true
  named = ap (λ (model : MixedModel). has_name model.equations of.name) grown
      ∙ has-right old.equations (of.name ∷ []) of.name (ap (λ b. b || false) (bytes_eq-refl of.name))

  pub same_unknowns : mid.unknowns ≡ old.unknowns
  same_unknowns = ap (λ (model : MixedModel). model.unknowns) grown

  pub new-placed : All (IsPlaced mid.equations mid.unknowns) (equation_terms of)
  new-placed = subst (λ unknowns. All (IsPlaced mid.equations unknowns) (equation_terms of)) (sym same_unknowns)
      (terms-placed mid.equations old.unknowns of named summands.there)

  says-mid : (before : List Term) → Says p before old → All (IsPlaced old.equations old.unknowns) before → Says p before mid
  says-mid before says placed = says-equation p before old of.name says (λ k d at. (placed k d at).equation) absent is mid grown

  free-mid : (before : List Term) → All (IsPlaced old.equations old.unknowns) before → AreFree before (equation_terms of)
  free-mid before placed = fresh-free old.equations before of.name of.summands absent
      (at_all (λ (term : Term). has_name old.equations term.equation ≡ true) before
      (λ k d at. (placed k d at).equation)) summands.distinct

  pub grows-equation : (new : MixedModel) → new.equations ≡ mid.equations → new.unknowns ≡ mid.unknowns →
      PutsTerms p mid new (equation_terms of) → GrowsBy p old new (equations_alone (of ∷ []))
  grows-equation new equations unknowns puts = record {
    equations_are = equations ∙ ap (λ (model : MixedModel). model.equations) grown;
    unknowns_are = unknowns ∙ same_unknowns ∙ sym (append-nil old.unknowns);
    placed = subst (All (IsPlaced new.equations new.unknowns)) (sym (append-nil (equation_terms of)))
        (subst (λ names. All (IsPlaced names new.unknowns) (equation_terms of)) (sym equations)
        (subst (λ names. All (IsPlaced mid.equations names) (equation_terms of)) (sym unknowns) new-placed));
    says = λ before says placed.
        subst (λ all. Says p (before ++ all) new) (sym (append-nil (equation_terms of))) (puts before (says-mid before says placed) (free-mid before placed));
  }

  -- nothing stands there, so memory alone is wanting
  pub equation-lacks : (error : AddError) → LacksRoom p mid (equation_terms of) error → error ≡ refusal.NoMemory
  equation-lacks error lacks =
      let said = said_by p old is in
      lacks said.0 (says-mid said.0 said.1 said.2) (free-mid said.0 said.2)

-- the next of some names that are new, one after the other
pub next-new : (names more : List (List ℕ)) (i : ℕ) (name : List ℕ) → IsDistinct bytes_eq (names ++ more) →
    i < length more → get_or more i [] ≡ name → has_name (names ++ take i more) name ≡ false
next-new names more i name distinct within is =
    subst (λ all. has_name all name ≡ false) (take-append-add names more i)
    (new_among (names ++ more) (length names + i) name distinct (omega (arith, length-append names more, within)) (get_or-append-add names more i [] ∙ is))

-- more names are too many
pub full-more : (names more : List (List ℕ)) (fault : Fault) → length names ≤ length more → IsOverLimit names fault → IsOverLimit more fault
full-more names more (Broken why) longer full = (full.0, omega (arith, full.1, longer))
full-more names more NoMemory longer full = tt

-- one equation more than others
pub alone-append : (equations : List UnitEquation) (of : UnitEquation) → together (equations_alone equations)
    (equations_alone (of ∷ [])) ≡ equations_alone (equations ++ of ∷ [])
alone-append equations of = λ t. record {
  equations = sym (map-append (λ (e : UnitEquation). e.name) equations (of ∷ [])) t;
  unknowns = [];
  terms = sym (flat_map-append equation_terms equations (of ∷ [])) t;
}

-- The model of a system, that grows by another, is that of both.
pub model-grows : (p : ℕ) (old new : MixedModel) (more : System) → GrowsBy p old new more → IsModel p new →
    (system : System) → ArePlaced system → IsModelOf p system old → IsModelOf p (together system more) new
model-grows p old new more grows is system placed model = record {
  is_model = is;
  equations_are = grows.equations_are ∙ ap (λ names. names ++ more.equations) model.equations_are;
  unknowns_are = grows.unknowns_are ∙ ap (λ names. names ++ more.unknowns) model.unknowns_are;
  constants_are = says.constants;
  symbols_are = says.symbols;
}
  where
    says : Says p (system.terms ++ more.terms) new
    says = grows.says system.terms (record { constants = model.constants_are; symbols = model.symbols_are })
        (subst (λ names. All (IsPlaced names old.unknowns) system.terms) (sym model.equations_are)
        (subst (λ names. All (IsPlaced system.equations names) system.terms) (sym model.unknowns_are) placed))

-- unknowns and then equations over them are a part
pub part-alone : (part : UnitPart) → together (unknowns_alone part.unknowns) (equations_alone part.equations) ≡ system_of part
part-alone part = λ t. record {
  equations = map (λ (e : UnitEquation). e.name) part.equations;
  unknowns = append-nil part.unknowns t;
  terms = flat_map equation_terms part.equations;
}
