-- What a unit that keeps the rules adds.
use Rattle.std.proofs.Common.{◌≡◌, ℕ, ◌+◌, ◌-◌, ◌<◌, ◌≤◌, ◌^◌, true, false, List, [], ◌∷◌, ◌++◌, length, map, take}
use Rattle.std.proofs.Common.{codes, nat_eq, Result, Ok, refl, sym, ap, subst, ◌∙◌, arith, length-append}
use Rattle.std.specs.List.{AllByRecursion, flat_map, zip}
use Rattle.std.proofs.lemmas.Bool.{eqb-true}
use Rattle.std.proofs.lemmas.List.{append-nil, length-map, length-take-le}
use Rattle.std.proofs.lemmas.List.Concat.{flat_map-cons}
use Rattle.std.proofs.lemmas.List.FromFn.{length-enumerate_from}
use Rattle.refusals.specs.declared.Why.{Why}
use Rattle.refusals.specs.declared.Why.TheVariants.{BadValue, UnknownKey}
use Rattle.line_lexer.specs.Names.{is_short_name}
use Rattle.mixed_model.specs.Names.{has_name}
use Rattle.term_model.specs.Terms.{dotted}
use Rattle.term_model.proofs.Lists.{Differ, differ-last}
use Rattle.toml.specs.Data.{Data, Members, get_member}
use Rattle.term_model.proofs.NamesAmong.{has-right}
use Rattle.unit_equations.specs.declared.kind.UnitKind.{UnitKind}
use Rattle.unit_equations.specs.declared.kind.UnitKind.TheVariants.{Mixer, Separator, Reactor, Tee, Specification, Balance, Relation}
use Rattle.unit_equations.specs.declared.version.Version.{Version}
use Rattle.unit_equations.specs.declared.version.Version.TheVariants.{One, Two}
use Rattle.document_values.specs.Chains.{◌>>=◌, keeping}
use Rattle.unit_equations.specs.Kinds.{balance, but_last, conserved, fixed_split, flows, keys_of, mixer, open_split}
use Rattle.unit_equations.specs.Kinds.{reactor, relation, separator, specification, tee}
use Rattle.unit_equations.specs.Parts.{UnitEquation, UnitPart}
use Rattle.flowsheet_reader.specs.Sheets.{Scope, Sheet, scope_of}
use Rattle.flowsheet_reader.specs.Units.{are_coefficients, coefficient_of, coefficients, fractions_in, kind_in}
use Rattle.flowsheet_reader.specs.Units.{outlets_in, unit_part_in, stream_at, streams_at, unit_in}
use Rattle.document_values.specs.Values.{declared_name, declared_names, due, each, has_only, list_of, list_of_length}
use Rattle.document_values.specs.Values.{list_with, members_in, new_name, residue_in, numbers_in, members_of_value}
use Rattle.document_values.proofs.Inversion.{chain-Ok, declared_name-Ok, declared_names-Ok, keeping-Ok, new_name-Ok}
use Rattle.unit_equations.proofs.Keyed.{all-own, has-self}
use Rattle.flowsheet_reader.proofs.Sound.{IsSound}
use Rattle.unit_equations.proofs.Spelled.{IsShort, short-name}
use Rattle.unit_equations.proofs.SplitNames.{Fits}
use Rattle.unit_equations.proofs.UnitParts.{IsUnitPart, balance-part, mixer-part, reactor-part, relation-part, separator-part, specification-part, tee-part}

-- the stream at a key
stream_at-Ok : (scope : Scope) (before : List (List ℕ)) (key : List ℕ) (table : Members) (stream : List ℕ) →
    stream_at scope before key table ≡ Ok stream → (has_name scope.streams stream ≡ true)
    × (has_name before stream ≡ false)
stream_at-Ok scope before key table stream kept =
    let (datum, first, last) = chain-Ok (due key table) (declared_name scope.streams before) stream kept in
    declared_name-Ok scope.streams before datum stream last

streams_at-Ok : (scope : Scope) (least : ℕ) (before : List (List ℕ)) (key : List ℕ) (table : Members)
    (streams : List (List ℕ)) → Differ before → streams_at scope least before key table ≡ Ok streams →
    AllByRecursion (λ name. has_name scope.streams name ≡ true) streams × Differ (before ++ streams)
streams_at-Ok scope least before key table streams differ kept =
    let (items, first, last) = chain-Ok (due key table >>= list_with least) (declared_names scope.streams before) streams kept in
    declared_names-Ok scope.streams before items streams differ last

-- outlets differ from the inlet and among each other
outlets-Ok : (scope : Scope) (version : Version) (inlet first second : List ℕ) (table : Members)
    (outlets : List (List ℕ)) → outlets_in scope version inlet first second table ≡ Ok outlets
    → AllByRecursion (λ name. has_name scope.streams name ≡ true) outlets × Differ (inlet ∷ outlets) × Fits version (length (but_last outlets))
outlets-Ok scope One inlet first second table outlets kept =
    let (one, front, back) = chain-Ok (stream_at scope (inlet ∷ []) first table)
    (λ one. stream_at scope (inlet ∷ one ∷ []) second table >>= (λ other. Ok (one ∷ other ∷ []))) outlets kept in
    let (other, middle, last) = chain-Ok (stream_at scope (inlet ∷ one ∷ []) second table) (λ other. Ok (one ∷ other ∷ [])) outlets back in
    let is_one = stream_at-Ok scope (inlet ∷ []) first table one front in
    let is_other = stream_at-Ok scope (inlet ∷ one ∷ []) second table other middle in
    let same : one ∷ other ∷ [] ≡ outlets = cc in
    let two : Differ (inlet ∷ one ∷ []) = differ-last (inlet ∷ []) one (refl, tt) is_one.1 in
    let three : Differ (inlet ∷ one ∷ other ∷ []) = differ-last (inlet ∷ one ∷ []) other two is_other.1 in (
      subst (AllByRecursion (λ name. has_name scope.streams name ≡ true)) same (is_one.0, (is_other.0, tt)),
      subst (λ names. Differ (inlet ∷ names)) same three,
      subst (λ names. length (but_last names) ≤ 1) same (omega arith),
    )
outlets-Ok scope Two inlet first second table outlets kept =
    let is = streams_at-Ok scope 2 (inlet ∷ []) (codes "outlets") table outlets (refl, tt) kept in
    (is.0, is.1, tt)

-- as many numbers as items
each-length : {A : Type 0} (one : List A → Data → Result A Why) (found : List A) (items : List Data)
    (values : List A) → each one found items ≡ Ok values → length values ≡ length found + length items
each-length one found [] values kept = let same : found ≡ values = cc in ap length (sym same) ∙ omega arith
each-length one found (datum ∷ items) values kept =
    let (value, first, last) = chain-Ok (one found datum) (λ value. each one (found ++ value ∷ []) items) values kept in
    let rest = each-length one (found ++ value ∷ []) items values last in
    omega (arith, rest, length-append found (value ∷ []))

but_last-length : (outlets : List (List ℕ)) → length (but_last outlets) ≡ length outlets - 1
but_last-length outlets = length-enumerate_from 1 (take (length outlets - 1) outlets) ∙ length-take-le (length outlets - 1) outlets (omega arith)

-- a fraction for each outlet but the last
fractions-Ok : (p : ℕ) (scope : Scope) (version : Version) (inlet first second : List ℕ) (outlets : List (List ℕ))
    (table : Members) (fractions : List ℕ) → outlets_in scope version inlet first second table ≡ Ok outlets →
    fractions_in p version outlets table ≡ Ok fractions → length fractions ≡ length outlets - 1
fractions-Ok p scope One inlet first second outlets table fractions two kept =
    let (one, front, back) = chain-Ok (stream_at scope (inlet ∷ []) first table)
    (λ one. stream_at scope (inlet ∷ one ∷ []) second table >>= (λ other. Ok (one ∷ other ∷ []))) outlets two in
    let (other, middle, last) = chain-Ok (stream_at scope (inlet ∷ one ∷ []) second table) (λ other. Ok (one ∷ other ∷ [])) outlets back in
    let same : one ∷ other ∷ [] ≡ outlets = cc in
    let (fraction, told, is) = chain-Ok (due (codes "fraction") table >>= residue_in p) (λ fraction. Ok (fraction ∷ [])) fractions kept in
    let given : fraction ∷ [] ≡ fractions = cc in
    ap length (sym given) ∙ ap (λ names. length names - 1) same
fractions-Ok p scope Two inlet first second outlets table fractions two kept =
    let (items, front, back) = chain-Ok (due (codes "fractions") table >>= list_of_length (length outlets - 1)) (numbers_in p) fractions kept in
    let (datum, there, listed) = chain-Ok (due (codes "fractions") table) (list_of_length (length outlets - 1)) items front in
    let (all, given, fits) = chain-Ok (list_of datum) (λ items. keeping (nat_eq (length items) (length outlets - 1)) BadValue items) items listed in
    let is = keeping-Ok (nat_eq (length all) (length outlets - 1)) BadValue all items fits in
    let count : length all ≡ length outlets - 1 = eqb-true (length all) (length outlets - 1) is.0 in
    let many = each-length (λ found. residue_in p) [] items fractions back in
    omega (arith, many, count, ap length is.1)

zip-length : {X Y : Type 0} (xs : List X) (ys : List Y) → length xs ≡ length ys → length (zip xs ys) ≡ length xs
zip-length [] ys same = refl
zip-length (x ∷ xs) [] same = absurd (omega (arith, same))
zip-length (x ∷ xs) (y ∷ ys) same = omega (arith, zip-length xs ys (omega (arith, same)))

zip-first : (f : List ℕ → ℕ) (xs : List (List ℕ)) → map (λ (x : List ℕ × ℕ). x.0) (zip xs (map f xs)) ≡ xs
zip-first f [] = refl
zip-first f (x ∷ xs) = ap (λ rest. x ∷ rest) (zip-first f xs)

zip-all : (P : List ℕ → Type 0) (f : List ℕ → ℕ) (xs ys : List (List ℕ)) → AllByRecursion P xs → AllByRecursion (λ (x : List ℕ × ℕ). P x.0) (zip xs (map f ys))
zip-all P f [] ys all = tt
zip-all P f (x ∷ xs) [] all = tt
zip-all P f (x ∷ xs) (y ∷ ys) all = (all.0, zip-all P f xs ys all.1)

-- where there are no components, nothing is added for them
nothing-part : (p : ℕ) (unknowns : List (List ℕ)) (unit : List ℕ) → IsUnitPart p unknowns unit (record { unknowns = []; equations = [] })
nothing-part p unknowns unit = record {
  names = record { owned = tt; differ = tt; spelled = tt };
  units = tt;
  words =
      tt;
  differ = tt;
  spelled = tt;
  stand = tt;
}

-- rows for a component, and for others
more-rows : {C : Type 0} (rows : C → List UnitEquation) (component : C) (components : List C) →
    length (rows component) ≤ length (flat_map rows (component ∷ components))
more-rows rows component components = omega (
  arith,
  ap length
      (flat_map-cons rows component components),
  length-append (rows component) (flat_map rows components),
)

module _ (p : ℕ) (odd : 2 < p) (sheet : Sheet) (sound : IsSound sheet) (unit : List ℕ) (u : IsShort unit) where
  abbrev Adds : UnitPart → Type 0
  Adds part = IsUnitPart p (flows sheet.components sheet.streams ++ (sound.own ++ part.unknowns)) unit part

  separator-kept : (version : Version) (inlet : List ℕ) (outlets : List (List ℕ)) →
      AllByRecursion (λ name. has_name sheet.streams name ≡ true) (inlet ∷ outlets) → Differ (inlet ∷ outlets) →
      Fits version (length (but_last outlets))
      → length ((separator p version sheet.components unit inlet outlets).equations) < 2 ^ 64 → Adds (separator p version sheet.components unit inlet outlets)
  separator-kept version inlet outlets there differ fits few = by sheet.components refl
    where
      by : (components : List (List ℕ)) → sheet.components ≡ components → Adds (separator p version sheet.components unit inlet outlets)
      by [] none = subst (λ components. IsUnitPart p (flows sheet.components sheet.streams ++
          (sound.own ++ [])) unit (separator p version components unit inlet outlets)) (sym none)
          (nothing-part p (flows sheet.components sheet.streams ++ (sound.own ++ [])) unit)
      by (component ∷ components) some =
          let rows : List ℕ → List UnitEquation = λ component. conserved p unit inlet outlets component ∷ map
          (open_split version unit inlet component) (but_last outlets) in
          let count : length (rows component) ≤ length (flat_map rows sheet.components) =
          subst (λ all. length (rows component) ≤ length (flat_map rows all)) (sym some)
          (more-rows rows component components) in
          let splits : length (map (open_split version unit inlet component) (but_last outlets)) ≡ length outlets - 1 =
          length-map (but_last outlets) (open_split version unit inlet component) ∙ but_last-length outlets in
          separator-part p odd sheet.components sheet.streams
          (sound.own ++ []) unit sound.good sound.apart sound.short u version inlet outlets there differ
          (omega (arith, few, count, splits)) fits

  tee-kept : (version : Version) (inlet : List ℕ) (outlets : List (List ℕ)) (fractions : List ℕ) →
      AllByRecursion (λ name. has_name sheet.streams name ≡ true) (inlet ∷ outlets) → Differ (inlet ∷ outlets) →
      Fits version (length (but_last outlets)) → length fractions ≡ length outlets - 1
      → length ((tee p version sheet.components unit inlet outlets fractions).equations) < 2 ^ 64 →
      Adds (tee p version sheet.components unit inlet outlets fractions)
  tee-kept version inlet outlets fractions there differ fits same few = by sheet.components refl
    where
      by : (components : List (List ℕ)) → sheet.components ≡ components → Adds (tee p version sheet.components unit inlet outlets fractions)
      by [] none = subst (λ components. IsUnitPart p (flows sheet.components sheet.streams ++
          (sound.own ++ [])) unit (tee p version components unit inlet outlets fractions)) (sym none)
          (nothing-part p (flows sheet.components sheet.streams ++ (sound.own ++ [])) unit)
      by (component ∷ components) some =
          let rows : List ℕ → List UnitEquation = λ component. conserved p unit inlet outlets component ∷ map
          (fixed_split p version unit inlet component) (zip (but_last outlets) fractions) in
          let count : length (rows component) ≤ length (flat_map rows sheet.components) =
          subst (λ all. length (rows component) ≤ length (flat_map rows all)) (sym some)
          (more-rows rows component components) in
          let splits : length (map (fixed_split p version unit inlet component) (zip (but_last outlets) fractions)) ≡ length outlets - 1 =
          length-map (zip (but_last outlets) fractions) (fixed_split p version unit inlet component)
          ∙ zip-length (but_last outlets) fractions (but_last-length outlets ∙ sym same)
          ∙ but_last-length outlets in
          tee-part p odd sheet.components sheet.streams
          (sound.own ++ []) unit sound.good sound.apart sound.short u version inlet outlets fractions there differ (omega (arith, few, count, splits)) fits

  pub part-kept : (kind : UnitKind) (table : Members) (part : UnitPart) →
      unit_part_in p (scope_of sheet) kind unit table ≡ Ok part → length part.equations < 2 ^ 64 → Adds part
  part-kept Mixer table part kept few =
      let (inlets, first, rest) = chain-Ok (streams_at (scope_of sheet) 1 [] (codes "inlets") table)
      (λ inlets. stream_at (scope_of sheet) inlets (codes "outlet") table >>=
      (λ outlet. Ok (mixer p sheet.components unit inlets outlet))) part kept in
      let (outlet, second, last) = chain-Ok (stream_at (scope_of sheet) inlets (codes "outlet") table)
      (λ outlet. Ok (mixer p sheet.components unit inlets outlet)) part rest in
      let is = streams_at-Ok (scope_of sheet) 1 [] (codes "inlets") table inlets tt first in
      let out = stream_at-Ok (scope_of sheet) inlets (codes "outlet") table outlet second in
      let same : mixer p sheet.components unit inlets outlet ≡ part = cc in
      subst Adds same (mixer-part p odd sheet.components sheet.streams
      (sound.own ++ []) unit sound.good sound.apart sound.short u inlets outlet (out.0, is.0) (out.1, is.1))
  part-kept Separator table part kept few =
      let (inlet, first, rest) = chain-Ok (stream_at (scope_of sheet) [] (codes "inlet") table)
      (λ inlet. outlets_in (scope_of sheet) sheet.version inlet (codes "top") (codes "bottom") table >>=
      (λ outlets. Ok (separator p sheet.version sheet.components unit inlet outlets))) part kept in
      let (outlets, second, last) = chain-Ok (outlets_in (scope_of sheet) sheet.version inlet (codes "top")
      (codes "bottom") table) (λ outlets. Ok (separator p sheet.version sheet.components unit inlet outlets)) part rest in
      let inlet_is = stream_at-Ok (scope_of sheet) [] (codes "inlet") table inlet first in
      let out = outlets-Ok (scope_of sheet) sheet.version inlet (codes "top") (codes "bottom") table outlets second in
      let same : separator p sheet.version sheet.components unit inlet outlets ≡ part = cc in
      subst Adds same (separator-kept sheet.version inlet outlets (inlet_is.0, out.0) out.1 out.2
      (subst (λ part. length part.equations < 2 ^ 64) (sym same) few))
  part-kept Reactor table part kept few =
      let (inlet, first, rest) = chain-Ok (stream_at (scope_of sheet) [] (codes "inlet") table)
      (λ inlet. stream_at (scope_of sheet) (inlet ∷ []) (codes "outlet") table >>=
      (λ outlet. due (codes "stoich") table >>= members_of_value >>= (λ stoich. are_coefficients p sheet.components
      (members_in stoich) >>= (λ _. Ok (reactor p unit inlet outlet
      (coefficients p sheet.components stoich)))))) part kept in
      let (outlet, second, more) = chain-Ok (stream_at (scope_of sheet) (inlet ∷ []) (codes "outlet") table)
      (λ outlet. due (codes "stoich") table >>= members_of_value >>= (λ stoich. are_coefficients p sheet.components
      (members_in stoich) >>= (λ _. Ok (reactor p unit inlet outlet
      (coefficients p sheet.components stoich))))) part rest in
      let (stoich, third, good) = chain-Ok (due (codes "stoich") table >>= members_of_value)
      (λ stoich. are_coefficients p sheet.components (members_in stoich) >>=
      (λ _. Ok (reactor p unit inlet outlet (coefficients p sheet.components stoich)))) part more in
      let (done, fourth, last) = chain-Ok (are_coefficients p sheet.components (members_in stoich))
      (λ _. Ok (reactor p unit inlet outlet (coefficients p sheet.components stoich))) part good in
      let inlet_is = stream_at-Ok (scope_of sheet) [] (codes "inlet") table inlet first in
      let out = stream_at-Ok (scope_of sheet) (inlet ∷ []) (codes "outlet") table outlet second in
      let same : reactor p unit inlet outlet (coefficients p sheet.components stoich) ≡ part = cc in
      let value : List ℕ → ℕ = λ component. coefficient_of p (get_member component stoich) in
      subst Adds same
      (reactor-part p odd sheet.components sheet.streams
      (sound.own ++ dotted (codes "x") unit ∷ []) unit sound.good sound.apart sound.short u inlet outlet
      (coefficients p sheet.components stoich)
      (out.0, (inlet_is.0, tt)) (out.1, (refl, tt))
      (zip-all (λ component. has_name sheet.components component ≡ true) value sheet.components sheet.components (all-own sheet.components))
      (subst Differ (sym (zip-first value sheet.components)) sound.apart)
      (has-right sound.own (dotted (codes "x") unit ∷ []) (dotted (codes "x") unit) (has-self [] (dotted (codes "x") unit) (dotted (codes "x") unit) refl)))
  part-kept Tee table part kept few =
      let (inlet, first, rest) = chain-Ok (stream_at (scope_of sheet) [] (codes "inlet") table)
      (λ inlet. outlets_in (scope_of sheet) sheet.version inlet (codes "first") (codes "second") table >>=
      (λ outlets. fractions_in p sheet.version outlets table >>=
      (λ fractions. Ok (tee p sheet.version sheet.components unit inlet outlets fractions)))) part kept in
      let (outlets, second, more) = chain-Ok (outlets_in (scope_of sheet) sheet.version inlet (codes "first")
      (codes "second") table) (λ outlets. fractions_in p sheet.version outlets table >>=
      (λ fractions. Ok (tee p sheet.version sheet.components unit inlet outlets fractions))) part rest in
      let (fractions, third, last) = chain-Ok (fractions_in p sheet.version outlets table)
      (λ fractions. Ok (tee p sheet.version sheet.components unit inlet outlets fractions)) part more in
      let inlet_is = stream_at-Ok (scope_of sheet) [] (codes "inlet") table inlet first in
      let out = outlets-Ok (scope_of sheet) sheet.version inlet (codes "first") (codes "second") table outlets second in
      let same : tee p sheet.version sheet.components unit inlet outlets fractions ≡ part = cc in
      subst Adds same
      (tee-kept sheet.version inlet outlets fractions (inlet_is.0, out.0) out.1 out.2
      (fractions-Ok p (scope_of sheet) sheet.version inlet (codes "first")
      (codes "second") outlets table fractions second third) (subst (λ part. length part.equations < 2 ^ 64)
      (sym same) few))
  part-kept Specification table part kept few =
      let (stream, first, rest) = chain-Ok (stream_at (scope_of sheet) [] (codes "stream") table)
      (λ stream. due (codes "component") table >>= declared_name sheet.components [] >>=
      (λ component. Ok (specification unit stream component))) part kept in
      let (component, second, last) = chain-Ok (due (codes "component") table >>= declared_name sheet.components [])
      (λ component. Ok (specification unit stream component)) part rest in
      let (datum, there, told) = chain-Ok (due (codes "component") table) (declared_name sheet.components []) component second in
      let is = stream_at-Ok (scope_of sheet) [] (codes "stream") table stream first in
      let among = declared_name-Ok sheet.components [] datum component told in
      let same : specification unit stream component ≡ part = cc in
      subst Adds same (specification-part p odd sheet.components sheet.streams
      (sound.own ++ []) unit sound.good sound.apart sound.short u stream component is.0 among.0)
  part-kept Balance table part kept few =
      let (streams, first, last) = chain-Ok (streams_at (scope_of sheet) 1 [] (codes "streams") table)
      (λ streams. Ok (balance sheet.components unit streams)) part kept in
      let is = streams_at-Ok (scope_of sheet) 1 [] (codes "streams") table streams tt first in
      let same : balance sheet.components unit streams ≡ part = cc in
      subst Adds same
      (balance-part p odd sheet.components sheet.streams (sound.own ++ dotted (codes "q") unit ∷ []) unit sound.good sound.apart sound.short u streams is.0 is.1
      (has-right sound.own (dotted (codes "q") unit ∷ []) (dotted (codes "q") unit) (has-self [] (dotted (codes "q") unit) (dotted (codes "q") unit) refl)))
  part-kept Relation table part kept few =
      let (names, first, last) = chain-Ok
      (due (codes "unknowns") table >>= list_with 1 >>= declared_names sheet.system.unknowns [])
      (λ names. Ok (relation unit names)) part kept in
      let (items, second, told) = chain-Ok (due (codes "unknowns") table >>= list_with 1) (declared_names sheet.system.unknowns []) names first in
      let is = declared_names-Ok sheet.system.unknowns [] items names tt told in
      let same : relation unit names ≡ part = cc in
      let all : sheet.system.unknowns ≡ flows sheet.components sheet.streams ++ (sound.own ++ []) =
      sound.unknowns_are ∙ ap (λ own. flows sheet.components sheet.streams ++ own) (sym (append-nil sound.own)) in
      subst Adds same
      (relation-part p odd sheet.components sheet.streams (sound.own ++ []) unit sound.good sound.apart sound.short u names
      (subst (λ unknowns. AllByRecursion (λ name. has_name unknowns name ≡ true) names) all is.0) is.1)

-- a unit, of its name and of its part
pub unit-kept : (p : ℕ) (sheet : Sheet) (datum : Data) (unit : List ℕ) (part : UnitPart) → 2 < p →
    (sound : IsSound sheet) → unit_in p (scope_of sheet) datum ≡ Ok (unit, part) → length part.equations < 2 ^ 64
    → (has_name sheet.units unit ≡ false) × IsUnitPart p (flows sheet.components sheet.streams ++ (sound.own ++ part.unknowns)) unit part
unit-kept p sheet datum unit part odd sound kept few =
    let (table, first, rest) = chain-Ok (members_of_value datum)
    (λ table. due (codes "name") table >>= new_name sheet.units >>=
    (λ unit. kind_in table >>= (λ kind. keeping
    (has_only (codes "name" ∷ codes "kind" ∷ keys_of sheet.version kind) table) UnknownKey (tt {0}) >>=
    (λ _. unit_part_in p (scope_of sheet) kind unit table >>= (λ part. Ok (unit, part)))))) (unit, part) kept in
    let (name, second, more) = chain-Ok (due (codes "name") table >>= new_name sheet.units)
    (λ unit. kind_in table >>= (λ kind. keeping
    (has_only (codes "name" ∷ codes "kind" ∷ keys_of sheet.version kind) table) UnknownKey (tt {0}) >>=
    (λ _. unit_part_in p (scope_of sheet) kind unit table >>= (λ part. Ok (unit, part))))) (unit, part) rest in
    let (given, there, told) = chain-Ok (due (codes "name") table) (new_name sheet.units) name second in
    let (kind, third, others) = chain-Ok (kind_in table)
    (λ kind. keeping (has_only (codes "name" ∷ codes "kind" ∷ keys_of sheet.version kind) table) UnknownKey
    (tt {0}) >>= (λ _. unit_part_in p (scope_of sheet) kind name table >>= (λ part. Ok (name, part))))
    (unit, part) more in
    let (done, fourth, adds) = chain-Ok (keeping (has_only
    (codes "name" ∷ codes "kind" ∷ keys_of sheet.version kind) table) UnknownKey (tt {0}))
    (λ _. unit_part_in p (scope_of sheet) kind name table >>= (λ part. Ok (name, part))) (unit, part) others in
    let (added, fifth, last) = chain-Ok (unit_part_in p (scope_of sheet) kind name table) (λ part. Ok (name, part)) (unit, part) adds in
    let pair : ◌≡◌ {A = List ℕ × UnitPart} (name, added) (unit, part) = cc in
    let names : name ≡ unit = ap (λ t. t.0) pair in
    let parts : added ≡ part = ap (λ t. t.1) pair in
    let new = new_name-Ok sheet.units given name told in (
      ap (has_name sheet.units) (sym names) ∙ new.1,
      part-kept p odd sheet sound unit (short-name unit (ap is_short_name (sym names) ∙ new.0)) kind table part
          (ap (λ n. unit_part_in p (scope_of sheet) kind n table) (sym names) ∙ fifth ∙ ap Ok parts) few,
    )
