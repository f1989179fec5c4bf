-- What is put down of a device, part by part, is what is put at its places.
use Rattle.std.proofs.Common.{◌≡◌, ℕ, ◌+◌, ◌<◌, List, [], ◌∷◌, ◌++◌, length, get_or, Option, None, ap, ◌∙◌, append_assoc, arith}
use Rattle.std.proofs.lemmas.List.{get_or_default}
use Rattle.mixed_model.specs.Names.{name_at}
use Rattle.term_model.specs.Terms.{Term, constant}
use Rattle.netlist_devices.specs.declared.kind.DeviceKind.TheVariants.{Passive, Voltage, Current, VoltageByVoltage}
use Rattle.netlist_devices.specs.declared.kind.DeviceKind.TheVariants.{CurrentByVoltage, CurrentByCurrent}
use Rattle.netlist_devices.specs.declared.kind.DeviceKind.TheVariants.{VoltageByCurrent, Opamp, Transformer, Gyrator}
use Rattle.netlist_devices.specs.Devices.{ground}
use Rattle.netlist_reader.specs.Numbers.{DevicePlaces, Numbered, node_named, put_at}
use Rattle.netlist_reader.specs.Putting.{put_between, put_difference, put_flow, put_laws, put_symbols, put_voltage}

-- lists put last, one after the other
two : (old mid new a b : List Term) → mid ≡ old ++ a → new ≡ mid ++ b → new ≡ old ++ (a ++ b)
two old mid new a b first second = second ∙ ap (λ front. front ++ b) first ∙ append_assoc old a b

three : (old mid end new a b c : List Term) → mid ≡ old ++ a → end ≡ mid ++ b → new ≡ end ++ c → new ≡ old ++ (a ++ b ++ c)
three old mid end new a b c first second third = two old end new (a ++ b) c (two old mid end a b first second) third

none : (n : ℕ) → n ≡ n + 0
none n = omega arith

-- a node that was read from its place
pub node_read : (nodes : List (Option ℕ)) (i : ℕ) (node : Option ℕ) → i < length nodes → node ≡ get_or nodes i node → node ≡ get_or nodes i None
node_read nodes i node within is = is ∙ get_or_default nodes i node None within

module _ (p : ℕ) (names : Numbered) (places : DevicePlaces) (number : ℕ) where
  abbrev e : ℕ
  e = places.equations

  abbrev u : ℕ
  u = places.unknowns

  abbrev equation : ℕ → List ℕ
  equation n = name_at names.equations n

  abbrev unknown : ℕ → List ℕ
  unknown n = name_at names.unknowns n

  abbrev node : Option ℕ → List ℕ
  node n = node_named names.nodes n

  -- node k of the places
  abbrev there : ℕ → Option ℕ
  there k = get_or places.nodes k None

  -- the parts that kinds share
  abbrev first : Option ℕ → Option ℕ → List Term
  first n0 n1 = put_between p (equation e) (unknown u) (unknown (u + 1)) (node n0) (node n1)

  abbrev second : Option ℕ → Option ℕ → List Term
  second n2 n3 = put_between p (equation (e + 1)) (unknown (u + 2)) (unknown (u + 3)) (node n2) (node n3)

  abbrev control : Option ℕ → Option ℕ → List Term
  control n2 n3 = put_voltage p (equation (e + 1)) (unknown (u + 2)) (node n2) (node n3)

  abbrev laws : ℕ → ℕ → ℕ → ℕ → List Term
  laws a b c d = put_laws p (equation (e + 2)) (equation (e + 3)) (unknown a) (unknown b) (unknown c) (unknown d) number

  first_is : (n0 n1 : Option ℕ) → n0 ≡ there 0 → n1 ≡ there 1 →
      first n0 n1 ≡ put_between p (equation (e + 0)) (unknown (u + 0)) (unknown (u + 1)) (node (there 0)) (node (there 1))
  first_is n0 n1 at0 at1 = λ k. put_between p (equation (none e k)) (unknown (none u k)) (unknown (u + 1)) (node (at0 k)) (node (at1 k))

  second_is : (n2 n3 : Option ℕ) → n2 ≡ there 2 → n3 ≡ there 3 → second n2 n3 ≡ second (there 2) (there 3)
  second_is n2 n3 at2 at3 = λ k. second (at2 k) (at3 k)

  control_is : (n2 n3 : Option ℕ) → n2 ≡ there 2 → n3 ≡ there 3 → control n2 n3 ≡ control (there 2) (there 3)
  control_is n2 n3 at2 at3 = λ k. control (at2 k) (at3 k)

  pub passive_put : (old mid new : List Term) (n0 n1 : Option ℕ) → n0 ≡ there 0 → n1 ≡ there 1 →
      mid ≡ old ++ first n0 n1 → new ≡ mid ++ put_symbols (equation (e + 1)) (unknown u) (unknown (u + 1)) →
      new ≡ old ++ put_at p Passive names places number
  passive_put old mid new n0 n1 at0 at1 put0 put1 =
      two old mid new (first n0 n1) (put_symbols (equation (e + 1)) (unknown u) (unknown (u + 1)))
      put0 put1
      ∙ (λ k. old ++ (first_is n0 n1 at0 at1 k ++ put_symbols (equation (e + 1)) (unknown (none u k)) (unknown (u + 1))))

  pub voltage_put : (old mid new : List Term) (n0 n1 : Option ℕ) (one : ℕ) → n0 ≡ there 0 → n1 ≡ there 1 → one ≡ 1 →
      mid ≡ old ++ first n0 n1 → new ≡ mid ++ constant (equation (e + 1)) (unknown u) one ∷ [] →
      new ≡ old ++ put_at p Voltage names places number
  voltage_put old mid new n0 n1 one at0 at1 one_is put0 put1 =
      two old mid new (first n0 n1) (constant (equation (e + 1)) (unknown u) one ∷ [])
      put0 put1
      ∙ (λ k. old ++ (first_is n0 n1 at0 at1 k ++ (constant (equation (e + 1)) (unknown (none u k)) (one_is k) ∷ [])))

  pub current_put : (old mid new : List Term) (n0 n1 : Option ℕ) (one : ℕ) → n0 ≡ there 0 → n1 ≡ there 1 → one ≡ 1 →
      mid ≡ old ++ first n0 n1 → new ≡ mid ++ constant (equation (e + 1)) (unknown (u + 1)) one ∷ [] →
      new ≡ old ++ put_at p Current names places number
  current_put old mid new n0 n1 one at0 at1 one_is put0 put1 =
      two old mid new (first n0 n1) (constant (equation (e + 1)) (unknown (u + 1)) one ∷ [])
      put0 put1
      ∙ (λ k. old ++ (first_is n0 n1 at0 at1 k ++ (constant (equation (e + 1)) (unknown (u + 1)) (one_is k) ∷ [])))

  pub voltage_by_voltage_put : (old mid end new : List Term) (n0 n1 n2 n3 : Option ℕ) → n0 ≡ there 0 → n1 ≡ there 1 → n2 ≡ there 2 → n3 ≡ there 3 →
      mid ≡ old ++ first n0 n1 → end ≡ mid ++ control n2 n3 → new ≡ end ++ put_symbols (equation (e + 2)) (unknown u) (unknown (u + 2)) →
      new ≡ old ++ put_at p VoltageByVoltage names places number
  voltage_by_voltage_put old mid end new n0 n1 n2 n3 at0 at1 at2 at3 put0 put1 put2 =
      three old mid end new (first n0 n1) (control n2 n3) (put_symbols (equation (e + 2)) (unknown u) (unknown (u + 2)))
      put0 put1 put2
      ∙ (λ k. old ++ (first_is n0 n1 at0 at1 k ++ control_is n2 n3 at2 at3 k ++ put_symbols (equation (e + 2)) (unknown (none u k)) (unknown (u + 2))))

  pub current_by_voltage_put : (old mid end new : List Term) (n0 n1 n2 n3 : Option ℕ) → n0 ≡ there 0 → n1 ≡ there 1 → n2 ≡ there 2 → n3 ≡ there 3 →
      mid ≡ old ++ first n0 n1 → end ≡ mid ++ control n2 n3 → new ≡ end ++ put_symbols (equation (e + 2)) (unknown (u + 1)) (unknown (u + 2)) →
      new ≡ old ++ put_at p CurrentByVoltage names places number
  current_by_voltage_put old mid end new n0 n1 n2 n3 at0 at1 at2 at3 put0 put1 put2 =
      three old mid end new (first n0 n1) (control n2 n3) (put_symbols (equation (e + 2)) (unknown (u + 1)) (unknown (u + 2)))
      put0 put1 put2
      ∙ (λ k. old ++ (first_is n0 n1 at0 at1 k ++ control_is n2 n3 at2 at3 k ++ put_symbols (equation (e + 2)) (unknown (u + 1)) (unknown (u + 2))))

  pub current_by_current_put : (old mid new : List Term) (n0 n1 : Option ℕ) → n0 ≡ there 0 → n1 ≡ there 1 →
      mid ≡ old ++ first n0 n1 → new ≡ mid ++ put_symbols (equation (e + 1)) (unknown (u + 1)) (unknown places.source) →
      new ≡ old ++ put_at p CurrentByCurrent names places number
  current_by_current_put old mid new n0 n1 at0 at1 put0 put1 =
      two old mid new (first n0 n1) (put_symbols (equation (e + 1)) (unknown (u + 1)) (unknown places.source))
      put0 put1
      ∙ (λ k. old ++ (first_is n0 n1 at0 at1 k ++ put_symbols (equation (e + 1)) (unknown (u + 1)) (unknown places.source)))

  pub voltage_by_current_put : (old mid new : List Term) (n0 n1 : Option ℕ) → n0 ≡ there 0 → n1 ≡ there 1 →
      mid ≡ old ++ first n0 n1 → new ≡ mid ++ put_symbols (equation (e + 1)) (unknown u) (unknown places.source) →
      new ≡ old ++ put_at p VoltageByCurrent names places number
  voltage_by_current_put old mid new n0 n1 at0 at1 put0 put1 =
      two old mid new (first n0 n1) (put_symbols (equation (e + 1)) (unknown u) (unknown places.source))
      put0 put1
      ∙ (λ k. old ++ (first_is n0 n1 at0 at1 k ++ put_symbols (equation (e + 1)) (unknown (none u k)) (unknown places.source)))

  pub opamp_put : (old mid new : List Term) (n0 n1 n2 : Option ℕ) → n0 ≡ there 0 → n1 ≡ there 1 → n2 ≡ there 2 →
      mid ≡ old ++ put_flow p (unknown u) (node n2) ground → new ≡ mid ++ put_difference p (equation e) (node n0) (node n1) →
      new ≡ old ++ put_at p Opamp names places number
  opamp_put old mid new n0 n1 n2 at0 at1 at2 put0 put1 =
      two old mid new (put_flow p (unknown u) (node n2) ground) (put_difference p (equation e) (node n0) (node n1))
      put0 put1
      ∙ (λ k. old ++ (put_flow p (unknown (none u k)) (node (at2 k)) ground ++ put_difference p (equation (none e k)) (node (at0 k)) (node (at1 k))))

  pub transformer_put : (old mid end new : List Term) (n0 n1 n2 n3 : Option ℕ) → n0 ≡ there 0 → n1 ≡ there 1 → n2 ≡ there 2 → n3 ≡ there 3 →
      mid ≡ old ++ first n0 n1 → end ≡ mid ++ second n2 n3 → new ≡ end ++ laws u (u + 2) (u + 1) (u + 3) →
      new ≡ old ++ put_at p Transformer names places number
  transformer_put old mid end new n0 n1 n2 n3 at0 at1 at2 at3 put0 put1 put2 =
      three old mid end new (first n0 n1) (second n2 n3) (laws u (u + 2) (u + 1) (u + 3))
      put0 put1 put2
      ∙ (λ k. old ++ (first_is n0 n1 at0 at1 k ++ second_is n2 n3 at2 at3 k ++ laws (none u k) (u + 2) (u + 1) (u + 3)))

  pub gyrator_put : (old mid end new : List Term) (n0 n1 n2 n3 : Option ℕ) → n0 ≡ there 0 → n1 ≡ there 1 → n2 ≡ there 2 → n3 ≡ there 3 →
      mid ≡ old ++ first n0 n1 → end ≡ mid ++ second n2 n3 → new ≡ end ++ laws u (u + 3) (u + 1) (u + 2) →
      new ≡ old ++ put_at p Gyrator names places number
  gyrator_put old mid end new n0 n1 n2 n3 at0 at1 at2 at3 put0 put1 put2 =
      three old mid end new (first n0 n1) (second n2 n3) (laws u (u + 3) (u + 1) (u + 2))
      put0 put1 put2
      ∙ (λ k. old ++ (first_is n0 n1 at0 at1 k ++ second_is n2 n3 at2 at3 k ++ laws (none u k) (u + 3) (u + 1) (u + 2)))
