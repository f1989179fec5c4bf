use Rattle.std.proofs.Common.{◌≡◌, ◌++◌, length, OnOk, sym, ap, subst, ◌∙◌, arith}
use Rattle.std.proofs.lemmas.Result.{on_ok_weaker}
use Rattle.netlist_devices.specs.declared.kind.DeviceKind.TheVariants.{Passive, Voltage, Current, VoltageByVoltage}
use Rattle.netlist_devices.specs.declared.kind.DeviceKind.TheVariants.{CurrentByVoltage, CurrentByCurrent}
use Rattle.netlist_devices.specs.declared.kind.DeviceKind.TheVariants.{VoltageByCurrent, Opamp, Transformer, Gyrator}
use Rattle.netlist_devices.specs.Devices.{nodes_wanted}
use Rattle.netlist_reader.specs.Numbers.{DevicePlaces, name_terms, put_at}
use Rattle.netlist_reader.proofs.ByKind.{node_read, passive_put, voltage_put, current_put, voltage_by_voltage_put, current_by_voltage_put}
use Rattle.netlist_reader.proofs.ByKind.{current_by_current_put, voltage_by_current_put, opamp_put, transformer_put, gyrator_put}
use Rattle.netlist_reader.proofs.terms.Terms.device.Goals as goal

pub returns-in_ok-between-in-Passive : goal.returns-in_ok-between-in-Passive
returns-in_ok-between-in-Passive g c =
    let p = g.F.Field.modulus in
    let names = g.names in
    let number = g.F.Field.number c.args.number in
    let places : DevicePlaces = record {
      equations = c.places.inside.equations;
      unknowns = c.places.inside.unknowns;
      nodes = c.places.inside.nodes.items;
      source = c.places.inside.source;
    } in
    let old = name_terms names c.args.self.now in
    let count : length places.nodes ≡ nodes_wanted Passive =
    ap (λ (places : DevicePlaces). length places.nodes) c.places.view_is ∙ c.requires.1.1.1.1.0 ∙ ap nodes_wanted c.in-Passive.is in
    subst (λ put. OnOk c.symbols.result (name_terms names c.symbols.new.self ≡ old ++ put))
    (λ k. put_at p (sym c.in-Passive.is k) names (c.places.view_is k) number)
    (on_ok_weaker c.symbols.result
    (passive_put p names places number old (name_terms names c.between.new.self) (name_terms names c.symbols.new.self)
    c.index.result.now c.index-in-Passive.result.now
    (node_read places.nodes 0 c.index.result.now (omega (arith, count)) c.index.ensures)
    (node_read places.nodes 1 c.index-in-Passive.result.now (omega (arith, count)) c.index-in-Passive.ensures)
    c.in_ok-between-in-Passive.ensures)
    c.symbols.ensures)

pub returns-in_ok-between-in-Voltage : goal.returns-in_ok-between-in-Voltage
returns-in_ok-between-in-Voltage g c =
    let p = g.F.Field.modulus in
    let names = g.names in
    let number = g.F.Field.number c.args.number in
    let places : DevicePlaces = record {
      equations = c.places.inside.equations;
      unknowns = c.places.inside.unknowns;
      nodes = c.places.inside.nodes.items;
      source = c.places.inside.source;
    } in
    let old = name_terms names c.args.self.now in
    let count : length places.nodes ≡ nodes_wanted Voltage =
    ap (λ (places : DevicePlaces). length places.nodes) c.places.view_is ∙ c.requires.1.1.1.1.0 ∙ ap nodes_wanted c.in-Voltage.is in
    subst (λ put. OnOk c.put.result (name_terms names c.put.new.self ≡ old ++ put))
    (λ k. put_at p (sym c.in-Voltage.is k) names (c.places.view_is k) number)
    (on_ok_weaker c.put.result
    (voltage_put p names places number old (name_terms names c.between-in-Voltage.new.self) (name_terms names c.put.new.self)
    c.index-in-Voltage.result.now c.index-in-Voltage-2.result.now (g.F.Field.number c.one.result)
    (node_read places.nodes 0 c.index-in-Voltage.result.now (omega (arith, count)) c.index-in-Voltage.ensures)
    (node_read places.nodes 1 c.index-in-Voltage-2.result.now (omega (arith, count)) c.index-in-Voltage-2.ensures)
    c.one.ensures
    c.in_ok-between-in-Voltage.ensures)
    c.put.ensures)

pub returns-in_ok-between-in-Current : goal.returns-in_ok-between-in-Current
returns-in_ok-between-in-Current g c =
    let p = g.F.Field.modulus in
    let names = g.names in
    let number = g.F.Field.number c.args.number in
    let places : DevicePlaces = record {
      equations = c.places.inside.equations;
      unknowns = c.places.inside.unknowns;
      nodes = c.places.inside.nodes.items;
      source = c.places.inside.source;
    } in
    let old = name_terms names c.args.self.now in
    let count : length places.nodes ≡ nodes_wanted Current =
    ap (λ (places : DevicePlaces). length places.nodes) c.places.view_is ∙ c.requires.1.1.1.1.0 ∙ ap nodes_wanted c.in-Current.is in
    subst (λ put. OnOk c.put-in-Current.result (name_terms names c.put-in-Current.new.self ≡ old ++ put))
    (λ k. put_at p (sym c.in-Current.is k) names (c.places.view_is k) number)
    (on_ok_weaker c.put-in-Current.result
    (current_put p names places number old (name_terms names c.between-in-Current.new.self) (name_terms names c.put-in-Current.new.self)
    c.index-in-Current.result.now c.index-in-Current-2.result.now (g.F.Field.number c.one-in-Current.result)
    (node_read places.nodes 0 c.index-in-Current.result.now (omega (arith, count)) c.index-in-Current.ensures)
    (node_read places.nodes 1 c.index-in-Current-2.result.now (omega (arith, count)) c.index-in-Current-2.ensures)
    c.one-in-Current.ensures
    c.in_ok-between-in-Current.ensures)
    c.put-in-Current.ensures)

pub returns-in_ok-voltage-in-VoltageByVoltage : goal.returns-in_ok-voltage-in-VoltageByVoltage
returns-in_ok-voltage-in-VoltageByVoltage g c =
    let p = g.F.Field.modulus in
    let names = g.names in
    let number = g.F.Field.number c.args.number in
    let places : DevicePlaces = record {
      equations = c.places.inside.equations;
      unknowns = c.places.inside.unknowns;
      nodes = c.places.inside.nodes.items;
      source = c.places.inside.source;
    } in
    let old = name_terms names c.args.self.now in
    let count : length places.nodes ≡ nodes_wanted VoltageByVoltage =
    ap (λ (places : DevicePlaces). length places.nodes) c.places.view_is ∙ c.requires.1.1.1.1.0 ∙ ap nodes_wanted c.in-VoltageByVoltage.is in
    subst (λ put. OnOk c.symbols-in-VoltageByVoltage.result (name_terms names c.symbols-in-VoltageByVoltage.new.self ≡ old ++ put))
    (λ k. put_at p (sym c.in-VoltageByVoltage.is k) names (c.places.view_is k) number)
    (on_ok_weaker c.symbols-in-VoltageByVoltage.result
    (voltage_by_voltage_put p names places number old
    (name_terms names c.between-in-VoltageByVoltage.new.self) (name_terms names c.voltage.new.self)
    (name_terms names c.symbols-in-VoltageByVoltage.new.self)
    c.index-in-VoltageByVoltage.result.now c.index-in-VoltageByVoltage-2.result.now
    c.index-in-VoltageByVoltage-3.result.now c.index-in-VoltageByVoltage-4.result.now
    (node_read places.nodes 0 c.index-in-VoltageByVoltage.result.now (omega (arith, count)) c.index-in-VoltageByVoltage.ensures)
    (node_read places.nodes 1 c.index-in-VoltageByVoltage-2.result.now (omega (arith, count)) c.index-in-VoltageByVoltage-2.ensures)
    (node_read places.nodes 2 c.index-in-VoltageByVoltage-3.result.now (omega (arith, count)) c.index-in-VoltageByVoltage-3.ensures)
    (node_read places.nodes 3 c.index-in-VoltageByVoltage-4.result.now (omega (arith, count)) c.index-in-VoltageByVoltage-4.ensures)
    c.in_ok-between-in-VoltageByVoltage.ensures c.in_ok-voltage-in-VoltageByVoltage.ensures)
    c.symbols-in-VoltageByVoltage.ensures)

pub returns-in_ok-voltage-in-CurrentByVoltage : goal.returns-in_ok-voltage-in-CurrentByVoltage
returns-in_ok-voltage-in-CurrentByVoltage g c =
    let p = g.F.Field.modulus in
    let names = g.names in
    let number = g.F.Field.number c.args.number in
    let places : DevicePlaces = record {
      equations = c.places.inside.equations;
      unknowns = c.places.inside.unknowns;
      nodes = c.places.inside.nodes.items;
      source = c.places.inside.source;
    } in
    let old = name_terms names c.args.self.now in
    let count : length places.nodes ≡ nodes_wanted CurrentByVoltage =
    ap (λ (places : DevicePlaces). length places.nodes) c.places.view_is ∙ c.requires.1.1.1.1.0 ∙ ap nodes_wanted c.in-CurrentByVoltage.is in
    subst (λ put. OnOk c.symbols-in-CurrentByVoltage.result (name_terms names c.symbols-in-CurrentByVoltage.new.self ≡ old ++ put))
    (λ k. put_at p (sym c.in-CurrentByVoltage.is k) names (c.places.view_is k) number)
    (on_ok_weaker c.symbols-in-CurrentByVoltage.result
    (current_by_voltage_put p names places number old
    (name_terms names c.between-in-CurrentByVoltage.new.self) (name_terms names c.voltage-in-CurrentByVoltage.new.self)
    (name_terms names c.symbols-in-CurrentByVoltage.new.self)
    c.index-in-CurrentByVoltage.result.now c.index-in-CurrentByVoltage-2.result.now
    c.index-in-CurrentByVoltage-3.result.now c.index-in-CurrentByVoltage-4.result.now
    (node_read places.nodes 0 c.index-in-CurrentByVoltage.result.now (omega (arith, count)) c.index-in-CurrentByVoltage.ensures)
    (node_read places.nodes 1 c.index-in-CurrentByVoltage-2.result.now (omega (arith, count)) c.index-in-CurrentByVoltage-2.ensures)
    (node_read places.nodes 2 c.index-in-CurrentByVoltage-3.result.now (omega (arith, count)) c.index-in-CurrentByVoltage-3.ensures)
    (node_read places.nodes 3 c.index-in-CurrentByVoltage-4.result.now (omega (arith, count)) c.index-in-CurrentByVoltage-4.ensures)
    c.in_ok-between-in-CurrentByVoltage.ensures c.in_ok-voltage-in-CurrentByVoltage.ensures)
    c.symbols-in-CurrentByVoltage.ensures)

pub returns-in_ok-between-in-CurrentByCurrent : goal.returns-in_ok-between-in-CurrentByCurrent
returns-in_ok-between-in-CurrentByCurrent g c =
    let p = g.F.Field.modulus in
    let names = g.names in
    let number = g.F.Field.number c.args.number in
    let places : DevicePlaces = record {
      equations = c.places.inside.equations;
      unknowns = c.places.inside.unknowns;
      nodes = c.places.inside.nodes.items;
      source = c.places.inside.source;
    } in
    let old = name_terms names c.args.self.now in
    let count : length places.nodes ≡ nodes_wanted CurrentByCurrent =
    ap (λ (places : DevicePlaces). length places.nodes) c.places.view_is ∙ c.requires.1.1.1.1.0 ∙ ap nodes_wanted c.in-CurrentByCurrent.is in
    subst (λ put. OnOk c.symbols-in-CurrentByCurrent.result (name_terms names c.symbols-in-CurrentByCurrent.new.self ≡ old ++ put))
    (λ k. put_at p (sym c.in-CurrentByCurrent.is k) names (c.places.view_is k) number)
    (on_ok_weaker c.symbols-in-CurrentByCurrent.result
    (current_by_current_put p names places number old
    (name_terms names c.between-in-CurrentByCurrent.new.self) (name_terms names c.symbols-in-CurrentByCurrent.new.self)
    c.index-in-CurrentByCurrent.result.now c.index-in-CurrentByCurrent-2.result.now
    (node_read places.nodes 0 c.index-in-CurrentByCurrent.result.now (omega (arith, count)) c.index-in-CurrentByCurrent.ensures)
    (node_read places.nodes 1 c.index-in-CurrentByCurrent-2.result.now (omega (arith, count)) c.index-in-CurrentByCurrent-2.ensures)
    c.in_ok-between-in-CurrentByCurrent.ensures)
    c.symbols-in-CurrentByCurrent.ensures)

pub returns-in_ok-between-in-VoltageByCurrent : goal.returns-in_ok-between-in-VoltageByCurrent
returns-in_ok-between-in-VoltageByCurrent g c =
    let p = g.F.Field.modulus in
    let names = g.names in
    let number = g.F.Field.number c.args.number in
    let places : DevicePlaces = record {
      equations = c.places.inside.equations;
      unknowns = c.places.inside.unknowns;
      nodes = c.places.inside.nodes.items;
      source = c.places.inside.source;
    } in
    let old = name_terms names c.args.self.now in
    let count : length places.nodes ≡ nodes_wanted VoltageByCurrent =
    ap (λ (places : DevicePlaces). length places.nodes) c.places.view_is ∙ c.requires.1.1.1.1.0 ∙ ap nodes_wanted c.in-VoltageByCurrent.is in
    subst (λ put. OnOk c.symbols-in-VoltageByCurrent.result (name_terms names c.symbols-in-VoltageByCurrent.new.self ≡ old ++ put))
    (λ k. put_at p (sym c.in-VoltageByCurrent.is k) names (c.places.view_is k) number)
    (on_ok_weaker c.symbols-in-VoltageByCurrent.result
    (voltage_by_current_put p names places number old
    (name_terms names c.between-in-VoltageByCurrent.new.self) (name_terms names c.symbols-in-VoltageByCurrent.new.self)
    c.index-in-VoltageByCurrent.result.now c.index-in-VoltageByCurrent-2.result.now
    (node_read places.nodes 0 c.index-in-VoltageByCurrent.result.now (omega (arith, count)) c.index-in-VoltageByCurrent.ensures)
    (node_read places.nodes 1 c.index-in-VoltageByCurrent-2.result.now (omega (arith, count)) c.index-in-VoltageByCurrent-2.ensures)
    c.in_ok-between-in-VoltageByCurrent.ensures)
    c.symbols-in-VoltageByCurrent.ensures)

pub returns-in_ok-flow-in-Opamp : goal.returns-in_ok-flow-in-Opamp
returns-in_ok-flow-in-Opamp g c =
    let p = g.F.Field.modulus in
    let names = g.names in
    let number = g.F.Field.number c.args.number in
    let places : DevicePlaces = record {
      equations = c.places.inside.equations;
      unknowns = c.places.inside.unknowns;
      nodes = c.places.inside.nodes.items;
      source = c.places.inside.source;
    } in
    let old = name_terms names c.args.self.now in
    let count : length places.nodes ≡ nodes_wanted Opamp =
    ap (λ (places : DevicePlaces). length places.nodes) c.places.view_is ∙ c.requires.1.1.1.1.0 ∙ ap nodes_wanted c.in-Opamp.is in
    subst (λ put. OnOk c.difference.result (name_terms names c.difference.new.self ≡ old ++ put))
    (λ k. put_at p (sym c.in-Opamp.is k) names (c.places.view_is k) number)
    (on_ok_weaker c.difference.result
    (opamp_put p names places number old (name_terms names c.flow.new.self) (name_terms names c.difference.new.self)
    c.index-in-Opamp-2.result.now c.index-in-Opamp-3.result.now c.index-in-Opamp.result.now
    (node_read places.nodes 0 c.index-in-Opamp-2.result.now (omega (arith, count)) c.index-in-Opamp-2.ensures)
    (node_read places.nodes 1 c.index-in-Opamp-3.result.now (omega (arith, count)) c.index-in-Opamp-3.ensures)
    (node_read places.nodes 2 c.index-in-Opamp.result.now (omega (arith, count)) c.index-in-Opamp.ensures)
    c.in_ok-flow-in-Opamp.ensures)
    c.difference.ensures)

pub returns-in_ok-between-in-Transformer-2 : goal.returns-in_ok-between-in-Transformer-2
returns-in_ok-between-in-Transformer-2 g c =
    let p = g.F.Field.modulus in
    let names = g.names in
    let number = g.F.Field.number c.args.number in
    let places : DevicePlaces = record {
      equations = c.places.inside.equations;
      unknowns = c.places.inside.unknowns;
      nodes = c.places.inside.nodes.items;
      source = c.places.inside.source;
    } in
    let old = name_terms names c.args.self.now in
    let count : length places.nodes ≡ nodes_wanted Transformer =
    ap (λ (places : DevicePlaces). length places.nodes) c.places.view_is ∙ c.requires.1.1.1.1.0 ∙ ap nodes_wanted c.in-Transformer.is in
    subst (λ put. OnOk c.laws.result (name_terms names c.laws.new.self ≡ old ++ put))
    (λ k. put_at p (sym c.in-Transformer.is k) names (c.places.view_is k) number)
    (on_ok_weaker c.laws.result
    (transformer_put p names places number old
    (name_terms names c.between-in-Transformer.new.self) (name_terms names c.between-in-Transformer-2.new.self)
    (name_terms names c.laws.new.self)
    c.index-in-Transformer.result.now c.index-in-Transformer-2.result.now c.index-in-Transformer-3.result.now c.index-in-Transformer-4.result.now
    (node_read places.nodes 0 c.index-in-Transformer.result.now (omega (arith, count)) c.index-in-Transformer.ensures)
    (node_read places.nodes 1 c.index-in-Transformer-2.result.now (omega (arith, count)) c.index-in-Transformer-2.ensures)
    (node_read places.nodes 2 c.index-in-Transformer-3.result.now (omega (arith, count)) c.index-in-Transformer-3.ensures)
    (node_read places.nodes 3 c.index-in-Transformer-4.result.now (omega (arith, count)) c.index-in-Transformer-4.ensures)
    c.in_ok-between-in-Transformer.ensures c.in_ok-between-in-Transformer-2.ensures)
    c.laws.ensures)

pub returns-in_ok-between-in-Gyrator-2 : goal.returns-in_ok-between-in-Gyrator-2
returns-in_ok-between-in-Gyrator-2 g c =
    let p = g.F.Field.modulus in
    let names = g.names in
    let number = g.F.Field.number c.args.number in
    let places : DevicePlaces = record {
      equations = c.places.inside.equations;
      unknowns = c.places.inside.unknowns;
      nodes = c.places.inside.nodes.items;
      source = c.places.inside.source;
    } in
    let old = name_terms names c.args.self.now in
    let count : length places.nodes ≡ nodes_wanted Gyrator =
    ap (λ (places : DevicePlaces). length places.nodes) c.places.view_is ∙ c.requires.1.1.1.1.0 ∙ ap nodes_wanted c.in-Gyrator.is in
    subst (λ put. OnOk c.laws-in-Gyrator.result (name_terms names c.laws-in-Gyrator.new.self ≡ old ++ put))
    (λ k. put_at p (sym c.in-Gyrator.is k) names (c.places.view_is k) number)
    (on_ok_weaker c.laws-in-Gyrator.result
    (gyrator_put p names places number old
    (name_terms names c.between-in-Gyrator.new.self) (name_terms names c.between-in-Gyrator-2.new.self)
    (name_terms names c.laws-in-Gyrator.new.self)
    c.index-in-Gyrator.result.now c.index-in-Gyrator-2.result.now c.index-in-Gyrator-3.result.now c.index-in-Gyrator-4.result.now
    (node_read places.nodes 0 c.index-in-Gyrator.result.now (omega (arith, count)) c.index-in-Gyrator.ensures)
    (node_read places.nodes 1 c.index-in-Gyrator-2.result.now (omega (arith, count)) c.index-in-Gyrator-2.ensures)
    (node_read places.nodes 2 c.index-in-Gyrator-3.result.now (omega (arith, count)) c.index-in-Gyrator-3.ensures)
    (node_read places.nodes 3 c.index-in-Gyrator-4.result.now (omega (arith, count)) c.index-in-Gyrator-4.ensures)
    c.in_ok-between-in-Gyrator.ensures c.in_ok-between-in-Gyrator-2.ensures)
    c.laws-in-Gyrator.ensures)
