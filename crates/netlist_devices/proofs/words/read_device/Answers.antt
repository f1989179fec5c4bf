use Rattle.std.proofs.Common.{◌≡◌, false, ◌+◌, ◌-◌, [], Some, map, take, drop, if◌then◌else◌, ap, ◌∙◌, sym, subst, get_or, refl}
use Rattle.std.specs.List.{list_all}
use Rattle.std.proofs.lemmas.Result.{err_from_is_err_and}
use Rattle.refusals.specs.declared.Why.TheVariants.{BadName}
use Rattle.std.specs.Result.{result_unwrap_or}
use Rattle.std.specs.String.{string_bytes}
use Rattle.line_lexer.specs.Names.{is_name, is_node}
use Rattle.line_lexer.specs.Numbers.{number_of}
use Rattle.refusals.specs.Faults.{OnBroken}
use Rattle.netlist_devices.specs.Devices.{Device, device_of, ends_with_number, has_source, nodes_wanted, word_after_nodes}
use Rattle.netlist_devices.specs.Rules.{number_rule}
use Rattle.netlist_devices.specs.ReaderStates.{keeps_source_name, own_rule}
use Rattle.netlist_devices.proofs.WordSteps.{bytes_of}
use Rattle.line_reader.proofs.Faults.{on_same}
use Rattle.netlist_devices.proofs.DeviceSteps.{shape_kept, bad_node, bad_source, number_left, nodes_taken, device_kept, same_device}
use Rattle.netlist_devices.proofs.words.read_device.Goals as goal

pub returns-in_err-nodes-clause-read : goal.returns-in_err-nodes-clause-read
returns-in_err-nodes-clause-read g c =
    let failed = err_from_is_err_and c.from_residual-in_err-nodes.result c.from_residual-in_err-nodes.ensures.1 in
    let texts = c.args.words.now in
    let kind = c.args.kind in
    let taken = nodes_taken texts c.nodes_wanted-after.result (nodes_wanted kind) c.nodes_wanted-after.ensures in
    rw failed.1
    (on_same (λ why. (list_all is_node (bytes_of (take (1 + c.nodes_wanted-after.result - 1) (drop 1 texts))) ≡ false) × (why ≡ BadName))
    (λ why. own_rule g.F.Field.modulus kind (bytes_of texts) ≡ Some why) failed.0 c.in_err-nodes.field-0.0 failed.2
    (λ why bad. bad_node g.F.Field.modulus kind (bytes_of texts) (shape_kept kind texts c.if-not-has_shape.ensures)
    (ap is_name (sym c.word_at.ensures) ∙ c.in_ok-name.ensures.0) (ap (list_all is_node) (sym taken) ∙ bad.0) ∙ ap Some (sym bad.1))
    c.in_err-nodes.ensures)

pub returns-in_err-source-clause-read : goal.returns-in_err-source-clause-read
returns-in_err-source-clause-read g c =
    let failed = err_from_is_err_and c.from_residual-in_err-source.result c.from_residual-in_err-source.ensures.1 in
    let texts = c.args.words.now in
    let kind = c.args.kind in
    let taken = nodes_taken texts c.nodes_wanted-after.result (nodes_wanted kind) c.nodes_wanted-after.ensures in
    let last : c.word_at-last.result.now ≡ word_after_nodes kind (bytes_of texts) = c.word_at-last.ensures
    ∙ ap (λ n. get_or (bytes_of texts) (1 + n) []) c.nodes_wanted-after.ensures in
    rw failed.1
    (on_same (λ why. (keeps_source_name kind (if has_source kind then c.word_at-last.result.now else []) ≡ false) × (why ≡ BadName))
    (λ why. own_rule g.F.Field.modulus kind (bytes_of texts) ≡ Some why) failed.0 c.in_err-source.field-0.0 failed.2
    (λ why bad. bad_source g.F.Field.modulus kind (bytes_of texts) (shape_kept kind texts c.if-not-has_shape.ensures)
    (ap is_name (sym c.word_at.ensures) ∙ c.in_ok-name.ensures.0) (ap (list_all is_node) (sym taken) ∙ c.in_ok-nodes.ensures.0)
    (ap (λ word. keeps_source_name kind (if has_source kind then word else [])) (sym last) ∙ bad.0) ∙ ap Some (sym bad.1))
    c.in_err-source.ensures)

pub returns-in_err-number-clause-read : goal.returns-in_err-number-clause-read
returns-in_err-number-clause-read g c =
    let failed = err_from_is_err_and c.from_residual-in_err-number.result c.from_residual-in_err-number.ensures.1 in
    let texts = c.args.words.now in
    let kind = c.args.kind in
    let taken = nodes_taken texts c.nodes_wanted-after.result (nodes_wanted kind) c.nodes_wanted-after.ensures in
    let last : c.word_at-last.result.now ≡ word_after_nodes kind (bytes_of texts) = c.word_at-last.ensures
    ∙ ap (λ n. get_or (bytes_of texts) (1 + n) []) c.nodes_wanted-after.ensures in
    rw failed.1
    (subst (λ fault. OnBroken fault (λ why. own_rule g.F.Field.modulus kind (bytes_of texts) ≡ Some why)) (sym failed.2)
    (number_left g.F.Field.modulus kind (bytes_of texts) (shape_kept kind texts c.if-not-has_shape.ensures)
    (ap is_name (sym c.word_at.ensures) ∙ c.in_ok-name.ensures.0) (ap (list_all is_node) (sym taken) ∙ c.in_ok-nodes.ensures.0)
    (ap (λ word. keeps_source_name kind (if has_source kind then word else [])) (sym last) ∙ c.in_ok-source.ensures.0)
    ∙ ap (number_rule g.F.Field.modulus kind) (sym last) ∙ c.in_err-number.ensures))

pub returns-clause-device : goal.returns-clause-device
returns-clause-device g c =
    let texts = c.args.words.now in
    let kind = c.args.kind in
    let words = bytes_of texts in
    let taken = nodes_taken texts c.nodes_wanted-after.result (nodes_wanted kind) c.nodes_wanted-after.ensures in
    let last : c.word_at-last.result.now ≡ word_after_nodes kind words = c.word_at-last.ensures
    ∙ ap (λ n. get_or words (1 + n) []) c.nodes_wanted-after.ensures in
    let device : Device = record {
      kind = kind;
      name = string_bytes c.in_ok-name.name;
      nodes =
          map string_bytes c.in_ok-nodes.nodes.items;
      source = string_bytes c.in_ok-source.source;
      number =
          g.F.Field.number c.in_ok-number.number;
    } in
    device_kept g.F.Field.modulus kind texts device c.if-not-has_shape.ensures
    (ap is_name (sym c.word_at.ensures) ∙ c.in_ok-name.ensures.0) (ap (list_all is_node) (sym taken) ∙ c.in_ok-nodes.ensures.0)
    (same_device device (device_of g.F.Field.modulus kind words) refl (c.in_ok-name.ensures.1 ∙ c.word_at.ensures) (c.in_ok-nodes.ensures.1 ∙ taken)
    (c.in_ok-source.ensures.1 ∙ ap (λ word. if has_source kind then word else []) last)
    (c.in_ok-number.ensures.1 ∙ ap (λ word. if ends_with_number kind then result_unwrap_or (number_of g.F.Field.modulus word) 0 else 0) last))
    c.in_field.ensures

pub returns-clause-read : goal.returns-clause-read
returns-clause-read g c =
    let texts = c.args.words.now in
    let kind = c.args.kind in
    let words = bytes_of texts in
    let taken = nodes_taken texts c.nodes_wanted-after.result (nodes_wanted kind) c.nodes_wanted-after.ensures in
    let last : c.word_at-last.result.now ≡ word_after_nodes kind words = c.word_at-last.ensures
    ∙ ap (λ n. get_or words (1 + n) []) c.nodes_wanted-after.ensures in
    let device : Device = record {
      kind = kind;
      name = string_bytes c.in_ok-name.name;
      nodes =
          map string_bytes c.in_ok-nodes.nodes.items;
      source = string_bytes c.in_ok-source.source;
      number =
          g.F.Field.number c.in_ok-number.number;
    } in (
      number_left g.F.Field.modulus kind words (shape_kept kind texts c.if-not-has_shape.ensures)
          (ap is_name (sym c.word_at.ensures) ∙ c.in_ok-name.ensures.0) (ap (list_all is_node) (sym taken) ∙ c.in_ok-nodes.ensures.0)
          (ap (λ word. keeps_source_name kind (if has_source kind then word else [])) (sym last) ∙ c.in_ok-source.ensures.0)
          ∙ ap (number_rule g.F.Field.modulus kind) (sym last) ∙ c.in_ok-number.ensures.0,
      same_device device (device_of g.F.Field.modulus kind words) refl (c.in_ok-name.ensures.1 ∙ c.word_at.ensures) (c.in_ok-nodes.ensures.1 ∙ taken)
          (c.in_ok-source.ensures.1 ∙ ap (λ word. if has_source kind then word else []) last)
          (c.in_ok-number.ensures.1 ∙ ap (λ word. if ends_with_number kind then result_unwrap_or (number_of g.F.Field.modulus word) 0 else 0) last),
    )
