use Rattle.std.proofs.Common.{◌≡◌, ℕ, List, map, take, sym, ap, ◌∙◌}
use Rattle.std.specs.Option.{option_to_list}
use Rattle.std.proofs.lemmas.Result.{err_from_is_err_and}
use Rattle.netlist_devices.proofs.WordSteps.{bytes_of}
use Rattle.netlist_devices.proofs.LineSteps.{read-added, read-fault}
use Rattle.netlist_devices.proofs.circuit.Circuit.read.Goals as goal

abbrev words : List (ℕ × List ℕ) → List (List ℕ)
words tokens = map (λ token. token.1) tokens

pub returns-in_err-device-clause-read : goal.returns-in_err-device-clause-read
returns-in_err-device-clause-read g c =
    let failed = err_from_is_err_and c.from_residual-in_err-device.result c.from_residual-in_err-device.ensures.1 in
    let all = words c.args.words in
    let kept : bytes_of c.deref.result.now ≡ take 8 all = ap bytes_of c.deref.ensures.value ∙ c.in_ok-words.ensures in
    rw failed.1
    (read-fault g.F.Field.modulus c.args.line c.args.self.now c.args.self.now all
    (bytes_of c.deref.result.now) failed.0 c.in_err-device.field-0.0 kept failed.2 c.in_err-device.ensures.read)

pub returns-in-Some-clause-read : goal.returns-in-Some-clause-read
returns-in-Some-clause-read g c =
    let all = words c.args.words in
    let kept : bytes_of c.deref.result.now ≡ take 8 all = ap bytes_of c.deref.ensures.value ∙ c.in_ok-words.ensures in
    read-added g.F.Field.modulus c.args.line c.args.self.now c.add.new.self all
    (bytes_of c.deref.result.now) c.in-Some.device c.add.result kept c.in_ok-device.ensures.read.0
    (sym (ap option_to_list c.in-Some.is) ∙ c.in_ok-device.ensures.read.1) c.add.ensures.added
