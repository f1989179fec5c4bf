-- What a reader of netlists knows of the text that it was fed.
use Rattle.std.specs.Prelude.{ℕ, List}
use Rattle.line_reader.specs.Readings.{IsFed as IsFedLines}
use Rattle.netlist_devices.specs.Rules.{device_rules}
use Rattle.netlist_devices.specs.Circuits.{HasRead}
use Rattle.netlist_reader.specs.declared.netlist.NetlistReader.{NetlistReader}

-- A reader was fed this text.
abbrev pub IsFed : {F : Type 0} → ℕ → NetlistReader F → List ℕ → Type 0
IsFed p reader text = IsFedLines (device_rules p) (HasRead p) reader.lines text
