use Rattle.std.proofs.Common.{◌≡◌, ◌++◌, map, take}
use Rattle.std.specs.List.{enumerate_from}
use Rattle.std.specs.String.{string_bytes}
use Rattle.unit_equations.specs.Kinds.{open_split}
use Rattle.unit_equations.proofs.equation_list.EquationList.open_splits.Given as goal

abbrev pub invariant-loop-place : goal.invariant-loop-place
invariant-loop-place g l =
    l.self ≡ l.fn.self ++ map (open_split l.version l.unit l.inlet l.component) (take l.place (enumerate_from 1 (map string_bytes l.outlet-items)))
