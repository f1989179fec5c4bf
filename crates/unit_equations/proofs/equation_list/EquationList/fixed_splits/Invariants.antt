use Rattle.std.proofs.Common.{◌≡◌, ◌++◌, length, map, take}
use Rattle.std.specs.List.{zip}
use Rattle.std.specs.String.{string_bytes}
use Rattle.unit_equations.specs.Kinds.{but_last, fixed_split}
use Rattle.unit_equations.proofs.equation_list.EquationList.fixed_splits.Given as goal

abbrev pub invariant-loop-place : goal.invariant-loop-place
invariant-loop-place g l =
    l.self ≡ l.fn.self ++ map (fixed_split g.F.Field.modulus l.version l.unit l.inlet l.component)
    (take (length l.yielded) (zip (but_last (map string_bytes l.outlets)) (map g.F.Field.number l.fractions)))
