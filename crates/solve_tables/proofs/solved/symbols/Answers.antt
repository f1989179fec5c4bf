use Rattle.std.proofs.Common.{ℕ, arith, length}
use Rattle.residue_theory.specs.Sums.{size_on}
use Rattle.mixed_model.specs.Models.{symbol_of}
use Rattle.solve_tables.proofs.Counts.{size-most, sum-most, summed}
use Rattle.solve_tables.proofs.solved.symbols.Goals as goal

pub overflow_add-count : goal.overflow_add-count
overflow_add-count c =
    let model = c.args.model.now in
    let f : ℕ → ℕ = λ k. size_on (symbol_of model k) (length model.unknowns) in
    omega (
      arith,
      c.loop-i.invariant,
      c.symbols_of-count.ensures,
      c.loop-i-test.true,
      c.equations-i-end.ensures.count,
      c.equations-i-end.ensures.model.equations.few,
      sum-most f c.loop-i.i (λ k. omega (arith, size-most (symbol_of model k) (length model.unknowns), c.equations-i-end.ensures.model.unknowns.few)),
      size-most (symbol_of model c.loop-i.i) (length model.unknowns),
      c.equations-i-end.ensures.model.unknowns.few,
    )

pub loop-i-preserved : goal.loop-i-preserved
loop-i-preserved c =
    let f : ℕ → ℕ = λ k. size_on (symbol_of c.args.model.now k) (length c.args.model.now.unknowns) in
    omega (arith, c.loop-i.invariant, c.symbols_of-count.ensures, summed f c.loop-i.i)
