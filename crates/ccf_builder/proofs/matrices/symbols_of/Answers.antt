use Rattle.std.proofs.Common.{◌+◌, List, ◌++◌, ◌∷◌, [], ℕ, subst, sym, ap}
use Rattle.sparse_t.specs.Incidences.{touches}
use Rattle.residue_theory.specs.Sets.{has}
use Rattle.ccf_builder.specs.Matrices.{PrintsPattern}
use Rattle.ccf_builder.proofs.PrintedRows.{pattern-push}
use Rattle.ccf_builder.proofs.matrices.symbols_of.Goals as goal

pub loop-row-preserved : goal.loop-row-preserved
loop-row-preserved c =
    let n = c.args.pattern.now.width in
    let pattern = touches c.args.pattern.now in
    let row = c.loop-row.row in
    let same = c.in_ok-columns_of.ensures in
    subst (PrintsPattern (row + 1) n pattern) (sym c.in_ok-push.ensures.items)
    (subst (λ (list : List ℕ). PrintsPattern (row + 1) n pattern (c.loop-row.rows.items ++ list ∷ [])) (sym same)
    (pattern-push row n pattern c.loop-row.rows.items c.row.result.now c.loop-row.invariant c.row.ensures.rising
    c.row.ensures.below (λ j _. ap (λ list. has list j) c.row.ensures.columns)))
