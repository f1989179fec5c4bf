use Rattle.std.proofs.Common.{ℕ, subst}
use Rattle.mixed_matrices.specs.Tableaus.{HasTableau}
use Rattle.independent_matching.specs.Engines.{AreOpenedEntries, layers}
use Rattle.independent_matching.specs.Sides.{tableau_of_pair}
use Rattle.independent_matching.proofs.EngineLaws.{entries-tableau}
use Rattle.independent_matching.proofs.engine.Engine.size.Goals as goal

pub returns-clause-pair : goal.returns-clause-pair
returns-clause-pair g c =
    let p = g.F.Field.modulus in
    subst (λ e. (q : ℕ → ℕ → ℕ) → AreOpenedEntries p (g.T.Tableau.state e.tableau) q →
    HasTableau p (layers q (g.T.Tableau.state e.tableau) e.matching)
    (tableau_of_pair (g.T.Tableau.state e.tableau) e.matching)) c.self.view_is
    (λ q agree. entries-tableau p q (g.T.Tableau.state c.self.inside.mover.pair.tableau)
    c.self.inside.mover.pair.mates agree c.self.invariant.pair)
