use Rattle.std.proofs.Common.{◌≡◌, ◌-◌, subst, arith}
use Rattle.mixed_matrices.specs.StructuralRanks.{IsStructuralRank}
use Rattle.mixed_model.specs.Layers.{split_of}
use Rattle.mixed_model.specs.Models.{mixed_matrix_of}
use Rattle.independent_matching.specs.Sides.{size_of}
use Rattle.edit_desk.specs.Held.{HeldModel}
use Rattle.edit_desk.proofs.HeldLaws.{held-rank, held-split}
use Rattle.edit_desk.proofs.held.Held.rank.Goals as goal

pub overflow_sub-result : goal.overflow_sub-result
overflow_sub-result g c =
    let few = held-split g.row.T.Denot g.T.Tableau.state g.F.Field.modulus
    (record { model = c.self.inside.model; layers = c.self.inside.layered; engine = c.self.inside.engine }) c.self.invariant
    g.met.F.Field.prime g.met.F.Field.odd in
    omega (arith, few, c.size.ensures.size, c.split.ensures.count)

pub returns : goal.returns
returns g c =
    let rank = held-rank g.row.T.Denot g.T.Tableau.state g.F.Field.modulus
    (record { model = c.self.inside.model; layers = c.self.inside.layered; engine = c.self.inside.engine }) c.self.invariant
    g.met.F.Field.prime g.met.F.Field.odd in
    let told : size_of (g.T.Tableau.state c.self.inside.engine.tableau) c.self.inside.engine.matching - split_of c.self.inside.layered
    ≡ c.size.result - c.split.result = omega (arith, c.size.ensures.size, c.split.ensures.count) in
    subst (λ (v : HeldModel g.row.T.Denot). IsStructuralRank g.F.Field.modulus (mixed_matrix_of v.model) (c.size.result - c.split.result))
    c.self.view_is
    (subst (IsStructuralRank g.F.Field.modulus (mixed_matrix_of c.self.inside.model)) told rank)
