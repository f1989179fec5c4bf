use Rattle.std.proofs.Common.{◌≡◌, ◌<◌, sym, subst}
use Rattle.std.proofs.lemmas.Result.{IfOk-weaker}
use Rattle.std.specs.List.{All}
use Rattle.mixed_matrices.specs.Layerings.{has_symbol}
use Rattle.mixed_model.specs.Models.{mixed_matrix_of}
use Rattle.exchange_graph.specs.Marks.{members_of}
use Rattle.equation_choice.specs.ConflictLists.{AreConflictLists}
use Rattle.equation_choice.proofs.Refused.{origins-below}
use Rattle.equation_choice.proofs.conflicts.conflict_sets.Goals as goal

pub conflicts_over-requires-clause-q_origins : goal.conflicts_over-requires-clause-q_origins
conflicts_over-requires-clause-q_origins g c =
    let l = c.in_ok-layered.layered in
    subst (λ n. All (λ e. e < n) l.q_origins) (sym c.equations-equations.ensures.count)
    (origins-below c.args.model.now l c.in_ok-layered.ensures c.are_layers.ensures).0

pub conflicts_over-requires-clause-t_origins : goal.conflicts_over-requires-clause-t_origins
conflicts_over-requires-clause-t_origins g c =
    let l = c.in_ok-layered.layered in
    subst (λ n. All (λ e. e < n) l.t_origins) (sym c.equations-equations.ensures.count)
    (origins-below c.args.model.now l c.in_ok-layered.ensures c.are_layers.ensures).1

-- the sets that are told, by a model with these layers
pub of-requires : goal.of-requires
of-requires g c k x kl h =
    let N = mixed_matrix_of c.args.model.now in
    let told = c.in_ok-sets.ensures c.args.model.now c.in_ok-layered.ensures (sym c.equations-equations.ensures.count)
    (λ x xl. subst (λ xs. members_of xs x ≡ has_symbol N x) (sym c.deref.ensures.value)
    (c.in_ok-symbols.ensures.marks x (subst (λ n. x < n) c.equations-equations.ensures.count xl))) in
    subst (λ n. x < n) (sym c.equations-equations.ensures.count) (told.below k x kl h)

pub returns : goal.returns
returns g c =
    let N = mixed_matrix_of c.args.model.now in
    IfOk-weaker c.of.result _ (AreConflictLists g.F.Field.modulus N) (λ conflicts same.
    subst (AreConflictLists g.F.Field.modulus N) (sym same)
    (c.in_ok-sets.ensures c.args.model.now c.in_ok-layered.ensures (sym c.equations-equations.ensures.count)
    (λ x xl. subst (λ xs. members_of xs x ≡ has_symbol N x) (sym c.deref.ensures.value)
    (c.in_ok-symbols.ensures.marks x (subst (λ n. x < n) c.equations-equations.ensures.count xl))))) c.of.ensures
