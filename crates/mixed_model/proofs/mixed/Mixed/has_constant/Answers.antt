use Rattle.std.proofs.Common.{◌≡◌, ◌<◌, length, is_some, ap, subst, ◌∙◌}
use Rattle.std.specs.List.{list_any}
use Rattle.mixed_matrices.specs.Layerings.{has_constant}
use Rattle.mixed_model.specs.Models.{mixed_matrix_of}
use Rattle.mixed_model.specs.Rows.{row_entries_at}
use Rattle.mixed_model.proofs.KindLaws.{model_has_constant}
use Rattle.mixed_model.proofs.mixed.Mixed.has_constant.Goals as goal

pub returns : goal.returns
returns g c =
    c.any_constant.ensures
    ∙ ap (λ rows. list_any (λ entry. is_some entry.constant) (row_entries_at rows c.args.i)) c.deref.ensures.value
    ∙ subst (λ model. c.args.i < length model.equations → list_any (λ entry. is_some entry.constant)
    (row_entries_at c.self.inside.rows.items c.args.i) ≡ has_constant (mixed_matrix_of model) c.args.i)
    c.self.view_is (λ equation. model_has_constant g.F.Field.modulus _ c.self.invariant c.args.i equation) c.requires
