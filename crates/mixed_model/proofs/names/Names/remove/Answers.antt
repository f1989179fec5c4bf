use Rattle.std.proofs.Common.{map, length, ◌<◌, ap, sym, subst, ◌∙◌}
use Rattle.std.specs.List.{remove}
use Rattle.std.specs.String.{string_bytes}
use Rattle.mixed_model.specs.Names.{IsNameList}
use Rattle.mixed_model.proofs.ListLaws.{map-remove}
use Rattle.mixed_model.proofs.NameLaws.{IsNameList-remove}
use Rattle.mixed_model.proofs.names.Names.remove.Goals as goal

pub invariant_of-self : goal.invariant_of-self
invariant_of-self c =
    let keys = c.self.inside.texts.keys in
    subst IsNameList (sym (ap (map string_bytes) c.shift_remove_index.ensures.keys ∙ map-remove string_bytes keys c.args.place))
    (IsNameList-remove (map string_bytes keys) c.args.place c.self.invariant
    (subst (λ names. c.args.place < length names) (sym c.self.view_is) c.requires))

pub returns-clause-removed : goal.returns-clause-removed
returns-clause-removed c =
    ap (map string_bytes) c.shift_remove_index.ensures.keys
    ∙ map-remove string_bytes c.self.inside.texts.keys c.args.place
    ∙ ap (λ names. remove names c.args.place) c.self.view_is

pub returns-clause-names : goal.returns-clause-names
returns-clause-names c = invariant_of-self c
