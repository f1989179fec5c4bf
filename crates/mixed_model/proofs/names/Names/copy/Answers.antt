use Rattle.std.proofs.Common.{◌≡◌, sym, subst, ◌∙◌}
use Rattle.std.specs.String.{string_bytes}
use Rattle.mixed_model.specs.Names.{IsNameList}
use Rattle.mixed_model.proofs.ListLaws.{map-copied}
use Rattle.mixed_model.proofs.names.Names.copy.Goals as goal

pub returns-clause-same : goal.returns-clause-same
returns-clause-same c =
    map-copied string_bytes (λ text copy. string_bytes copy ≡ string_bytes text) (λ text copy same. same)
    c.self.inside.texts.keys c.in_ok-clone.field-0.keys c.in_ok-clone.ensures.cases
    ∙ c.self.view_is

pub invariant_of-result : goal.invariant_of-result
invariant_of-result c = subst IsNameList (c.self.view_is ∙ sym (returns-clause-same c)) c.self.invariant

pub returns-clause-names : goal.returns-clause-names
returns-clause-names c = invariant_of-result c
