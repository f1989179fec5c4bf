use Rattle.std.proofs.Common.{map, length, ◌<◌, subst, sym, ◌∙◌}
use Rattle.std.specs.String.{string_bytes}
use Rattle.std.proofs.lemmas.Bool.{leb-false}
use Rattle.mixed_model.specs.Names.{IsNameList}
use Rattle.mixed_model.proofs.NameLaws.{IsNameList-see}
use Rattle.mixed_model.proofs.names.Names.add.Goals as goal

pub invariant_of-self-2 : goal.invariant_of-self-2
invariant_of-self-2 c =
    let room = leb-false 4096 (length c.args.self.now) (sym c.is_full.ensures ∙ c.if-is_full.false) in
    subst IsNameList (sym c.in_ok-push_text.ensures.seen)
    (IsNameList-see (map string_bytes c.self.inside.texts.keys) c.args.name.now c.self.invariant c.requires
    (subst (λ names. length names < 4096) (sym c.self.view_is) room))

pub returns-clause-names : goal.returns-clause-names
returns-clause-names c = invariant_of-self-2 c
