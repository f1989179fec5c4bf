use Rattle.std.proofs.Common.{map, length, ◌<◌, ◌∷◌, [], ◌++◌, ap, subst, sym, ◌∙◌}
use Rattle.std.specs.String.{string_bytes}
use Rattle.std.proofs.lemmas.Bool.{leb-false}
use Rattle.mixed_model.specs.Names.{IsNameList, has_name}
use Rattle.mixed_model.proofs.NameLaws.{IsNameList-see, see-new}
use Rattle.mixed_model.proofs.names.Names.append.Goals as goal

pub invariant_of-self-2 : goal.invariant_of-self-2
invariant_of-self-2 c =
    let room = leb-false 4096 (length c.args.self.now) (sym c.is_full.ensures ∙ c.if-is_full.false) in
    subst IsNameList (sym c.in_ok-push_text.ensures.seen)
    (IsNameList-see (map string_bytes c.self.inside.texts.keys) c.args.name.now c.self.invariant c.requires.label
    (subst (λ names. length names < 4096) (sym c.self.view_is) room))

pub returns-clause-added : goal.returns-clause-added
returns-clause-added c =
    let new = ap (λ all. has_name all c.args.name.now) c.self.view_is ∙ c.requires.new in
    c.in_ok-push_text.ensures.seen ∙ see-new (map string_bytes c.self.inside.texts.keys) c.args.name.now new
    ∙ ap (λ all. all ++ c.args.name.now ∷ []) c.self.view_is

pub returns-clause-names : goal.returns-clause-names
returns-clause-names c = invariant_of-self-2 c
