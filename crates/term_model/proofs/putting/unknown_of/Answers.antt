use Rattle.std.proofs.Common.{◌∙◌, sym, subst}
use Rattle.std.specs.Option.{IsSome}
use Rattle.mixed_model.proofs.NameLaws.{has_name-Some}
use Rattle.term_model.proofs.Found.{is_found}
use Rattle.term_model.proofs.putting.unknown_of.Goals as goal

pub unwrap-requires : goal.unwrap-requires
unwrap-requires g c =
    subst IsSome (sym c.find_unknown.ensures) (is_found c.args.model.now.unknowns c.args.name.now c.requires)

pub returns-clause-within : goal.returns-clause-within
returns-clause-within g c = (has_name-Some c.args.model.now.unknowns c.args.name.now _ (sym c.find_unknown.ensures ∙ c.unwrap.ensures)).0

pub returns-clause-name : goal.returns-clause-name
returns-clause-name g c = (has_name-Some c.args.model.now.unknowns c.args.name.now _ (sym c.find_unknown.ensures ∙ c.unwrap.ensures)).1
