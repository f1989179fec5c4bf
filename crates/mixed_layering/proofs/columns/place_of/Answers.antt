use Rattle.std.proofs.Common.{sym, subst}
use Rattle.std.specs.Option.{MatchOption}
use Rattle.mixed_layering.specs.Columns.{StandsIn, IsAbsent}
use Rattle.mixed_layering.proofs.ColumnLaws.{found_place}
use Rattle.mixed_layering.proofs.columns.place_of.Goals as goal

pub returns : goal.returns
returns c =
    subst (λ found. MatchOption found (IsAbsent c.args.split.now c.args.equation)
    (λ place. StandsIn c.args.split.now c.args.equation place)) (sym c.ok.ensures.value)
    (found_place c.args.split.now c.args.equation c.binary_search.result c.requires c.binary_search.ensures.position)
