use Rattle.std.proofs.Common.{◌+◌, ◌-◌, ◌*◌}
use Rattle.value_list_laws.proofs.Paths.{path-keeps, to-one}
use Rattle.value_list_laws.proofs.witness_laws.paths_show_that_one_keeps_the_rank.Goals as goal

pub returns : goal.returns
returns c p prime big M square i j here w G inv s pos path =
    path-keeps p prime M square big i j here (1 + (p - 1) * w i j) s pos w G inv (to-one p prime (w i j)) path
