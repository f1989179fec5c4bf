use Rattle.std.proofs.Common.{◌<◌, length, subst, sym}
use Rattle.std.specs.List.{All}
use Rattle.mixed_model.specs.Models.{mixed_matrix_of}
use Rattle.example_report.proofs.Members.{surplus_within, undetermined_within}
use Rattle.example_report.proofs.print.Goals as goal

pub print_equations-requires : goal.print_equations-requires
print_equations-requires g c = subst (All (λ equation. equation < length c.args.model.now.equations)) (sym c.as_slice.ensures)
    (surplus_within 65521 (mixed_matrix_of c.args.model.now) c.args.told.now c.requires)

pub print_unknowns-requires : goal.print_unknowns-requires
print_unknowns-requires g c = subst (All (λ unknown. unknown < length c.args.model.now.unknowns)) (sym c.as_slice-2.ensures)
    (undetermined_within 65521 (mixed_matrix_of c.args.model.now) c.args.told.now c.requires)
