use Rattle.solve_tables.proofs.Counts.{right-form}
use Rattle.solve_tables.proofs.solved.answered.Goals as goal

pub solved-requires : goal.solved-requires
solved-requires g c =
    right-form 65521 c.args.model.now c.in_ok-layered.layered c.in_ok-form.form c.is_model.ensures c.in_ok-layered.ensures
    c.in_ok-form.ensures.shape c.in_ok-form.ensures.transform c.in_ok-form.ensures.pair_and_rank c.in_ok-form.ensures.block_triangular_form
    c.in_ok-form.ensures.ideals c.in_ok-form.ensures.canonical_listing
