use Rattle.std.proofs.Common.{[], ap, get_or}
use Rattle.std.proofs.lemmas.Result.{err_from_is_err_and}
use Rattle.edit_desk.proofs.DeskLaws.{edited-at, kept-at, steps-at}
use Rattle.edit_desk.proofs.desk.change_model.Goals as goal

pub returns-in_err-rank-clause-kept : goal.returns-in_err-rank-clause-kept
returns-in_err-rank-clause-kept g c =
    let failed = err_from_is_err_and c.from_residual.result c.from_residual.ensures.1 in
    rw failed.1 (kept-at g.F.Field.modulus c.args.k [] [] c.args.held.now
    (get_or c.args.held.now c.args.k c.index-held-k.result) c.follow_edit.new.held
    c.requires (ap (get_or c.args.held.now c.args.k) c.index-held-k.is) c.in_err-rank.ensures.kept)

pub returns-clause-changed : goal.returns-clause-changed
returns-clause-changed g c = edited-at g.F.Field.modulus c.args.k _ _ c.args.held.now
    (get_or c.args.held.now c.args.k c.index-held-k.result)
    c.follow_edit.new.held c.requires (ap (get_or c.args.held.now c.args.k) c.index-held-k.is) c.in_ok-rank.rank c.in_ok-rank.ensures.edited

pub returns-clause-steps : goal.returns-clause-steps
returns-clause-steps g c = steps-at g.F.Field.modulus c.args.k [] [] c.args.held.now
    (get_or c.args.held.now c.args.k c.index-held-k.result) c.follow_edit.new.held
    c.requires (ap (get_or c.args.held.now c.args.k) c.index-held-k.is) c.args.steps.now c.follow_edit.new.steps c.in_ok-rank.ensures.layers.0
    c.in_ok-rank.ensures.layers.1 c.in_ok-rank.ensures.steps
