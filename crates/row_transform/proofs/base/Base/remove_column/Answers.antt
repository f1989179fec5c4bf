use Rattle.std.proofs.Common.{◌<◌, length, sym, subst}
use Rattle.number_pairs.specs.Pairs.{PairLists, right_removed}
use Rattle.row_transform.specs.Bases.{BaseLists, IsBaseColumnOut}
use Rattle.row_transform.proofs.BaseEdits.{base_of, column_out}
use Rattle.row_transform.proofs.base.Base.remove_column.Goals as goal

pub returns : goal.returns
returns c =
    let pairs = c.self.inside.pairs in
    let takes = c.self.inside.takes in
    let at : c.args.at < length pairs.lefts = subst (λ (b : BaseLists). c.args.at < length b.rows) (sym c.self.view_is) c.requires.at in
    subst (λ (p : PairLists). IsBaseColumnOut c.args.self.now (base_of p takes) c.args.at) (sym c.remove_right.ensures)
    (subst (λ (b : BaseLists). IsBaseColumnOut b (base_of (right_removed pairs c.args.at) takes) c.args.at) c.self.view_is
    (column_out pairs takes c.args.at at))
