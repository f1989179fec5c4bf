use Rattle.std.proofs.Common.{sym, subst}
use Rattle.number_pairs.specs.Pairs.{PairLists}
use Rattle.row_transform.specs.Bases.{BaseLists, IsBaseMoved, IsBaseRowOut}
use Rattle.row_transform.proofs.BaseEdits.{base_of, row_out}
use Rattle.row_transform.proofs.base.Base.swap_remove_row.Goals as goal

pub returns : goal.returns
returns c =
    let takes = c.self.inside.takes in
    subst (λ (p : PairLists). IsBaseRowOut c.args.self.now (base_of p takes) c.args.at) (sym c.remove_left.ensures)
    (row_out c.args.self.now c.self.inside.pairs takes c.args.last c.args.at
    (subst (λ (b : BaseLists). IsBaseMoved c.args.self.now b c.args.last c.args.at) (sym c.self.view_is) c.move_base.ensures.moved)
    c.are_one_to_one.ensures c.requires.last)
