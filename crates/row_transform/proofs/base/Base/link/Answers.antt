use Rattle.std.proofs.Common.{◌^◌, ◌<◌, ◌≡◌, ap, arith, ℕ, slice_set, Some, ◌∙◌}
use Rattle.number_pairs.specs.Pairs.{PairLists}
use Rattle.row_transform.specs.Bases.{raised}
use Rattle.row_transform.proofs.base.Base.link.Goals as goal

pub returns : goal.returns
returns c =
    let fits : c.self.inside.takes < 2 ^ 64 = omega arith in
    let counted : c.saturating_add-self-inside.result ≡ raised c.self.inside.takes 1 =
    omega (arith, fits, c.saturating_add-self-inside.ensures) in
    rw (← c.self.view_is)
    (ap (λ (p : PairLists). record {
      columns = p.rights;
      rows = p.lefts;
      takes = c.saturating_add-self-inside.result;
      row_room = p.left_room;
      column_room = p.right_room;
    }) c.link.ensures
    ∙ ap (λ (n : ℕ). record {
      columns = slice_set c.self.inside.pairs.rights c.args.row (Some c.args.column);
      rows = slice_set c.self.inside.pairs.lefts c.args.column (Some c.args.row);
      takes = n;
      row_room = c.self.inside.pairs.left_room;
      column_room = c.self.inside.pairs.right_room;
    }) counted)
