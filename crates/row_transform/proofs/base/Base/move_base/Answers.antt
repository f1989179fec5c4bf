use Rattle.std.proofs.Common.{◌≡◌, ◌<◌, ◌∙◌, ap, length, None, slice_index_or, sym, subst, ℕ, ◌≢◌, true}
use Rattle.number_pairs.specs.Pairs.{PairLists}
use Rattle.row_transform.specs.Bases.{BaseLists, is_base, base_row}
use Rattle.row_transform.proofs.BaseEdits.{bare_left, bare_still}
use Rattle.row_transform.proofs.base.Base.move_base.Goals as goal

pub link-requires-clause-left_free : goal.link-requires-clause-left_free
link-requires-clause-left_free c =
    let pairs = c.self.inside.pairs in
    let from : c.args.from < length pairs.rights = subst (λ (b : BaseLists). c.args.from < length b.columns) (sym c.self.view_is) c.requires.from in
    ap (λ (p : PairLists). slice_index_or p.rights c.args.to None) c.unlink.ensures
    ∙ bare_still pairs c.args.from c.args.to from (bare_left pairs c.args.to c.are_one_to_one.ensures
    (subst (λ (b : BaseLists). (y : ℕ) → y < length b.rows → is_base b y ≡ true → base_row b y ≢ c.args.to) (sym c.self.view_is) c.requires.bare))
