use Rattle.std.proofs.Common.{◌≡◌, false, sym, subst, slice_index_or}
use Rattle.equation_choice.proofs.PlaceLaws.{none-marked}
use Rattle.equation_choice.proofs.list.no_marks.Goals as goal

pub returns-clause-unmarked : goal.returns-clause-unmarked
returns-clause-unmarked c x = subst (λ xs. slice_index_or xs x false ≡ false) (sym (c.in_ok-vec.ensures.items_if_clones_equal (λ y h. h)))
    (none-marked c.args.n x)
