use Rattle.std.proofs.Common.{length, refl, sym, ◌∙◌}
use Rattle.cert_checker.proofs.PlacedRows.{wanted-stand}
use Rattle.cert_checker.proofs.placing.stand_with_columns.Goals as goal

pub returns : goal.returns
returns c =
    let places = c.args.places.now in
    let wanted = c.in_ok-wanted.wanted.items in
    let same = wanted-stand (length places) (length c.args.columns.now) c.args.pairs.now c.args.columns.now c.args.last
    c.requires wanted places c.in_ok-wanted.ensures refl in (
      λ h. same.0 (sym c.deref.ensures.value ∙ c.same_places.ensures.0 h),
      λ stand. c.same_places.ensures.1 (c.deref.ensures.value ∙ same.1 stand),
    )
