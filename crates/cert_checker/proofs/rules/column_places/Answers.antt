use Rattle.std.proofs.Common.{◌≡◌, IfOk, MatchOption, sym, subst, ◌∙◌}
use Rattle.cert_text.specs.Readings.{StandsOnce}
use Rattle.cert_checker.specs.Standing.{Not, TellsPlaces, lists_in}
use Rattle.cert_checker.specs.declared.standing.Member.TheVariants.{Column}
use Rattle.cert_checker.proofs.StandingLaws.{columns-are}
use Rattle.cert_checker.proofs.rules.column_places.Goals as goal

pub places_of-requires : goal.places_of-requires
places_of-requires g c = c.columns.ensures ∙ sym c.requires.columns

pub returns : goal.returns
returns g c =
    let form = c.args.form.now in
    let n = c.args.layered.now.q.width in
    let width : c.columns.result ≡ n = c.columns.ensures in
    subst (λ lists. IfOk c.places_of.result (λ found. MatchOption found (Not (StandsOnce n lists))
    (λ places. TellsPlaces n lists places.items))) (columns-are form)
    (subst (λ m. IfOk c.places_of.result (λ found. MatchOption found (Not (StandsOnce m (lists_in Column form)))
    (λ places. TellsPlaces m (lists_in Column form) places.items))) width c.places_of.ensures)
