use Rattle.symbol_places.proofs.PlaceNumbers.{place-found}
use Rattle.symbol_places.proofs.laws.each_symbol_has_its_place.Goals as goal

pub returns : goal.returns
returns c = place-found
