-- Names that are declared.
use Rattle.std.proofs.Common.{◌≡◌, ℕ, List, Option, Some, None, is_some, position, sym, refl}
use Rattle.std.specs.Str.{bytes_eq}
use Rattle.mixed_model.specs.Names.{has_name}
use Rattle.mixed_model.proofs.NameLaws.{has_name-None, has_name-Some}

-- a name has a place where it is there
pub is_some-position : (names : List (List ℕ)) (name : List ℕ) → is_some (position (bytes_eq name) names) ≡ has_name names name
is_some-position names name = by (position (bytes_eq name) names) refl
  where
    by : (place : Option ℕ) → position (bytes_eq name) names ≡ place → is_some place ≡ has_name names name
    by None none = sym (has_name-None names name none)
    by (Some place) found = sym (has_name-Some names name place found).2
