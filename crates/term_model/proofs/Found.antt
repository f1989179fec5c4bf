-- Names that are there are found.
use Rattle.std.specs.Prelude.{◌≡◌, ℕ, List, true, false, Option, Some, None, position}
use Rattle.std.specs.Option.{IsSome}
use Rattle.std.specs.Str.{bytes_eq}
use Rattle.std.proofs.Common.{refl, sym, ◌∙◌}
use Rattle.mixed_model.specs.Names.{has_name}
use Rattle.mixed_model.proofs.NameLaws.{has_name-None}

pub is_found : (names : List (List ℕ)) (name : List ℕ) → has_name names name ≡ true → IsSome (position (bytes_eq name) names)
is_found names name there = by (position (bytes_eq name) names) refl
  where
    by : (found : Option ℕ) → position (bytes_eq name) names ≡ found → IsSome found
    by (Some k) is = refl
    by None is = let none : true ≡ false = sym there ∙ has_name-None names name is in cc
