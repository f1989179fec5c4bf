-- What a model has.
use Rattle.std.proofs.Common.{◌≡◌, ℕ, List, is_some, position, Option, Some, None, refl, sym, ap, ◌∙◌}
use Rattle.std.specs.Option.{option_map}
use Rattle.std.specs.Str.{bytes_eq}
use Rattle.mixed_model.specs.Names.{has_name}
use Rattle.mixed_model.proofs.NameLaws.{has_name-Some, has_name-None}

-- a name is found where it is there
pub position_is_some : (names : List (List ℕ)) (name : List ℕ) → is_some (position (bytes_eq name) names) ≡ has_name names name
position_is_some names name = by (position (bytes_eq name) names) refl
  where
    by : (found : Option ℕ) → position (bytes_eq name) names ≡ found → is_some (position (bytes_eq name) names) ≡ has_name names name
    by (Some k) here = ap is_some here ∙ sym (has_name-Some names name k here).2
    by None none = ap is_some none ∙ sym (has_name-None names name none)

-- what gives something
pub mapped-Some : {A B : Type 0} (f : A → B) (o : Option A) (y : B) → option_map f o ≡ Some y → (x : A) × (o ≡ Some x) × (f x ≡ y)
mapped-Some f None y is = absurd cc
mapped-Some f (Some x) y is = let same : f x ≡ y = cc in (x, refl, same)
