-- Numbers found by names.
use Rattle.std.proofs.Common.{◌≡◌, ℕ, Bool, List, length, map, get_or, position, Some, None}
use Rattle.std.proofs.Common.{sym, ap, ◌∙◌, arith}
use Rattle.std.specs.List.{find}
use Rattle.std.specs.Option.{option_map}
use Rattle.std.specs.List.{slice_get}
use Rattle.std.specs.Str.{bytes_eq}
use Rattle.std.proofs.lemmas.List.Folds.{find_at}
use Rattle.std.proofs.lemmas.List.Quantifiers.{position-Some}
use Rattle.std.proofs.lemmas.Option.{slice_get-get_or, slice_get_past}
use Rattle.line_lexer.proofs.PlaceLaws.{position_or_len-Some, position_or_len-None}
use Rattle.mixed_model.proofs.NameLaws.{position_map}
use Rattle.problem_heads.specs.HeadNumbers.{HeadNumber, are_same_names, number_for, spaced_names}

find-Some : {X : Type 0} (test : X → Bool) (xs : List X) (k : ℕ) (d : X) → position test xs ≡ Some k → find test xs ≡ Some (get_or xs k d)
find-Some test xs k d here =
    find_at test xs ∙ ap (slice_get xs) (position_or_len-Some test xs k here)
    ∙ slice_get-get_or xs k d (position-Some test xs k d here).0

find-None : {X : Type 0} (test : X → Bool) (xs : List X) → position test xs ≡ None → find test xs ≡ None
find-None test xs none =
    find_at test xs ∙ ap (slice_get xs) (position_or_len-None test xs none) ∙ slice_get_past xs (length xs) (omega arith)

-- numbers that are found by a text of their names
module _ {N : Type 0} (numbers : List (HeadNumber N)) (keys : List (List ℕ)) (key : List ℕ) (names : List (List ℕ))
    (keyed : keys ≡ map (λ (given : HeadNumber N). spaced_names given.names) numbers) (key_is : key ≡ spaced_names names) where
  same-place : position (bytes_eq key) keys ≡ position (λ (given : HeadNumber N). are_same_names names given.names) numbers
  same-place =
      ap (position (bytes_eq key)) keyed
      ∙ position_map (bytes_eq key) (λ (given : HeadNumber N). spaced_names given.names) numbers
      ∙ ap (λ text. position (λ (given : HeadNumber N). bytes_eq text (spaced_names given.names)) numbers) key_is

  pub number-found : (place : ℕ) (d : HeadNumber N) → position (bytes_eq key) keys ≡ Some place →
      number_for numbers names ≡ Some (get_or numbers place d).number
  number-found place d here =
      ap (option_map (λ (given : HeadNumber N). given.number))
      (find-Some (λ (given : HeadNumber N). are_same_names names given.names) numbers place d (sym same-place ∙ here))

  pub number-none : position (bytes_eq key) keys ≡ None → number_for numbers names ≡ None
  number-none none =
      ap (option_map (λ (given : HeadNumber N). given.number))
      (find-None (λ (given : HeadNumber N). are_same_names names given.names) numbers (sym same-place ∙ none))
