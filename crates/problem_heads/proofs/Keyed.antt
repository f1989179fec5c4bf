-- Numbers, and the texts by which they are found.
use Rattle.std.proofs.Common.{◌≡◌, ℕ, true, false, cond, List, map, Some, None, sym, ap, ◌∙◌}
use Rattle.std.specs.List.{list_any}
use Rattle.std.specs.Str.{bytes_eq}
use Rattle.std.specs.String.{string_bytes, string_eq}
use Rattle.std.specs.declared.string.String.{String}
use Rattle.refusals.specs.declared.Why.TheVariants.{Twice}
use Rattle.mixed_model.specs.Names.{has_name}
use Rattle.mixed_model.proofs.NameLaws.{list_any_map, text_is_there}
use Rattle.problem_heads.specs.HeadNumbers.{HeadNumber, are_same_names, spaced_names}
use Rattle.problem_heads.specs.HeadRules.{fresh_names_rule}

module _ {A N : Type 0} (numbers : List (HeadNumber N)) (keys : List (String A)) (key : String A) (names : List (List ℕ))
    (keyed : map string_bytes keys ≡ map (λ (given : HeadNumber N). spaced_names given.names) numbers)
    (key_is : string_bytes key ≡ spaced_names names) where
  key-there : list_any (string_eq key) keys ≡ list_any (λ (given : HeadNumber N). are_same_names names given.names) numbers
  key-there =
      text_is_there keys key (spaced_names names) key_is
      ∙ ap (λ texts. has_name texts (spaced_names names)) keyed
      ∙ list_any_map (bytes_eq (spaced_names names)) (λ (given : HeadNumber N). spaced_names given.names) numbers

  pub key-twice : list_any (string_eq key) keys ≡ true → fresh_names_rule numbers names ≡ Some Twice
  key-twice there = ap (λ b. cond b (Some Twice) None) (sym key-there ∙ there)

  pub key-fresh : list_any (string_eq key) keys ≡ false → fresh_names_rule numbers names ≡ None
  key-fresh new = ap (λ b. cond b (Some Twice) None) (sym key-there ∙ new)
