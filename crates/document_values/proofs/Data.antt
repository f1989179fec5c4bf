-- Values of a document beside the data that they are.
use Rattle.std.proofs.Common.{◌≡◌, ◌&&◌, ℕ, true, false, Bor, List, [], ◌∷◌, ◌++◌, String, Global, string_bytes, refl, ap}
use Rattle.std.specs.List.{list_all, list_any}
use Rattle.std.specs.Map.{keys_of}
use Rattle.std.specs.Str.{bytes_eq}
use Rattle.std.proofs.lemmas.List.Folds.{list_any-append}
use Rattle.mixed_model.specs.Names.{has_name}
use Rattle.mixed_model.proofs.NameLaws.{list_any_map}
use Rattle.toml.specs.Data.{Data}
use Rattle.toml.specs.View.{items_of, members_view}
use Rattle.toml.specs.declared.value.Value.{Value}
use Rattle.document_values.specs.Values.{has_only, items_in}
use Rattle.document_values.specs.Words.{texts}

-- a list is the items of its array
pub items_in-list : (items : List Data) → items_in (items_of items) ≡ items
items_in-list [] = refl
items_in-list (datum ∷ items) = ap (λ rest. datum ∷ rest) (items_in-list items)

-- the keys of a table are among some words
pub has_only-keys : (words : List (List ℕ)) (entries : List (String Global × Value)) →
    list_all (λ key. has_name words (string_bytes key)) (keys_of entries) ≡ has_only words (members_view entries)
has_only-keys words [] = refl
has_only-keys words (entry ∷ entries) = ap (λ rest. has_name words (string_bytes entry.0) && rest) (has_only-keys words entries)

-- a word among these
pub is_among-first : (words others : List (Bor (List ℕ))) (word : List ℕ) →
    list_any (λ other. bytes_eq word other.now) words ≡ true → true ≡ has_name (texts words ++ texts others) word
is_among-first words others word found =
    rw (list_any-append (bytes_eq word) (texts words) (texts others), list_any_map (bytes_eq word) (λ (other : Bor (List ℕ)). other.now) words, found)

-- or among those
pub is_among-others : (words others : List (Bor (List ℕ))) (word : List ℕ) →
    list_any (λ other. bytes_eq word other.now) words ≡ false →
    list_any (λ other. bytes_eq word other.now) others ≡ has_name (texts words ++ texts others) word
is_among-others words others word none =
    rw (
      list_any-append (bytes_eq word) (texts words) (texts others),
      list_any_map (bytes_eq word) (λ (other : Bor (List ℕ)). other.now) words,
      none,
      list_any_map (bytes_eq word) (λ (other : Bor (List ℕ)). other.now) others,
    )
