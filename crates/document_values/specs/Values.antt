-- Values of a document, and what they are to be.
use Rattle.std.specs.Prelude.{ℕ, Bool, not, nat_eq, nat_le, List, [], ◌∷◌, ◌++◌, length, option_map, Result, Ok, Err}
use Rattle.std.specs.List.{list_all}
use Rattle.refusals.specs.declared.Why.{Why}
use Rattle.refusals.specs.declared.Why.TheVariants.{BadName, BadValue, Missing, Twice, Undeclared}
use Rattle.line_lexer.specs.Names.{is_short_name}
use Rattle.line_lexer.specs.Numbers.{integer_of, number_of}
use Rattle.mixed_model.specs.Names.{has_name}
use Rattle.toml.specs.Data.{Data, string, integer, Items, no_items, item, Members, no_members, member, as_array, as_str, as_table, get_member}
use Rattle.document_values.specs.Chains.{◌>>=◌, keeping, some_or}

-- the items of an array, in order
abbrev pub items_in : Items → List Data
items_in no_items = []
items_in (item datum items) = datum ∷ items_in items

-- the keys of a table with their values, by rising keys
abbrev pub members_in : Members → List (List ℕ × Data)
members_in no_members = []
members_in (member key datum members) = (key, datum) ∷ members_in members

-- each key of a table is one of these
abbrev pub has_only : List (List ℕ) → Members → Bool
has_only keys table = list_all (λ entry. has_name keys entry.0) (members_in table)

-- the value at a key that is due
abbrev pub due : List ℕ → Members → Result Data Why
due key table = some_or Missing (get_member key table)

abbrev pub text_of : Data → Result (List ℕ) Why
text_of datum = some_or BadValue (as_str datum)

abbrev pub members_of_value : Data → Result Members Why
members_of_value datum = some_or BadValue (as_table datum)

abbrev pub list_of : Data → Result (List Data) Why
list_of datum = some_or BadValue (option_map items_in (as_array datum))

-- at least so many items
abbrev pub list_with : ℕ → Data → Result (List Data) Why
list_with least datum = list_of datum >>= (λ items. keeping (nat_le least (length items)) BadValue items)

-- exactly so many
abbrev pub list_of_length : ℕ → Data → Result (List Data) Why
list_of_length count datum = list_of datum >>= (λ items. keeping (nat_eq (length items) count) BadValue items)

-- the residue of a number: a whole one, or one that a string tells
abbrev pub residue_in : ℕ → Data → Result ℕ Why
residue_in p (integer whole) = integer_of p whole
residue_in p (string text) = number_of p text
residue_in p _ = Err BadValue

-- a new short name, beside these
abbrev pub new_name : List (List ℕ) → Data → Result (List ℕ) Why
new_name names datum =
    text_of datum >>= (λ name. keeping (is_short_name name) BadName name)
    >>= (λ name. keeping (not (has_name names name)) Twice name)

-- one of the declared names, and none of those named before
abbrev pub declared_name : List (List ℕ) → List (List ℕ) → Data → Result (List ℕ) Why
declared_name declared before datum =
    text_of datum >>= (λ name. keeping (has_name declared name) Undeclared name)
    >>= (λ name. keeping (not (has_name before name)) Twice name)

-- what each item gives, after what was found before
abbrev pub each : {A E : Type 0} → (List A → Data → Result A E) → List A → List Data → Result (List A) E
each one found [] = Ok found
each one found (datum ∷ items) = one found datum >>= (λ value. each one (found ++ value ∷ []) items)

-- declared names, none of them twice or named before
abbrev pub declared_names : List (List ℕ) → List (List ℕ) → List Data → Result (List (List ℕ)) Why
declared_names declared before items = each (λ found. declared_name declared (before ++ found)) [] items

-- the residues of numbers
abbrev pub numbers_in : ℕ → List Data → Result (List ℕ) Why
numbers_in p items = each (λ found. residue_in p) [] items
