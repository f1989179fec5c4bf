-- Lists of names, and a name that is added to one.
use Rattle.std.specs.Prelude.{◌≡◌, ℕ, ◌≤◌, All, Bool, not, ◌&&◌, ◌||◌, IsTrue, List, [], ◌∷◌, ◌++◌, length, nat_eq, nat_le, nat_lt}
use Rattle.std.specs.Prelude.{position, slice_index_or, if◌then◌else◌, Option, Some, None, Result, Ok, Err}
use Rattle.std.specs.List.{IsDistinct, list_all, list_any}
use Rattle.std.specs.Str.{bytes_eq}
use Rattle.limits.specs.Limits.{equation_limit}
use Rattle.mixed_model.specs.declared.errors.AddError.{AddError}
use Rattle.mixed_model.specs.declared.errors.AddError.TheVariants.{Twice, TooMany, NoMemory}

-- what may be a name: 1 to 96 bytes, none of them a space or a tab
abbrev pub is_label : List ℕ → Bool
is_label name =
    nat_le 1 (length name) && nat_le (length name) 96
    && list_all (λ byte. not (nat_eq byte 32 || nat_eq byte 9)) name

-- at most 4,096 names, no two of them the same
pub record IsNameList (names : List (List ℕ)) : Type 0 where
  pub labels : All (λ name. IsTrue (is_label name)) names
  pub few : length names ≤ equation_limit
  pub distinct : IsDistinct bytes_eq names

-- name k of some names, and past the last one the empty text
abbrev pub name_at : List (List ℕ) → ℕ → List ℕ
name_at names k = slice_index_or names k []

-- whether a name is among these
abbrev pub has_name : List (List ℕ) → List ℕ → Bool
has_name names name = list_any (bytes_eq name) names

-- a name put last, unless it is there
abbrev pub see : List (List ℕ) → List ℕ → List (List ℕ)
see names name = if has_name names name then names else names ++ name ∷ []

-- What putting a name last answers while there is memory: its place, or that there are 4,096.
abbrev pub appending : List (List ℕ) → Result ℕ AddError
appending names = if nat_lt (length names) equation_limit then Ok (length names) else Err TooMany

-- What adding a name answers while there is memory: its place, or why it is not added.
abbrev pub adding : List (List ℕ) → List ℕ → Result ℕ AddError
adding names name = if has_name names name then Err Twice else appending names

-- the place where a name was found, or what putting one last answers
abbrev pub place_or_end : List (List ℕ) → Option ℕ → Result ℕ AddError
place_or_end names (Some place) = Ok place
place_or_end names None = appending names

-- What seeing a name answers while there is memory: its place, where it is there or can be put last.
abbrev pub seeing : List (List ℕ) → List ℕ → Result ℕ AddError
seeing names name = place_or_end names (position (bytes_eq name) names)

-- The answer is the wanted one, or memory ran out.
abbrev pub AnswersAdd : {T : Type 0} → Result T AddError → Result T AddError → Type 0
AnswersAdd (Ok place) wanted = wanted ≡ Ok place
AnswersAdd (Err Twice) wanted = wanted ≡ Err Twice
AnswersAdd (Err TooMany) wanted = wanted ≡ Err TooMany
AnswersAdd (Err NoMemory) wanted = Unit {0}
