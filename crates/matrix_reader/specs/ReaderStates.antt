-- What the reader knows between two lines, and within one.
use Rattle.std.specs.Prelude.{◌≡◌, ◌≢◌, ℕ, ◌+◌, ◌<◌, ◌≤◌, Bool, not, ◌&&◌, ◌||◌, if◌then◌else◌, List, [], ◌∷◌, ◌++◌, length, codes, nat_eq}
use Rattle.std.specs.Prelude.{slice_index, slice_index_or, slice_set, Option, Some, None, Result, Ok, Err}
use Rattle.limits.specs.Limits.{equation_limit}
use Rattle.refusals.specs.declared.Why.{Why}
use Rattle.refusals.specs.declared.Why.TheVariants.{Twice, TooMany}
use Rattle.line_reader.specs.Answers.{AnswersRule}
use Rattle.mixed_model.specs.Names.{has_name}
use Rattle.mixed_model.specs.Models.{MixedModel, IsModel, constant_of, symbol_of, with_unknown}
use Rattle.matrix_reader.specs.EquationLists.{equations_in, names_in}
use Rattle.matrix_reader.specs.Models.{LinesGive}
use Rattle.matrix_reader.specs.Rules.{each_rule, equation_rule, item_rule, unknown_rule, equation_line_rule, unknown_line_rule, words_rule}
use Rattle.refusals.specs.declared.fault.Fault.{Fault}
use Rattle.refusals.specs.declared.fault.Fault.TheVariants.{Broken, NoMemory}

-- lines are read: the model is theirs, and the unknowns last stood in lines with a lower number than the next
pub record IsRead
    (p : ℕ) (lines : List (List (List ℕ))) (next : ℕ) (model : MixedModel) (last_lines : List ℕ) : Type 0 where
  pub gives : LinesGive p lines model
  pub lengths : length last_lines ≡ length model.unknowns
  pub earlier : (j : ℕ) → slice_index last_lines j < next

-- the words of an equation line so far
abbrev pub so_far : List ℕ → List (List ℕ) → List (List ℕ)
so_far name items = codes "eq" ∷ name ∷ items

-- Within an equation line: it is read so far, and the unknowns that stand in it so far are those whose last line it is.
pub record IsWithinLine
    (p : ℕ) (before : List (List (List ℕ))) (words : List (List ℕ)) (line : ℕ) (model : MixedModel)
    (last_lines : List ℕ) : Type 0 where
  pub read : IsRead p (before ++ words ∷ []) (line + 1) model last_lines
  pub marks : (j : ℕ) → j < length model.unknowns
      → nat_eq (slice_index last_lines j) line ≡ has_name (names_in words) (slice_index_or model.unknowns j [])

-- the column of an unknown after it is marked in a line, and what the marking leaves: by where the unknown stood
abbrev pub MarkedFrom : ℕ → Option ℕ → ℕ → MixedModel → MixedModel → List ℕ → List ℕ → List ℕ → ℕ → Type 0
MarkedFrom p (Some k) line old new old_lines new_lines unknown j =
    (j ≡ k) × (new ≡ old) × (new_lines ≡ slice_set old_lines k line) × (slice_index old_lines k ≢ line)
MarkedFrom p None line old new old_lines new_lines unknown j =
    (j ≡ length old.unknowns) × (length old.unknowns < equation_limit)
    × (new ≡ with_unknown old unknown) × IsModel p new
    × (new_lines ≡ old_lines ++ line ∷ [])

-- why it can't be marked
abbrev pub UnmarkedFrom : Option ℕ → ℕ → MixedModel → List ℕ → Why → Type 0
UnmarkedFrom (Some k) line old old_lines why = (why ≡ Twice) × (slice_index old_lines k ≡ line)
UnmarkedFrom None line old old_lines why = (why ≡ TooMany) × (equation_limit ≤ length old.unknowns)

-- what is left after an unknown stood in a line that marks none: by where the unknown stood
abbrev pub SeenFrom : ℕ → Option ℕ → ℕ → MixedModel → MixedModel → List ℕ → List ℕ → List ℕ → Type 0
SeenFrom p (Some k) line old new old_lines new_lines unknown = (new ≡ old) × (new_lines ≡ old_lines)
SeenFrom p None line old new old_lines new_lines unknown =
    (length old.unknowns < equation_limit) × (new ≡ with_unknown old unknown) × IsModel p new
    × (new_lines ≡ old_lines ++ line ∷ [])

-- why it can't stand there
abbrev pub UnseenFrom : Option ℕ → MixedModel → Why → Type 0
UnseenFrom (Some k) old why = ⊥
UnseenFrom None old why = (why ≡ TooMany) × (equation_limit ≤ length old.unknowns)

-- What putting a value at the place (i, j) leaves: its constant stands there, unless it is 0, and a symbol, if it has
-- one.
pub record PutsValue (p : ℕ) (old new : MixedModel) (i j constant : ℕ) (symbol : Bool) : Type 0 where
  pub is_model : IsModel p old → IsModel p new
  pub equations : new.equations ≡ old.equations
  pub unknowns : new.unknowns ≡ old.unknowns
  pub constants : (k c : ℕ) → constant_of new k c
      ≡ (if not (nat_eq constant 0) && (nat_eq i k && nat_eq j c) then Some constant else constant_of old k c)
  pub symbols : (k c : ℕ) → symbol_of new k c ≡ (symbol && (nat_eq i k && nat_eq j c) || symbol_of old k c)

-- What reading an item answers and leaves, wherever in an equation line the reader is.
abbrev pub ReadsItem : ℕ → ℕ → ℕ → MixedModel → MixedModel → List ℕ → List ℕ → List ℕ
    → Result (Unit {0}) Fault → Type 0
ReadsItem p line i old new old_lines new_lines item result =
    (before : List (List (List ℕ))) (name : List ℕ) (items : List (List ℕ)) → i ≡ length (equations_in before)
    → IsWithinLine p before (so_far name items) line old old_lines
    → AnswersRule (item_rule p before (so_far name items) item)
    (IsWithinLine p before (so_far name (items ++ item ∷ [])) line new new_lines) result

-- and of all items of an equation line
abbrev pub ReadsItems : ℕ → ℕ → ℕ → MixedModel → MixedModel → List ℕ → List ℕ → List (List ℕ)
    → Result (Unit {0}) Fault → Type 0
ReadsItems p line i old new old_lines new_lines items result =
    (before : List (List (List ℕ))) (name : List ℕ) → i ≡ length (equations_in before)
    → IsWithinLine p before (so_far name []) line old old_lines
    → AnswersRule (each_rule (item_rule p before) (so_far name []) items)
    (IsWithinLine p before (so_far name items) line new new_lines) result

-- What adding an equation answers and leaves, wherever between two lines the reader is: its number among the others.
abbrev pub AddsEquation : ℕ → ℕ → MixedModel → MixedModel → List ℕ → List ℕ → Result ℕ Fault → Type 0
AddsEquation p line old new lines name (Ok i) =
    (before : List (List (List ℕ))) → IsRead p before line old lines
    → (equation_rule before name ≡ None) × (i ≡ length (equations_in before))
    × IsWithinLine p before (so_far name []) line new lines
AddsEquation p line old new lines name (Err (Broken why)) =
    (before : List (List (List ℕ))) → IsRead p before line old lines → equation_rule before name ≡ Some why
AddsEquation p line old new lines name (Err NoMemory) = Unit {0}

-- What reading an equation line answers and leaves, by the words after its first one.
abbrev pub ReadsEquation : ℕ → ℕ → MixedModel → MixedModel → List ℕ → List ℕ → List (List ℕ)
    → Result (Unit {0}) Fault → Type 0
ReadsEquation p line old new old_lines new_lines words result =
    (before : List (List (List ℕ))) → IsRead p before line old old_lines
    → AnswersRule (equation_line_rule p before words)
    (IsRead p (before ++ (codes "eq" ∷ words) ∷ []) (line + 1) new new_lines) result

-- What seeing one more name of an `unknown` line answers and leaves, wherever in the line the reader is.
abbrev pub SeesUnknown : ℕ → ℕ → MixedModel → MixedModel → List ℕ → List ℕ → List ℕ
    → Result (Unit {0}) Fault → Type 0
SeesUnknown p line old new old_lines new_lines name result =
    (before : List (List (List ℕ))) (names : List (List ℕ))
    → IsRead p (before ++ (codes "unknown" ∷ names) ∷ []) (line + 1) old old_lines
    → AnswersRule (unknown_rule before (codes "unknown" ∷ names) name)
    (IsRead p (before ++ (codes "unknown" ∷ names ++ name ∷ []) ∷ []) (line + 1) new new_lines) result

-- and some names
abbrev pub SeesUnknowns : ℕ → ℕ → MixedModel → MixedModel → List ℕ → List ℕ → List (List ℕ)
    → Result (Unit {0}) Fault → Type 0
SeesUnknowns p line old new old_lines new_lines more result =
    (before : List (List (List ℕ))) (names : List (List ℕ))
    → IsRead p (before ++ (codes "unknown" ∷ names) ∷ []) (line + 1) old old_lines
    → AnswersRule (each_rule (unknown_rule before) (codes "unknown" ∷ names) more)
    (IsRead p (before ++ (codes "unknown" ∷ names ++ more) ∷ []) (line + 1) new new_lines) result

-- What reading an `unknown` line answers and leaves, by the words after its first one.
abbrev pub ReadsUnknowns : ℕ → ℕ → MixedModel → MixedModel → List ℕ → List ℕ → List (List ℕ)
    → Result (Unit {0}) Fault → Type 0
ReadsUnknowns p line old new old_lines new_lines words result =
    (before : List (List (List ℕ))) → IsRead p before line old old_lines
    → AnswersRule (unknown_line_rule before words)
    (IsRead p (before ++ (codes "unknown" ∷ words) ∷ []) (line + 1) new new_lines) result

-- What reading a line by its words answers and leaves.
abbrev pub ReadsLine : ℕ → ℕ → MixedModel → MixedModel → List ℕ → List ℕ → List (List ℕ)
    → Result (Unit {0}) Fault → Type 0
ReadsLine p line old new old_lines new_lines words result =
    (before : List (List (List ℕ))) → IsRead p before line old old_lines
    → AnswersRule (words_rule p before words) (IsRead p (before ++ words ∷ []) (line + 1) new new_lines) result
