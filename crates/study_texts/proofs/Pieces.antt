-- What is left of a text once one of its lines or names is put.
use Rattle.std.proofs.Common.{◌≡◌, ℕ, ◌+◌, ◌<◌, List, ◌++◌, length, get_or, drop, ap}
use Rattle.text_writer.proofs.Putting.{drop_next}
use Rattle.mixed_model.specs.Names.{name_at}
use Rattle.study_texts.specs.ConflictTexts.{conflict_line, conflict_lines, name_item, name_items}
use Rattle.study_texts.specs.SolutionTexts.{value_line, value_lines}
use Rattle.study_texts.specs.ValueTexts.{symbol_line, symbol_lines}
use Rattle.mixed_model.specs.Models.{MixedModel}
use Rattle.study_answers.specs.declared.conflicts.Conflict.{Conflict}
use Rattle.study_answers.specs.declared.values.ValueAt.{ValueAt}

pub names-left : (names : List (List ℕ)) (equations : List ℕ) (i d : ℕ) → i < length equations →
    name_items names (drop i equations) ≡ name_item names (get_or equations i d) ++ name_items names (drop (i + 1) equations)
names-left names equations i d within = ap (name_items names) (drop_next equations i d within)

pub values-left : {T : Type 0} (number : T → ℕ) (names : List (List ℕ)) (values : List T) (i : ℕ) (d : T) → i < length values →
    value_lines number names i (drop i values)
    ≡ value_line (name_at names i) (number (get_or values i d)) ++ value_lines number names (i + 1) (drop (i + 1) values)
values-left {T} number names values i d within = ap (λ (vs : List T). value_lines number names i vs) (drop_next values i d within)

pub conflicts-left : (names : List (List ℕ)) (conflicts : List Conflict) (i : ℕ) (d : Conflict) → i < length conflicts →
    conflict_lines names (drop i conflicts) ≡ conflict_line names (get_or conflicts i d) ++ conflict_lines names (drop (i + 1) conflicts)
conflicts-left names conflicts i d within = ap (conflict_lines names) (drop_next conflicts i d within)

pub symbols-left : {T : Type 0} (number : T → ℕ) (model : MixedModel) (values : List (ValueAt T)) (i : ℕ) (d : ValueAt T) → i < length values →
    symbol_lines number model (drop i values)
    ≡ symbol_line model (get_or values i d).place (number (get_or values i d).value) ++ symbol_lines number model (drop (i + 1) values)
symbols-left {T} number model values i d within = ap (λ (vs : List (ValueAt T)). symbol_lines number model vs) (drop_next values i d within)
